-- The numbers of packets that are put in flight, and how many messages are handed over, are at most what a link may carry.
use Rattle.std.proofs.Common.{arith, subst, sym}
use Rattle.std.proofs.lemmas.List.Elements.{recursion_from_All}
use Rattle.std.specs.List.{AllByRecursion}
use Rattle.std.specs.Prelude.{ℕ, zero, suc, ◌-◌, ◌≡◌, ◌≤◌, nat_le, true, false, if◌then◌else◌, List, [], ◌∷◌, drop, length, map, slice_get, Some}
use Rattle.sdd_inside.specs.Differences.{handed_between, in_flight, on_link, put_between}
use Rattle.sdd_inside.specs.declared.delta.InFlight.{InFlight}
use Rattle.sdd_inside.specs.declared.delta.InFlight.TheVariants.{Again, First}
use Rattle.sdd_inside_laws.proofs.OfCatalogue.{each_flat, each_if}
use Rattle.sdd_inside_laws.proofs.PacketsRead.{each_change}
use Rattle.sdd_inside_laws.proofs.SmallPlaces.{AreSmallEnds, HasFewModules, ends_small}
use Rattle.sdd_inside_read.specs.Small.{IsSmallHanded, IsSmallPacket, IsSmallPut}
use Rattle.sdd_app_inside.proofs.watch.obligations.Limits.{handed_few, sent_few}
use Rattle.sdd_app_inside.proofs.watch.obligations.logs.NewMarks.{lawful_permitted}
use Rattle.sdd_app_inside.proofs.watch.obligations.net.Directions.{back_is}
use Rattle.sdd_app_inside.proofs.watch.obligations.net.Lists.{All-at}
use Rattle.sdd_app_inside.proofs.watch.obligations.net.Rounds.{links_exist}
use Rattle.sdd_app_inside.proofs.watch.obligations.net.Sound.{delivered_le, sound}
use Rattle.sdd_app_inside.specs.watch.obligations.All.{Ack, Input, IsGood, IsPermitted, Log, MAX_LINK_MESSAGES, Message, Msg, Packet, Site, all_links, calls_of, is_link, link_of, sent}
use Rattle.sdd_app_inside.specs.watch.obligations.net.Sound.{IsOf}
use Rattle.sdd_app_inside.specs.watch.Happens.{happened_at}
use Rattle.sdd_app_inside.specs.watch.moments.Moments.{link_moment}
use Rattle.sdd_app_inside.specs.watch.Text.{change}
use Rattle.sdd_app_inside.specs.watch.moments.Changes.{IsBetween}

-- packets

place_within : {A : Type 0} (xs : List A) (k : ℕ) (x : A) → slice_get xs k ≡ Some x → suc k ≤ length xs
place_within [] k x e = cc
place_within (y ∷ ys) zero x e = omega arith
place_within (y ∷ ys) (suc k) x e = omega (arith, place_within ys k x e)

number_few : (ms : List Msg) (n : ℕ) (m : Msg) → 1 ≤ n → slice_get ms (n - 1) ≡ Some m → n ≤ length ms
number_few ms n m l e = omega (arith, l, place_within ms (n - 1) m e)

packet_small : (k back : ℕ) (ms : List Msg) (p : Packet Msg) → length ms ≤ MAX_LINK_MESSAGES → back ≤ MAX_LINK_MESSAGES → IsOf ms back p
    → IsSmallPacket (in_flight k p)
packet_small k back ms (Message n m) few some h =
    let l = number_few ms n m h.0 h.1 in
    elim (nat_le n k) as (λ b. IsSmallPacket (if b then Again n else First n m)) [ true ↦ omega (arith, l, few) | false ↦ omega (arith, l, few) ]
packet_small k back ms (Ack j) few some h = omega (arith, h, some)

packets_small : (k back : ℕ) (ms : List Msg) (ps : List (Packet Msg)) → length ms ≤ MAX_LINK_MESSAGES → back ≤ MAX_LINK_MESSAGES
    → AllByRecursion (IsOf ms back) ps → AllByRecursion IsSmallPacket (map (in_flight k) ps)
packets_small k back ms [] few some h = tt
packets_small k back ms (p ∷ ps) few some h = (packet_small k back ms p few some h.0, packets_small k back ms ps few some h.1)

pub each_dropped : {A : Type 0} (P : A → Type 0) (n : ℕ) (xs : List A) → AllByRecursion P xs → AllByRecursion P (drop n xs)
each_dropped P zero xs h = h
each_dropped P (suc n) [] h = tt
each_dropped P (suc n) (x ∷ xs) h = each_dropped P n xs h.1

put_small : (a b : Site) (ps : List InFlight) → AreSmallEnds a b → AllByRecursion IsSmallPacket ps → AllByRecursion IsSmallPut (on_link a b ps)
put_small a b [] ends h = tt
put_small a b (p ∷ ps) ends h = ((ends.from, ends.to, h), tt)

link_there : (g : Input) (k : ℕ) (l : Site × Site) → slice_get (all_links g) k ≡ Some l → is_link g.catalogue.tms g.catalogue.dms l.0 l.1 ≡ true
link_there g k l e =
    All-at (λ (x : Site × Site). is_link g.catalogue.tms g.catalogue.dms x.0 x.1 ≡ true) (all_links g) k l e (links_exist g.catalogue.tms g.catalogue.dms)

module _ (g : Input) (old new : Log) (good : IsGood g) (few : HasFewModules g) (i : IsBetween g old new) where
  after_permitted : IsPermitted g new
  after_permitted = lawful_permitted g new good.once i.after.lawful

  of_link_small : (k : ℕ) (l : Site × Site) → slice_get (all_links g) k ≡ Some l
      → AllByRecursion IsSmallPut (put_between (happened_at g old new) (link_moment old l) (link_moment new l))
  of_link_small k l e =
      let there = link_there g k l e in
      let is_sound = sound l.0 l.1 (calls_of new) in
      let back = back_is g.catalogue.tms g.catalogue.dms l.0 l.1 (calls_of new) there in
      let most = sent_few g new i.after.within l.0 l.1 in
      let others : length (link_of l.0 l.1 new).back.sent ≤ MAX_LINK_MESSAGES =
      subst (λ w. length w.sent ≤ MAX_LINK_MESSAGES) back (sent_few g new i.after.within l.1 l.0) in
      let said = delivered_le (link_of l.0 l.1 new).back _ is_sound.back in
      let flying = recursion_from_All (IsOf (link_of l.0 l.1 new).there.sent _) (link_of l.0 l.1 new).there.flight is_sound.there.packets in
      put_small l.0 l.1 _ (ends_small g l.0 l.1 few there)
      (packets_small (length (sent l.0 l.1 old)) _ (link_of l.0 l.1 new).there.sent _ most (omega (arith, said, others))
      (each_dropped (IsOf (link_of l.0 l.1 new).there.sent _) _ (link_of l.0 l.1 new).there.flight flying))

  pub puts_small : AllByRecursion IsSmallPut (change g old new).put
  puts_small =
      subst (AllByRecursion IsSmallPut) (sym (each_change (put_between (happened_at g old new)) (link_moment old) (link_moment new) (all_links g)))
      (each_flat IsSmallPut (λ l. put_between (happened_at g old new) (link_moment old l) (link_moment new l)) (all_links g) of_link_small)

  pub hands_small : AllByRecursion IsSmallHanded (change g old new).handed
  hands_small =
      subst (AllByRecursion IsSmallHanded) (sym (each_change (handed_between (happened_at g old new)) (link_moment old) (link_moment new) (all_links g)))
      (each_flat IsSmallHanded (λ l. handed_between (happened_at g old new) (link_moment old l) (link_moment new l)) (all_links g)
      (λ k l e. each_if IsSmallHanded _ _ (
      let ends = ends_small g l.0 l.1 few (link_there g k l e) in
      (ends.from, ends.to, omega (arith, handed_few g new after_permitted i.after.within l.0 l.1)))))
