-- A round in which nothing is put takes each link to its next stage; at the fourth the links are quiet.
use Rattle.sdd_bounds.proofs.All.{All, All-head, All-tail, Bool, Call, Deliver, Event, IsSoundLink, Link, List, None, Packet, Resend, D, Site, Some, T, U, Way, [], and_from, ap, append_assoc, are_linked, arith, cases_Bool, cond, cons_option, deliver, false, false≢true, filter_map, flat_map, in_flight, inl, inr, is_empty, is_link, is_quiet_link, le-leb, length, length-append, length-drop, link, link_back, link_parts, link_turned, links, links_exist, list_all, nat_le, numbered, quiet, refl, replicate, resend, resends_now, round, sound, subst, suc, sym, true, turned, unacked, with_flight, zero, ℕ, ◌++◌, ◌+◌, ◌-◌, ◌∙◌, ◌∷◌, ◌≡◌, ◌≢◌, ◌≤◌}
use Rattle.sdd_bounds.proofs.AfterRound.{IsDelivered, next_stage, resent, with_resend}
use Rattle.sdd_bounds.proofs.Deliveries.{length_numbered}
use Rattle.sdd_bounds.proofs.Hits.{DoesOn, all_keep, by_delivery, by_resend, hits}
use Rattle.sdd_bounds.proofs.OncePerLink.{all_do, for_each, hits_once}
use Rattle.sdd_bounds.proofs.Stages.{IsAcked, IsAtStage, IsCovered, IsEmptied}
use Rattle.sdd_bounds.specs.RoundsOnLinks.{all_carried_out, carried_out}

-- the events are done one after the other
pub carried_append : {M : Type 0} (xs ys : List Event) (calls : List (Call M)) → all_carried_out (xs ++ ys) calls ≡ all_carried_out ys (all_carried_out xs calls)
carried_append [] ys calls = refl
carried_append (x ∷ xs) ys calls = carried_append xs ys (carried_out x calls)

-- a list of those that are due is one of so many for each
as_many : {A B : Type 0} (due : A → Bool) (f : A → B) (xs : List A)
    → filter_map (λ x. cond (due x) (Some (f x)) None) xs ≡ flat_map (λ x. replicate (cond (due x) 1 0) (f x)) xs
as_many due f [] = refl
as_many due f (x ∷ xs) =
    elim (due x) as
    (λ b. cons_option (cond b (Some (f x)) None) (filter_map (λ y. cond (due y) (Some (f y)) None) xs) ≡ replicate (cond b 1 0) (f x) ++ flat_map (λ y. replicate (cond (due y) 1 0) (f y)) xs) [
      | true ↦ ap (λ ys. f x ∷ ys) (as_many due f xs)
      | false ↦ as_many due f xs
    ]

-- Resends: a direction with so many resends to come.

abbrev IsToResend : {M : Type 0} → Bool → Way M → ℕ → Way M → Type 0
IsToResend due old zero now = now ≡ with_resend due old
IsToResend due old (suc n) now = (n ≡ 0) × (due ≡ true) × (now ≡ old)

record AreToResend {M : Type 0} (due : Bool) (old : Way M) (due_back : Bool) (old_back : Way M) (n m : ℕ) (l : Link M) : Type 0 where
  there : IsToResend due old n l.there
  back : IsToResend due_back old_back m l.back

resend_turned : {M : Type 0} (r s : Bool) (w v : Way M) (n m : ℕ) (l : Link M) → AreToResend r w s v n m l → AreToResend s v r w m n (turned l)
resend_turned r s w v n m l h = record { there = h.back; back = h.there }

resend_step : {M : Type 0} (r s : Bool) (w v : Way M) (n m : ℕ) (l : Link M) → AreToResend r w s v (suc n) m l → AreToResend r w s v n m (resend l)
resend_step r s w v n m l h =
    let t = h.there in
    let now : (resend l).there ≡ with_resend r w = ap (λ x. with_flight (x.flight ++ unacked x) x) t.2 ∙ ap (λ b. with_resend b w) (sym t.1) in
    record { there = subst (λ k. IsToResend r w k (resend l).there) (sym t.0) now; back = h.back }

resend_start : {M : Type 0} (due : Bool) (w : Way M) → IsToResend due w (cond due 1 0) w
resend_start true w = (refl, refl, refl)
resend_start false w = refl

-- Deliveries: so many packets are to come.

record AreToCome {M : Type 0} (P : List (Packet M) → List (Packet M) → Link M → Type 0) (n m : ℕ) (l : Link M) : Type 0 where
  there : List (Packet M)
  back : List (Packet M)
  there_are : length there ≡ n
  back_are : length back ≡ m
  holds : P there back l

module _ {M : Type 0} (P : List (Packet M) → List (Packet M) → Link M → Type 0)
    (turns : (f b : List (Packet M)) (l : Link M) → P f b l → P b f (turned l))
    (step : (p : Packet M) (f b : List (Packet M)) (l : Link M) → P (p ∷ f) b l → P f b (deliver 1 l))
  where
    come_turned : (n m : ℕ) (l : Link M) → AreToCome P n m l → AreToCome P m n (turned l)
    come_turned n m l h = record { there = h.back; back = h.there; there_are = h.back_are; back_are = h.there_are; holds = turns h.there h.back l h.holds }

    one_comes : (n m : ℕ) (l : Link M) (f b : List (Packet M)) → length f ≡ suc n → length b ≡ m → P f b l → AreToCome P n m (deliver 1 l)
    one_comes n m l [] b e g h = cc
    one_comes n m l (p ∷ f) b e g h = record { there = f; back = b; there_are = omega arith; back_are = g; holds = step p f b l h }

    come_step : (n m : ℕ) (l : Link M) → AreToCome P (suc n) m l → AreToCome P n m (deliver 1 l)
    come_step n m l h = one_comes n m l h.there h.back h.there_are h.back_are h.holds

    no_more : (l : Link M) (f b : List (Packet M)) → length f ≡ 0 → length b ≡ 0 → P f b l → P [] [] l
    no_more l [] [] e g h = h
    no_more l (p ∷ f) b e g h = cc
    no_more l [] (p ∷ b) e g h = cc

flight_length : {M : Type 0} (due : Bool) (w : Way M) → length (with_resend due w).flight ≡ length w.flight + cond due (length w.sent - w.acked) 0
flight_length true w = omega (arith, length-append w.flight (unacked w), length-drop w.acked (numbered 0 w.sent), length_numbered 0 w.sent)
flight_length false w = omega arith

not_to_itself : (a : Site) → are_linked a a ≡ false
not_to_itself U = refl
not_to_itself (T n) = refl
not_to_itself (D n) = refl

module _ {M : Type 0} (tms dms : ℕ) (calls : List (Call M)) where
  abbrev all : List (Site × Site)
  all = links tms dms

  abbrev to_resend : Site × Site → ℕ
  to_resend l = cond (resends_now (link l.0 l.1 calls)) 1 0

  abbrev to_deliver : Site × Site → ℕ
  to_deliver l = in_flight (link l.0 l.1 calls)

  abbrev resends : List Event
  resends = for_each (λ l. Resend l.0 l.1) to_resend all

  abbrev deliveries : List Event
  deliveries = for_each (λ l. Deliver l.0 l.1 1) to_deliver all

  abbrev once_resent : List (Call M)
  once_resent = all_carried_out resends calls

  round_parts : all_carried_out (round all calls) calls ≡ all_carried_out deliveries once_resent
  round_parts =
      ap (λ es. all_carried_out (es ++ deliveries) calls) (as_many (λ (l : Site × Site). resends_now (link l.0 l.1 calls)) (λ l. Resend l.0 l.1) all)
      ∙ carried_append resends deliveries calls

  module _ (a b : Site) (linked : is_link tms dms a b ≡ true) where
    abbrev old : Link M
    old = link a b calls

    differ : a ≢ b
    differ e = false≢true (sym (not_to_itself b) ∙ subst (λ x. are_linked x b ≡ true) e (link_parts tms dms a b linked).linked)

    turned_is : link b a calls ≡ turned old
    turned_is = link_turned a b calls differ

    resent_is : link a b once_resent ≡ resent old
    resent_is =
        let r = resends_now old in
        let s = resends_now (turned old) in
        let n : hits a b resends ≡ cond r 1 0 =
        hits_once {M = M} resend (λ l. Resend l.0 l.1) by_resend to_resend tms dms a b linked in
        let m : hits b a resends ≡ cond s 1 0 =
        hits_once {M = M} resend (λ l. Resend l.0 l.1) by_resend to_resend tms dms b a (link_back tms dms a b linked)
        ∙ ap (λ l. cond (resends_now l) 1 0) turned_is in
        let start : AreToResend r old.there s old.back (cond r 1 0) (cond s 1 0) old = record { there = resend_start r old.there; back = resend_start s old.back } in
        let end = all_keep resend (AreToResend r old.there s old.back) (AreToResend s old.back r old.there)
        (resend_turned r s old.there old.back) (λ x y l h. resend_turned s r old.back old.there y x l h)
        (resend_step r s old.there old.back) (λ x y l h. resend_step s r old.back old.there y x l h) a b resends calls differ
        (all_do {M = M} resend (λ l. Resend l.0 l.1) by_resend to_resend all)
        (subst (λ x. AreToResend r old.there s old.back x (hits b a resends) old) (sym n) (subst (λ y. AreToResend r old.there s old.back (cond r 1 0) y old) (sym m) start)) in
        λ i. record { there = end.there i; back = end.back i }

    delivered_on : IsDelivered (resent old) (link a b (all_carried_out deliveries once_resent))
    delivered_on = record {
      keeps = λ P turns step h.
          let n : hits a b deliveries ≡ length (resent old).there.flight =
          hits_once {M = M} (deliver 1) (λ l. Deliver l.0 l.1 1) by_delivery to_deliver tms dms a b linked
          ∙ sym (flight_length (resends_now old) old.there) in
          let m : hits b a deliveries ≡ length (resent old).back.flight =
          hits_once {M = M} (deliver 1) (λ l. Deliver l.0 l.1 1) by_delivery to_deliver tms dms b a (link_back tms dms a b linked)
          ∙ ap in_flight turned_is ∙ sym (flight_length (resends_now (turned old)) old.back) in
          let start : AreToCome P (hits a b deliveries) (hits b a deliveries) (resent old) =
          record { there = (resent old).there.flight; back = (resent old).back.flight; there_are = sym n; back_are = sym m; holds = h } in
          let end = all_keep (deliver 1) (AreToCome P) (λ y x. AreToCome P y x) (come_turned P turns step) (λ x y l k. come_turned P turns step y x l k)
          (come_step P turns step) (λ x y l k. come_step P turns step y x l k) a b deliveries once_resent differ
          (all_do {M = M} (deliver 1) (λ l. Deliver l.0 l.1 1) by_delivery to_deliver all)
          (subst (AreToCome P (hits a b deliveries) (hits b a deliveries)) (sym resent_is) start) in
          no_more P turns step (link a b (all_carried_out deliveries once_resent)) end.there end.back end.there_are end.back_are end.holds;
    }

    pub to_next_stage : (k : ℕ) → IsAtStage k (link a b calls) → IsAtStage (suc k) (link a b (all_carried_out (round (links tms dms) calls) calls))
    to_next_stage k h =
        subst (λ c. IsAtStage (suc k) (link a b c)) (sym round_parts)
        (next_stage old (link a b (all_carried_out deliveries once_resent)) (sound a b calls) delivered_on k h)

-- all links at a stage
abbrev pub AreAtStage : {M : Type 0} → ℕ → ℕ → ℕ → List (Call M) → Type 0
AreAtStage tms dms k calls = (a b : Site) → is_link tms dms a b ≡ true → IsAtStage k (link a b calls)

pub none_yet : {M : Type 0} (tms dms : ℕ) (calls : List (Call M)) → AreAtStage tms dms 0 calls
none_yet tms dms calls a b linked = tt

pub after_round : {M : Type 0} (tms dms k : ℕ) (calls : List (Call M)) → AreAtStage tms dms k calls
    → AreAtStage tms dms (suc k) (all_carried_out (round (links tms dms) calls) calls)
after_round tms dms k calls h a b linked = to_next_stage tms dms calls a b linked k (h a b linked)

-- after four rounds they are quiet

quiet_link : {M : Type 0} (l : Link M) → IsAtStage 4 l → is_quiet_link l ≡ true
quiet_link l h =
    let few : length l.there.sent ≤ l.there.acked = subst (IsAcked (length l.there.sent) l.there.acked) h.0.back h.1.there in
    and_from (is_empty l.there.flight) (nat_le (length l.there.sent) l.there.acked) (ap is_empty h.0.there) (le-leb (length l.there.sent) l.there.acked few)

each_quiet : {M : Type 0} (tms dms : ℕ) (calls : List (Call M)) → AreAtStage tms dms 4 calls → (ls : List (Site × Site))
    → All (λ l. is_link tms dms l.0 l.1 ≡ true) ls → list_all (λ l. is_quiet_link (link l.0 l.1 calls)) ls ≡ true
each_quiet tms dms calls h [] e = refl
each_quiet tms dms calls h (l ∷ ls) e =
    and_from (is_quiet_link (link l.0 l.1 calls)) (list_all (λ x. is_quiet_link (link x.0 x.1 calls)) ls)
    (quiet_link (link l.0 l.1 calls) (h l.0 l.1 (All-head (λ x. is_link tms dms x.0 x.1 ≡ true) l ls e)))
    (each_quiet tms dms calls h ls (All-tail (λ x. is_link tms dms x.0 x.1 ≡ true) l ls e))

pub quiet_at_last : {M : Type 0} (tms dms : ℕ) (calls : List (Call M)) → AreAtStage tms dms 4 calls → quiet (links tms dms) calls ≡ true
quiet_at_last tms dms calls h = each_quiet tms dms calls h (links tms dms) (links_exist tms dms)
