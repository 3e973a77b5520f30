-- A look at each link, one after the other.
use Rattle.sdd_moments.proofs.All.{All-at, AreSeen, Bool, Event, Found, Input, IsBetween, IsGood, IsLinkOf, IsOver, IsSiteOf, IsThere, LinkSeen, List, Log, None, OnLinks, Option, Reach, Site, Some, WatchedLink, World, [], all_links, all_sites, and_parts, ap, are_linked, append-nil, arith, arrived_on, cond, cons_option, eqb-true, false, filter_map, flat_map, found_by, get_or, in_left, in_right, is_changed_link, is_site, is_still_link, is_to, last_event, length, length-map, link_after, link_before, link_of_links, links_from, map, may_act, not, reach_of, refl, seen_between, sent, site_there, slice_get, slice_set, suc, subst, sym, take, take_all, touched_from, true, watched_link, watched_links, zero, ℕ, ◌&&◌, ◌++◌, ◌+◌, ◌<◌, ◌==◌, ◌||◌, ◌∙◌, ◌∷◌, ◌≡◌, ◌≤◌}
use Rattle.sdd_moments.proofs.SitesThere.{sites_there}
use Rattle.sdd_moments.proofs.LinksKept.{IsStill, link_stays, nothing_put}
use Rattle.sdd_moments.proofs.Reached.{neither, reach_after}
use Rattle.sdd_moments.proofs.Touched.{touched_is}
use Rattle.sdd_moments.proofs.Visited.{PlaceAt, all_changed, changed_to, filtered_join, filtered_one, group_more, picked_join, place_at}

-- one link

-- by the event that is carried out
pub reach_reported : (g : Input) (old new : Log) (event : Event) (found : Found) (r : Reach) → event ≡ last_event new → found ≡ found_by event old new
    → r ≡ reach_of g new event found → r ≡ reach_after g old new new
reach_reported g old new event found r e f is =
    is ∙ ap (reach_of g new event) f ∙ ap (λ x. reach_of g new x (found_by x old new)) e

pub as_many : (n m : ℕ) → not (n == m) ≡ false → n ≡ m
as_many n m e = eqb-true n m (elim (n == m) as (λ b. not b ≡ false → b ≡ true) [
  | true ↦ λ p. refl
  | false ↦ λ p. sym p
] e)

-- by a site that doesn't act nothing is put
as_many_put : (g : Input) (old new : Log) (l : Site × Site) → IsGood g → IsBetween g old new → IsSiteOf g l.0
    → (may_act (reach_after g old new new) l.0 && not (length (sent l.0 l.1 new) == length (sent l.0 l.1 old))) ≡ false
    → length (sent l.0 l.1 new) ≡ length (sent l.0 l.1 old)
as_many_put g old new l good b here e =
    elim (may_act (reach_after g old new new) l.0) as
    (λ c. may_act (reach_after g old new new) l.0 ≡ c → (c && not (length (sent l.0 l.1 new) == length (sent l.0 l.1 old))) ≡ false
    → length (sent l.0 l.1 new) ≡ length (sent l.0 l.1 old)) [
      | true ↦ λ acts h. as_many (length (sent l.0 l.1 new)) (length (sent l.0 l.1 old)) h
      | false ↦ λ aside h. ap length (nothing_put g old new good b l.0 l.1 here aside)
    ] refl e

-- a link that is passed over is still
pub link_passed : (g : Input) (old new : Log) (w : World) (event : Event) (found : Found) (touched : Option Site) (acts : Bool) (l : Site × Site)
    (link : WatchedLink) (b : Bool) → IsOver g old new w event found → touched ≡ touched_from (reach_of g new event found) l.0
    → acts ≡ may_act (reach_of g new event found) l.0 → link ≡ watched_link old l → IsLinkOf g l.0 l.1
    → b ≡ (is_to touched link.to || acts && not (length (sent link.from link.to new) == link.sent)) → b ≡ false → IsStill old new l
link_passed g old new w event found touched acts l link b over goes act stood linked test e =
    let at : reach_of g new event found ≡ reach_after g old new new =
    reach_reported g old new event found (reach_of g new event found) over.event_is over.found_is refl in
    let none = neither (is_to (touched_from (reach_after g old new new) l.0) l.1)
    (may_act (reach_after g old new new) l.0 && not (length (sent l.0 l.1 new) == length (sent l.0 l.1 old)))
    ((λ i. is_to (touched_from (sym at i) l.0) l.1 || may_act (sym at i) l.0 && not (length (sent l.0 l.1 new) == length (sent l.0 l.1 old)))
    ∙ (λ i. is_to (sym goes i) (sym stood i).to || sym act i && not (length (sent (sym stood i).from (sym stood i).to new) == (sym stood i).sent))
    ∙ sym test ∙ e) in
    let here : IsSiteOf g l.0 =
    (and_parts (is_site g.catalogue.tms g.catalogue.dms l.0) (is_site g.catalogue.tms g.catalogue.dms l.1 && are_linked l.0 l.1) linked).0 in
    link_stays g old new over.calm.parts.good over.between l.0 l.1 (sym (touched_is (reach_after g old new new) l.0 l.1) ∙ none.0)
    (as_many_put g old new l over.calm.parts.good over.between here none.1)

pub link_passed_kept : (old new : Log) (l : Site × Site) (link : WatchedLink) → link ≡ watched_link old l → IsStill old new l → link ≡ watched_link new l
link_passed_kept old new l link stood s = stood ∙ sym s.kept

-- nothing is seen of none, and what is seen of some links and then of others is seen of all

pub seen_none : (old new : Log) (first : OnLinks) → AreSeen old new [] first first
seen_none old new first = record {
  before_are = sym (append-nil first.moments.before.items);
  after_are = sym (append-nil first.moments.after.items);
  arrived_are = sym (append-nil first.arrived.items);
}

pub seen_join : (old new : Log) (xs ys : List (Site × Site)) (first mid last : OnLinks) → AreSeen old new xs first mid → AreSeen old new ys mid last
    → AreSeen old new (xs ++ ys) first last
seen_join old new xs ys first mid last e h = record {
  before_are = filtered_join (is_changed_link old new) (link_before old) xs ys first.moments.before.items mid.moments.before.items
      last.moments.before.items e.before_are h.before_are;
  after_are = filtered_join (is_changed_link old new) (link_after old new) xs ys first.moments.after.items mid.moments.after.items
      last.moments.after.items e.after_are h.after_are;
  arrived_are = picked_join (arrived_on old new) xs ys first.arrived.items mid.arrived.items last.arrived.items e.arrived_are h.arrived_are;
}

pub passed_seen : (old new : Log) (l : Site × Site) (first : OnLinks) → IsStill old new l → AreSeen old new (l ∷ []) first first
passed_seen old new l first s = record {
  before_are = sym (append-nil first.moments.before.items)
      ∙ ap (λ b. first.moments.before.items ++ map (link_before old) (cond b (l ∷ []) [])) (sym s.unchanged);
  after_are = sym (append-nil first.moments.after.items)
      ∙ ap (λ b. first.moments.after.items ++ map (link_after old new) (cond b (l ∷ []) [])) (sym s.unchanged);
  arrived_are = sym (append-nil first.arrived.items) ∙ ap (λ o. first.arrived.items ++ cons_option o []) (sym s.none);
}

-- one that is looked at
pub looked_seen : (old new : Log) (l : Site × Site) (seen : LinkSeen) (first last : OnLinks) → seen ≡ seen_between old new l
    → last.moments.before.items ≡ first.moments.before.items ++ cond (not (is_still_link seen.before seen.after)) (seen.before ∷ []) []
    → last.moments.after.items ≡ first.moments.after.items ++ cond (not (is_still_link seen.before seen.after)) (seen.after ∷ []) []
    → last.arrived.items ≡ first.arrived.items ++ cons_option seen.arrived [] → AreSeen old new (l ∷ []) first last
looked_seen old new l seen first last is b a c = record {
  before_are = b ∙ ap (λ (y : LinkSeen). first.moments.before.items ++ cond (not (is_still_link y.before y.after)) (y.before ∷ []) []) is
      ∙ ap (λ ms. first.moments.before.items ++ ms) (sym (filtered_one (is_changed_link old new) (link_before old) l));
  after_are = a ∙ ap (λ (y : LinkSeen). first.moments.after.items ++ cond (not (is_still_link y.before y.after)) (y.after ∷ []) []) is
      ∙ ap (λ ms. first.moments.after.items ++ ms) (sym (filtered_one (is_changed_link old new) (link_after old new) l));
  arrived_are = c ∙ ap (λ (y : LinkSeen). first.arrived.items ++ cons_option y.arrived []) is;
}

-- the links from a site

in_group : {A B : Type 0} (h : A → List B) (xs : List A) (k : ℕ) (x : A) (j : ℕ) (y : B) → slice_get xs k ≡ Some x → slice_get (h x) j ≡ Some y
    → IsThere (flat_map h xs) y
in_group h [] k x j y e f = absurd (let no : None ≡ Some x = e in cc)
in_group h (z ∷ xs) zero x j y e f =
    let is : z ≡ x = cc in
    let at : slice_get (h z) j ≡ Some y = subst (λ w. slice_get (h w) j ≡ Some y) (sym is) f in
    (j, in_left (h z) (flat_map h xs) j y at)
in_group h (z ∷ xs) (suc k) x j y e f = let r = in_group h xs k x j y e f in in_right (h z) (flat_map h xs) r.0 y r.1

links_there : (g : Input) (a : Site) → IsSiteOf g a → (k : ℕ) (l : Site × Site) → slice_get (links_from g a) k ≡ Some l → IsLinkOf g l.0 l.1
links_there g a here k l e =
    let p = site_there g.catalogue.tms g.catalogue.dms a here in
    link_of_links g.catalogue.tms g.catalogue.dms l.0 l.1 (in_group (links_from g) (all_sites g) p.0 a k l p.1 e)

-- they all come from it

linked_from : (a : Site) (bs : List Site) (k : ℕ) (l : Site × Site) → slice_get (filter_map (λ b. cond (are_linked a b) (Some (a, b)) None) bs) k ≡ Some l
    → l.0 ≡ a
linked_from a [] k l e = absurd (let no : None ≡ Some l = e in cc)
linked_from a (b ∷ bs) zero l e =
    let rest : List (Site × Site) = filter_map (λ b. cond (are_linked a b) (Some (a, b)) None) bs in
    elim (are_linked a b) as (λ c. slice_get (cons_option (cond c (Some (a, b)) None) rest) 0 ≡ Some l → l.0 ≡ a) [
      | true ↦ λ h. (let is : (a, b) ≡ l = cc in ap (λ (x : Site × Site). x.0) (sym is))
      | false ↦ λ h. linked_from a bs 0 l h
    ] e
linked_from a (b ∷ bs) (suc k) l e =
    let rest : List (Site × Site) = filter_map (λ b. cond (are_linked a b) (Some (a, b)) None) bs in
    elim (are_linked a b) as (λ c. slice_get (cons_option (cond c (Some (a, b)) None) rest) (suc k) ≡ Some l → l.0 ≡ a) [
      | true ↦ λ h. linked_from a bs k l h
      | false ↦ λ h. linked_from a bs (suc k) l h
    ] e

-- of the first so many links what is kept and was seen
pub record LinksSoFar (g : Input) (old new : Log) (a : Site) (i : ℕ) (links : List WatchedLink) (first now : OnLinks) : Type 0 where
  pub links_are : links ≡ changed_to (watched_link old) (watched_link new) i (links_from g a)
  pub seen : AreSeen old new (take i (links_from g a)) first now

pub no_links_yet : (g : Input) (old new : Log) (a : Site) (links : List WatchedLink) (first : OnLinks)
    → links ≡ map (watched_link old) (links_from g a) → LinksSoFar g old new a 0 links first first
no_links_yet g old new a links first e = record { links_are = e; seen = seen_none old new first }

few_links : (g : Input) (old : Log) (a : Site) (begun : List WatchedLink) (i : ℕ) → begun ≡ map (watched_link old) (links_from g a) → i < length begun
    → i < length (links_from g a)
few_links g old a begun i e few = let n = ap length e ∙ length-map (links_from g a) (watched_link old) in omega (arith, few, n)

pub link_at : (g : Input) (old new : Log) (a : Site) (begun links : List WatchedLink) (i : ℕ) (x : WatchedLink) (first now : OnLinks)
    → begun ≡ map (watched_link old) (links_from g a) → i < length begun → LinksSoFar g old new a i links first now → x ≡ get_or links i x
    → PlaceAt (watched_link old) (watched_link new) (links_from g a) links i (i + 1) x
link_at g old new a begun links i x first now e few s is =
    place_at (watched_link old) (watched_link new) (links_from g a) links i (i + 1) x (omega arith) (few_links g old a begun i e few) s.links_are is

pub place_linked : (g : Input) (old new : Log) (a : Site) (links : List WatchedLink) (i : ℕ) (x : WatchedLink) → IsSiteOf g a
    → (p : PlaceAt (watched_link old) (watched_link new) (links_from g a) links i (i + 1) x) → IsLinkOf g p.place.0 p.place.1
place_linked g old new a links i x here p = links_there g a here i p.place p.is_there

-- the link at hand is one of the network
pub at_link : (g : Input) (old new : Log) (a : Site) (begun links : List WatchedLink) (i : ℕ) (x : WatchedLink) (first now : OnLinks) → IsSiteOf g a
    → begun ≡ map (watched_link old) (links_from g a) → i < length begun → LinksSoFar g old new a i links first now → x ≡ get_or links i x
    → IsLinkOf g (get_or links i x).from (get_or links i x).to
at_link g old new a begun links i x first now here e few s is =
    let p = link_at g old new a begun links i x first now e few s is in
    subst (λ (w : WatchedLink). IsLinkOf g w.from w.to) (sym p.stood ∙ is) (place_linked g old new a links i x here p)

-- one more is looked at
pub links_more : (g : Input) (old new : Log) (a : Site) (begun links : List WatchedLink) (i : ℕ) (x next : WatchedLink) (first now then : OnLinks)
    → IsSiteOf g a → begun ≡ map (watched_link old) (links_from g a) → i < length begun → LinksSoFar g old new a i links first now → x ≡ get_or links i x
    → ((l : Site × Site) → l.0 ≡ a → IsLinkOf g l.0 l.1 → x ≡ watched_link old l → next ≡ watched_link new l)
    → ((l : Site × Site) → l.0 ≡ a → IsLinkOf g l.0 l.1 → x ≡ watched_link old l → AreSeen old new (l ∷ []) now then)
    → LinksSoFar g old new a (i + 1) (slice_set links i next) first then
links_more g old new a begun links i x next first now then here e few s is keeps sees =
    let ls : List (Site × Site) = links_from g a in
    let p = link_at g old new a begun links i x first now e few s is in
    let linked = place_linked g old new a links i x here p in
    let from : p.place.0 ≡ a = linked_from a (all_sites g) i p.place p.is_there in
    record {
      links_are = p.changed next (keeps p.place from linked p.stood);
      seen = subst (λ xs. AreSeen old new xs first then) (sym p.further)
          (seen_join old new (take i ls) (p.place ∷ []) first now then s.seen (sees p.place from linked p.stood));
    }

-- all are looked at
pub links_over : (g : Input) (old new : Log) (a : Site) (begun links : List WatchedLink) (i : ℕ) (first now : OnLinks)
    → begun ≡ map (watched_link old) (links_from g a) → length begun ≤ i → LinksSoFar g old new a i links first now
    → (links ≡ map (watched_link new) (links_from g a)) × AreSeen old new (links_from g a) first now
links_over g old new a begun links i first now e past s =
    let ls : List (Site × Site) = links_from g a in
    let n = ap length e ∙ length-map ls (watched_link old) in
    let all : take i ls ≡ ls = take_all i ls (omega (arith, past, n)) in (
      s.links_are ∙ all_changed (watched_link old) (watched_link new) i ls (omega (arith, past, n)),
      subst (λ xs. AreSeen old new xs first now) all s.seen,
    )

-- all sites

pub record SitesSoFar (g : Input) (old new : Log) (i : ℕ) (links : List (Site × List WatchedLink)) (first now : OnLinks) : Type 0 where
  pub links_are : links ≡ changed_to (watched_links g old) (watched_links g new) i (all_sites g)
  pub seen : AreSeen old new (flat_map (links_from g) (take i (all_sites g))) first now

pub no_sites_yet : (g : Input) (old new : Log) (links : List (Site × List WatchedLink)) (first : OnLinks) → links ≡ map (watched_links g old) (all_sites g)
    → SitesSoFar g old new 0 links first first
no_sites_yet g old new links first e = record { links_are = e; seen = seen_none old new first }

pub site_at : (g : Input) (old new : Log) (begun links : List (Site × List WatchedLink)) (i : ℕ) (x : Site × List WatchedLink) (first now : OnLinks)
    → begun ≡ map (watched_links g old) (all_sites g) → i < length begun → SitesSoFar g old new i links first now → x ≡ get_or links i x
    → PlaceAt (watched_links g old) (watched_links g new) (all_sites g) links i (i + 1) x
site_at g old new begun links i x first now e few s is =
    let n = ap length e ∙ length-map (all_sites g) (watched_links g old) in
    place_at (watched_links g old) (watched_links g new) (all_sites g) links i (i + 1) x (omega arith) (omega (arith, few, n)) s.links_are is

pub site_here : (g : Input) (k : ℕ) (a : Site) → slice_get (all_sites g) k ≡ Some a → IsSiteOf g a
site_here g k a e = All-at (IsSiteOf g) (all_sites g) k a e (sites_there g)

pub sites_more : (g : Input) (old new : Log) (begun links : List (Site × List WatchedLink)) (i : ℕ) (x next : Site × List WatchedLink)
    (first now then : OnLinks) → begun ≡ map (watched_links g old) (all_sites g) → i < length begun → SitesSoFar g old new i links first now
    → x ≡ get_or links i x
    → ((a : Site) → IsSiteOf g a → x ≡ watched_links g old a → next ≡ watched_links g new a)
    → ((a : Site) → IsSiteOf g a → x ≡ watched_links g old a → AreSeen old new (links_from g a) now then)
    → SitesSoFar g old new (i + 1) (slice_set links i next) first then
sites_more g old new begun links i x next first now then e few s is keeps sees =
    let all : List Site = all_sites g in
    let p = site_at g old new begun links i x first now e few s is in
    let here = site_here g i p.place p.is_there in
    record {
      links_are = p.changed next (keeps p.place here p.stood);
      seen = subst (λ ls. AreSeen old new ls first then) (sym (group_more (links_from g) (take i all) p.place (take (i + 1) all) p.further))
          (seen_join old new (flat_map (links_from g) (take i all)) (links_from g p.place) first now then s.seen (sees p.place here p.stood));
    }

pub sites_over : (g : Input) (old new : Log) (begun links : List (Site × List WatchedLink)) (i : ℕ) (first now : OnLinks)
    → begun ≡ map (watched_links g old) (all_sites g) → length begun ≤ i → SitesSoFar g old new i links first now
    → (links ≡ map (watched_links g new) (all_sites g)) × AreSeen old new (all_links g) first now
sites_over g old new begun links i first now e past s =
    let n = ap length e ∙ length-map (all_sites g) (watched_links g old) in
    let all : take i (all_sites g) ≡ all_sites g = take_all i (all_sites g) (omega (arith, past, n)) in (
      s.links_are ∙ all_changed (watched_links g old) (watched_links g new) i (all_sites g) (omega (arith, past, n)),
      subst (λ xs. AreSeen old new (flat_map (links_from g) xs) first now) all s.seen,
    )

-- from nothing
pub seen_all : {A : Type 0} (first found last : List A) → first ≡ [] → last ≡ first ++ found → last ≡ found
seen_all first found last none e = e ∙ ap (λ xs. xs ++ found) none
