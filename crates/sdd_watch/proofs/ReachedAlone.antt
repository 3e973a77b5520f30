-- At an event of a link the sites that take part are those to which messages were handed: one, or none.
use Rattle.sdd_watch.proofs.All.{Arrived, Bool, Event, Found, Input, IsSiteOf, IsThere, List, Log, None, Option, Site, Some, [], all_links, all_sites, and_parts, ap, are_linked, arith, arrived, arrived_on, concerns, cons_option, false, filter, filter_map, found_by, if◌then◌else◌, is_reached, is_site, last_event, length, link_of_links, map, place_of, refl, same_site, site_is, site_self, site_there, slice_get, suc, subst, sym, takes_part, true, zero, ℕ, ◌&&◌, ◌<◌, ◌||◌, ◌∙◌, ◌∷◌, ◌≡◌}
use Rattle.sdd_moments.proofs.Came.{arrived_if, still}
use Rattle.sdd_moments.proofs.SitesPlaced.{site_place}
use Rattle.sdd_watch.proofs.TakingPart.{none_takes}
use Rattle.sdd_moments.proofs.SitesReached.{reached_is}

-- of a list the one member that passes a test

filter_none : {A : Type 0} (p : A → Bool) (xs : List A) → ((j : ℕ) (y : A) → slice_get xs j ≡ Some y → p y ≡ false) → filter p xs ≡ []
filter_none p [] others = refl
filter_none p (x ∷ xs) others =
    ap (λ b. if b then x ∷ filter p xs else filter p xs) (others 0 x refl) ∙ filter_none p xs (λ j y e. others (suc j) y e)

filter_only : {A : Type 0} (p : A → Bool) (xs : List A) (k : ℕ) (x : A) → slice_get xs k ≡ Some x → p x ≡ true
    → ((j : ℕ) (y : A) → (j ≡ k → ⊥) → slice_get xs j ≡ Some y → p y ≡ false) → filter p xs ≡ x ∷ []
filter_only p [] k x e own others = absurd (let no : None ≡ Some x = e in cc)
filter_only p (y ∷ xs) zero x e own others =
    let is : y ≡ x = cc in
    ap (λ b. if b then y ∷ filter p xs else filter p xs) (ap p is ∙ own)
    ∙ (λ i. is i ∷ filter_none p xs (λ j z f. others (suc j) z (λ same. omega (arith, same)) f) i)
filter_only p (y ∷ xs) (suc k) x e own others =
    ap (λ b. if b then y ∷ filter p xs else filter p xs) (others 0 y (λ same. omega (arith, same)) refl)
    ∙ filter_only p xs k x e own (λ j z apart f. others (suc j) z (λ same. apart (omega (arith, same))) f)

-- the site to which messages were handed exists

of_picked : {A B : Type 0} (f : A → Option B) (xs : List A) (y : B) (ys : List B) → filter_map f xs ≡ y ∷ ys
    → (x : A) × IsThere xs x × (f x ≡ Some y)
of_picked f [] y ys e = absurd (let no : [] ≡ y ∷ ys = e in cc)
of_picked f (x ∷ xs) y ys e =
    elim (f x) as (λ o. f x ≡ o → cons_option o (filter_map f xs) ≡ y ∷ ys → (z : _) × IsThere (x ∷ xs) z × (f z ≡ Some y)) [
      | None ↦ λ here h. let r = of_picked f xs y ys h in (r.0, (suc r.1.0, r.1.1), r.2)
      | Some w ↦ λ here h. let is : w ≡ y = cc in (x, (0, refl), here ∙ ap Some is)
    ] refl e

to_end : (old new : Log) (l : Site × Site) (one : Arrived) → arrived_on old new l ≡ Some one → one.to ≡ l.1
to_end old new l one e =
    elim (still old new l) as (λ b. arrived_if old new l b ≡ Some one → one.to ≡ l.1) [
      | true ↦ λ h. absurd (let no : None ≡ Some one = h in cc)
      | false ↦ λ h. cc
    ] e

site_reached : (g : Input) (old new : Log) (one : Arrived) (more : List Arrived) → one ∷ more ≡ arrived g old new → IsSiteOf g one.to
site_reached g old new one more e =
    let p = of_picked (arrived_on old new) (all_links g) one more (sym e) in
    let l = p.0 in
    let linked = link_of_links g.catalogue.tms g.catalogue.dms l.0 l.1 p.1 in
    let ends = and_parts (is_site g.catalogue.tms g.catalogue.dms l.0) (is_site g.catalogue.tms g.catalogue.dms l.1 && are_linked l.0 l.1) linked in
    subst (IsSiteOf g) (sym (to_end old new l one p.2)) (and_parts (is_site g.catalogue.tms g.catalogue.dms l.1) (are_linked l.0 l.1) ends.1).0

-- which take part

or_false : (b : Bool) → (b || false) ≡ b
or_false true = refl
or_false false = refl

takes_alone : (g : Input) (old new : Log) (one : Arrived) (e : Event) (at : Site) → one ∷ [] ≡ arrived g old new → e ≡ last_event new
    → ((found : Found) (at : Site) → concerns g new e found at ≡ false) → takes_part g old new at ≡ same_site one.to at
takes_alone g old new one e at same is none =
    let reached : is_reached g old new at ≡ (same_site one.to at || false) =
    sym (reached_is g old new at (one ∷ []) (same_site one.to at || false) refl same) in
    let aside : concerns g new (last_event new) (found_by (last_event new) old new) at ≡ false =
    ap (λ x. concerns g new x (found_by x old new) at) (sym is) ∙ none (found_by e old new) at in
    (λ i. reached i || aside i) ∙ or_false (same_site one.to at || false) ∙ or_false (same_site one.to at)

differs : (tms : ℕ) (a b : Site) (j k : ℕ) → place_of tms a ≡ k → place_of tms b ≡ j → (j ≡ k → ⊥) → same_site a b ≡ false
differs tms a b j k p q apart =
    elim (same_site a b) as (λ c. same_site a b ≡ c → c ≡ false) [
      | true ↦ λ e. absurd (apart (sym q ∙ ap (place_of tms) (sym (site_is a b e)) ∙ p))
      | false ↦ λ e. refl
    ] refl

pub reached_alone : (g : Input) (old new : Log) (known : List Arrived) (e : Event) → known ≡ arrived g old new → length known < 2 → e ≡ last_event new
    → ((found : Found) (at : Site) → concerns g new e found at ≡ false)
    → map (λ (one : Arrived). one.to) known ≡ filter (takes_part g old new) (all_sites g)
reached_alone g old new [] e same few is none = sym (none_takes g old new [] e (all_sites g) same refl is none)
reached_alone g old new (one ∷ []) e same few is none =
    let there = site_there g.catalogue.tms g.catalogue.dms one.to (site_reached g old new one [] same) in
    let tms : ℕ = g.catalogue.tms in
    let at = site_place tms g.catalogue.dms there.0 one.to there.1 in
    sym (filter_only (takes_part g old new) (all_sites g) there.0 one.to there.1 (takes_alone g old new one e one.to same is none ∙ site_self one.to)
    (λ j y apart f. takes_alone g old new one e y same is none
    ∙ differs tms one.to y j there.0 at (site_place tms g.catalogue.dms j y f) apart))
reached_alone g old new (one ∷ other ∷ more) e same few is none = absurd (omega (arith, few))
