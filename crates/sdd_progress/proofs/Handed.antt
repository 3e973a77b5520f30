-- Where nothing goes on, all that was put on a link was handed over at its end, if the site there takes part.
use Rattle.sdd_progress.proofs.All.{D, Input, IsQuiet, IsStill, IsThere, List, Log, None, Option, Site, Some, T, U, [], all_at, all_links, and_right, ap, are_linked, arith, calls_of, cond, cons_option, dec_le, drop, filter_map, flat_map, flight, hand_on, handed, hands_from, in_left, in_order, in_right, is_empty, is_link, is_quiet_link, le_is, length, link, link_of, link_parts, links, local_of, member_there, none_not_some, not, one_on, puts_to, refl, sent, sent_is, site_there, sites, slice_get, sound, subst, suc, sym, take_all, takes_part, true, zero, ℕ, ◌-◌, ◌∙◌, ◌∷◌, ◌≡◌, ◌≤◌}
use Rattle.sdd_progress.proofs.Lists.{none_at}

-- places

in_filter_map : {A B : Type 0} (f : A → Option B) (xs : List A) (k : ℕ) (x : A) (y : B) → slice_get xs k ≡ Some x → f x ≡ Some y → IsThere (filter_map f xs) y
in_filter_map f [] k x y e h = cc
in_filter_map f (z ∷ xs) zero x y e h = let p : z ≡ x = cc in let q : f z ≡ Some y = subst (λ w. f w ≡ Some y) (sym p) h in (0, rw q refl)
in_filter_map {B = B} f (z ∷ xs) (suc k) x y e h =
    let i = in_filter_map f xs k x y e h in
    elim (f z) as (λ o. IsThere (cons_option o (filter_map f xs)) y) [ None ↦ i | Some w ↦ (suc i.0, i.1) ]

in_flat : {A B : Type 0} (f : A → List B) (xs : List A) (k : ℕ) (x : A) (y : B) → slice_get xs k ≡ Some x → IsThere (f x) y → IsThere (flat_map f xs) y
in_flat f [] k x y e h = cc
in_flat f (z ∷ xs) zero x y e h = grind (arith, slice_get, in_left, flat_map)
in_flat f (z ∷ xs) (suc k) x y e h = let i = in_flat f xs k x y e h in in_right (f z) (flat_map f xs) i.0 y i.1

-- links

abbrev link_if : Site → Site → Option (Site × Site)
link_if a b = cond (are_linked a b) (Some (a, b)) None

abbrev links_from : ℕ → ℕ → Site → List (Site × Site)
links_from tms dms a = filter_map (link_if a) (sites tms dms)

pub link_there : (tms dms : ℕ) (a b : Site) → is_link tms dms a b ≡ true → IsThere (links tms dms) (a, b)
link_there tms dms a b e =
    let p = link_parts tms dms a b e in
    let i = site_there tms dms a p.from in
    let j = site_there tms dms b p.to in
    in_flat (links_from tms dms) (sites tms dms) i.0 a (a, b) i.1 (in_filter_map (link_if a) (sites tms dms) j.0 b (a, b) j.1 (rw p.linked refl))

-- where no module is down each site takes part

pub quiet_part : (g : Input) (log : Log) (a b : Site) → IsQuiet g log → is_link g.catalogue.tms g.catalogue.dms a b ≡ true → takes_part b log ≡ true
quiet_part g log a U h e = refl
quiet_part g log a (T t) h e = ap not (h.up (T t) (link_parts g.catalogue.tms g.catalogue.dms a (T t) e).to)
quiet_part g log a (D d) h e = ap not (h.up (D d) (link_parts g.catalogue.tms g.catalogue.dms a (D d) e).to)

-- nothing is left on the way
pub none_left : (g : Input) (log : Log) (a b : Site) → IsStill g log → takes_part b log ≡ true → is_link g.catalogue.tms g.catalogue.dms a b ≡ true
    → length (puts_to b (local_of g a log)) ≤ handed a b log
none_left g log a b h part e =
    let k = link_there g.catalogue.tms g.catalogue.dms a b e in
    let q : is_quiet_link (link a b (calls_of log)) ≡ true =
    all_at (λ (l : Site × Site). is_quiet_link (link l.0 l.1 (calls_of log))) (all_links g) k.0 (a, b) h.links k.1 in
    let acked : length (sent a b log) ≤ (link_of a b log).there.acked = le_is _ _ (and_right (is_empty (link_of a b log).there.flight) _ q) in
    let none : hand_on log (a, b) ≡ None = none_at (hand_on log) (all_links g) k.0 (a, b) h.no_hand k.1 in
    elim (dec_le (length (sent a b log)) (handed a b log)) [
      | yes l ↦ omega (arith, l, ap length (sent_is g a b log))
      | no l ↦ (let m = member_there (handed a b log) (sent a b log) (omega (arith, l)) in
          let z : suc (handed a b log) - 1 ≡ handed a b log = omega arith in
          let at : slice_get (sent a b log) (suc (handed a b log) - 1) ≡ Some m.0 = subst (λ j. slice_get (sent a b log) j ≡ Some m.0) (sym z) m.1 in
          absurd (none_not_some (hand_on log (a, b)) _ none (one_on log a b m.0 part (omega (arith, l, acked, ((sound a b (calls_of log)).there.acked))) at)))
    ]

pub all_handed : (g : Input) (log : Log) (a b : Site) → IsStill g log → takes_part b log ≡ true → is_link g.catalogue.tms g.catalogue.dms a b ≡ true
    → hands_from a (local_of g b log) ≡ puts_to b (local_of g a log)
all_handed g log a b h part e = in_order g log a b h.permitted ∙ take_all (handed a b log) (puts_to b (local_of g a log)) (none_left g log a b h part e)

drop_past : {A : Type 0} (n : ℕ) (xs : List A) → length xs ≤ n → drop n xs ≡ []
drop_past zero [] l = refl
drop_past (suc n) [] l = refl
drop_past zero (x ∷ xs) l = absurd (omega (arith, l))
drop_past (suc n) (x ∷ xs) l = drop_past n xs (omega (arith, l))

pub none_in_flight : (g : Input) (log : Log) (a b : Site) → IsStill g log → takes_part b log ≡ true
    → is_link g.catalogue.tms g.catalogue.dms a b ≡ true → flight g a b log ≡ []
none_in_flight g log a b h part e = drop_past (handed a b log) (puts_to b (local_of g a log)) (none_left g log a b h part e)
