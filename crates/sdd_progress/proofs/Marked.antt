-- Marks, rounds and class lists come of the events that are left, and of nothing else.
use Rattle.std.proofs.Common.{arith}
use Rattle.sdd_progress.proofs.AllEnds.{Act, Bool, Entry, Input, List, Log, Mark, None, Option, Redeclares, Round, Site, Some, [], all_links, does_at, false, first_some, hand_due, hand_on, left, mark_due, mark_of, next, next_at, next_mark, next_mark_is, or_else, same_Some, site_due, sites, sym, true, ◌∙◌, ◌∷◌, ◌≡◌}

abbrev pub is_of_events : Entry → Bool
is_of_events (Mark e) = true
is_of_events (Round events) = true
is_of_events (Redeclares t) = true
is_of_events _ = false

abbrev IsOther : Option Entry → Type 0
IsOther None = Unit {0}
IsOther (Some e) = is_of_events e ≡ false

other_first : (o rest : Option Entry) (e : Entry) → IsOther o → is_of_events e ≡ true → or_else o rest ≡ Some e → rest ≡ Some e
other_first o rest e h p q = grind (arith, is_of_events, same_Some)

or_other : (a b : Option Entry) → IsOther a → IsOther b → IsOther (or_else a b)
or_other a b h k = grind arith

first_other : {A : Type 0} (f : A → Option Entry) (xs : List A) → ((x : A) → IsOther (f x)) → IsOther (first_some f xs)
first_other f [] h = tt
first_other f (x ∷ xs) h = or_other (f x) (first_some f xs) (h x) (first_other f xs h)

does_other : (at : Site) (o : Option Act) → IsOther (does_at at o)
does_other at o = grind arith

pub next_is_of_events : (g : Input) (log : Log) (e : Entry) → is_of_events e ≡ true → next g log ≡ Some e
    → mark_of g log (left g.events log) ≡ Some e
next_is_of_events g log e p q =
    let site = first_other (λ at. does_at at (next_at g log at)) (sites g.catalogue.tms g.catalogue.dms) (λ at. does_other at (next_at g log at)) in
    let hand = first_other (hand_on log) (all_links g)
    (λ l. (grind (arith))) in
    let a : or_else (site_due g log) (or_else (hand_due g log) (next_mark g log)) ≡ Some e = other_first (mark_due g log) _ e (grind (arith)) p q in
    sym (next_mark_is g log) ∙ other_first (hand_due g log) (next_mark g log) e hand p (other_first (site_due g log) _ e site p a)
