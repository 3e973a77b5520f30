-- Where an event is over, nothing is due at any site that takes part.
use Rattle.sdd_progress.proofs.AllWaits.{D, DmNo, Entry, Input, IsEventOver, IsLawful, IsTheLog, List, Log, None, Option, Site, Some, T, TmNo, [], ap, arith, at_map, base_of, begins_event, begins_or_ends, does_at, false, first_some, in_left, in_right, local_of, map, next_at, no_act, none_in, not, not_both, or_else, range_there, range_with_len, setting_of, site_due, sites, slice_get, suc, true, ℕ, ◌∙◌, ◌∷◌, ◌≡◌, ◌≤◌}
use Rattle.sdd_progress.proofs.StuckHeads.{none_at}
use Rattle.sdd_obligations.specs.All.{is_down, next_in, takes_part}
use Rattle.sdd_obligations.specs.dm.Due as dm
use Rattle.sdd_obligations.specs.dm.Views as dm_views
use Rattle.sdd_obligations.specs.tm.Due as tm

-- what is due doesn't begin an event

abbrev IsOfEvent : Option Entry → Type 0
IsOfEvent None = Unit {0}
IsOfEvent (Some e) = begins_event e ≡ false

either_of_event : (a b : Option Entry) → IsOfEvent a → IsOfEvent b → IsOfEvent (or_else a b)
either_of_event a b h i = grind arith

first_of_event : (f : Site → Option Entry) (ss : List Site) → ((s : Site) → IsOfEvent (f s)) → IsOfEvent (first_some f ss)
first_of_event f [] h = tt
first_of_event f (s ∷ ss) h = either_of_event (f s) (first_some f ss) (h s) (first_of_event f ss h)

-- before the next event, and at the end of the log

pub over_before : (g : Input) (e : Entry) (log : Log) → IsLawful g (e ∷ log) → begins_event e ≡ true → IsEventOver g log
over_before g e log h b = ap begins_or_ends h.0 ∙ b

pub over_at_end : (g : Input) (log : Log) → IsTheLog g log → IsEventOver g log
over_at_end g log h = ap begins_or_ends h.complete

pub none_due : (g : Input) (log : Log) → IsEventOver g log → site_due g log ≡ None
none_due g log e = grind (arith, not_both, first_of_event)

-- the sites that are there

numbered_there : (tms dms : ℕ) (x : Site) (k : ℕ) → slice_get (map (λ n. D (record { 0 = n })) (range_with_len 1 dms)) k ≡ Some x
    → (j : ℕ) × (slice_get (sites tms dms) j ≡ Some x)
numbered_there tms dms x k e =
    let i = in_right (map (λ n. T (record { 0 = n })) (range_with_len 1 tms)) (map (λ n. D (record { 0 = n })) (range_with_len 1 dms)) k x e in
    (suc i.0, i.1)

pub data_there : (tms dms : ℕ) (d : DmNo) → 1 ≤ d.0 → d.0 ≤ dms → (k : ℕ) × (slice_get (sites tms dms) k ≡ Some (D d))
data_there tms dms d l h =
    let r = range_there 1 dms d.0 l (omega arith) in
    numbered_there tms dms (D d) r.0 (at_map (λ n. D (record { 0 = n })) (range_with_len 1 dms) r.0 d.0 r.1)

pub txn_there : (tms dms : ℕ) (t : TmNo) → 1 ≤ t.0 → t.0 ≤ tms → (k : ℕ) × (slice_get (sites tms dms) k ≡ Some (T t))
txn_there tms dms t l h =
    let r = range_there 1 tms t.0 l (omega arith) in
    (suc r.0, in_left (map (λ n. T (record { 0 = n })) (range_with_len 1 tms)) (map (λ n. D (record { 0 = n })) (range_with_len 1 dms)) r.0 (T t) (at_map (λ n. T (record { 0 = n })) (range_with_len 1 tms) r.0 t.0 r.1))

-- nothing is due at one that takes part
none_there : (g : Input) (log : Log) (at : Site) (k : ℕ) → slice_get (sites g.catalogue.tms g.catalogue.dms) k ≡ Some at → takes_part at log ≡ true
    → site_due g log ≡ None → next_in g at (base_of g log) (local_of g at log) ≡ None
none_there g log at k i part e =
    none_in g log at part (no_act at (next_at g log at) (none_at (λ x. does_at x (next_at g log x)) (sites g.catalogue.tms g.catalogue.dms) k at e i))

pub none_at_data_up : (g : Input) (log : Log) (d : DmNo) → 1 ≤ d.0 → d.0 ≤ g.catalogue.dms → is_down (D d) log ≡ false → site_due g log ≡ None
    → dm.due (dm_views.home_of (setting_of g (D d))) (dm_views.view_of (setting_of g (D d)) (local_of g (D d) log)) ≡ None
none_at_data_up g log d l h up e = let i = data_there g.catalogue.tms g.catalogue.dms d l h in none_there g log (D d) i.0 i.1 (ap not up) e

pub none_at_txn : (g : Input) (log : Log) (t : TmNo) → 1 ≤ t.0 → t.0 ≤ g.catalogue.tms → takes_part (T t) log ≡ true → site_due g log ≡ None
    → tm.next (setting_of g (T t)) (base_of g log) (local_of g (T t) log) ≡ None
none_at_txn g log t l h part e = let i = txn_there g.catalogue.tms g.catalogue.dms t l h in none_there g log (T t) i.0 i.1 part e
