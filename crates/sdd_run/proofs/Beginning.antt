-- What a run begins with.
use Rattle.sdd_run.proofs.All.{All-at, Catalogue, D, Entry, Event, Input, IsValid, IsValidTxn, List, MAX_DMS, MAX_TMS, Workload, [], ap, append-nil, append_assoc, arith, dm_no, first_input, get_or-map-range_with_len, input_of, rows_of, sym, whole_in, with_event, with_events, ℕ, ◌++◌, ◌-◌, ◌∙◌, ◌∷◌, ◌≡◌, ◌≤◌}
use Rattle.sdd_run.proofs.Whole.{same_dms, txns_valid}
use Rattle.sdd_schedule.specs.world.Represents.{IsSoundNetwork}

-- what is given with the events of a schedule has them after its own
pub with_events_is : (g : Input) (es : List Event) → with_events g es ≡ record g { events = g.events ++ es }
with_events_is g [] = ap (λ l. record g { events = l }) (sym (append-nil g.events))
with_events_is g (e ∷ es) = with_events_is (with_event g e) es ∙ ap (λ l. record g { events = l }) (append_assoc g.events (e ∷ []) es)

pub same_catalogue : (g : Input) (es : List Event) → (with_events g es).catalogue ≡ g.catalogue
same_catalogue g es = ap (λ (x : Input). x.catalogue) (with_events_is g es)

-- a run is given all of its events
pub all_given : (cat : Catalogue) (tables : List (List Entry)) (work : Workload)
    → with_events (first_input cat tables work) work.events ≡ input_of cat tables work
all_given cat tables work = with_events_is (first_input cat tables work) work.events

-- of each data module the rows are those of the workload
pub rows_given : (cat : Catalogue) (tables : List (List Entry)) (work : Workload) (d : ℕ) → 1 ≤ d → d ≤ (whole_in cat work).dms
    → rows_of (first_input cat tables work) (D (dm_no d)) ≡ work.rows
rows_given cat tables work d low high =
    let same = same_dms cat work in
    get_or-map-range_with_len (λ k. work.rows) 1 cat.dms (d - 1) d [] (omega arith) (omega (arith, high, same))

-- the transactions fit, and so what is given is sound
pub begins_sound : (cat : Catalogue) (tables : List (List Entry)) (work : Workload) → (whole_in cat work).tms ≤ MAX_TMS
    → (whole_in cat work).dms ≤ MAX_DMS → IsValid cat work → IsSoundNetwork (first_input cat tables work)
begins_sound cat tables work tms dms valid = record {
  few_tms = tms;
  few_dms = dms;
  txns_fit = λ n txn e. (All-at (IsValidTxn (whole_in cat work)) work.txns (n - 1) txn e (txns_valid cat work valid)).fits;
}
