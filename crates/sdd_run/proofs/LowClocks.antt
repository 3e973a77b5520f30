-- The clocks of a run stay low: its events are few, and so are its attempts.
use Rattle.sdd_run.proofs.All.{AreTables, Catalogue, Entry, HasLowClocks, Input, IsLawful, IsSmall, IsSoundCatalogue, IsValid, List, Log, Workload, are_eras_of, clock_low, eras_of, few_in_limit, input_of, lawful_end, lawful_numbered, lawful_permitted, sound_whole, subst, whole_in}
use Rattle.sdd_run.proofs.Goods.{few_ticks}
use Rattle.sdd_run.proofs.RunOf.{fine, lawful_lists, submit_given}
use Rattle.sdd_run.proofs.Whole.{events_valid}

pub low_clocks : (cat : Catalogue) (tables : List (List Entry)) (work : Workload) → IsSoundCatalogue (whole_in cat work) → IsValid cat work
    → AreTables cat work tables → (log : Log) → IsLawful (input_of cat tables work) log → HasLowClocks (input_of cat tables work) log
low_clocks cat tables work sound valid tabled log lawful later before at is =
    let g : Input = input_of cat tables work in
    let whole = sound_whole (whole_in cat work) sound in
    let submits = submit_given cat tables work sound valid tabled in
    let now : IsLawful g before = lawful_end g later before (subst (IsLawful g) is lawful) in
    let small : IsSmall g = record {
      few_tms = whole.few_tms;
      few_dms = whole.few_dms;
      few_classes = whole.few_classes;
      few_ticks = few_ticks (whole_in cat work) _ work.events (events_valid cat work valid);
      once = submits.once;
    } in
    clock_low g before at small now valid.few_events
    (few_in_limit g work.rows before (eras_of g before) sound (fine cat tables work sound valid tabled)
    (lawful_permitted g before submits.once now) (are_eras_of g before (lawful_lists cat tables work sound valid tabled before now))
    (lawful_numbered g before submits now) valid.few_txns)
