-- The text of what happens while a world carries out all events of a workload is that of its run.
use Rattle.sdd_app_inside.proofs.All.{AreTables, Catalogue, Entry, Event, IsInsideOf, IsTextOf, List, Workload, all_given, ap, first_input, input_of, subst, with_events, ℕ, ◌∙◌, ◌≡◌}

pub text_of_run : (cat : Catalogue) (tables : List (List Entry)) (work : Workload) → AreTables cat work tables → (events : List Event) → events ≡ work.events
    → (text : List ℕ) → IsTextOf (with_events (first_input cat tables work) events) text → IsInsideOf cat work text
text_of_run cat tables work tabled events same text told =
    let all = ap (with_events (first_input cat tables work)) same ∙ all_given cat tables work in
    let whole : IsTextOf (input_of cat tables work) text = subst (λ g. IsTextOf g text) all told in
    record { of_run = record { tables = tables; tables_are = tabled; log = whole.log; log_is = whole.log_is }; text_is = whole.text_is }
