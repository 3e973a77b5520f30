-- No run is both reported and ended by the limit; and it has one text.
use Rattle.sdd_app_inside.proofs.All.{Catalogue, EndsAtLimit, IsInsideOf, IsTheLog, List, Workload, eras_in, input_of, inside_text, one_list_of_tables, one_log, run_or_limit, subst, sym, ℕ, ◌∙◌, ◌≡◌}

pub text_or_limit : (cat : Catalogue) (work : Workload) (text : List ℕ) → IsInsideOf cat work text → EndsAtLimit cat work → ⊥
text_or_limit cat work text reported limit = run_or_limit cat work reported.of_run limit

pub one_text : (cat : Catalogue) (work : Workload) (text other : List ℕ) → IsInsideOf cat work text → IsInsideOf cat work other → text ≡ other
one_text cat work text other one two =
    let r = one.of_run in
    let s = two.of_run in
    let same = one_list_of_tables (eras_in cat work) r.tables s.tables r.tables_are s.tables_are in
    let there = subst (λ t. IsTheLog (input_of cat t work) r.log) same r.log_is in
    one.text_is
    ∙ (λ i. inside_text (input_of cat (same i) work) (one_log (input_of cat s.tables work) r.log s.log there s.log_is i))
    ∙ sym two.text_is
