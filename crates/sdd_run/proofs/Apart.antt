-- No run is both reported and ended by the limit.
use Rattle.sdd_run.proofs.All.{Catalogue, EndsAtLimit, IsReportOn, IsSummaryOn, IsTheLog, List, Workload, eras_in, input_of, limit_or_complete, subst, ℕ}
use Rattle.sdd_run.proofs.OneReport.{one_list_of_tables}
use Rattle.sdd_run.specs.Runs.{Run}

pub run_or_limit : (cat : Catalogue) (work : Workload) → Run cat work → EndsAtLimit cat work → ⊥
run_or_limit cat work r limit =
    let same = one_list_of_tables (eras_in cat work) r.tables limit.tables r.tables_are limit.tables_are in
    limit_or_complete (input_of cat limit.tables work) limit.log r.log limit.ends (subst (λ t. IsTheLog (input_of cat t work) r.log) same r.log_is)

pub report_or_limit : (cat : Catalogue) (work : Workload) (text : List ℕ) → IsReportOn cat work text → EndsAtLimit cat work → ⊥
report_or_limit cat work text report limit = run_or_limit cat work report.of_run limit

pub summary_or_limit : (cat : Catalogue) (work : Workload) (text : List ℕ) → IsSummaryOn cat work text → EndsAtLimit cat work → ⊥
summary_or_limit cat work text summary limit = run_or_limit cat work summary.of_run limit
