-- The run of a workload has a log, and so a report and a summary; or the limit ends it.
use Rattle.sdd_run.proofs.All.{AllZip, Catalogue, EndsAtLimit, Entry, IsReportOn, IsSoundCatalogue, IsSummaryOn, IsTable, IsValid, List, Workload, [], eras_in, inl, input_of, inr, length, marks, refl, report_text, summary_of, summary_text, whole_sound, ℕ, ◌∷◌, ◌⊎◌}
use Rattle.sdd_run.specs.Runs.{Run, records, report}
use Rattle.sdd_acyclic.proofs.EachTable.{each_table}
use Rattle.sdd_progress.proofs.Ends.{run_ends}
use Rattle.sdd_run.proofs.Reported.{reported}
use Rattle.sdd_run.proofs.Submissions.{once}

-- each catalogue has its protocol table
tabled : (cats : List Catalogue) → (tables : List (List Entry)) × AllZip IsTable cats tables
tabled [] = ([], tt)
tabled (cat ∷ cats) =
    let first = each_table cat in
    let more = tabled cats in
    (first.0 ∷ more.0, (first.1, more.1))

pub has_run : (cat : Catalogue) (work : Workload) → IsValid cat work → Run cat work ⊎ EndsAtLimit cat work
has_run cat work valid =
    let all = tabled (eras_in cat work) in
    let ends = run_ends (input_of cat all.0 work) (once work.events valid.submitted) in
    elim ends.1 [
      | inl the_log ↦ inl (record { tables = all.0; tables_are = all.1; log = ends.0; log_is = the_log })
      | inr limit ↦ inr (record { tables = all.0; tables_are = all.1; log = ends.0; ends = limit })
    ]

pub has_report : (cat : Catalogue) (work : Workload) → IsSoundCatalogue cat → IsValid cat work
    → ((text : List ℕ) × IsReportOn cat work text) ⊎ EndsAtLimit cat work
has_report cat work sound valid = elim (has_run cat work valid) [
  | inl r ↦ inl (
    report_text (report r),
    reported cat r.tables work r.log (whole_sound cat work sound valid) valid r.tables_are r.log_is (report_text (report r)) refl,
  )
  | inr limit ↦ inr limit
]

pub has_summary : (cat : Catalogue) (work : Workload) → IsValid cat work → ((text : List ℕ) × IsSummaryOn cat work text) ⊎ EndsAtLimit cat work
has_summary cat work valid = elim (has_run cat work valid) [
  | inl r ↦ inl (
    summary_text (summary_of (length work.txns) (records r) (marks r.log)),
    record { of_run = r; text_is = refl },
  )
  | inr limit ↦ inr limit
]
