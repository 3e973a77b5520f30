use Rattle.sdd_run.proofs.HasReport.{has_report, has_summary}
use Rattle.sdd_run.proofs.law.law_has_report.Goals as goal

pub returns-clause-report : goal.returns-clause-report
returns-clause-report g = has_report

pub returns-clause-summary : goal.returns-clause-summary
returns-clause-summary g = has_summary
