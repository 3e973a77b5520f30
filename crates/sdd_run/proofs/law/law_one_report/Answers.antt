use Rattle.sdd_run.proofs.Apart.{report_or_limit}
use Rattle.sdd_run.proofs.OneReport.{one_report, one_summary}
use Rattle.sdd_run.proofs.law.law_one_report.Goals as goal

pub returns-clause-report : goal.returns-clause-report
returns-clause-report g = one_report

pub returns-clause-summary : goal.returns-clause-summary
returns-clause-summary g = one_summary

pub returns-clause-not_both : goal.returns-clause-not_both
returns-clause-not_both g = report_or_limit
