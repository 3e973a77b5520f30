-- The names of std, of the crates below and of this crate's definitions that its proofs cite. Declares nothing.
pub use Rattle.sdd_app.specs.Answer.{about_made, request_of}
pub use Rattle.sdd_app.specs.Calls.{sdd1_call}
pub use Rattle.sdd_app.specs.Made.{IsMadeSummary, OverMade}
pub use Rattle.sdd_commands.proofs.Forms.{found_form, no_form}
pub use Rattle.sdd_commands.proofs.Scripts.{script_decided}
pub use Rattle.sdd_commands.specs.Command.{Advise, Check, Control, Form, Graph, IsForm, Make, Plain, Run, Table, Verify, form_of}
pub use Rattle.sdd_commands.specs.Listing.{Tells}
pub use Rattle.sdd_commands.specs.Requests.{IsSerialText, judged_as}
pub use Rattle.sdd_lang.specs.All.{MAX_TXNS}
pub use Rattle.sdd_shell.proofs.Calls.{ends_as, form_answers, no_form_answers}
pub use Rattle.sdd_shell.proofs.Requests.{workload_answers, workload_first_refused, workload_second_refused}
pub use Rattle.sdd_shell.proofs.Verdicts.{IsDecided, catalogue_decided, report_decided, workload_decided}
pub use Rattle.sdd_shell.specs.OverWorkload.{MakesNoRun}
pub use Rattle.sdd_shell.specs.Requests.{AnswersRequest}
pub use Rattle.sdd_shell.specs.States.{ShelfState}
pub use Rattle.sdd_shell.specs.Verdict.{MakesText, Verdict, status_of}
pub use Rattle.sdd_shell.specs.declared.status.Status.TheVariants.{Limit, NoMemory}
pub use Rattle.sdd_shell.specs.declared.status.Status.{Status}
pub use Rattle.sdd_verified.proofs.MadeSettles.{made_summed}
pub use Rattle.sdd_verified.proofs.run.Apart.{report_or_limit, summary_or_limit}
pub use Rattle.sdd_verified.specs.make.Bank.{bank}
pub use Rattle.sdd_verified.specs.make.Turns.{workload_of}
pub use Rattle.sdd_verified.specs.run.Runs.{EndsAtLimit, IsReportOn, IsSummaryOn}
pub use Rattle.sdd_verified.specs.script.Valid.{IsValid}
pub use Rattle.sdd_verified.specs.verifying.declared.limits.TheConstants.{MAX_REPORT_BYTES}
pub use Rattle.std.proofs.Common.{Err, List, Ok, Result, [], map, refl, string_bytes, subst, sym, ℕ, ◌≡◌, ◌≤◌}
pub use Rattle.std.proofs.lemmas.Result.{err_from_is_err_and}
