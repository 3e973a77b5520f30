-- The names of std, of the crates below and of this crate's definitions that its proofs cite. Declares nothing.
pub use Rattle.sdd_commands.specs.Accepting.{AcceptsScript}
pub use Rattle.sdd_commands.specs.Check.{class_count, module_counts, part_counts}
pub use Rattle.sdd_commands.specs.Command.{Advise, Check, Control, Form, Graph, IsForm, IsNoForm, Make, Plain, Run, Table, Verify, count_in, made, words_of}
pub use Rattle.sdd_commands.specs.Edges.{graph_text, table_text}
pub use Rattle.sdd_commands.specs.Judging.{verdict_line}
pub use Rattle.sdd_commands.specs.Listing.{Tells}
pub use Rattle.sdd_commands.specs.OverScript.{BlamesScript, OverScript, script_named}
pub use Rattle.sdd_commands.specs.Requests.{IsSerialText, about_script, judged_as}
pub use Rattle.sdd_commands.specs.Serially.{names_of, replies_of, submitted, submitted_by}
pub use Rattle.sdd_control.specs.Report.{report}
pub use Rattle.sdd_control.specs.Walk.{control_script, most_bytes}
pub use Rattle.sdd_control.specs.declared.script.ControlScript.{ControlScript}
pub use Rattle.sdd_graph.proofs.Known.{edges_known}
pub use Rattle.sdd_graph.specs.Edges.{IsEdgeOf}
pub use Rattle.sdd_graph.specs.declared.edge.Edge.{Edge}
pub use Rattle.sdd_lang.specs.All.{Catalogue, Event, FitsStart, FitsTxn, MAX_WORKLOAD_BYTES, Submit, database_of}
pub use Rattle.sdd_lang.specs.base.Outside.{ReadsTo, find_file}
pub use Rattle.sdd_lang.specs.base.declared.files.ShelfFile.{ShelfFile}
pub use Rattle.sdd_lang.specs.declared.transaction.Txn.{Txn}
pub use Rattle.sdd_protocol.proofs.Tables.{all_at as found_member}
pub use Rattle.sdd_protocol.specs.Protocols.{IsTable}
pub use Rattle.sdd_protocol.specs.declared.entry.Entry.{Entry}
pub use Rattle.sdd_report.specs.Names.{spaced}
pub use Rattle.sdd_script.specs.Valid.{IsValid, IsValidTxn}
pub use Rattle.sdd_script.specs.declared.fault.WorkFault.{WorkFault}
pub use Rattle.sdd_script.specs.declared.workload.Workload.{Workload}
pub use Rattle.sdd_shell.proofs.Accepted.{made_of_read, not_read, report_not_read, report_told, report_untold}
pub use Rattle.sdd_shell.proofs.AtFault.{at_more, err_by, silent_at}
pub use Rattle.sdd_shell.proofs.Ended.{one_ended}
pub use Rattle.sdd_shell.proofs.FileReads.{on_ok_by, read_gives, read_to_end, read_to_limit}
pub use Rattle.sdd_shell.proofs.Requests.{catalogue_refused, catalogue_told, catalogue_untold, report_answers, report_first_refused, report_second_refused, workload_answers, workload_first_refused, workload_second_refused}
pub use Rattle.sdd_shell.proofs.Verdicts.{IsDecided, explains_more}
pub use Rattle.sdd_shell.specs.Accepting.{ReadsOne}
pub use Rattle.sdd_shell.specs.Endings.{HasReadOf}
pub use Rattle.sdd_shell.specs.OverWorkload.{MakesNoRun}
pub use Rattle.sdd_shell.specs.Requests.{AnswersRequest}
pub use Rattle.sdd_shell.specs.States.{ShelfState}
pub use Rattle.sdd_shell.specs.Verdict.{AtFault, ComesOfFiles, Explains, FaultyWorkload, Prints, Verdict, status_of}
pub use Rattle.sdd_shell.specs.declared.status.Status.TheVariants.{BadCatalogue, BadWorkload, NoMemory, ReadFault}
pub use Rattle.sdd_shell.specs.declared.status.Status.{Status}
pub use Rattle.sdd_verify.proofs.Submissions.{lent_fit, start_fits}
pub use Rattle.sdd_verify.specs.declared.limits.TheConstants.{MAX_REPORT_BYTES}
pub use Rattle.sdd_verify.specs.declared.verdict.Verdict.TheVariants.{No}
pub use Rattle.std.proofs.Common.{All, Bool, Bor, Err, IfErr, IsSome, IsTrue, List, MatchResult, None, Ok, OnOk, Option, Result, Some, [], ap, append_assoc, arith, bytes_eq, codes, cond, decimal, drop, false, filter_map, flat_map, inl, inr, length, lt-ltb, ltb-true, map, nat_le, nat_lt, option_map, refl, subst, sym, take, true, ℕ, ◌&&◌, ◌++◌, ◌+◌, ◌-◌, ◌<◌, ◌^◌, ◌∙◌, ◌∷◌, ◌≡◌, ◌≤◌}
pub use Rattle.std.proofs.lemmas.Bool.{cases_lt, lt-leb}
pub use Rattle.std.proofs.lemmas.Fmt.{decimal_injective, decimal_is_IsNumeral}
pub use Rattle.std.proofs.lemmas.List.{take_more}
pub use Rattle.std.proofs.lemmas.List.Elements.{All-cons, All-head, All-nil, All-tail, filter_map-append}
pub use Rattle.std.proofs.lemmas.Result.{err_from_is_err_and}
pub use Rattle.std.proofs.lemmas.Slice.Eq.{bytes_eq-Decides}
pub use Rattle.std.specs.Str.Parse.{digits_value}
