-- The names of std, of the crates below and of this crate's definitions that its proofs cite. Declares nothing.
pub use Rattle.sdd_shell.specs.Accepting.{AcceptsCatalogue, AcceptsWorkload, ReadsOne, TellsOfRead}
pub use Rattle.sdd_shell.specs.Calls.{AnswersAs, Call, ComesTo, EndsAs, FilesAreThere, by_form, no_form}
pub use Rattle.sdd_shell.specs.Endings.{Ending, FilesRead, HasReadOf, IsRead, IsReadTo, ToItsEnd, ToItsLimit}
pub use Rattle.sdd_shell.specs.NamedFiles.{BlamesCatalogue, BlamesWorkload, HasFiles, HasReport, catalogue_named, workload_named}
pub use Rattle.sdd_shell.specs.OverCatalogue.{OverCatalogue}
pub use Rattle.sdd_shell.specs.OverWorkload.{MakesNoRun, OverWorkload, TellsOfFile}
pub use Rattle.sdd_shell.specs.Requests.{AnswersRequest, Request, about_catalogue, about_report, about_workload}
pub use Rattle.sdd_shell.specs.States.{EndsWith, ShelfState, SinkState}
pub use Rattle.sdd_shell.specs.Status.{line_of}
pub use Rattle.sdd_shell.specs.Taking.{TakesOrFaults}
pub use Rattle.sdd_shell.specs.Verdict.{Answers, AtFault, ComesOfFiles, Explains, FaultyCatalogue, FaultyWorkload, IsRefusal, MakesText, NoForm, PastLimit, Prints, Verdict, status_of, status_of_reading}
pub use Rattle.sdd_shell.specs.declared.status.Status.{Status}
pub use Rattle.sdd_shell.specs.declared.status.Status.TheVariants.{BadCatalogue, BadWorkload, Done, Limit, NoMemory, ReadFault, Usage, WriteFault}
pub use Rattle.sdd_catread.specs.Faults.{broken}
pub use Rattle.sdd_catread.specs.Form.{top}
pub use Rattle.sdd_catread.specs.Reading.{catalogue_in}
pub use Rattle.sdd_lang.specs.All.{CatFault, Catalogue, MAX_WORKLOAD_BYTES}
pub use Rattle.sdd_lang.specs.base.Outside.{KeepsOpen, Opened, ReadsTo, Rose, find_file, with_end}
pub use Rattle.sdd_lang.specs.base.declared.files.ShelfFile.{ShelfFile}
pub use Rattle.sdd_lang.specs.base.declared.limits.TheConstants.{MAX_CATALOGUE_BYTES}
pub use Rattle.sdd_lang.specs.base.declared.reading.ReadError.{ReadError}
pub use Rattle.sdd_lang.specs.base.declared.reading.ReadError.TheVariants.{Fault}
pub use Rattle.sdd_lang.specs.catalog.declared.fault.CatRule.TheVariants.{TooLong}
pub use Rattle.sdd_script.specs.Walk.{workload}
pub use Rattle.sdd_script.specs.declared.fault.WorkFault.{WorkFault}
pub use Rattle.sdd_script.specs.declared.workload.Workload.{Workload}
pub use Rattle.std.proofs.Common.{Err, IfErr, IfSome, IsErrOf, IsSome, List, MatchOption, MatchResult, None, Ok, OnOk, Option, Result, Some, [], ap, append-nil, append_assoc, arith, drop, false, flat_map, inl, inr, length, length-append, lt-ltb, nat_lt, option_map, refl, slice_index_or, subst, suc, sym, take, take-append-drop, take_all, true, zero, ℕ, ◌++◌, ◌+◌, ◌-◌, ◌<◌, ◌∙◌, ◌∷◌, ◌≡◌, ◌≤◌, ◌⊎◌}
pub use Rattle.std.proofs.Math.Seq.{take-append_seam}
pub use Rattle.std.proofs.lemmas.Bool.{cases_lt}
pub use Rattle.std.proofs.lemmas.Grind.{flat_map-append}
pub use Rattle.std.proofs.lemmas.List.{take_more}
pub use Rattle.std.proofs.lemmas.Result.{err_from_is_err_and}
