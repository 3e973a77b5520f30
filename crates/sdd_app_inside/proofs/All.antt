-- The names of std, of the crates below and of this crate's definitions that its proofs cite. Declares nothing.
pub use Rattle.sdd_run.proofs.Apart.{run_or_limit}
pub use Rattle.sdd_run.proofs.Beginning.{all_given}
pub use Rattle.sdd_run.proofs.ErasWithTables.{first_era, some_table, tables_are}
pub use Rattle.sdd_run.proofs.HasReport.{has_run}
pub use Rattle.sdd_run.proofs.OneReport.{one_list_of_tables}
pub use Rattle.sdd_run.proofs.Reported.{ended, if_ok}
pub use Rattle.sdd_run.proofs.Starting.{all_allowed, few_events, starts}
pub use Rattle.sdd_run.proofs.Whole.{rows_start}
pub use Rattle.sdd_run.specs.Runs.{AreTables, EndsAtLimit, eras_with_tables, first_input, input, input_of}
pub use Rattle.sdd_run.specs.class_lists.InForce.{eras_in, whole_in}
pub use Rattle.sdd_run.specs.schedule.Schedules.{with_events}
pub use Rattle.sdd_run.specs.script.All.{IsValid}
pub use Rattle.sdd_run.specs.script.declared.workload.Workload.{Workload}
pub use Rattle.sdd_run.specs.world.Represents.{Represents}
pub use Rattle.sdd_run.specs.world.sites.Beginnings.{AllBegin, BeginsD, IsBegun}
pub use Rattle.sdd_shell.proofs.Verdicts.{IsDecided, workload_decided}
pub use Rattle.sdd_watch.proofs.obligations.logs.One.{one_log}
pub use Rattle.sdd_watch.specs.Text.{IsTextOf, inside_text}
pub use Rattle.sdd_watch.specs.obligations.All.{Catalogue, Event, FitsStart, Input, IsEraOf, IsGood, IsSoundCatalogue, IsTable, IsTheLog, MAX_DMS, MAX_TMS}
pub use Rattle.sdd_watch.specs.obligations.base.Words.{tail_of}
pub use Rattle.sdd_watch.specs.obligations.protocol.declared.entry.Entry.{Entry}
pub use Rattle.sdd_app_inside.specs.Text.{IsInsideOf}
pub use Rattle.std.specs.List.{AllZip}
pub use Rattle.std.proofs.Common.{All, List, [], ap, arith, inl, inr, length, refl, subst, sym, ℕ, ◌∙◌, ◌≡◌, ◌≤◌, ◌⊎◌}
