-- The names of std, of the crates below and of this crate's definitions that its proofs cite. Declares nothing.
pub use Rattle.sdd_backups.specs.Links.{link, put, taken}
pub use Rattle.sdd_backups.specs.Log.{IsNoted, Log, noted}
pub use Rattle.sdd_backups.specs.NoteTests.{is_above, is_finish, is_gone, is_number, is_ok, is_stop, is_tell, is_value, is_write}
pub use Rattle.sdd_backups.specs.Sends.{all_answered, answered, next_send, next_untold_site, send, untold, unwritten}
pub use Rattle.sdd_backups.specs.Standing.{finished, heir, knows, last, last_of, leads, stopped, value, value_by}
pub use Rattle.sdd_backups.specs.State.{Adds, NoteFits, TakesAct, Tracks, answered_in, arrival_in, greatest, greatest_of, has_stopped, heir_in, is_from_above, knows_in, last_number, last_number_of, may_send, messages_in, next_number_in, next_send_in, note_in, number_after, taken_in, untold_in, value_in}
pub use Rattle.sdd_backups.specs.Steps.{FitAll, FitsAct, arrival, log_after, log_of, log_with_event, note_of}
pub use Rattle.sdd_backups.specs.Stretches.{count_from, every_from, first_from}
pub use Rattle.sdd_backups.specs.declared.act.Act.{Act}
pub use Rattle.sdd_backups.specs.declared.act.Act.TheVariants.{Deliver, Step as Send, Stop as Halt}
pub use Rattle.sdd_backups.specs.declared.message.Message.{Message}
pub use Rattle.sdd_backups.specs.declared.message.Message.TheVariants.{Gone as GONE, Ok as OK, Value as VALUE}
pub use Rattle.sdd_backups.specs.declared.note.Note.{Note}
pub use Rattle.sdd_backups.specs.declared.note.Note.TheVariants.{Dropped, Finish, Gone, Ignored, Nothing, Ok, Stop, Tell, Value, Write}
pub use Rattle.sdd_backups.specs.declared.state.State.{State}
pub use Rattle.sdd_backups.specs.declared.value.Val.{Val}
pub use Rattle.sdd_backups.specs.declared.value.Val.TheVariants.{All, Nought, Unknown}
pub use Rattle.sdd_control.specs.Control.{Follows, Run, run_after, run_of, with_event, written}
pub use Rattle.sdd_control.specs.Draft.{Draft}
pub use Rattle.sdd_control.specs.Faults.{Tells}
pub use Rattle.sdd_control.specs.Keys.{key_of}
pub use Rattle.sdd_control.specs.Laws.{AllWritten, LeaderEnds, NeverUnknown, NoMessages, NoSends, NoneWritten, OneValue}
pub use Rattle.sdd_control.specs.LineRules.{delivery_of, end_of, event_rules, head_of, head_rules, key_rules, most_events, number_within, site_number, site_of, sound_rules, with_act, within, words_rules}
pub use Rattle.sdd_control.specs.Report.{note_lines, site_line, site_lines}
pub use Rattle.sdd_control.specs.Script.{IsSoundScript}
pub use Rattle.sdd_control.specs.Walk.{at_line, control_script, is_ended, one_line, tail_rules, walk_bytes}
pub use Rattle.sdd_control.specs.declared.key.Key.{Key}
pub use Rattle.sdd_control.specs.declared.script.ControlScript.{ControlScript}
pub use Rattle.sdd_control.specs.declared.stage.Head.{Head}
pub use Rattle.sdd_control.specs.declared.stage.Stage.{Stage}
pub use Rattle.sdd_control.specs.declared.stage.Stage.TheVariants.{Ended, Events, First}
pub use Rattle.sdd_script.proofs.lang.catalog.Validity.{not_false}
pub use Rattle.sdd_script.specs.All.{Kept as Live, Word, is_free, is_sound, must, number_of, require, words_of, ◌>>=◌}
pub use Rattle.sdd_script.specs.declared.fault.WorkError.{WorkError}
pub use Rattle.sdd_script.specs.declared.fault.WorkFault.{WorkFault}
pub use Rattle.sdd_script.specs.declared.fault.WorkRule.{WorkRule}
pub use Rattle.sdd_script.specs.declared.fault.WorkRule.TheVariants.{BadLine}
pub use Rattle.std.proofs.Common.{Bool, Err, IfOk, List, None, Option, Result, Some, T, [], ap, append-nil, append_assoc, arith, cond, drop, eq-eqb, eqb-true, false, inl, inr, le-leb, leb→le, length, length-append, lt-ltb, ltb→lt, nat_le, nat_lt, not, refl, subst, suc, sym, true, zero, ℕ, ℤ, ◌&&◌, ◌++◌, ◌+◌, ◌-◌, ◌<◌, ◌==◌, ◌^◌, ◌||◌, ◌∙◌, ◌∷◌, ◌≡◌, ◌≢◌, ◌≤◌, ◌⊎◌}
pub use Rattle.std.proofs.lemmas.Bool.{and_from as and_both, cases_Bool, cases_eq, cases_lt, or_left, or_right}
pub use Rattle.std.proofs.lemmas.Bool.Decides.{nat_tests}
pub use Rattle.std.specs.List.{list_all}
pub use Rattle.std.specs.Str.{is_utf8}
