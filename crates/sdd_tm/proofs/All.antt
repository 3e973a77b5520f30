-- The names of std, of the crates below and of this crate's definitions that its proofs cite. Declares nothing.
pub use Rattle.sdd_asks.proofs.rules.attempt.Lists.{few_filtered as shorter}
pub use Rattle.sdd_asks.proofs.rules.attempt.Modules.{start_modules}
pub use Rattle.sdd_asks.proofs.rules.shipped.Members.{Has-filter_map_from, Has-flat_map_from, Has-map_from}
pub use Rattle.sdd_asks.proofs.rules.shipped.Serving.{each_has}
pub use Rattle.sdd_asks.proofs.rules.tm.Lists.{first_at, get_map, get_set_other, get_within, map_is_set, map_same, none_first, of_map, only_first, some_is}
pub use Rattle.sdd_asks.proofs.rules.tm.OpenAsks.{open_did, open_handed}
pub use Rattle.sdd_asks.specs.Asks.{without_first}
pub use Rattle.sdd_asks.specs.rules.All.{Act, AreEnough, AreEnoughAlong, Ask, Attempt, Bases, Catalogue, ClassNo, Condition, D, Database, Delete, Did, Does, Era, Exchange, FitsCondition, FitsSite, FitsStatement, FitsTxn, FragNo, Handed, Has, Held, Hold, IsDatabase, IsEntry, IsRelation, IsSoundCatalogue, IsWhole, Item, Kept, Line, Log, Msg, Notes, Null, Put, Query, Queued, Ready, Rec, Records, Redeclared, Reduced, Reject, RelNo, Release, Row, Rows, Sends, Serves, Setting, Site, Stmt, Submits, T, Ticked, Ticking, TmNo, Tuple, Txn, TxnNo, U, Update, Use, Values, active, active_after, active_handed, active_sent, after_hand, ascending, asks_rows, attempt_due, begins, bound_of, class_at, class_for, class_no, clock, commit_act, contains, covers, current_era, dm_no, first_some, fragment_of, fragments_for, fragments_in, handed, hands, head_of, is_empty, is_for, modules_of, nothing_noted, numbers_to, or_else, or_standing, part_of, product, pushed, pushed_by, queue, queue_after, read_set, reads_at, records_of, rejects, rel_of, restrictions_of, rows_of, send_due, sends_of_act, sent, standing_among, standing_of, start_act, started, starts_left, statement_uses, submits, ticked, ticked_by, time_at, timestamp, tried, uses_from, uses_in, uses_of, with_act, with_due_act, work_of, write_set, writes}
pub use Rattle.sdd_asks.specs.rules.declared.asked.Asked.{Asked}
pub use Rattle.sdd_asks.specs.rules.declared.standing.Standing.TheVariants.{Absent}
pub use Rattle.sdd_asks.specs.rules.declared.standing.Standing.{Standing}
pub use Rattle.sdd_asks.specs.rules.tm.Due.{exchange_due, held_due, next, null_at, null_due, null_time, null_to, start_due}
pub use Rattle.sdd_asks.specs.rules.tm.Fits.{FitsSubmit, fits, fits_kind}
pub use Rattle.sdd_asks.specs.rules.tm.OpenAsks.{Rise}
pub use Rattle.sdd_asks.specs.rules.tm.State.{ClassState, State, asked, asks_of, class_of, state_of}
pub use Rattle.sdd_asks.specs.rules.tm.Views.{ClassView, HoldCounts, Question, View, asks, asks_acted, class_view, holds, holds_acted, holds_handed, on_hold, runs, view_of}
pub use Rattle.sdd_attempt.proofs.LineActs.{all_up_of, asking_of, left_is_few, new_in_queue, no_read_asked, record_in, resting, served_sent, starts_committed, starts_sent, starts_started}
pub use Rattle.sdd_attempt.proofs.LineSteps.{commits, has_to_send, none_due}
pub use Rattle.sdd_attempt.proofs.QuestionsOfAttempt.{NoReads}
pub use Rattle.sdd_attempt.proofs.Served.{served_handed}
pub use Rattle.sdd_attempt.proofs.SoundLines.{IsApart, IsRequest, active_apart, asks_apart, commit_no_reads, line_apart, line_committed, line_elsewhere, line_handed, line_redeclared, line_sent, line_started, line_submitted, line_ticked, own_class as own_record, queue_apart, request_of, sent_apart, start_is_up, start_no_reads}
pub use Rattle.sdd_attempt.proofs.Stamps.{stamped_did, stamped_still}
pub use Rattle.sdd_attempt.proofs.Tries.{tries_are_kept}
pub use Rattle.sdd_attempt.proofs.Waiting.{few_waiting}
pub use Rattle.sdd_attempt.proofs.graph.Lists.{range_more as range_push}
pub use Rattle.sdd_attempt.proofs.lang.Pushdown.{meets_restrictions, parts_meet}
pub use Rattle.sdd_attempt.proofs.lang.ReadSetDecides.{ascending_back, lies_in_use}
pub use Rattle.sdd_attempt.proofs.lang.Sources.{length-statement_uses}
pub use Rattle.sdd_attempt.proofs.site_module.Does.{DoesMore, all_noted, does_from}
pub use Rattle.sdd_attempt.proofs.site_module.Making.{made_more, made_nothing}
pub use Rattle.sdd_attempt.proofs.site_module.lang.ReadSetDecides.{each_both as all_parts}
pub use Rattle.sdd_attempt.specs.All.{AllUpTo, AreTried, FitsAnswer, IsAwaited, IsLineOf, IsOfHead, IsServed, IsWaiting, ServesAt, commit_next, line_after, line_done, line_step, send_next, start_next}
pub use Rattle.sdd_attempt.specs.history.declared.record.Rec.TheVariants.{Submit}
pub use Rattle.sdd_attempt.specs.running.declared.step.LineStep.TheVariants.{Commits as ToCommit, Sends as ToSend}
pub use Rattle.sdd_attempt.specs.running.declared.step.LineStep.{LineStep}
pub use Rattle.sdd_eras.proofs.EraSets.{read_in_era, uses_in_era}
pub use Rattle.sdd_eras.specs.EraOf.{IsEraOf}
pub use Rattle.sdd_tm.specs.Handing.{all_places, ask_handed, class_given, class_handed, class_named, every_place, hold_handed, one_place, owed_handed, place_of, push_of, state_given, state_handed, touched, touched_by, with_hold_message}
pub use Rattle.sdd_tm.specs.Represents.{AreApart, AreSettled, InTurn, IsAmid, IsCalm, IsKept, IsSettingOf, IsSoundLog, Queues, Represents, all_starts}
pub use Rattle.sdd_tm.specs.Steps.{act_of, after_held, after_held_act, answer_time, answer_to, asks_done, can_answer, class_done, class_step, held_of, is_idle, of_line, own_step, start_step, state_done, step_at}
pub use Rattle.sdd_tm.specs.Work.{work, work_in}
pub use Rattle.sdd_tm.specs.Works.{Works, classes_of, first_class, first_state}
pub use Rattle.sdd_tm.specs.declared.places.Places.{Places}
pub use Rattle.sdd_tm.specs.declared.step.Step.TheVariants.{Answer, Commit, Send, Start}
pub use Rattle.sdd_tm.specs.declared.step.Step.{Step}
pub use Rattle.std.proofs.Common.{Bool, Err, IsTrue, List, None, Ok, OnOk, Option, Result, Some, [], add-one, ap, append-nil, arith, cond, drop, eq-eqb, eqb-true, false, filter, filter_map, find, if◌then◌else◌, is_none, is_some, le-ltb, length, ltb-true, map, nat_lt, ne_eqb, not, option_map, refl, rules, slice_get, slice_index_or, slice_set, subst, suc, sym, true, unwrap_or, zero, ℕ, ◌&&◌, ◌*◌, ◌++◌, ◌+◌, ◌-◌, ◌/◌, ◌<◌, ◌==◌, ◌^◌, ◌||◌, ◌∙◌, ◌∷◌, ◌≡◌, ◌≢◌, ◌≤◌}
pub use Rattle.std.proofs.lemmas.Bool.{and_parts, and_right, eqb-false, false≢true, or_parts}
pub use Rattle.std.proofs.lemmas.Iterator.Adapters.{position_from-zero}
pub use Rattle.std.proofs.lemmas.List.Elements.{filter-append, recursion_from_All}
pub use Rattle.std.proofs.lemmas.List.FromFn.{length-range_with_len as length_range}
pub use Rattle.std.proofs.lemmas.List.{length-map, map-append}
pub use Rattle.std.proofs.lemmas.Simd.{map-map as map_map}
pub use Rattle.std.specs.List.{AllByRecursion, list_all, list_any, position_from, range_with_len}
