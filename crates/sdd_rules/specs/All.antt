-- The names of this crate and of those below it that the crates above cite, passed on from one place. Declares nothing.
pub use Rattle.sdd_module.specs.All.{Act, Answer, Ask, Bases, Catalogue, ClassNo, Commit, Condition, D, Database, Delete, Did, DmNo, Does, Done, Entry, Era, FitsCondition, FitsStatement, FitsTxn, FragNo, Handed, Held, IsDatabase, IsEntry, IsSoundCatalogue, IsWhole, Item, Kept, Log, Msg, Notes, Nothing, Null, Put, Query, Reached, Read, Ready, Rec, Records, Redeclared, Reduced, Reject, RelNo, Release, Row, Rows, Sends, Setting, Site, Stmt, Submits, T, Ticked, Ticking, Txn, TxnNo, U, Update, Use, Values, answers_hand, ascending, at_zero, bound_of, class_for, class_no, contains, current_era, dm_no, first_some, fragment_at, fragment_of, fragments_for, fragments_in, hands, has_copy, head_of, is_empty, nothing_noted, number_of, numbers_to, or_else, pushed, read_set, reads_at, restrictions_of, same_site, sends_of_act, statement_uses, submits, tail_of, ticked, time_at, timestamp, txn_no, uses_from, uses_in, uses_of, with_act, with_due_act, with_row}
pub use Rattle.sdd_module.specs.SiteLog.{AreDue, Each, log_after, records_of, records_of_act, sends_of}
pub use Rattle.sdd_module.specs.base.Numbers.{tm_no}
pub use Rattle.sdd_module.specs.base.Sites.{are_linked, links, sites}
pub use Rattle.sdd_module.specs.base.declared.event.Event.{Event}
pub use Rattle.sdd_module.specs.base.declared.event.Event.TheVariants.{Deliver, Down, Lose, Redeclare, Repeat, Resend, Settle, Submit, Tick, Up}
pub use Rattle.sdd_module.specs.base.declared.limits.TheConstants.{MAX_CLASSES, MAX_LINK_MESSAGES, MAX_RUN_EVENTS, MAX_TICKS}
pub use Rattle.sdd_module.specs.base.declared.number.TmNo.{TmNo}
pub use Rattle.sdd_module.specs.catalog.Catalogue.{catalogue_of, class_at, fragment_from, lowest_copy, parts_of, relation_names, writes}
pub use Rattle.sdd_module.specs.catalog.Numbers.{IsPlaced}
pub use Rattle.sdd_module.specs.catalog.Rules.{fragment_rules}
pub use Rattle.sdd_module.specs.catalog.declared.parts.FragmentPart.{FragmentPart}
pub use Rattle.sdd_module.specs.catalog.declared.parts.Parts.{Parts}
pub use Rattle.sdd_module.specs.catalog.declared.resolved.Fragment.{Fragment}
pub use Rattle.sdd_module.specs.history.Records.{History}
pub use Rattle.sdd_module.specs.lang.Classes.{covers, write_set}
pub use Rattle.sdd_module.specs.lang.Condition.{Tuple, part_of}
pub use Rattle.sdd_module.specs.lang.Database.{rows_of}
pub use Rattle.sdd_module.specs.lang.Fits.{IsRelation, rel_of}
pub use Rattle.sdd_module.specs.lang.Query.{product}
pub use Rattle.sdd_module.specs.protocol.Protocols.{IsTable}
pub use Rattle.sdd_module.specs.wire.declared.msg.Msg.TheVariants.{Hold}
pub use Rattle.sdd_rules.specs.attempt.Acts.{attempt_due, commit_act, modules_of, read_to, start_act, use_there, with_frags}
pub use Rattle.sdd_rules.specs.attempt.Attempts.{Attempt, active, active_after, active_handed, active_sent, asks_rows, rejects, started}
pub use Rattle.sdd_rules.specs.attempt.Clocks.{clock, pushed_by, ticked_by}
pub use Rattle.sdd_rules.specs.attempt.Exchange.{Asking, Exchange, Phase, after_hand, after_send, answered, asking_of, askings, begins, counted, counts_for, fetches, fetches_from, first_phase, goes_on, is_over, module_read, move_at, on_answer, phase_ends, send_due, use_at, with_use, without}
pub use Rattle.sdd_rules.specs.attempt.Exchange.Phase.{Fetching, Over, Reading, Reducing, Shipping}
pub use Rattle.sdd_rules.specs.attempt.Fits.{AnswersRead, AwaitsAt, FitsReady, FitsRows, FitsSite, at_site, fetches_use, handed, reduces_use, sent}
pub use Rattle.sdd_rules.specs.attempt.Line.{Line}
pub use Rattle.sdd_rules.specs.attempt.Queues.{Queued, is_for, queue, queue_after, submitted, tried}
pub use Rattle.sdd_rules.specs.attempt.Standings.{or_standing, standing_among, standing_of}
pub use Rattle.sdd_rules.specs.attempt.Starts.{starts_left, work_of}
pub use Rattle.sdd_semijoin.specs.Steps.{Join, Move, better, fewest, is_candidate, joins_from, moves, moves_by, next_move, rows_at}
pub use Rattle.sdd_semijoin.specs.declared.step.Step.{Step}
pub use Rattle.sdd_shipped.specs.Members.{Has}
pub use Rattle.sdd_shipped.specs.Serves.{AreEnough, AreEnoughAlong, IsRowOf, Serves}
pub use Rattle.sdd_shipped.specs.Snapshots.{Shipped, chosen_for, found_for, rows_for}
