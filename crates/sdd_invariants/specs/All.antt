-- The names of this crate and of those below it that the crates above cite, passed on from one place. Declares nothing.
pub use Rattle.sdd_invariants.specs.AtT.{HoldRule, IsFairT}
pub use Rattle.sdd_invariants.specs.AtU.{IsFairU, IsStepU, starts, starts_more}
pub use Rattle.sdd_invariants.specs.Barrier.{HasApply, IsHoldChain, start_u, u_stamp}
pub use Rattle.sdd_invariants.specs.Causes.{HasAnswer, IsApplyOf, IsBased, IsPutAt, IsReadOf}
pub use Rattle.sdd_invariants.specs.Made.{given_to, handed_by, made, made_by_mark, put_by, redeclared_entry, with_made}
pub use Rattle.sdd_invariants.specs.OfRecords.{AllCommitted, IsCommitRecord, IsStartOf, IsStartRecord, NoRecord, is_recorded}
pub use Rattle.sdd_invariants.specs.OnLinks.{read_at, reads_in, write_at}
pub use Rattle.sdd_invariants.specs.Orders.{AllGe, AllGt, AllLe, AllLt, IsRising, IsStrict}
pub use Rattle.sdd_invariants.specs.Puts.{IsPutBy, IsRead, IsWrite}
pub use Rattle.sdd_invariants.specs.PutsBy.{IsAskBy, IsDoneBy, IsFetch, IsPutByD, IsReadyBy, IsReduce, IsRejectBy, IsShip, WasAsked}
pub use Rattle.sdd_invariants.specs.ReadSteps.{IsClassHere, IsDueEach, IsOf, IsOfWrite, IsReadStep, May, by_record, by_wait, in_passing, is_moving, results, spoiler}
pub use Rattle.sdd_invariants.specs.Readied.{AllReadied}
pub use Rattle.sdd_invariants.specs.Releases.{dones_of, is_done_of}
pub use Rattle.sdd_invariants.specs.Seen.{IsAnswerWith, IsApplied, all_of, changes_to, class_puts, pipe_at}
pub use Rattle.sdd_invariants.specs.Stamps.{stamp_or}
pub use Rattle.sdd_invariants.specs.Steps.{IsFair, IsNew, IsSend, IsServed, IsStep, a_held, a_hold, a_null, a_release, bound, changes_at, commit_more, home, is_committed, is_reading, last_stamp, limit_of, modules_asked, next_stamp, of_exchange, promises, queued, stamps, start_at, start_more, start_read, starts_of, submits_of}
pub use Rattle.sdd_invariants.specs.Traffic.{hands_from, puts_to, times_in, to_site}
pub use Rattle.sdd_invariants.specs.Turns.{NoneHold, is_a_held, is_a_hold, is_a_release, one_if, tally}
pub use Rattle.sdd_invariants.specs.attempt.Acts.{attempt_due, commit_act, conditions_at, modules_of, p2_of, start_act, use_there, with_frags, write_to}
pub use Rattle.sdd_invariants.specs.attempt.Attempts.{Attempt, active, active_handed, active_sent, asks_rows, rejects, started}
pub use Rattle.sdd_invariants.specs.attempt.Clocks.{clock, pushed_by, ticked_by}
pub use Rattle.sdd_invariants.specs.attempt.Exchange.{Asking, Exchange, Fetching, Over, Phase, Reading, Reducing, Shipping, after_hand, after_send, answered, begins, counted, counts_for, fetches, fetches_from, first_phase, first_send, goes_on, is_over, module_read, move_at, on_answer, phase_ends, reduces, send_due, ships, to_all, with_use, without}
pub use Rattle.sdd_invariants.specs.attempt.Fits.{AnswersRead, Awaits, AwaitsAt, FitsReady, FitsRows, FitsSite, ServesIfLast, at_site, fetches_use, is_read, is_shipping, is_verdict, numbers_of, reduces_use, uses_asked, uses_at, uses_read}
pub use Rattle.sdd_invariants.specs.attempt.Queues.{Queued, is_for, queue, submitted, tried}
pub use Rattle.sdd_log.specs.attempt.Acts.{AreThere}
pub use Rattle.sdd_invariants.specs.attempt.Starts.{work_of}
pub use Rattle.sdd_invariants.specs.base.Clock.{Ticking, bound_of, ticked, timestamp}
pub use Rattle.sdd_invariants.specs.base.Numbers.{class_no, dm_no, frag_no, time_at, tm_no, txn_no}
pub use Rattle.sdd_invariants.specs.base.Order.{column, with_values}
pub use Rattle.sdd_invariants.specs.base.Sites.{are_linked, links, number_of, same_site, sites}
pub use Rattle.sdd_invariants.specs.base.Words.{ascending, contains, first_some, head_of, or_else, tail_of}
pub use Rattle.sdd_invariants.specs.base.declared.change.Change.{Change}
pub use Rattle.sdd_invariants.specs.base.declared.condition.Cond.{Cond}
pub use Rattle.sdd_invariants.specs.base.declared.event.Event.{Event}
pub use Rattle.sdd_invariants.specs.base.declared.event.Event.TheVariants.{Deliver, Down, Lose, Redeclare, Repeat, Resend, Settle, Submit, Tick, Up}
pub use Rattle.sdd_invariants.specs.base.declared.limits.TheConstants.{MAX_CLASSES, MAX_DMS, MAX_EVENTS, MAX_LINK_MESSAGES, MAX_RUN_EVENTS, MAX_TICKS, MAX_TMS}
pub use Rattle.sdd_invariants.specs.base.declared.number.ClassNo.{ClassNo}
pub use Rattle.sdd_invariants.specs.base.declared.number.DmNo.{DmNo}
pub use Rattle.sdd_invariants.specs.base.declared.number.FragNo.{FragNo}
pub use Rattle.sdd_invariants.specs.base.declared.number.RelNo.{RelNo}
pub use Rattle.sdd_invariants.specs.base.declared.number.TmNo.{TmNo}
pub use Rattle.sdd_invariants.specs.base.declared.number.Ts.{Ts}
pub use Rattle.sdd_invariants.specs.base.declared.number.TxnNo.{TxnNo}
pub use Rattle.sdd_invariants.specs.base.declared.reply.Reply.{Reply}
pub use Rattle.sdd_invariants.specs.base.declared.restriction.Restriction.{Restriction}
pub use Rattle.sdd_invariants.specs.base.declared.site.Site.{Site}
pub use Rattle.sdd_invariants.specs.base.declared.site.Site.TheVariants.{D, T, U}
pub use Rattle.sdd_invariants.specs.base.declared.usage.Use.{Use}
pub use Rattle.sdd_invariants.specs.base.declared.value.Value.{Value}
pub use Rattle.sdd_invariants.specs.catalog.Catalogue.{Catalogue, class_at, fragment_at, fragment_of, has_copy, lowest_copy, numbers_to, reads_at}
pub use Rattle.sdd_invariants.specs.catalog.Numbers.{IsPlaced, IsServedClass, IsWhole}
pub use Rattle.sdd_invariants.specs.catalog.Rules.{IsSoundCatalogue}
pub use Rattle.sdd_invariants.specs.catalog.declared.resolved.Class.{Class}
pub use Rattle.sdd_invariants.specs.catalog.declared.resolved.Fragment.{Fragment}
pub use Rattle.sdd_invariants.specs.dm.Copies.{all_held, applied, applied_acted, changes_in, copies, dated, first_row, first_rows, frozen, frozen_at, frozen_handed, given_up, is_answer, is_apply, reduced_at, rows_held}
pub use Rattle.sdd_invariants.specs.dm.Due.{IsDue, act_by, act_where, answer_of, answer_to, ask_for, by_head, by_open, done_for, head_due, head_step, is_held, is_met, judge, judged, last_write_for, open_due, or_zero, spoils, step_on}
pub use Rattle.sdd_invariants.specs.dm.Fits.{AreFor, Ascend, FitsChange, FitsClass, FitsCond, FitsPipe, FitsShip, FitsStep, HaveUse, IsClass, IsHere, StartsAbove, fits, last_time, with_time, write_time_of, write_times}
pub use Rattle.sdd_invariants.specs.dm.Opens.{Open, class_asked, is_asked_of, is_number, is_read_of, opens, opens_acted, opens_handed}
pub use Rattle.sdd_invariants.specs.dm.Pipes.{is_processing, is_wait, pipe, pipe_acted, waits}
pub use Rattle.sdd_invariants.specs.dm.Views.{ClassView, Home, View, at_class, dated_in, home_of, source_of, view_of}
pub use Rattle.sdd_log.specs.All.{Processes}
pub use Rattle.sdd_log.specs.site_rules.declared.step.Step.TheVariants.{Refuses, Waits}
pub use Rattle.sdd_invariants.specs.graph.Graph.{classes_of, fragments_of}
pub use Rattle.sdd_invariants.specs.graph.declared.edge.Edge.{Edge}
pub use Rattle.sdd_invariants.specs.graph.declared.edge.Edge.TheVariants.{Diagonal, Horizontal, Vertical}
pub use Rattle.sdd_invariants.specs.history.Records.{History}
pub use Rattle.sdd_invariants.specs.history.declared.record.Rec.{Rec}
pub use Rattle.sdd_invariants.specs.history.declared.record.Rec.TheVariants.{Answer, Apply, Arrive, Commit, Nothing, Pass, Start, Wait}
pub use Rattle.sdd_invariants.specs.lang.Agree.{rows_in_fragment}
pub use Rattle.sdd_invariants.specs.lang.Changes.{HasRow, IsChange}
pub use Rattle.sdd_invariants.specs.lang.Classes.{class_for, covers, fragments_in}
pub use Rattle.sdd_invariants.specs.lang.Database.{Database, Item, Row, database_of, item_cmp, key_in}
pub use Rattle.sdd_invariants.specs.lang.Effect.{Changed, change_of, effect}
pub use Rattle.sdd_invariants.specs.lang.Fits.{FitsRow, FitsStart, FitsStatement, FitsTxn, IsRelation}
pub use Rattle.sdd_invariants.specs.lang.Sound.{IsDatabase, IsEntry, IsHeld, PutsHeld}
pub use Rattle.sdd_invariants.specs.lang.Update.{in_range}
pub use Rattle.sdd_invariants.specs.lang.Uses.{fragments_for, part_uses, restrictions_of, statement_uses, use_of, uses_from, uses_of}
pub use Rattle.sdd_invariants.specs.lang.declared.condition.Condition.{Condition}
pub use Rattle.sdd_invariants.specs.lang.declared.effect.Effect.{Effect}
pub use Rattle.sdd_invariants.specs.lang.declared.statement.Stmt.{Stmt}
pub use Rattle.sdd_invariants.specs.lang.declared.statement.Stmt.TheVariants.{Delete, Put, Query, Update}
pub use Rattle.sdd_invariants.specs.lang.declared.transaction.Txn.{Txn}
pub use Rattle.sdd_invariants.specs.logs.Due.{does_at, due_by, hand_due, hand_number, hand_on, hand_with, mark_due, next, next_at, next_number, note_if, site_due}
pub use Rattle.sdd_invariants.specs.logs.Entries.{Does, Entry, Hand, Input, Log, Mark, Notes, Redeclares, Round, Submitted, history, marks, with_event}
pub use Rattle.sdd_invariants.specs.logs.Lawful.{EndsByLimit, IsLawful, IsTheLog, IsWithin, is_past, puts_past}
pub use Rattle.sdd_invariants.specs.logs.Locals.{IsEra, beginning, local_of, nth_era, redeclares, rows_of, setting_of, txn_at, with_era, with_submit, with_tick}
pub use Rattle.sdd_invariants.specs.logs.Left.{after_mark, left, mark_from, mark_of}
pub use Rattle.sdd_invariants.specs.logs.Marks.{bound_at, from_event, greatest_bound, next_mark}
pub use Rattle.sdd_invariants.specs.logs.Permitted.{AreSubmittedOnce, IsAllowed, IsDueAt, IsPermitted, by_event, by_link, by_mark, by_redeclare, by_round, by_site, submits_by, submits_in, was_marked}
pub use Rattle.sdd_invariants.specs.logs.Resting.{AllLinked, AtEach, IsSiteOf}
pub use Rattle.sdd_invariants.specs.logs.Snapshots.{base_of, frags_asked, is_at, items_of, snapshots, snapshots_at, with_item}
pub use Rattle.sdd_invariants.specs.logs.Traffic.{all_links, calls_of, handed, is_down, link_of, message_at, puts, sent, takes_part, turned_by}
pub use Rattle.sdd_invariants.specs.net.Links.{Call, Link, Puts, delivered, in_flight, link, quiet, resends_now, round, turned}
pub use Rattle.sdd_invariants.specs.net.Nets.{is_link, is_site}
pub use Rattle.sdd_invariants.specs.pipe.Pipe.{Pipe, greatest, head, head_processed, one_or_none, put, raised, touches, write_time}
pub use Rattle.sdd_invariants.specs.protocol.Conditions.{asked_by, asked_in, asked_on, cond_for, cond_of, condition_on, conditions, is_asked, is_read_at, undeclared_conditions}
pub use Rattle.sdd_invariants.specs.protocol.Protocols.{IsTable, same_protocol}
pub use Rattle.sdd_invariants.specs.protocol.declared.protocol.Protocol.{Protocol}
pub use Rattle.sdd_invariants.specs.protocol.declared.protocol.Protocol.TheVariants.{P2, P3}
pub use Rattle.sdd_invariants.specs.semijoin.Steps.{Move, next_move}
pub use Rattle.sdd_invariants.specs.semijoin.declared.step.Step.{Step}
pub use Rattle.sdd_invariants.specs.site_module.SiteLog.{Act, Bases, Did, Each, Era, Handed, Records, Redeclared, Sends, Setting, Submits, Ticked, answers_hand, current_era, hands, records_of_act, sends_of_act, submits}
pub use Rattle.sdd_invariants.specs.tm.Due.{by_ask, by_exchange, by_hold, by_start, exchange_due, null_at, null_time, null_to, start_due, start_of}
pub use Rattle.sdd_invariants.specs.tm.Fits.{FitsHold, FitsRelease}
pub use Rattle.sdd_invariants.specs.tm.Views.{HoldCounts, Question, asks, asks_acted, asks_handed, class_view, holds, holds_acted, on_hold, runs}
pub use Rattle.sdd_invariants.specs.umod.Due.{by_release, hold_due, hold_to, release_due}
pub use Rattle.sdd_invariants.specs.umod.Fits.{FitsDone, FitsHeldFrom, is_done}
pub use Rattle.sdd_invariants.specs.umod.Views.{Served, TmCounts, counts, last_served, served_acted, served_handed, ts_of}
pub use Rattle.sdd_invariants.specs.wire.Piped.{class_is, goes_through, piped, time_in, time_of}
pub use Rattle.sdd_invariants.specs.wire.declared.msg.Msg.{Msg}
pub use Rattle.sdd_invariants.specs.wire.declared.msg.Msg.TheVariants.{Ask, Done, Fetch, Held, Hold, Null, Read, Ready, Reduce, Reduced, Reject, Release, Rows, Ship, Values, Write}
