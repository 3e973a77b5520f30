-- The names of this crate and of those below it that the crates above cite, passed on from one place. Declares nothing.
pub use Rattle.sdd_needs.specs.AfterEvents.{is_down_after, redeclares_in}
pub use Rattle.sdd_needs.specs.Inputs.{AllFewTicks, FitsInput, FitsText}
pub use Rattle.sdd_needs.specs.Obligations.{IsGood, good_input}
pub use Rattle.sdd_needs.specs.Fitting.{FitsEra, Fitting, FittingSubmit, fits, fits_at, fits_submit, fits_submit_at, fits_tick}
pub use Rattle.sdd_obligations.specs.Stages.{IsStage, agreed, answer_goes, flight, question_goes}
pub use Rattle.sdd_obligations.specs.Turns.{Asks, MayAnswer, Replies, Turn, answers, is_answer, is_question, questions, reads_asked, rows_asked, turn_at, turn_with}
pub use Rattle.sdd_obligations.specs.attempt.Acts.{attempt_due, commit_act, conditions_at, write_to}
pub use Rattle.sdd_obligations.specs.attempt.Attempts.{Attempt, active, active_after, active_handed, active_sent, asks_rows, rejects, started}
pub use Rattle.sdd_obligations.specs.attempt.Clocks.{clock}
pub use Rattle.sdd_obligations.specs.attempt.Exchange.{Asking, Exchange, Fetching, Over, Phase, Reading, Reducing, Shipping, after_hand, after_send, answered, askings, begins, count_of, counted, counts_for, fetches, fetches_from, first_phase, first_send, goes_on, is_over, module_read, move_at, on_answer, phase_ends, reduces, send_due, ships, with_use, without}
pub use Rattle.sdd_obligations.specs.attempt.Fits.{is_read, uses_at}
pub use Rattle.sdd_obligations.specs.attempt.Queues.{Queued, is_for, queue, tried}
pub use Rattle.sdd_obligations.specs.attempt.Standings.{standing_among}
pub use Rattle.sdd_needs.specs.All.{Absent, Standing}
pub use Rattle.sdd_obligations.specs.base.Clock.{bound_of}
pub use Rattle.sdd_obligations.specs.base.Kept.{Kept}
pub use Rattle.sdd_obligations.specs.base.Numbers.{class_no, dm_no, frag_no, rel_no, time_at, tm_no, txn_no}
pub use Rattle.sdd_obligations.specs.base.Order.{with_values}
pub use Rattle.sdd_obligations.specs.base.Sites.{are_linked, links, number_of, same_site, sites}
pub use Rattle.sdd_obligations.specs.base.Words.{ascending, contains, first_some, head_of, is_empty, or_else}
pub use Rattle.sdd_obligations.specs.base.declared.change.Change.{Change}
pub use Rattle.sdd_obligations.specs.base.declared.condition.Cond.{Cond}
pub use Rattle.sdd_obligations.specs.base.declared.event.Event.{Event}
pub use Rattle.sdd_obligations.specs.base.declared.event.Event.TheVariants.{Deliver, Down, Lose, Redeclare, Repeat, Resend, Settle, Submit, Tick, Up}
pub use Rattle.sdd_obligations.specs.base.declared.limits.TheConstants.{MAX_DMS, MAX_LINK_MESSAGES, MAX_RUN_EVENTS, MAX_TMS, MAX_TXNS}
pub use Rattle.sdd_obligations.specs.base.declared.no_memory.NoMemory.{NoMemory}
pub use Rattle.sdd_obligations.specs.base.declared.number.ClassNo.{ClassNo}
pub use Rattle.sdd_obligations.specs.base.declared.number.DmNo.{DmNo}
pub use Rattle.sdd_obligations.specs.base.declared.number.FragNo.{FragNo}
pub use Rattle.sdd_obligations.specs.base.declared.number.RelNo.{RelNo}
pub use Rattle.sdd_obligations.specs.base.declared.number.TmNo.{TmNo}
pub use Rattle.sdd_obligations.specs.base.declared.number.Ts.{Ts}
pub use Rattle.sdd_obligations.specs.base.declared.number.TxnNo.{TxnNo}
pub use Rattle.sdd_obligations.specs.base.declared.reply.Reply.{Reply}
pub use Rattle.sdd_obligations.specs.base.declared.restriction.Op.TheVariants.{Le}
pub use Rattle.sdd_obligations.specs.base.declared.site.Site.{Site}
pub use Rattle.sdd_obligations.specs.base.declared.site.Site.TheVariants.{D, T, U}
pub use Rattle.sdd_obligations.specs.base.declared.usage.Use.{Use}
pub use Rattle.sdd_obligations.specs.base.declared.value.Value.TheVariants.{Int}
pub use Rattle.sdd_obligations.specs.catalog.Catalogue.{Catalogue, class_at, has_copy, numbers_to}
pub use Rattle.sdd_obligations.specs.catalog.Numbers.{IsServedClass, IsWhole}
pub use Rattle.sdd_obligations.specs.catalog.Rules.{IsSoundCatalogue}
pub use Rattle.sdd_obligations.specs.catalog.declared.resolved.Class.{Class}
pub use Rattle.sdd_obligations.specs.catalog.declared.resolved.Fragment.{Fragment}
pub use Rattle.sdd_obligations.specs.class_eras.EraOf.{IsEraOf}
pub use Rattle.sdd_obligations.specs.copy.Contents.{contents}
pub use Rattle.sdd_obligations.specs.copy.Copies.{Represent, is_here}
pub use Rattle.sdd_obligations.specs.dm.Copies.{dated}
pub use Rattle.sdd_obligations.specs.dm.Due.{IsDue, act_by, act_where, answer_of, answer_to, ask_for, by_head, by_open, done_for, due, head_due, holds_back, is_at_least, is_held, is_met, judged, last_write_for, open_due, or_zero, spoils, step_on}
pub use Rattle.sdd_obligations.specs.dm.Opens.{Open, class_asked, is_asked_of, is_number, opens}
pub use Rattle.sdd_obligations.specs.dm.Pipes.{is_processing, is_wait, pipe, waits}
pub use Rattle.sdd_obligations.specs.dm.Views.{ClassView, Home, View, home_of, source_of, view_of}
pub use Rattle.sdd_obligations.specs.dm.Waiting.{IsAwaited}
pub use Rattle.sdd_invariants.specs.All.{Processes}
pub use Rattle.sdd_obligations.specs.graph.Edges.{IsClassOf, IsEdgeOf, ReadsFrom}
pub use Rattle.sdd_obligations.specs.graph.Graph.{classes_of, conflict_graph, diagonal_edges, ends, fragments_of, horizontal_edges, read_node, vertical_edges, write_node}
pub use Rattle.sdd_obligations.specs.graph.declared.edge.Edge.{Edge}
pub use Rattle.sdd_obligations.specs.graph.declared.edge.Edge.TheVariants.{Diagonal, Horizontal, Vertical}
pub use Rattle.sdd_obligations.specs.history.Records.{History}
pub use Rattle.sdd_obligations.specs.history.declared.record.Rec.{Rec}
pub use Rattle.sdd_obligations.specs.history.declared.record.Rec.TheVariants.{Answer, Apply, Arrive, Commit, Nothing, Pass, Reject, Start, Wait}
pub use Rattle.sdd_obligations.specs.invariants.AtT.{IsFairT}
pub use Rattle.sdd_obligations.specs.invariants.AtU.{AllZero, IsChain, IsFairU, IsStepU, StartedHead, starts}
pub use Rattle.sdd_obligations.specs.invariants.Barrier.{IsCommitT, IsHigh, IsLow, u_stamp, zero_cond}
pub use Rattle.sdd_obligations.specs.invariants.Causes.{HasAnswer, IsApplyOf, IsPutAt, IsWriter}
pub use Rattle.sdd_obligations.specs.invariants.Made.{made, with_made}
pub use Rattle.sdd_obligations.specs.invariants.OnLinks.{read_at}
pub use Rattle.sdd_obligations.specs.invariants.Orders.{AllGe, IsRising}
pub use Rattle.sdd_obligations.specs.invariants.Puts.{IsRead}
pub use Rattle.sdd_obligations.specs.invariants.PutsBy.{IsRejectBy}
pub use Rattle.sdd_obligations.specs.invariants.ReadSteps.{IsClassHere, IsDueEach, IsOf, IsOfWrite, IsReadStep, May, by_record, by_wait, in_passing, results, spoiler}
pub use Rattle.sdd_obligations.specs.invariants.Releases.{dones_of, is_done_of}
pub use Rattle.sdd_obligations.specs.invariants.Seen.{IsApplied, all_of, changes_to, class_puts, pipe_at}
pub use Rattle.sdd_obligations.specs.invariants.Steps.{IsFair, bound, home, is_committed, limit_of, modules_asked, next_stamp, queued, start_at, start_read, submits_of}
pub use Rattle.sdd_obligations.specs.invariants.Traffic.{class_in, hands_from, puts_to, to_site}
pub use Rattle.sdd_obligations.specs.invariants.Turns.{is_a_held, is_a_hold, is_a_release, tally}
pub use Rattle.sdd_obligations.specs.invariants.Unspoilt.{spoiling}
pub use Rattle.sdd_obligations.specs.lang.Agree.{rows_in_fragment}
pub use Rattle.sdd_obligations.specs.lang.Classes.{class_for, covers, fragments_in}
pub use Rattle.sdd_obligations.specs.lang.Database.{Row, database_of, item_cmp}
pub use Rattle.sdd_obligations.specs.lang.Effect.{effect}
pub use Rattle.sdd_obligations.specs.lang.Fits.{FitsCondition, FitsQuery, FitsStart, FitsStatement}
pub use Rattle.sdd_obligations.specs.lang.Sound.{IsDatabase, IsEntry, IsHeld, PutsHeld}
pub use Rattle.sdd_obligations.specs.lang.Source.{uses_in}
pub use Rattle.sdd_obligations.specs.lang.Uses.{uses_of}
pub use Rattle.sdd_obligations.specs.lang.declared.condition.Condition.{Condition}
pub use Rattle.sdd_obligations.specs.lang.declared.condition.Condition.TheVariants.{Const, Same}
pub use Rattle.sdd_obligations.specs.lang.declared.effect.Effect.{Effect}
pub use Rattle.sdd_obligations.specs.lang.declared.statement.Stmt.{Stmt}
pub use Rattle.sdd_obligations.specs.lang.declared.statement.Stmt.TheVariants.{Delete, Put, Query, Update}
pub use Rattle.sdd_obligations.specs.lang.declared.transaction.Txn.{Txn}
pub use Rattle.sdd_obligations.specs.laws.Applies.{KeepsApplies}
pub use Rattle.sdd_obligations.specs.laws.Conditions.{IsConditionOf, conditions_of}
pub use Rattle.sdd_obligations.specs.laws.Deeds.{AppliedBefore, ChangesOne, GoesTo, IsSubmitted, StartedBefore}
pub use Rattle.sdd_obligations.specs.laws.Eras.{AreEras, Eras, eras_begun}
pub use Rattle.sdd_obligations.specs.laws.Few.{AreFew, commits_of_others, is_commit_of_other, starts_of}
pub use Rattle.sdd_obligations.specs.laws.Kept.{KeepsLaws}
pub use Rattle.sdd_obligations.specs.laws.Numbers.{NamesOneOf, TxnsExist}
pub use Rattle.sdd_obligations.specs.laws.Redeclares.{IsOfEarlierEra, KeepsEras}
pub use Rattle.sdd_obligations.specs.laws.Rejections.{IsAgain, KeepsRejections}
pub use Rattle.sdd_obligations.specs.laws.Replay.{AreAllApplied, run}
pub use Rattle.sdd_obligations.specs.laws.Snapshots.{copy_at, items_of}
pub use Rattle.sdd_obligations.specs.laws.Starts.{KeepsStarts, is_start_of, starts_before}
pub use Rattle.sdd_obligations.specs.laws.Undeclared.{KeepsUndeclared}
pub use Rattle.sdd_obligations.specs.logs.Due.{does_at, due_by, extended, hand_due, hand_number, hand_on, hand_with, mark_due, next, next_at, next_in, next_number, note_if, site_due}
pub use Rattle.sdd_obligations.specs.logs.Entries.{Does, Entry, Hand, Input, Log, Mark, Notes, Redeclares, Round, Submitted, history, marks, with_event}
pub use Rattle.sdd_obligations.specs.logs.Lawful.{EndsByLimit, IsLawful, IsTheLog, puts_past}
pub use Rattle.sdd_obligations.specs.logs.Locals.{IsEra, beginning, local_of, nth_era, redeclares, rows_of, setting_of, txn_at, with_era, with_submit}
pub use Rattle.sdd_obligations.specs.logs.Left.{after_mark, left, mark_from, mark_of}
pub use Rattle.sdd_obligations.specs.logs.Marks.{bound_at, greatest_bound, next_mark}
pub use Rattle.sdd_obligations.specs.logs.Permitted.{AreSubmittedOnce, IsAllowed, IsPermitted, by_event, by_mark, one_if, submits_by, submits_in}
pub use Rattle.sdd_obligations.specs.logs.Resting.{AllHanded, AllLinked, AtEach, EndsIn, IsFirst, IsLinkOf, IsMarked, IsModuleOf, IsPossible, IsSiteOf, Remain, Rests, TakesAway, TakesRounds, Waits, from_one, settles_before}
pub use Rattle.sdd_obligations.specs.logs.Snapshots.{base_of}
pub use Rattle.sdd_obligations.specs.logs.Spelled.{call_as, delivered_as, link_as, packet_as}
pub use Rattle.sdd_obligations.specs.logs.Traffic.{all_links, calls_of, handed, is_down, link_of, message_at, puts, sent, takes_part}
pub use Rattle.sdd_obligations.specs.net.Links.{Call, Delivers, Link, Loses, Puts, Repeats, Resends, arrives, deliver, delivered, delivery, given_by, in_flight, is_quiet_link, link, lose, newly_delivered, on_link, packet_at, quiet, repeat, resend, resends_now, round, turned, with_flight, with_packet, without_packet}
pub use Rattle.sdd_obligations.specs.net.Mailboxes.{IsBefore, IsLowest, IsSender, IsWithin, Mailbox, OnlyAt, empty_mailbox, kept_count, kept_from, mailbox_at, place_of, queue_at}
pub use Rattle.sdd_obligations.specs.net.Nets.{Directions, HasLink, Represents, index_of, is_link, is_site, sent_on}
pub use Rattle.sdd_obligations.specs.net.declared.delivered.Delivered.{Delivered}
pub use Rattle.sdd_obligations.specs.net.declared.delivered.Delivered.TheVariants.{Acked, Messages}
pub use Rattle.sdd_obligations.specs.net.declared.packet.Packet.{Packet}
pub use Rattle.sdd_obligations.specs.net.declared.packet.Packet.TheVariants.{Ack, Message}
pub use Rattle.sdd_obligations.specs.pipe.Pipe.{Pipe, head, passed, passed_by, put, touches}
pub use Rattle.sdd_obligations.specs.protocol.Conditions.{asked_by, asked_in, asked_on, cond_for, cond_of, condition_on, conditions, is_asked, undeclared_conditions}
pub use Rattle.sdd_obligations.specs.protocol.Protocols.{IsTable, diagonal_protocol, is_vertical_of, protocol_in, same_protocol, vertical_block}
pub use Rattle.sdd_obligations.specs.protocol.declared.protocol.Protocol.{Protocol}
pub use Rattle.sdd_obligations.specs.protocol.declared.protocol.Protocol.TheVariants.{P1, P2, P3}
pub use Rattle.sdd_obligations.specs.semijoin.Steps.{Join, Move, better, fewest, is_candidate, joins_from, moves, moves_by, next_move, rows_at}
pub use Rattle.sdd_obligations.specs.semijoin.declared.step.Step.{Step}
pub use Rattle.sdd_obligations.specs.links.Attempts.{Committed, HasCommit, IsAttempt, IsCommitted, attempt_of, attempts, committed, committed_of, p2_time}
pub use Rattle.sdd_obligations.specs.links.Examples.{row_of}
pub use Rattle.sdd_obligations.specs.links.Numbers.{IsClass, IsFrom1To, IsModule}
pub use Rattle.sdd_obligations.specs.links.Orderable.{IsOrderable}
pub use Rattle.sdd_obligations.specs.serial_orders.Orders.{IsSerial}
pub use Rattle.sdd_obligations.specs.links.Places.{IsRecordAt, event_at, placed}
pub use Rattle.sdd_obligations.specs.links.Precedence.{HasNoCycle, is_apply}
pub use Rattle.sdd_obligations.specs.site_module.SiteLog.{Act, AreDue, Bases, Did, Each, Era, Handed, Records, Redeclared, Sends, Setting, Submits, Ticked, answers_hand, current_era, hands, log_after, records_of, records_of_act, sends_of, sends_of_act}
pub use Rattle.sdd_obligations.specs.tm.Due.{by_ask, exchange_due, held_due, null_at, null_due, null_time, null_to, start_due, start_of}
pub use Rattle.sdd_needs.specs.tm.OpenAsks.{AreOpen, Rise}
pub use Rattle.sdd_obligations.specs.tm.State.{ClassState, state_of}
pub use Rattle.sdd_obligations.specs.tm.Views.{Question, asks, asks_acted, asks_handed, class_view, holds, on_hold, runs}
pub use Rattle.sdd_obligations.specs.umod.Due.{by_exchange, by_hold, by_release, by_start, hold_to}
pub use Rattle.sdd_obligations.specs.umod.Standing.{standing_in}
pub use Rattle.sdd_obligations.specs.umod.Views.{Served, TmCounts, counts, counts_acted, last_served, served_handed, ts_of}
pub use Rattle.sdd_obligations.specs.wire.Fits.{FitsMsg}
pub use Rattle.sdd_obligations.specs.wire.Piped.{goes_through, time_of}
pub use Rattle.sdd_obligations.specs.wire.Reading.{message_in}
pub use Rattle.sdd_obligations.specs.wire.Spelling.{spelled}
pub use Rattle.sdd_obligations.specs.wire.declared.msg.Msg.{Msg}
pub use Rattle.sdd_obligations.specs.wire.declared.msg.Msg.TheVariants.{Ask, Done, Fetch, Held, Hold, Null, Read, Ready, Reduce, Reduced, Release, Rows, Ship, Values, Write}
pub use Rattle.sdd_obligations.specs.wire.declared.outcome.Outcome.{Outcome}
