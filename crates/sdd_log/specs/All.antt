-- The names of this crate and of those below it that the crates above cite, passed on from one place. Declares nothing.
pub use Rattle.sdd_log.specs.Due.{due_by, extended, mark_due, next, note_if}
pub use Rattle.sdd_log.specs.Entries.{Does, Hand, Input, Log, Mark, Notes, Redeclares, Round, Submitted, history, marks}
pub use Rattle.sdd_log.specs.Locals.{local_of, nth_era, redeclares, setting_of, txn_at, with_era, with_submit}
pub use Rattle.sdd_log.specs.Permitted.{IsAllowed, IsPermitted, by_event, by_link, by_mark, by_redeclare, by_round, by_site, is_new_mark, was_marked}
pub use Rattle.sdd_log.specs.Snapshots.{base_of}
pub use Rattle.sdd_log.specs.Traffic.{calls_of, handed, link_of, message_at, puts, sent, takes_part}
pub use Rattle.sdd_log.specs.attempt.Acts.{attempt_due, commit_act, modules_of, p2_of, read_to, start_act, write_to}
pub use Rattle.sdd_log.specs.attempt.Attempts.{Attempt, active, active_after, active_handed, active_sent, asks_rows, rejects, started}
pub use Rattle.sdd_log.specs.attempt.Clocks.{clock, pushed_by, ticked_by}
pub use Rattle.sdd_log.specs.attempt.Exchange.{Asking, Exchange, Fetching, Over, Phase, Reading, Reducing, Shipping, after_hand, after_send, answered, begins, counted, counts_for, fetches, fetches_from, first_phase, first_send, goes_on, is_over, module_read, move_at, phase_ends, reduces, ships, to_all, with_use, without}
pub use Rattle.sdd_log.specs.attempt.Queues.{Queued, is_for, queue, tried}
pub use Rattle.sdd_log.specs.base.Clock.{Ticking, bound_of, ticked, timestamp}
pub use Rattle.sdd_log.specs.base.Numbers.{class_no, dm_no, frag_no, rel_no, time_at, tm_no, txn_no}
pub use Rattle.sdd_log.specs.base.Order.{with_values}
pub use Rattle.sdd_log.specs.base.Sites.{number_of, same_site}
pub use Rattle.sdd_log.specs.base.Words.{ascending, contains, head_of, is_empty, or_else, tail_of}
pub use Rattle.sdd_log.specs.base.declared.change.Change.{Change}
pub use Rattle.sdd_log.specs.base.declared.condition.Cond.{Cond}
pub use Rattle.sdd_log.specs.base.declared.event.Event.{Event}
pub use Rattle.sdd_log.specs.base.declared.event.Event.TheVariants.{Deliver, Down, Lose, Redeclare, Repeat, Resend, Settle, Submit, Tick, Up}
pub use Rattle.sdd_log.specs.base.declared.number.ClassNo.{ClassNo}
pub use Rattle.sdd_log.specs.base.declared.number.DmNo.{DmNo}
pub use Rattle.sdd_log.specs.base.declared.number.FragNo.{FragNo}
pub use Rattle.sdd_log.specs.base.declared.number.TmNo.{TmNo}
pub use Rattle.sdd_log.specs.base.declared.number.Ts.{Ts}
pub use Rattle.sdd_log.specs.base.declared.number.TxnNo.{TxnNo}
pub use Rattle.sdd_log.specs.base.declared.reply.Reply.TheVariants.{Overflow, Rows}
pub use Rattle.sdd_log.specs.base.declared.restriction.Op.TheVariants.{Eq, Ge, Gt, Le, Lt}
pub use Rattle.sdd_log.specs.base.declared.site.Site.{Site}
pub use Rattle.sdd_log.specs.base.declared.site.Site.TheVariants.{D, T, U}
pub use Rattle.sdd_log.specs.base.declared.usage.Use.{Use}
pub use Rattle.sdd_log.specs.base.declared.value.Value.{Value}
pub use Rattle.sdd_log.specs.base.declared.value.Value.TheVariants.{Int}
pub use Rattle.sdd_log.specs.catalog.Catalogue.{Catalogue, class_at, has_copy, numbers_to, reads_at}
pub use Rattle.sdd_log.specs.catalog.Eras.{eras, whole}
pub use Rattle.sdd_log.specs.catalog.declared.resolved.Class.{Class}
pub use Rattle.sdd_log.specs.dm.Copies.{classes_of, counts_held, frozen_at}
pub use Rattle.sdd_log.specs.dm.Due.{IsDue, act_by, act_where, answer_of, answer_to, ask_for, by_head, by_open, head_due, holds_back, is_at_least, is_held, is_met, judged, last_write_for, or_zero, spoils, step_on}
pub use Rattle.sdd_log.specs.dm.Opens.{Open, class_asked, is_asked_of, opens, opens_acted}
pub use Rattle.sdd_log.specs.dm.Pipes.{is_processing, is_wait, pipe, pipe_acted, waits}
pub use Rattle.sdd_log.specs.dm.Views.{ClassView, Home, View, at_class, class_view, dated_in, home_of, source_of, view_of}
pub use Rattle.sdd_rules.specs.declared.step.Step.TheVariants.{Processes}
pub use Rattle.sdd_log.specs.history.declared.record.Rec.{Rec}
pub use Rattle.sdd_log.specs.history.declared.record.Rec.TheVariants.{Answer, Apply, Arrive, Commit, Nothing, Pass, Start, Wait}
pub use Rattle.sdd_log.specs.lang.Classes.{fragments_in}
pub use Rattle.sdd_log.specs.lang.Effect.{effect}
pub use Rattle.sdd_log.specs.lang.Uses.{uses_of}
pub use Rattle.sdd_log.specs.lang.declared.assign.Assign.TheVariants.{Add}
pub use Rattle.sdd_log.specs.lang.declared.condition.Condition.TheVariants.{Const, Same}
pub use Rattle.sdd_log.specs.lang.declared.statement.Stmt.TheVariants.{Delete, Put, Query, Update}
pub use Rattle.sdd_log.specs.lang.declared.transaction.Txn.{Txn}
pub use Rattle.sdd_log.specs.net.Links.{Call, Delivers, Link, Loses, Puts, Repeats, Resends, arrives, deliver, delivered, link, lose, on_link, packet_at, repeat, resend, turned, with_packet, without_packet}
pub use Rattle.sdd_log.specs.net.declared.packet.Packet.{Packet}
pub use Rattle.sdd_log.specs.net.declared.packet.Packet.TheVariants.{Ack, Message}
pub use Rattle.sdd_log.specs.pipe.Pipe.{Pipe, empty_pipe, greatest, head, head_processed, last_write, one_or_none, passed, passed_by, put, raised, touches, write_time}
pub use Rattle.sdd_log.specs.protocol.Conditions.{cond_of, undeclared_conditions}
pub use Rattle.sdd_log.specs.protocol.declared.protocol.Protocol.TheVariants.{P1, P2, P3}
pub use Rattle.sdd_log.specs.site_module.SiteLog.{Act, Bases, Did, Each, Entry, Era, Handed, Records, Redeclared, Sends, Setting, Submits, Ticked, current_era, hands, sends_of_act, submits}
pub use Rattle.sdd_log.specs.tm.Due.{by_ask, exchange_due, null_at}
pub use Rattle.sdd_log.specs.tm.Views.{HoldCounts, Question, holds, holds_acted, holds_handed, is_idle, on_hold, runs}
pub use Rattle.sdd_log.specs.umod.Due.{by_exchange, by_hold, by_release, by_start, hold_due, hold_to, is_holding, release_due, start_of}
pub use Rattle.sdd_log.specs.umod.Views.{Served, TmCounts, counts, counts_acted, counts_handed, last_served, served_handed, ts_of}
pub use Rattle.sdd_log.specs.wire.Piped.{class_is, goes_through, piped, time_in, time_of}
pub use Rattle.sdd_log.specs.wire.declared.msg.Msg.{Msg}
pub use Rattle.sdd_log.specs.wire.declared.msg.Msg.TheVariants.{Ask, Done, Fetch, Held, Hold, Null, Read, Ready, Reduce, Reduced, Reject, Release, Ship, Values, Write}
