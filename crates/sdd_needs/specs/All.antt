-- The names of this crate and of those below it that the crates above cite, passed on from one place. Declares nothing.
pub use Rattle.sdd_needs.specs.AfterEvents.{redeclares_in}
pub use Rattle.sdd_needs.specs.Fitting.{FitsEra, Fitting, FittingSubmit, fits, fits_at, fits_submit, fits_submit_at, fits_tick}
pub use Rattle.sdd_needs.specs.Obligations.{IsGood, good_input}
pub use Rattle.sdd_needs.specs.attempt.Clocks.{clock}
pub use Rattle.sdd_needs.specs.attempt.Fits.{FitsSite}
pub use Rattle.sdd_needs.specs.attempt.Standings.{standing_among}
pub use Rattle.sdd_log.specs.site_rules.declared.standing.Standing.TheVariants.{Absent}
pub use Rattle.sdd_log.specs.site_rules.declared.standing.Standing.{Standing}
pub use Rattle.sdd_needs.specs.base.Clock.{bound_of}
pub use Rattle.sdd_needs.specs.base.Kept.{Kept}
pub use Rattle.sdd_needs.specs.base.Numbers.{dm_no, frag_no, tm_no}
pub use Rattle.sdd_needs.specs.base.Sites.{links, number_of, same_site, sites}
pub use Rattle.sdd_needs.specs.base.Words.{head_of, is_empty}
pub use Rattle.sdd_needs.specs.base.declared.condition.Cond.{Cond}
pub use Rattle.sdd_needs.specs.base.declared.event.Event.TheVariants.{Deliver, Down, Lose, Redeclare, Repeat, Resend, Settle, Submit, Tick, Up}
pub use Rattle.sdd_needs.specs.base.declared.event.Event.{Event}
pub use Rattle.sdd_needs.specs.base.declared.limits.TheConstants.{MAX_DMS, MAX_LINK_MESSAGES, MAX_RUN_EVENTS, MAX_TMS}
pub use Rattle.sdd_needs.specs.base.declared.no_memory.NoMemory.{NoMemory}
pub use Rattle.sdd_needs.specs.base.declared.number.DmNo.{DmNo}
pub use Rattle.sdd_needs.specs.base.declared.number.RelNo.{RelNo}
pub use Rattle.sdd_needs.specs.base.declared.number.TmNo.{TmNo}
pub use Rattle.sdd_needs.specs.base.declared.number.TxnNo.{TxnNo}
pub use Rattle.sdd_needs.specs.base.declared.site.Site.TheVariants.{D, T, U}
pub use Rattle.sdd_needs.specs.base.declared.site.Site.{Site}
pub use Rattle.sdd_needs.specs.catalog.Catalogue.{Catalogue, has_copy, numbers_to}
pub use Rattle.sdd_needs.specs.class_eras.EraOf.{IsEraOf}
pub use Rattle.sdd_needs.specs.copy.Contents.{contents}
pub use Rattle.sdd_needs.specs.copy.Copies.{Represent, is_here}
pub use Rattle.sdd_needs.specs.dm.Copies.{dated}
pub use Rattle.sdd_needs.specs.dm.Due.{IsDue, act_by, act_where, answer_of, answer_to, by_head, by_open, is_met}
pub use Rattle.sdd_needs.specs.dm.Opens.{Open, is_asked_of}
pub use Rattle.sdd_needs.specs.dm.Pipes.{is_processing, is_wait, pipe, waits}
pub use Rattle.sdd_needs.specs.dm.Views.{ClassView, Home, View, home_of, view_of}
pub use Rattle.sdd_needs.specs.dm.Waiting.{IsAwaited}
pub use Rattle.sdd_log.specs.All.{Processes}
pub use Rattle.sdd_needs.specs.history.Places.{IsSubmitted}
pub use Rattle.sdd_needs.specs.history.Records.{History}
pub use Rattle.sdd_needs.specs.history.declared.record.Rec.TheVariants.{Commit, Nothing}
pub use Rattle.sdd_needs.specs.history.declared.record.Rec.{Rec}
pub use Rattle.sdd_needs.specs.lang.Agree.{rows_in_fragment}
pub use Rattle.sdd_needs.specs.lang.Classes.{class_for}
pub use Rattle.sdd_needs.specs.lang.Database.{Row}
pub use Rattle.sdd_needs.specs.lang.Fits.{FitsStart}
pub use Rattle.sdd_needs.specs.lang.declared.transaction.Txn.{Txn}
pub use Rattle.sdd_needs.specs.logs.Due.{due_by, next, next_at, next_in, note_if}
pub use Rattle.sdd_needs.specs.logs.Entries.{Does, Hand, Input, Log, Mark, Notes, Redeclares, Round, Submitted, history, marks, with_event}
pub use Rattle.sdd_needs.specs.logs.Lawful.{EndsByLimit, IsLawful, puts_past}
pub use Rattle.sdd_needs.specs.logs.Locals.{beginning, local_of, nth_era, redeclares, rows_of, setting_of, txn_at, with_era, with_submit}
pub use Rattle.sdd_needs.specs.logs.Left.{after_mark, left}
pub use Rattle.sdd_needs.specs.logs.Marks.{bound_at, greatest_bound}
pub use Rattle.sdd_needs.specs.logs.Resting.{AllHanded, AllLinked, AtEach, EndsIn, IsFirst, IsLinkOf, IsMarked, IsModuleOf, IsPossible, IsSiteOf, Remain, Rests, TakesAway, TakesRounds, Waits, from_one, settles_before}
pub use Rattle.sdd_needs.specs.logs.Snapshots.{base_of}
pub use Rattle.sdd_needs.specs.logs.Spelled.{call_as, delivered_as, link_as, packet_as}
pub use Rattle.sdd_needs.specs.logs.Traffic.{all_links, calls_of, handed, is_down, link_of, puts, takes_part}
pub use Rattle.sdd_needs.specs.net.Links.{Call, Delivers, Link, Loses, Puts, Repeats, Resends, arrives, deliver, delivered, delivery, given_by, in_flight, is_quiet_link, link, lose, newly_delivered, on_link, packet_at, quiet, repeat, resend, resends_now, round, turned, with_flight, with_packet, without_packet}
pub use Rattle.sdd_needs.specs.net.Mailboxes.{Boxes, IsBefore, IsLowest, IsPlaced, IsSender, IsWithin, Mailbox, OnlyAt, empty_boxes, empty_mailbox, kept_count, kept_from, mailbox_at, place_of, queue_at}
pub use Rattle.sdd_needs.specs.net.Nets.{Directions, HasLink, Represents, index_of, is_link, is_site, sent_on}
pub use Rattle.sdd_needs.specs.net.declared.delivered.Delivered.TheVariants.{Acked, Messages}
pub use Rattle.sdd_needs.specs.net.declared.delivered.Delivered.{Delivered}
pub use Rattle.sdd_needs.specs.net.declared.packet.Packet.TheVariants.{Ack, Message}
pub use Rattle.sdd_needs.specs.net.declared.packet.Packet.{Packet}
pub use Rattle.sdd_needs.specs.pipe.Pipe.{head}
pub use Rattle.sdd_needs.specs.site_module.SiteLog.{Act, AreDue, Bases, Did, Era, Handed, Records, Redeclared, Sends, Setting, Submits, Ticked, current_era, log_after, records_of, records_of_act, sends_of}
pub use Rattle.sdd_needs.specs.tm.State.{ClassState, state_of}
pub use Rattle.sdd_needs.specs.umod.Standing.{standing_in}
pub use Rattle.sdd_needs.specs.wire.Fits.{FitsMsg}
pub use Rattle.sdd_needs.specs.wire.Reading.{message_in}
pub use Rattle.sdd_needs.specs.wire.Spelling.{spelled}
pub use Rattle.sdd_needs.specs.wire.declared.msg.Msg.TheVariants.{Fetch, Null, Read, Reduce, Ship, Write}
pub use Rattle.sdd_needs.specs.wire.declared.msg.Msg.{Msg}
pub use Rattle.sdd_needs.specs.wire.declared.outcome.Outcome.{Outcome}
