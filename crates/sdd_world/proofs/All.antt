-- The names of std, of the crates below and of this crate's definitions that its proofs cite. Declares nothing.
pub use Rattle.sdd_sites.proofs.Failing.{handed_on, no_end}
pub use Rattle.sdd_sites.proofs.attempts.exec.Sieves.{not_true as up_of}
pub use Rattle.sdd_sites.proofs.data_module.Taking.{nothing_due}
pub use Rattle.sdd_sites.proofs.needs.Done.{count_join, redeclares_left}
pub use Rattle.sdd_sites.proofs.needs.ErasInForce.{redeclared_is}
pub use Rattle.sdd_sites.proofs.needs.FewMarks.{marks_few as few_marks}
pub use Rattle.sdd_sites.proofs.needs.class_eras.EraFits.{fits_in_era}
pub use Rattle.sdd_sites.proofs.needs.lang.catalog.Validity.{not_false}
pub use Rattle.sdd_sites.proofs.needs.logs.Acts.{calls_acts, ends_in_acts, history_acts, is_down_acts, left_acts, linked_acts, marks_acts, other_acts, own_acts, takes_part_acts}
pub use Rattle.sdd_sites.proofs.needs.logs.Beginning.{next_at_first, rests_at_first}
pub use Rattle.sdd_sites.proofs.needs.logs.Completing.{IsSingle, OnlyMarksAreDue, event_left, in_round, none_left, one_more, redeclare_next, round_next}
pub use Rattle.sdd_sites.proofs.needs.logs.Delivering.{ack_same, delivers_ack, delivers_kept, delivers_messages, delivers_nothing, none_remains, nothing_same, remain_beside, remain_more}
pub use Rattle.sdd_sites.proofs.needs.logs.FirstHand.{listed, none_to_hand}
pub use Rattle.sdd_sites.proofs.needs.logs.Grows.{lawful_grows}
pub use Rattle.sdd_sites.proofs.needs.logs.Handing.{all_handed, first_lawful, first_next, hands_first, remain_acts, remain_other}
pub use Rattle.sdd_sites.proofs.needs.logs.Links.{delivered_lose, delivered_repeat, delivered_resend, sent_stays, unacked_none, unacked_some}
pub use Rattle.sdd_sites.proofs.needs.logs.Lowest.{first_of_one, none_of_one, takes_of_one}
pub use Rattle.sdd_sites.proofs.needs.logs.Marking.{IsNoTick, TurnsNone, handed_still, mark_local, mark_within, none_by_mark, part_marked, rests_marked, rests_noted, rests_redeclared, still_none, ticked_none, turns_none}
pub use Rattle.sdd_sites.proofs.needs.logs.Rounding.{each_of_round}
pub use Rattle.sdd_sites.proofs.needs.logs.Steps.{after_acts, other_local_hand as other_hand}
pub use Rattle.sdd_sites.proofs.needs.logs.Submitting.{acts_lawful, home_in, other_local, submits_and_acts, submits_to_wait, submitted, submitted_lawful, submitted_local, submitted_within}
pub use Rattle.sdd_sites.proofs.needs.logs.Turning.{comes_up, goes_down, is_down_already, isnt_down, part_here, resumes_lawful, up_within}
pub use Rattle.sdd_sites.proofs.needs.logs.net.Directions.{within as numbered}
pub use Rattle.sdd_sites.proofs.needs.logs.net.Queues.{no_items}
pub use Rattle.sdd_sites.proofs.needs.net.Directions.{link_parts, same_here, same_is}
pub use Rattle.sdd_sites.proofs.txn_module.Queueing.{represents_queues}
pub use Rattle.sdd_sites.specs.AtSites.{At, IsClassAt}
pub use Rattle.sdd_sites.specs.Carries.{Carries, NetValue}
pub use Rattle.sdd_sites.specs.DueAt.{next_of}
pub use Rattle.sdd_sites.specs.Kinds.{AreLinked}
pub use Rattle.sdd_sites.specs.Modules.{AllRepresent, AreRedeclared, LivesD, LivesT, Represent, StayAtOthers}
pub use Rattle.sdd_sites.specs.declared.sites.Sites.{Sites}
pub use Rattle.sdd_sites.specs.needs.All.{Acked, Act, AllHanded, AllLinked, AreDue, AtEach, Bases, Boxes, Call, Catalogue, D, Deliver, Delivered, Delivers, DmNo, Does, Down, EndsIn, Era, Event, FitsEra, FitsSite, Hand, History, Input, IsBefore, IsFirst, IsGood, IsLawful, IsLinkOf, IsLowest, IsModuleOf, IsPlaced, IsPossible, IsSender, IsSiteOf, IsWithin as IsBelow, Kept, Log, Lose, Loses, MAX_RUN_EVENTS, Mailbox, Mark, Messages, Msg, Notes, Nothing as Noted, OnlyAt, Outcome, Packet, Rec, Redeclare, Redeclares, Remain, Repeat, Repeats, Resend, Resends, Rests, Round, Setting, Settle, Site, Submit, Submits, T, TakesAway, TakesRounds, Tick, Ticked, TmNo, Txn, TxnNo, U, Up, after_mark, all_links, base_of, calls_of, class_for, delivered, delivery, dm_no, due_by, empty_boxes, empty_mailbox, fits, fits_submit, fits_tick, from_one, good_input, greatest_bound, handed, history, is_down, is_link, is_site, kept_count, kept_from, left, link, link_of, links, local_of, log_after, mailbox_at, marks, next, next_in, note_if, nth_era, packet_at, place_of, puts, puts_past, queue_at, quiet, records_of, records_of_act, redeclares, redeclares_in, round, same_site, sends_of, setting_of, settles_before, sites, takes_part, tm_no, txn_at, with_era, with_event}
pub use Rattle.sdd_sites.specs.needs.history.declared.record.Rec.TheVariants.{Submit as Submission}
pub use Rattle.sdd_sites.specs.needs.logs.Due.{home_of}
pub use Rattle.sdd_sites.specs.needs.net.Mailboxes.{TakesMessage as TakesFrom}
pub use Rattle.sdd_sites.specs.needs.net.declared.delivered.Delivered.TheVariants.{Nothing}
pub use Rattle.sdd_sites.specs.needs.protocol.declared.entry.Entry.{Entry}
pub use Rattle.sdd_world.specs.Following.{Followed, IsPast, MaySend}
pub use Rattle.sdd_world.specs.Represents.{Arrives, Before, Calm, EndsBy, HandedOn, Handing, Happened, HasBoxes, HasSenders, IsNextList, IsSettled, IsSoundNetwork, Keeping, KeepsFor, Marked, Parts, Position, Redeclaring, Represents, Resumed, Resuming, Risen, Rising, Rounding, Settling, Spooled, position_of}
pub use Rattle.sdd_world.specs.declared.world.World.{World}
pub use Rattle.std.proofs.Common.{All, Bool, Err, IfOk, List, None, Ok, OnOk, Option, Result, Some, [], ap, append-nil, append_assoc, arith, false, if◌then◌else◌, inl, inr, is_none, is_some, le-leb, length, lt-ltb, map, nat_le, nat_lt, not, refl, replicate, slice_get, slice_index_or as get_or, subst, suc, sym, true, zero, ℕ, ◌&&◌, ◌++◌, ◌+◌, ◌-◌, ◌<◌, ◌||◌, ◌∙◌, ◌∷◌, ◌≡◌, ◌≢◌, ◌≤◌}
pub use Rattle.std.proofs.lemmas.Bool.{and_from, and_left, and_right, cases_lt}
pub use Rattle.std.proofs.lemmas.List.{length-replicate}
pub use Rattle.std.proofs.lemmas.List.Elements.{All-append, All-cons, All-nil, All-weaker}
pub use Rattle.std.specs.List.{range_with_len}
