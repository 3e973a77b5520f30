-- The names of std, of the crates below and of this crate's definitions that its proofs cite. Declares nothing.
pub use Rattle.sdd_inside.proofs.Changes.{packets_end as mapped_end}
pub use Rattle.sdd_inside.specs.Differences.{changes, queue_between, takes_one}
pub use Rattle.sdd_inside.specs.declared.delta.Found.{Found}
pub use Rattle.sdd_inside.specs.declared.delta.QueueDelta.{QueueDelta}
pub use Rattle.sdd_inside.specs.declared.moment.Happened.{Happened}
pub use Rattle.sdd_inside.specs.declared.moment.PipeMoment.{PipeMoment}
pub use Rattle.sdd_inside.specs.declared.moment.QueueMoment.{QueueMoment}
pub use Rattle.sdd_progress.proofs.obligations.ReadSent.{site_sym as same_back}
pub use Rattle.sdd_progress.proofs.obligations.SitesAndLinks.{link_of_links, site_there}
pub use Rattle.sdd_progress.proofs.obligations.Sources.{source_is_home}
pub use Rattle.sdd_progress.proofs.obligations.Submitting.{le_true}
pub use Rattle.sdd_progress.proofs.obligations.catalog.Sound.{sound_whole}
pub use Rattle.sdd_progress.proofs.obligations.class_eras.EraFits.{fits_in_era}
pub use Rattle.sdd_progress.proofs.obligations.invariants.InOrder.{allowed_hand, handed_of_sent}
pub use Rattle.sdd_progress.proofs.obligations.invariants.InPipe.{pipe_is}
pub use Rattle.sdd_progress.proofs.obligations.invariants.Lists.{in_range, in_right}
pub use Rattle.sdd_progress.proofs.obligations.invariants.Made.{local_grows}
pub use Rattle.sdd_progress.proofs.obligations.invariants.Once.{processed_grows}
pub use Rattle.sdd_progress.proofs.obligations.invariants.Processed.{and_false}
pub use Rattle.sdd_progress.proofs.obligations.invariants.Sent.{sent_is}
pub use Rattle.sdd_progress.proofs.obligations.invariants.Sites.{site_is, site_self}
pub use Rattle.sdd_progress.proofs.obligations.logs.Delivering.{ack_same}
pub use Rattle.sdd_progress.proofs.obligations.logs.Handing.{delivered_puts}
pub use Rattle.sdd_progress.proofs.obligations.logs.Links.{delivered_deliver, delivered_lose, delivered_repeat, delivered_resend}
pub use Rattle.sdd_progress.proofs.obligations.logs.Marking.{no_redeclare, ticked_none}
pub use Rattle.sdd_progress.proofs.obligations.logs.NewMarks.{lawful_permitted}
pub use Rattle.sdd_progress.proofs.obligations.logs.Steps.{none_any_base, none_does as does_none, none_more, none_same}
pub use Rattle.sdd_progress.proofs.obligations.logs.Turning.{part_up}
pub use Rattle.sdd_progress.proofs.obligations.needs.OfNext.{IsThere, of_next}
pub use Rattle.sdd_progress.proofs.obligations.net.Lists.{All-at, get-append as in_left}
pub use Rattle.sdd_progress.proofs.obligations.net.SiteLists.{all_links_more, sites_more}
pub use Rattle.sdd_progress.proofs.obligations.net.Sound.{sound}
pub use Rattle.sdd_progress.proofs.obligations.tm.Lists.{of_map as in_mapped}
pub use Rattle.sdd_progress.specs.obligations.All.{Ack, Act, Call, Catalogue, Class, ClassNo, Commit, D, Deliver, Did, DmNo, Does, Down, Entry, Event, Hand, History, Input, IsClassHere, IsGood, IsLawful, IsLinkOf, IsPermitted, IsServedClass, IsSiteOf, IsWhole, Kept, Link, Log, Lose, Mark, Message, Msg, Notes, Null, Packet, Pipe, Puts, Queued, Read, Rec, Records, Redeclare, Redeclares, Repeat, Resend, Sends, Setting, Site, Start, Submit, Submitted, T, Tick, Ticked, TmNo, Ts, Txn, TxnNo, U, Up, Write, all_links, all_of, are_linked, arrives, base_of, calls_of, class_at, class_for, class_in, class_no, deliver, delivered, dm_no, does_at, given_by, goes_through, handed, head_of, history, home, is_down, is_empty, is_link, is_site, link, link_of, local_of, lose, mark_due, marks, newly_delivered, next_at, next_in, note_if, nth_era, numbers_to, or_zero, packet_at, pipe, puts, puts_to, redeclares, repeat, resend, runs, same_site, sends_of_act, sent, setting_of, site_due, sites, takes_part as takes_at, time_at, time_of, tm_no, tried, turned, txn_at, with_packet, with_submit, without_packet}
pub use Rattle.sdd_progress.specs.obligations.attempt.Line.{Line}
pub use Rattle.sdd_progress.specs.obligations.attempt.Queues.{queue as queue_in_log, txn_of}
pub use Rattle.sdd_progress.specs.obligations.dm.Copies.{classes_of}
pub use Rattle.sdd_progress.specs.obligations.lang.Fits.{FitsTxn}
pub use Rattle.sdd_progress.specs.obligations.logs.Due.{home_of as site_of}
pub use Rattle.sdd_progress.specs.obligations.net.Links.{Way, numbered, put, unacked, with_message, without_at}
pub use Rattle.sdd_progress.specs.obligations.net.Nets.{place_of}
pub use Rattle.sdd_progress.specs.obligations.net.Sound.{IsOf, IsSoundWay}
pub use Rattle.sdd_progress.specs.obligations.pipe.Digest.{Digest, IsDigest, passed_with}
pub use Rattle.sdd_progress.specs.obligations.pipe.Pipe.{greatest}
pub use Rattle.sdd_progress.specs.obligations.pipe.Pipes.{pipe_at}
pub use Rattle.sdd_progress.specs.obligations.tm.State.{class_of}
pub use Rattle.sdd_progress.proofs.Handed.{link_there}
pub use Rattle.sdd_progress.proofs.Lists.{none_at}
pub use Rattle.sdd_progress.proofs.NothingDue.{none_at_data}
pub use Rattle.sdd_progress.proofs.Still.{d_site, t_site}
pub use Rattle.sdd_schedule.proofs.world.txn_module.Queueing.{represents_queues}
pub use Rattle.sdd_schedule.proofs.HomesExist.{no_txn, txn_read}
pub use Rattle.sdd_schedule.specs.world.data_module.State.{State}
pub use Rattle.sdd_schedule.specs.world.txn_module.Represents.{Queues}
pub use Rattle.sdd_schedule.specs.world.sites.Modules.{AllRepresent, LivesD, LivesT}
pub use Rattle.sdd_schedule.specs.world.Represents.{Calm}
pub use Rattle.sdd_schedule.specs.world.sites.declared.sites.Sites.{Sites}
pub use Rattle.sdd_schedule.specs.world.declared.world.World.{World}
pub use Rattle.sdd_moments.specs.Awaiting.{behind, number_for, purpose_of, purposed, purposed_above, up_to, waiting_on}
pub use Rattle.sdd_moments.specs.AtEvent.{arrived_by, found_by, have_moved, is_of_queue, is_reached, last_event, lost_by}
pub use Rattle.sdd_moments.specs.Looking.{AreAside, ArePipesSeen, AreSeen, advanced, all_waiting, looks, messages_in, numbers_for, queue_in, queue_of, queues_if, seen_with}
pub use Rattle.sdd_moments.specs.Moments.{all_pipes, came, number_through, passed_to, pipes_at_module, queue_moment, queues_at, queues_from, queues_of, source, time_passed}
pub use Rattle.sdd_moments.specs.Reaching.{actor, is_between, is_to, is_touched, may_act, may_change_from, other_end, reach_between, reach_of, reach_of_delivery, touched_from}
pub use Rattle.sdd_schedule.specs.Events.{IsMark}
pub use Rattle.sdd_moments.specs.Changes.{IsBetween, IsOver, all_sites, arrived, arrived_on, changed_links, changed_pipes, handed_over, is_changed_link, is_changed_pipe, is_on, is_still_link, is_still_pipe, is_taken, left_between, left_of, link_after, link_before, links_from, pipe_after, pipe_before, queues_by, seen_between, watched_link, watched_links, watched_pipe, watched_pipes}
pub use Rattle.sdd_moments.specs.declared.both.Both.{Both}
pub use Rattle.sdd_moments.specs.declared.on_links.OnLinks.{OnLinks}
pub use Rattle.sdd_moments.specs.declared.reach.Reach.{Reach}
pub use Rattle.sdd_moments.specs.declared.reach.Reach.TheVariants.{Across, Along, Around, From, Nowhere}
pub use Rattle.sdd_moments.specs.declared.waiting.Purpose.{Purpose}
pub use Rattle.sdd_moments.specs.declared.watched_link.Arrived.{Arrived}
pub use Rattle.sdd_moments.specs.declared.watched_link.LinkSeen.{LinkSeen}
pub use Rattle.sdd_moments.specs.declared.watched_link.WatchedLink.{WatchedLink}
pub use Rattle.sdd_moments.specs.declared.watched_pipe.WatchedPipe.{WatchedPipe}
pub use Rattle.std.proofs.Common.{All, Bool, List, None, Option, Some, [], add-one, ap, append-nil, append_assoc, arith, cond, drop, drop-cons, drop-drop, drop-set-lt, eq-eqb, eqb-true, false, filter, filter_map, find, flat_map, if◌then◌else◌, is_some, le-leb, le-ltb, leb-true, length, lt-ltb, map, nat_le, nat_lt, not, option_map, position, refl, slice_get, slice_index_or as get_or, slice_set, subst, suc, sym, take, take-append-drop, take_all, true, unwrap_or, zero, ℕ, ◌&&◌, ◌++◌, ◌+◌, ◌-◌, ◌<◌, ◌==◌, ◌||◌, ◌∙◌, ◌∷◌, ◌≡◌, ◌≤◌}
pub use Rattle.std.proofs.Math.Seq.{drop-append_seam, take-append_seam, take-take}
pub use Rattle.std.proofs.lemmas.Bool.{and_parts, lt-leb}
pub use Rattle.std.proofs.lemmas.Iterator.Adapters.{position_from-zero}
pub use Rattle.std.proofs.lemmas.List.{drop-append-le, drop-take, drop_all, get_or_default, length-map, length-set, map-append, take-append-le, take_more}
pub use Rattle.std.proofs.lemmas.List.Concat.{flat_map-append}
pub use Rattle.std.proofs.lemmas.List.Elements.{All-append, All-cons, All-get_or, All-head, All-map, All-nil, All-tail, filter-append, filter_map-append}
pub use Rattle.std.proofs.lemmas.List.Folds.{list_any-append}
pub use Rattle.std.proofs.lemmas.List.FromFn.{map-range_with_len_more}
pub use Rattle.std.proofs.lemmas.Simd.{map-map}
pub use Rattle.std.specs.List.{cons_option, list_any, position_from, range_with_len}
