-- The names of std, of the crates below and of this crate's definitions that its proofs cite. Declares nothing.
pub use Rattle.sdd_rules.proofs.attempt.Numbers.{other_way as flip_same}
pub use Rattle.sdd_rules.proofs.site_module.Finding.{found_at, one_of}
pub use Rattle.sdd_rules.proofs.catalog.Found.{both_empty}
pub use Rattle.sdd_rules.specs.All.{Act, AreDue, Bases, Catalogue, D, Deliver, Did, DmNo, Down, Each, Era, Event, Handed, Lose, MAX_LINK_MESSAGES, MAX_RUN_EVENTS, Msg, Redeclare, Redeclared, Repeat, Resend, Setting, Settle, Site, Submit, Submits, T, Tick, Ticked, Ticking, TmNo, Txn, TxnNo, U, Up, are_linked, first_some, is_empty, links, log_after, or_else, records_of, records_of_act, same_site, sends_of, sends_of_act, sites, tail_of, tm_no}
pub use Rattle.sdd_rules.proofs.dm.ByClass.{first_none as first_nowhere}
pub use Rattle.sdd_log.specs.Due.{does_at, due_by, hand_due, hand_number, hand_on, hand_with, home_of, mark_due, next, next_at, next_in, next_number, note_if, site_due}
pub use Rattle.sdd_log.specs.Entries.{Does, Entry, Hand, Input, Log, Mark, Notes, Redeclares, Round, Submitted, history, marks, with_event}
pub use Rattle.sdd_log.specs.Lawful.{EndsByLimit, IsLawful, IsTheLog, IsWithin, is_past, puts_past}
pub use Rattle.sdd_log.specs.Locals.{beginning, local_of, nth_era, redeclares, setting_of, txn_at, with_era, with_submit}
pub use Rattle.sdd_log.specs.Left.{after_mark, as_lists, left, mark_from, mark_of}
pub use Rattle.sdd_log.specs.Marks.{Ahead, BetweenRounds, InRound, ahead, events_ahead, from_event, greatest_bound, mark_ahead, mark_between, next_mark, once_marked, once_quiet, with_round}
pub use Rattle.sdd_log.specs.Permitted.{AreSubmittedOnce, IsAllowed, IsDueAt, IsPermitted, by_event, by_link, by_mark, by_redeclare, by_round, by_site, is_new_mark, one_if, submits_by, submits_in, was_marked}
pub use Rattle.sdd_log.specs.Resting.{AllHanded, AllLinked, AtEach, EndsIn, IsFirst, IsLinkOf, IsMarked, Remain, Rests, TakesAway, TakesRounds, Waits, from_one, settles_before}
pub use Rattle.sdd_log.specs.Snapshots.{base_of}
pub use Rattle.sdd_log.specs.Spelled.{call_as, delivered_as, link_as, packet_as}
pub use Rattle.sdd_log.specs.Traffic.{all_links, calls_of, handed, is_down, link_of, message_at, puts, sent, takes_part}
pub use Rattle.sdd_net.proofs.Directions.{back_is, link_back, link_parts, same_here, same_is}
pub use Rattle.sdd_net.proofs.Lists.{get-append}
pub use Rattle.sdd_net.proofs.Rises.{rises}
pub use Rattle.sdd_net.proofs.Rounds.{links_exist}
pub use Rattle.sdd_net.proofs.Sound.{delivered_le, sound}
pub use Rattle.sdd_net.specs.Links.{Call, Delivers, Link, Loses, Puts, Repeats, Resends, Way, arrives, deliver, delivered, delivery, given_by, in_flight, is_quiet_link, link, lose, newly_delivered, numbered, on_link, packet_at, put, quiet, repeat, resend, resends_now, round, top, turned, unacked, with_flight, with_packet, without_packet}
pub use Rattle.sdd_net.specs.Nets.{is_link, is_site}
pub use Rattle.sdd_net.specs.declared.delivered.Delivered.TheVariants.{Acked, Messages, Nothing}
pub use Rattle.sdd_net.specs.declared.packet.Packet.{Packet}
pub use Rattle.sdd_net.specs.declared.packet.Packet.TheVariants.{Message}
pub use Rattle.sdd_rules.proofs.pipe.Digests.{or_assoc}
pub use Rattle.sdd_rules.proofs.tm.ViewSteps.{view_step}
pub use Rattle.sdd_rules.proofs.umod.Lists.{or_nothing as or_none}
pub use Rattle.std.proofs.Common.{All, Bool, List, None, Option, Some, [], ap, append-nil, append_assoc, arith, cond, drop, eq-eqb, eqb-true, false, filter_map, flat_map, if◌then◌else◌, inl, inr, is_none, le-leb, le-ltb, leb-true, length, length-append, length-drop, length-take-le, lt-ltb, ltb-false, ltb-true, map, nat_le, nat_lt, not, refl, replicate, slice_get, subst, suc, sym, take, true, zero, ℕ, ◌&&◌, ◌++◌, ◌+◌, ◌-◌, ◌<◌, ◌==◌, ◌||◌, ◌∙◌, ◌∷◌, ◌≡◌, ◌≤◌, ◌⊎◌}
pub use Rattle.std.proofs.lemmas.Bool.{and_from, and_left, and_parts, and_right, or_parts as or_false}
pub use Rattle.std.proofs.lemmas.List.{length-map, map-append}
pub use Rattle.std.proofs.lemmas.List.Elements.{All-head, All-tail}
pub use Rattle.std.specs.List.{cons_option, list_all, range_with_len}
