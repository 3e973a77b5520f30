-- The names of std, of the crates below and of this crate's definitions that its proofs cite. Declares nothing.
pub use Rattle.sdd_attempt.proofs.exec.Steps.{flat_map_same as joined_same}
pub use Rattle.sdd_needs.proofs.base.Opened.{slice_get-append}
pub use Rattle.sdd_needs.proofs.lang.Pushdown.{and_parts}
pub use Rattle.sdd_needs.proofs.logs.Acts.{puts-append, puts_past-append}
pub use Rattle.sdd_needs.proofs.logs.SpelledLinks.{delivery_map, link_map}
pub use Rattle.sdd_needs.proofs.logs.dm.ByClass.{all_same}
pub use Rattle.sdd_needs.proofs.logs.net.Lists.{get-last as last_member}
pub use Rattle.sdd_needs.proofs.logs.net.Queues.{no_items}
pub use Rattle.sdd_needs.proofs.net.Deliveries.{acked_le, sent_of}
pub use Rattle.sdd_needs.proofs.net.Directions.{same_is}
pub use Rattle.sdd_needs.proofs.net.Lists.{get-set_other, get-set_same}
pub use Rattle.sdd_needs.proofs.net.Sound.{sound}
pub use Rattle.sdd_needs.proofs.wire.MessageLaws.{message_read_back}
pub use Rattle.sdd_needs.specs.All.{Ack, Acked, Act, AreDue, Bases, Call, Catalogue, ClassState, D, Deliver, Delivered, Delivers, Did, Directions, DmNo, Era, Event, FitsEra, FitsMsg, FitsSite, Fitting, FittingSubmit, Handed, HasLink, Input, IsSiteOf, Kept, Link, Log, Loses, MAX_LINK_MESSAGES, Message, Messages, Msg, NoMemory, Outcome, Packet, Puts, Rec, Redeclared, Repeats, Resend, Resends, Setting, Site, Submits, T, Ticked, TmNo, Txn, TxnNo, U, arrives, beginning, bound_at, call_as, deliver, delivered, delivered_as, delivery, fits_at, fits_submit, fits_submit_at, given_by, greatest_bound, in_flight, index_of, is_empty, is_link, is_quiet_link, link, link_as, links, local_of, log_after, lose, message_in, newly_delivered, number_of, on_link, packet_as, packet_at, puts, puts_past, quiet, repeat, resend, resends_now, round, rows_of, same_site, sent_on, setting_of, spelled, standing_among, takes_part, tm_no, turned, with_flight, with_packet, without_packet}
pub use Rattle.sdd_needs.specs.history.declared.record.Rec.TheVariants.{Submit as Submission}
pub use Rattle.sdd_needs.specs.net.Links.{put}
pub use Rattle.sdd_needs.specs.net.Nets.{Matches}
pub use Rattle.sdd_needs.specs.net.Sound.{IsOf}
pub use Rattle.sdd_needs.specs.net.declared.delivered.Delivered.TheVariants.{Nothing}
pub use Rattle.sdd_needs.specs.protocol.declared.entry.Entry.{Entry}
pub use Rattle.sdd_sites.specs.AtSites.{At, Lives, Representation, RepresentsAt}
pub use Rattle.sdd_sites.specs.Beginnings.{AllBegin, BeginsD, BeginsT, IsBegun, There}
pub use Rattle.sdd_sites.specs.Carries.{AllDelivered, AllPut, Carries, IsPacketSpelling, IsSpelling, NetValue, PacketFits, Spells, in_bytes}
pub use Rattle.sdd_sites.specs.DueAt.{next_of}
pub use Rattle.sdd_sites.specs.Kinds.{AreLinked}
pub use Rattle.sdd_sites.specs.Modules.{AllRepresent, AreRedeclared, LivesD, LivesT, LivesU, Represent, StayAtOthers}
pub use Rattle.sdd_sites.specs.Sending.{Sending}
pub use Rattle.sdd_sites.specs.declared.ends.WorldEnd.{WorldEnd}
pub use Rattle.sdd_sites.specs.declared.ends.WorldEnd.TheVariants.{Limit}
pub use Rattle.sdd_sites.specs.declared.sites.Sites.{Sites}
pub use Rattle.sdd_tm.proofs.Queueing.{represents_queues}
pub use Rattle.std.proofs.Common.{All, Bool, Err, Global, IfOk, IsErrAnd, IsErrOf, IsTrue, List, None, Ok, Option, Result, Some, Vec, [], add-one, ap, append-nil, append_assoc, arith, cond, drop, eq-eqb, false, filter_map, flat_map, fold, if◌then◌else◌, inl, inr, is_some, le-leb, le-ltb, leb-true, length, length-append, lt-ltb, map, max, nat_le, nat_lt, refl, replicate, slice_get, slice_index_or as get_or, slice_set, subst, suc, sym, take, true, zero, ℕ, ◌&&◌, ◌++◌, ◌+◌, ◌-◌, ◌<◌, ◌==◌, ◌||◌, ◌↔◌, ◌∙◌, ◌∷◌, ◌≡◌, ◌≢◌, ◌≤◌}
pub use Rattle.std.proofs.lemmas.Bool.{and_from, cases_lt, or_from as or_first, or_left as or_past, or_right as or_second}
pub use Rattle.std.proofs.lemmas.Bool.Decides.{nat_tests}
pub use Rattle.std.proofs.lemmas.List.{length-map, map-append, take_more}
pub use Rattle.std.proofs.lemmas.List.Elements.{All-head, All-tail}
pub use Rattle.std.specs.List.{AllByRecursion, range_with_len}
