-- The names of std, of the crates below and of this crate's definitions that its proofs cite. Declares nothing.
pub use Rattle.sdd_base.proofs.Opened.{slice_get-append as get_before}
pub use Rattle.sdd_base.specs.Kept.{Kept}
pub use Rattle.sdd_base.specs.Sites.{are_linked, links, same_site, sites}
pub use Rattle.sdd_base.specs.Words.{contains, is_empty}
pub use Rattle.sdd_base.specs.declared.event.Event.{Event}
pub use Rattle.sdd_base.specs.declared.event.Event.TheVariants.{Deliver, Resend}
pub use Rattle.sdd_base.specs.declared.site.Site.{Site}
pub use Rattle.sdd_base.specs.declared.site.Site.TheVariants.{D, T, U}
pub use Rattle.sdd_net.specs.Links.{Call, Delivers, Link, Loses, Puts, Repeats, Resends, Way, after_call, arrives, deliver, delivered, delivery, due, given_by, handed, in_flight, is_quiet_link, link, lose, messages_of, newly_delivered, numbered, on_link, packet_at, put, quiet, repeat, resend, resends_now, round, turned, unacked, unused, with_ack, with_arrival, with_flight, with_packet, without_at, without_packet}
pub use Rattle.sdd_net.specs.Mailboxes.{IsLowest, IsWithin, Mailbox, TakesFirst, TakesMessage, empty_boxes, empty_mailbox, place_of, total}
pub use Rattle.sdd_net.specs.Nets.{ArePair, Changes, ChangesPair, ChannelsRepresent, Directions, Does, FitsWay, HasLink, IsLive, IsLiveAt, IsNet, Matches, Represents, channel_on, deliveries_on, in_flight_at, index_of, is_link, is_site, placed, quiet_on, resend_on, resends_at, sent_by, site_count, unused_channel}
pub use Rattle.sdd_net.specs.Sending.{acknowledged, last_number}
pub use Rattle.sdd_net.specs.Sound.{IsNumber, IsOf, IsSoundLink, IsSoundWay}
pub use Rattle.sdd_net.specs.declared.channel.Channel.{Channel}
pub use Rattle.sdd_net.specs.declared.delivered.Delivered.TheVariants.{Acked, Messages, Nothing}
pub use Rattle.sdd_net.specs.declared.packet.Packet.{Packet}
pub use Rattle.sdd_net.specs.declared.packet.Packet.TheVariants.{Ack, Message}
pub use Rattle.sdd_net.specs.declared.placed_link.PlacedLink.{PlacedLink}
pub use Rattle.sdd_receiver.proofs.Receives.{Receives, receives}
pub use Rattle.sdd_receiver.proofs.Results.{if_both}
pub use Rattle.sdd_receiver.proofs.Tops.{top_is, top_rises}
pub use Rattle.sdd_receiver.specs.Arrivals.{top}
pub use Rattle.sdd_receiver.specs.Receiving.{AreSent, HasReceived, received}
pub use Rattle.std.proofs.Common.{All, Bool, IfOk, IfSome, IsSome, IsTrue, List, MatchOption, None, Ok, OnErr, OnOk, OnSome, Option, Result, Some, [], add-zero, ap, append-nil, append_assoc, arith, cond, drop, drop-drop, eqb-true, false, filter_map, flat_map, if◌then◌else◌, is_some, le-leb, leb-true, length, length-append, length-drop, map, max, nat_le, nat_lt, not, option_to_list, refl, remove, replicate, rules, slice_get, slice_index_or as get_or, slice_set, subst, suc, sym, take, take-append-drop, take_all, true, zero, ℕ, ◌&&◌, ◌*◌, ◌++◌, ◌+◌, ◌-◌, ◌<◌, ◌==◌, ◌||◌, ◌∙◌, ◌∷◌, ◌≡◌, ◌≢◌, ◌≤◌}
pub use Rattle.std.proofs.Math.Seq.{drop-nil, map-set_same}
pub use Rattle.std.proofs.lemmas.Bool.{and_parts, both_ways}
pub use Rattle.std.proofs.lemmas.Bool.Decides.{nat_tests}
pub use Rattle.std.proofs.lemmas.List.{drop-append-le, get_or-map, get_or-set_other, get_or-set_same, length-map, length-set, map-append, map-set, nil_from_length, replicate-append-replicate, take-append-le, take-take, take_more}
pub use Rattle.std.proofs.lemmas.List.Concat.{flat_map-append}
pub use Rattle.std.proofs.lemmas.List.Edits.{remove-append_left, remove-append_right}
pub use Rattle.std.proofs.lemmas.List.Elements.{All-append, All-cons, All-drop, All-head, All-map, All-nil, All-push, All-same, All-tail, All-take, All-weaker, filter_map-append}
pub use Rattle.std.proofs.lemmas.List.Folds.{list_all_at}
pub use Rattle.std.proofs.lemmas.List.FromFn.{map-range_with_len_more}
pub use Rattle.std.proofs.lemmas.Nat.{mul-add-lt, same_from_place}
pub use Rattle.std.proofs.lemmas.Option.{get_or_from_slice_get, slice_get_read, slice_get_within}
pub use Rattle.std.specs.List.{cons_option, list_all, range_with_len}
