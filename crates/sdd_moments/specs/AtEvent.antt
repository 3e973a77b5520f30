-- What an event of the schedule found, to which sites it let messages be handed, and whether it made a record of a queue: by the
-- log before its mark and the log when all is done that it makes due.
use Rattle.std.specs.Prelude.{ℕ, ◌==◌, Bool, true, false, not, ◌&&◌, if◌then◌else◌, drop, is_some, length, Option, Some, None}
use Rattle.std.specs.List.{list_any}
use Rattle.sdd_inside.specs.declared.delta.Found.{Found}
use Rattle.sdd_inside.specs.declared.delta.Found.TheVariants as founds
use Rattle.sdd_inside.specs.declared.delta.Taken.{Taken}
use Rattle.sdd_inside.specs.declared.delta.Taken.TheVariants as takens
use Rattle.sdd_progress.specs.obligations.base.Sites.{same_site}
use Rattle.sdd_progress.specs.obligations.base.Words.{is_empty}
use Rattle.sdd_progress.specs.obligations.base.declared.event.Event.{Event}
use Rattle.sdd_progress.specs.obligations.base.declared.event.Event.TheVariants.{Deliver, Down, Lose, Repeat, Resend, Up}
use Rattle.sdd_progress.specs.obligations.base.declared.site.Site.{Site}
use Rattle.sdd_progress.specs.obligations.history.declared.record.Rec.{Rec}
use Rattle.sdd_progress.specs.obligations.history.declared.record.Rec.TheVariants.{Commit, Submit as Submission}
use Rattle.sdd_progress.specs.obligations.logs.Entries.{Input, Log, history}
use Rattle.sdd_progress.specs.obligations.logs.Traffic.{all_links, handed, is_down, link_of}
use Rattle.sdd_progress.specs.obligations.net.Links.{delivered, packet_at, unacked}
use Rattle.sdd_progress.specs.obligations.net.declared.packet.Packet.{Packet}
use Rattle.sdd_progress.specs.obligations.net.declared.packet.Packet.TheVariants.{Ack, Message}
use Rattle.sdd_progress.specs.obligations.wire.declared.msg.Msg.{Msg}
-- which event it was
pub use Rattle.sdd_schedule.specs.Places.{last_event}

-- what it found

abbrev pub something_if : Bool → Found
something_if b = if b then founds.Something else founds.Nothing

-- of a packet the number
abbrev pub taken : {M : Type 0} → Packet M → Taken
taken (Message n m) = takens.Message n
taken (Ack upto) = takens.Ack upto

abbrev pub arrived_of : Site → Site → Taken → Log → Found
arrived_of a b (takens.Message n) new = founds.Arrived n (delivered (link_of a b new).there)
arrived_of a b (takens.Ack upto) new = founds.Acknowledged upto (link_of b a new).there.acked

abbrev pub arrived_by : Site → Site → Option (Packet Msg) → Log → Found
arrived_by a b None new = founds.Nothing
arrived_by a b (Some p) new = arrived_of a b (taken p) new

abbrev pub lost_by : Option (Packet Msg) → Found
lost_by None = founds.Nothing
lost_by (Some p) = founds.Lost (taken p)

abbrev pub found_by : Event → Log → Log → Found
found_by (Deliver a b k) old new = arrived_by a b (packet_at k (link_of a b old)) new
found_by (Lose a b k) old new = lost_by (packet_at k (link_of a b old))
found_by (Repeat a b k) old new = something_if (is_some (packet_at k (link_of a b old)))
found_by (Resend a b) old new = something_if (not (is_empty (unacked (link_of a b old).there)))
found_by (Down at) old new = something_if (not (is_down at old))
found_by (Up at) old new = something_if (is_down at old)
found_by _ old new = founds.Something

-- whether messages were handed to the site
abbrev pub is_reached : Input → Log → Log → Site → Bool
is_reached g old new at = list_any (λ l. not (handed l.0 l.1 old == handed l.0 l.1 new) && same_site l.1 at) (all_links g)

-- whether a record is of a transaction that enters a queue or leaves it
abbrev pub is_of_queue : ℕ × Rec → Bool
is_of_queue (event, Submission txn) = true
is_of_queue (event, Commit txn attempt reply changes values rows) = true
is_of_queue _ = false

-- whether the event made such a record
abbrev pub have_moved : Log → Log → Bool
have_moved old new = list_any is_of_queue (drop (length (history old)) (history new))
