-- What a look at the parts of a world finds, and what of it is kept, by what was kept before.
-- For the contracts of the code: not needed to read `IsTextOf` of the crate above.
use Rattle.std.specs.Prelude.{ℕ, ◌+◌, ◌≡◌, ◌==◌, ◌&&◌, Bool, false, if◌then◌else◌, List, [], ◌++◌, filter, filter_map, find, length, map, Option, Some, None}
use Rattle.sdd_progress.specs.obligations.All.{Input, IsSiteOf, Log, Msg, Packet, Queued, Site, class_no}
use Rattle.sdd_progress.specs.obligations.attempt.Queues.{txn_of}
use Rattle.sdd_progress.specs.obligations.tm.State.{ClassState}
use Rattle.sdd_inside.specs.declared.moment.LinkMoment.{LinkMoment}
use Rattle.sdd_inside.specs.declared.moment.PipeMoment.{PipeMoment}
use Rattle.sdd_inside.specs.declared.moment.QueueMoment.{QueueMoment}
use Rattle.sdd_moments.specs.Awaiting.{behind, number_for, purposed_above, up_to}
use Rattle.sdd_moments.specs.Moments.{queues_from}
use Rattle.sdd_moments.specs.Reaching.{may_act}
use Rattle.sdd_moments.specs.Changes.{arrived, arrived_on, is_changed_link, is_changed_pipe, is_on, link_after, link_before, pipe_after, pipe_before}
use Rattle.sdd_moments.specs.declared.both.Both.{Both}
use Rattle.sdd_moments.specs.declared.reach.Reach.{Reach}
use Rattle.sdd_moments.specs.declared.waiting.Purpose.{Purpose}
use Rattle.sdd_moments.specs.declared.watched_link.Arrived.{Arrived}
use Rattle.sdd_moments.specs.declared.watched_link.LinkSeen.{LinkSeen}
use Rattle.sdd_moments.specs.declared.on_links.OnLinks.{OnLinks}
use Rattle.sdd_moments.specs.declared.watched_link.WatchedLink.{WatchedLink}

-- links: after the packets that stayed these were put, and so many messages are put and handed over in all

abbrev pub all_waiting : List (Packet Msg) → WatchedLink → List (ℕ × Purpose)
all_waiting news l = l.waiting ++ filter_map (purposed_above l.sent) news

abbrev pub advanced : ℕ → List (Packet Msg) → ℕ → ℕ → WatchedLink → WatchedLink
advanced left news sent handed l =
    record l { flying = left + length news; sent = sent; handed = handed; waiting = behind handed (all_waiting news l) }

abbrev pub moment_with : WatchedLink → List (Packet Msg) → ℕ → ℕ → LinkMoment
moment_with l packets sent handed =
    record { from = l.from; to = l.to; flight = packets; sent = sent; handed = handed }

abbrev pub arrived_with : WatchedLink → ℕ → List (ℕ × Purpose) → Option Arrived
arrived_with l handed waiting =
    if l.handed == handed then None else Some (record { from = l.from; to = l.to; messages = up_to handed waiting })

abbrev pub seen_with : List (Packet Msg) → ℕ → ℕ → WatchedLink → LinkSeen
seen_with news sent handed l =
    record {
      before = moment_with l [] l.sent l.handed;
      after = moment_with l news sent handed;
      arrived = arrived_with l handed (all_waiting news l);
    }

-- after what was seen before, what is seen of these links
pub record AreSeen (old new : Log) (ls : List (Site × Site)) (first all : OnLinks) : Type 0 where
  pub before_are : all.moments.before.items ≡ first.moments.before.items ++ map (link_before old) (filter (is_changed_link old new) ls)
  pub after_are : all.moments.after.items ≡ first.moments.after.items ++ map (link_after old new) (filter (is_changed_link old new) ls)
  pub arrived_are : all.arrived.items ≡ first.arrived.items ++ filter_map (arrived_on old new) ls

-- of these pipes
pub record ArePipesSeen (g : Input) (old new : Log) (ps : List (ℕ × ℕ)) (first all : Both PipeMoment) : Type 0 where
  pub before_are : all.before.items ≡ first.before.items ++ map (pipe_before g old new) (filter (is_changed_pipe g old new) ps)
  pub after_are : all.after.items ≡ first.after.items ++ map (pipe_after g old new) (filter (is_changed_pipe g old new) ps)

-- queues, of the module for undeclared transactions and of a class of a transaction module

abbrev pub queue_of : ℕ → List Queued → QueueMoment
queue_of c queue = record { class = class_no c; queue = map txn_of queue }

abbrev pub queue_in : ClassState → QueueMoment
queue_in k = queue_of k.line.class k.line.queue

-- whether those of a site are looked at: where a transaction entered a queue or left one, and the site may have acted
abbrev pub looks : Bool → Reach → Site → Bool
looks moved reach a = moved && may_act reach a

-- those of a site that are looked at
abbrev pub queues_if : Bool → Reach → Input → Log → Site → List QueueMoment
queues_if moved reach g log a = if looks moved reach a then queues_from g log a else []

-- where they aren't looked at they stay as they were
abbrev pub AreAside : Input → Log → Log → Bool → Reach → Type 0
AreAside g old new moved reach = (a : Site) → IsSiteOf g a → looks moved reach a ≡ false → queues_from g new a ≡ queues_from g old a

-- of the messages that were handed over on the link from a to b

abbrev pub messages_in : Option Arrived → List (ℕ × Purpose)
messages_in None = []
messages_in (Some one) = one.messages

-- the numbers of those that go through the pipe of class c
abbrev pub numbers_for : Site → Site → ℕ → List Arrived → List ℕ
numbers_for a b c arrived = filter_map (number_for c) (messages_in (find (is_on a b) arrived))
