-- What is said to be applied, what was seen at an event, and what of it is kept.
-- For the contracts of the code: not needed to read `IsTextOf`.
use Rattle.std.specs.Prelude.{ℕ, ◌≡◌, ◌==◌, ◌&&◌, Bool, false, List, map}
use Rattle.std.specs.List.{flat_map, list_any}
use Rattle.sdd_moments.specs.obligations.All.{D, Input, Log, Site, U, numbers_to}
use Rattle.sdd_moments.specs.Looking.{AreAside, queues_if}
use Rattle.sdd_watch.specs.Watching.{Knows}
use Rattle.sdd_moments.specs.Changes.{all_sites, arrived, changed_links, changed_pipes, link_after, link_before, pipe_after, pipe_before, queues_by, watched_links, watched_pipes}
use Rattle.sdd_moments.specs.declared.reach.Reach.{Reach}
use Rattle.sdd_moments.specs.declared.waiting.Purpose.{Purpose}
use Rattle.sdd_moments.specs.declared.waiting.Purpose.TheVariants.{Applied, Piped}
use Rattle.sdd_watch.specs.declared.watch.Seen.{Seen}
use Rattle.sdd_watch.specs.declared.watch.Watch.{Watch}
use Rattle.sdd_moments.specs.declared.watched_link.Arrived.{Arrived}

-- what is said to be applied

-- a message of data module n says that what was committed with timestamp t is applied at data module d
abbrev pub says_one : ℕ → ℕ → ℕ → ℕ × Purpose → Bool
says_one t d n (number, Applied ts) = ts.0 == t && n == d
says_one t d n (number, Piped class) = false

-- one of those that were handed over on a link
abbrev pub says_between : ℕ → ℕ → Site × Site → List (ℕ × Purpose) → Bool
says_between t d (D n, U) messages = list_any (says_one t d n.0) messages
says_between t d l messages = false

abbrev pub says : ℕ → ℕ → Arrived → Bool
says t d one = says_between t d (one.from, one.to) one.messages

-- What was seen at an event: of the links and pipes of which something is reported the cut moments, the messages that were handed
-- over, and the queues that are looked at.
pub record IsSeen (g : Input) (old new : Log) (s : Seen) : Type 0 where
  pub links_before : s.links.moments.before.items ≡ map (link_before old) (changed_links g old new)
  pub links_after : s.links.moments.after.items ≡ map (link_after old new) (changed_links g old new)
  pub arrived_is : s.links.arrived.items ≡ arrived g old new
  pub moved : Bool
  pub reach : Reach
  pub aside : AreAside g old new moved reach
  pub queues_before : s.queues.before.items ≡ flat_map (queues_if moved reach g old) (all_sites g)
  pub queues_after : s.queues.after.items ≡ flat_map (queues_if moved reach g new) (all_sites g)
  pub pipes_before : s.pipes.before.items ≡ map (pipe_before g old new) (changed_pipes g old new)
  pub pipes_after : s.pipes.after.items ≡ map (pipe_after g old new) (changed_pipes g old new)

-- links, queues and pipes are kept as they are after the event, and what is kept beside them as it was before it
pub record HasLooked (g : Input) (old new : Log) (w : Watch) : Type 0 where
  pub knows : Knows g old w
  pub links : w.links.items ≡ map (watched_links g new) (all_sites g)
  pub queues : w.queues.items ≡ map (queues_by g new) (all_sites g)
  pub pipes : w.pipes.items ≡ map (watched_pipes g new) (numbers_to g.catalogue.dms)
