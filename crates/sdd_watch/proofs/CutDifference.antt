-- The difference of cut moments is that of whole moments, so what a watch keeps is enough to tell an event.
use Rattle.sdd_watch.proofs.All.{AreAside, Bool, Delta, Happened, Input, List, Log, Moment, QueueDelta, Reach, all_sites, ap, change, changed_links, changed_pipes, difference, flat_map, found_by, happened_at, last_event, link_after, link_before, map, moment_of, pipe_after, pipe_before, queues_if, refl, ◌∙◌, ◌≡◌}
use Rattle.sdd_watch.proofs.Cut.{cut_after, cut_before, cut_tells}
use Rattle.sdd_moments.proofs.QueuesKept.{left_out}

abbrev with_queues : Delta → List QueueDelta → Delta
with_queues d queues = record d { queues = queues }

pub cut_difference : (g : Input) (old new : Log) (h : Happened) (before after : Moment) (moved : Bool) (reach : Reach) → AreAside g old new moved reach
    → h.event ≡ last_event new → h.found ≡ found_by h.event old new
    → before.links ≡ map (link_before old) (changed_links g old new) → before.queues ≡ flat_map (queues_if moved reach g old) (all_sites g) → before.pipes ≡ map (pipe_before g old new) (changed_pipes g old new)
    → after.links ≡ map (link_after old new) (changed_links g old new) → after.queues ≡ flat_map (queues_if moved reach g new) (all_sites g) → after.pipes ≡ map (pipe_after g old new) (changed_pipes g old new)
    → difference h before after ≡ difference h (moment_of g old) (moment_of g new)
cut_difference g old new h before after moved reach aside event found l q p m r s =
    (λ i. difference h (record { links = l i; queues = q i; pipes = p i }) (record { links = m i; queues = r i; pipes = s i }))
    ∙ ap (with_queues (difference h (cut_before g old new) (cut_after g old new)))
    (left_out g old new h moved reach aside)
    ∙ cut_tells g old new h event found

-- with what happened at the event, it is what is reported of the event
pub change_reported : (g : Input) (old new : Log) (h : Happened) (before after : Moment) (delta : Delta) (moved : Bool) (reach : Reach)
    → AreAside g old new moved reach → delta ≡ difference h before after → h ≡ happened_at g old new
    → before.links ≡ map (link_before old) (changed_links g old new) → before.queues ≡ flat_map (queues_if moved reach g old) (all_sites g) → before.pipes ≡ map (pipe_before g old new) (changed_pipes g old new)
    → after.links ≡ map (link_after old new) (changed_links g old new) → after.queues ≡ flat_map (queues_if moved reach g new) (all_sites g) → after.pipes ≡ map (pipe_after g old new) (changed_pipes g old new)
    → delta ≡ change g old new
change_reported g old new h before after delta moved reach aside is happened l q p m r s =
    is ∙ ap (λ x. difference x before after) happened
    ∙ cut_difference g old new (happened_at g old new) before after moved reach aside refl refl l q p m r s
