-- Queues in a list, seen as lists of messages.
use Rattle.sdd_backups.proofs.All.{Global, List, Message, VecDeque, [], arith, get_or, get_or-map, length, length-map, map, map-set, nat_tests, set, ℕ, ◌<◌, ◌≡◌}

abbrev pub Queue : Type 0
Queue = VecDeque Message Global

abbrev pub messages_of : Queue → List Message
messages_of queue = queue.items

-- one queue of a list is changed
pub queue_changed : (change : List Message → List Message) (queues : List Queue)
    (lists : List (List Message)) (at : ℕ) (old new : Queue)
    → map messages_of queues ≡ lists → at < length lists → old ≡ get_or queues at old → new.items ≡ change old.items
    → map messages_of (set queues at new) ≡ set lists at (change (get_or lists at []))
queue_changed change queues lists at old new view within is changed = grind (arith, nat_tests, length-map, messages_of, get_or, get_or-map, Queue, map-set)
