-- The messages of a link that aren't handed over, as far as what they are for is reported.
-- For the contracts of the code: not needed to read `IsTextOf`.
use Rattle.std.specs.Prelude.{ℕ, nat_le, nat_lt, ◌==◌, if◌then◌else◌, List, [], ◌∷◌, drop, filter_map, option_map, Option, Some, None}
use Rattle.sdd_progress.specs.obligations.All.{Ack, Done, Log, Message, Msg, Null, Packet, Read, Site, Write, handed, sent}
use Rattle.sdd_progress.specs.obligations.net.Links.{numbered}
use Rattle.sdd_moments.specs.declared.waiting.Purpose.{Purpose}
use Rattle.sdd_moments.specs.declared.waiting.Purpose.TheVariants.{Applied, Piped}

-- for what a message is: a READ, WRITE or NULL goes through the pipe of its class, and a DONE says that a commit is applied
abbrev pub purpose_of : Msg → Option Purpose
purpose_of (Read ts class txn attempt conds uses) = Some (Piped class)
purpose_of (Write ts class txn changes) = Some (Piped class)
purpose_of (Null class time) = Some (Piped class)
purpose_of (Done ts) = Some (Applied ts)
purpose_of m = None

-- with the number of the message
abbrev pub purposed : Packet Msg → Option (ℕ × Purpose)
purposed (Message n m) = option_map (λ p. (n, p)) (purpose_of m)
purposed (Ack upto) = None

-- of the messages of the link from a to b that aren't handed over
abbrev pub waiting_on : Site → Site → Log → List (ℕ × Purpose)
waiting_on a b log = filter_map purposed (drop (handed a b log) (numbered 0 (sent a b log)))

-- of a packet of a message that is put for the first time: its number is above those that were put before
abbrev pub purposed_above : ℕ → Packet Msg → Option (ℕ × Purpose)
purposed_above sent (Message n m) = if nat_lt sent n then purposed (Message n m) else None
purposed_above sent (Ack upto) = None

-- of messages in the order of their numbers those up to a number, and the others

abbrev pub up_to : ℕ → List (ℕ × Purpose) → List (ℕ × Purpose)
up_to n [] = []
up_to n (x ∷ xs) = if nat_le x.0 n then x ∷ up_to n xs else []

abbrev pub behind : ℕ → List (ℕ × Purpose) → List (ℕ × Purpose)
behind n [] = []
behind n (x ∷ xs) = if nat_le x.0 n then behind n xs else x ∷ xs

-- what comes of messages that were handed over

-- the number of a message that goes through the pipe of class c
abbrev pub number_for : ℕ → ℕ × Purpose → Option ℕ
number_for c (n, Piped class) = if class.0 == c then Some n else None
number_for c (n, Applied ts) = None

-- the timestamp of a commit that a message says to be applied
abbrev pub applied_for : ℕ × Purpose → Option ℕ
applied_for (n, Applied ts) = Some ts.0
applied_for (n, Piped class) = None
