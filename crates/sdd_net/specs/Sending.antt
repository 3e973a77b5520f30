-- What contracts see of a sender, which drops what is acknowledged.
use Rattle.std.specs.Prelude.{ℕ, ◌+◌, ◌-◌, max, List, [], length, drop}

-- a sender: the messages 1 to `acked` are acknowledged and dropped, and those after them are kept in order
pub record Sending (M : Type 0) : Type 0 where
  pub acked : ℕ
  pub unacked : List M

abbrev pub nothing_sent : {M : Type 0} → Sending M
nothing_sent = record { acked = 0; unacked = [] }

-- the number of the last message that was put
abbrev pub last_number : {M : Type 0} → Sending M → ℕ
last_number s = s.acked + length s.unacked

-- an acknowledgement of k drops the messages up to number k
abbrev pub acknowledged : {M : Type 0} → ℕ → Sending M → Sending M
acknowledged k s = record { acked = max s.acked k; unacked = drop (k - s.acked) s.unacked }
