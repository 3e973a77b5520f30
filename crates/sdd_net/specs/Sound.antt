-- What holds of every link, whatever calls were made.
use Rattle.std.specs.Prelude.{ℕ, ◌-◌, ◌≤◌, List, length, slice_get, ◌≡◌, Some, All}
use Rattle.sdd_net.specs.declared.packet.Packet.{Packet}
use Rattle.sdd_net.specs.declared.packet.Packet.TheVariants.{Message, Ack}
use Rattle.sdd_net.specs.Links.{Way, Link, delivered}

-- a message packet has the message that was sent with its number, and an acknowledgement is of at most k
abbrev pub IsOf : {M : Type 0} → List M → ℕ → Packet M → Type 0
IsOf sent k (Message n m) = (1 ≤ n) × (slice_get sent (n - 1) ≡ Some m)
IsOf sent k (Ack j) = j ≤ k

abbrev pub IsNumber : {M : Type 0} → List M → ℕ → Type 0
IsNumber sent n = (1 ≤ n) × (n ≤ length sent)

-- one direction, where so much is delivered on the way back
pub record IsSoundWay {M : Type 0} (w : Way M) (back : ℕ) : Type 0 where
  pub packets : All (IsOf w.sent back) w.flight
  pub numbers : All (IsNumber w.sent) w.arrived
  pub acked : w.acked ≤ delivered w

pub record IsSoundLink {M : Type 0} (l : Link M) : Type 0 where
  pub there : IsSoundWay l.there (delivered l.back)
  pub back : IsSoundWay l.back (delivered l.there)
