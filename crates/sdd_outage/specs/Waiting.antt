-- Which classes wait for which.
use Rattle.std.specs.Prelude.{ℕ, ◌&&◌, Bool, false, true, List}
use Rattle.std.specs.List.{list_any}
use Rattle.sdd_protocol.specs.Protocols.{is_between}
use Rattle.sdd_protocol.specs.declared.entry.Entry.{Entry}
use Rattle.sdd_protocol.specs.declared.protocol.Protocol.{Protocol}
use Rattle.sdd_protocol.specs.declared.protocol.Protocol.TheVariants.{P1, P2, P3}

-- by P2 and P3 a reader waits until the writer has passed a time
abbrev pub asks : Protocol → Bool
asks P1 = false
asks P2 = true
asks P3 = true

-- by this entry of the table the first class waits for the second
abbrev pub is_wait : ℕ → ℕ → Entry → Bool
is_wait i j entry = is_between i j entry.edge && asks entry.protocol

-- by one of the entries
abbrev pub waits_for : List Entry → ℕ → ℕ → Bool
waits_for entries i j = list_any (is_wait i j) entries
