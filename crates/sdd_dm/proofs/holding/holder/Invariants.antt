use Rattle.sdd_dm.proofs.All.{holds_in, length, list_any, range_with_len, ◌≡◌}
use Rattle.sdd_dm.proofs.Scans.{from}
use Rattle.sdd_dm.proofs.holding.holder.Given as goal

abbrev pub invariant-loop-reader : goal.invariant-loop-reader
invariant-loop-reader l =
    list_any (holds_in l.pipes.value l.waits l.class.0 l.write.0 l.changes) (from l.reader (length l.pipes.value))
    ≡ list_any (holds_in l.pipes.value l.waits l.class.0 l.write.0 l.changes) (range_with_len 0 (length l.pipes.value))
