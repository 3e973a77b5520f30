use Rattle.sdd_ask.proofs.All.{Tells, take, waits_for}
use Rattle.sdd_ask.proofs.waiting.waits.Given as goal

-- the flags of the entries so far
abbrev pub invariant-entries : goal.invariant-entries
invariant-entries l = Tells l.flags.items (waits_for (take l.entry-index l.entries))
