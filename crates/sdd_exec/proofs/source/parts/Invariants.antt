use Rattle.sdd_exec.proofs.All.{parts_for, ◌≡◌}
use Rattle.sdd_exec.proofs.source.parts.Given as goal

abbrev pub invariant-loop-part : goal.invariant-loop-part
invariant-loop-part l = l.parts ≡ parts_for l.snap.value l.before l.part
