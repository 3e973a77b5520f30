use Rattle.std.proofs.Common.{take, ◌≡◌}
use Rattle.sdd_robust.proofs.same.are_same.Given as goal

-- the accesses so far are the same
abbrev pub invariant-accesses : goal.invariant-accesses
invariant-accesses l = take l.i l.a ≡ take l.i l.b
