use Rattle.std.proofs.Common.{map, ◌++◌, ◌≡◌}
use Rattle.sdd_robust.specs.KeyRanges.{reads_in}
use Rattle.sdd_robust.proofs.accessing.add_reads.Given as goal

-- the columns so far are read
abbrev pub invariant-columns : goal.invariant-columns
invariant-columns l = l.found.items ≡ l.fn.found.items ++ reads_in l.range (map (λ v. v.now) l.yielded)
