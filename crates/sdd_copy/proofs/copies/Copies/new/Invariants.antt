use Rattle.sdd_copy.proofs.All.{map, take, ◌≡◌}
use Rattle.sdd_copy.proofs.Represented.{made}
use Rattle.sdd_copy.proofs.copies.Copies.new.Given as goal

-- the copies so far are those of the fragments so far
abbrev pub invariant-loop-key : goal.invariant-loop-key
invariant-loop-key l = l.copies.items ≡ map made (take l.key-index l.keys)
