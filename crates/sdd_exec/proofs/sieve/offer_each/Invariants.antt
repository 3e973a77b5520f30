use Rattle.sdd_exec.proofs.All.{Offered, length, map, placed, take}
use Rattle.sdd_exec.proofs.sieve.offer_each.Given as goal

abbrev pub invariant-loop-place : goal.invariant-loop-place
invariant-loop-place l = Offered l.parts l.mesh l.fn.sieve l.sieve (map (placed (length l.parts) l.choice l.part) (take l.place-index l.places))
