use Rattle.sdd_exec.proofs.All.{Offered, extended_by, take}
use Rattle.sdd_exec.proofs.sifting.offer_all.Given as goal

abbrev pub invariant-loop-choice : goal.invariant-loop-choice
invariant-loop-choice l = Offered l.parts l.mesh l.fn.sieve l.sieve (extended_by l.parts l.part l.ties l.fn.pairs.items (take l.choice-index l.kept))
