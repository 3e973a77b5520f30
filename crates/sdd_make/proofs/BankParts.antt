-- The parts of the bank have no fault.
use Rattle.sdd_make.proofs.All.{CatFault, Fault, Parts, TellsFirst, arith, bank_is_valid, bank_parts, faults_of, head_of, ◌≡◌}

pub no_fault : (parts : Parts) (fault : CatFault) → parts ≡ bank_parts → TellsFirst (Fault fault) (faults_of parts) → ⊥
no_fault parts fault is first = grind (arith, head_of, faults_of, bank_is_valid)
