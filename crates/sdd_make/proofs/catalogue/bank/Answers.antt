use Rattle.sdd_make.proofs.All.{TellsFirst, faults_of, subst}
use Rattle.sdd_make.proofs.BankParts.{no_fault}
use Rattle.sdd_make.proofs.catalogue.bank.Goals as goal

pub unreachable-requires : goal.unreachable-requires
unreachable-requires c =
    let reported = subst (λ e. TellsFirst e (faults_of c.in_ok-parts.parts)) c.in-Err-Fault.field-0-is c.in-Err-Fault.ensures.fault in
    no_fault c.in_ok-parts.parts c.in-Err-Fault.field-0-0 c.in_ok-parts.ensures reported
