use Rattle.sdd_copy.proofs.All.{Some, ap, frag_no}
use Rattle.sdd_copy.proofs.copies.empty_copy.Goals as goal

pub returns-in_ok-new-in-Some : goal.returns-in_ok-new-in-Some
returns-in_ok-new-in-Some c = rw c.in-Some.is (ap Some (c.in_ok-new-in-Some.ensures (frag_no 0)))
