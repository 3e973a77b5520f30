use Rattle.sdd_make.proofs.All.{IfOk, bank, spelling, subst, ◌≡◌}
use Rattle.sdd_make.proofs.files.workload_text.Goals as goal

pub returns : goal.returns
returns c =
    let r = c.write_workload.result in
    subst (λ w. IfOk r (λ v. v.items ≡ spelling bank w)) c.in_ok-work.ensures
    (subst (λ k. IfOk r (λ v. v.items ≡ spelling k c.in_ok-work.work)) c.in_ok-catalogue.ensures c.write_workload.ensures)
