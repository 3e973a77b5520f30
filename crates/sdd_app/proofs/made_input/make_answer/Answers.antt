use Rattle.sdd_app.proofs.All.{EndsAtLimit, IsSummaryOn, IsValid, MakesText, bank, subst, sym, workload_of}
use Rattle.sdd_app.proofs.MadeSummary.{all_made}
use Rattle.sdd_app.proofs.made_input.make_answer.Goals as goal

pub summed_up-requires : goal.summed_up-requires
summed_up-requires c =
    subst (λ cat. IsValid cat c.in_ok-work.work) (sym c.in_ok-catalogue.ensures)
    (subst (IsValid bank) (sym c.in_ok-work.ensures) c.law_workload_allowed.ensures)

pub returns : goal.returns
returns c =
    all_made c.args.seed c.args.count c.requires c.summed_up.result
    (subst (λ cat. MakesText (IsSummaryOn cat (workload_of c.args.seed c.args.count)) (EndsAtLimit cat (workload_of c.args.seed c.args.count)) c.summed_up.result)
    c.in_ok-catalogue.ensures
    (subst (λ work. MakesText (IsSummaryOn c.in_ok-catalogue.catalogue work) (EndsAtLimit c.in_ok-catalogue.catalogue work) c.summed_up.result) c.in_ok-work.ensures
    c.summed_up.ensures))
