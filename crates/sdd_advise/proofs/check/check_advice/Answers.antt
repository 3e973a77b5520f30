use Rattle.sdd_advise.proofs.All.{IfOk, IsTrue, Network, ShowsFor, ap, subst, ◌↔◌}
use Rattle.sdd_advise.proofs.check.check_advice.Goals as goal

pub returns-in-Diagonal : goal.returns-in-Diagonal
returns-in-Diagonal c =
    subst (λ z. IfOk c.shows_protocol.result (λ answer. IsTrue answer ↔ ShowsFor z c.args.advice.now c.args.advice.now.edge))
    (ap (λ (z : Network). z.edges) c.in_ok-graph.ensures) c.shows_protocol.ensures
