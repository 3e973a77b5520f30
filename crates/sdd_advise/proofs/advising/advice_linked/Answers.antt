use Rattle.sdd_advise.proofs.All.{IfOk-weaker, P3, ShowsFor, [], advice_of, ◌∷◌, ◌≡◌}
use Rattle.sdd_advise.proofs.Advised.{good_linked}
use Rattle.sdd_advise.proofs.advising.advice_linked.Goals as goal

pub returns-clause-shown : goal.returns-clause-shown
returns-clause-shown c =
    let edges = c.args.graph.now.edges in
    let edge = c.args.edge.now in
    let closed = c.args.way.now in
    IfOk-weaker c.advice_by_way.result (λ advice. advice ≡ advice_of edge P3 (edge ∷ closed) []) (λ advice. ShowsFor edges advice edge)
    (λ advice e.
    good_linked edges edge c.args.reader c.requires.there c.requires.reader c.law_is_sound.ensures.named closed advice
    (c.law_is_sound.ensures.verticals edge c.args.reader c.requires.there c.requires.reader) c.requires.way e)
    c.advice_by_way.ensures
