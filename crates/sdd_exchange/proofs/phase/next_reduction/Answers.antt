use Rattle.sdd_exchange.proofs.All.{Asking, FitsMove, ap, next_move, subst, sym, ◌∙◌}
use Rattle.sdd_exchange.proofs.Small.{move_fits}
use Rattle.sdd_exchange.proofs.phase.next_reduction.Goals as goal

pub of-requires : goal.of-requires
of-requires c =
    let conds = c.as_slice.ensures ∙ ap (λ (q : Asking). q.conds) c.query.view_is in
    let next = ap (λ cs. next_move cs c.args.counts.now c.args.done.now) (sym conds) ∙ sym c.next_move.ensures ∙ c.in-Some.is in
    subst (λ (q : Asking). FitsMove q.before c.in-Some.one) (sym c.query.view_is)
    (move_fits c.args.query.now c.args.counts.now c.args.done.now c.in-Some.one c.requires next)
