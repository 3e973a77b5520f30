use Rattle.sdd_watch.proofs.All.{All, ClassState, IsLineInOrder, active_of, ap, filter_map, flat_map, questions_in, subst, sym, ◌∙◌}
use Rattle.sdd_watch.proofs.AtT.{lines_in_order, state_is_reported}
use Rattle.sdd_watch.proofs.states.tm_state.Goals as goal

pub actives-requires : goal.actives-requires
actives-requires c =
    let r = c.requires in
    subst (All (λ (k : ClassState). IsLineInOrder k.line)) (sym c.classes-runs.ensures) (lines_in_order c.args.tm_module.now r.0 r.1 r.2)

pub returns : goal.returns
returns c = λ s log keeps.
    sym
    (state_is_reported c.args.tm_module.now s log c.args.tm c.args.is_down c.ticks.result c.bound.result.0 c.is_on_hold.result c.owes_held.result
    c.from_vec.result c.from_vec-2.result keeps c.ticks.ensures (c.bound.ensures s log keeps) c.is_on_hold.ensures c.owes_held.ensures
    (c.from_vec.ensures ∙ c.in_ok-asks.ensures ∙ ap (flat_map questions_in) c.classes-runs.ensures)
    (c.from_vec-2.ensures ∙ c.in_ok-active.ensures ∙ ap (filter_map active_of) c.classes-runs.ensures))
