use Rattle.std.proofs.Common.{None, ap, refl, slice_index_or as get_or, sym, ◌∙◌}
use Rattle.std.proofs.lemmas.Result.{IfOk-weaker}
use Rattle.sdd_robust.proofs.Rests.{spreads}
use Rattle.sdd_robust.proofs.conflicts.Conflicts.spread.Goals as goal

pub returns-in-Some-Some-clause-spread : goal.returns-in-Some-Some-clause-spread
returns-in-Some-Some-clause-spread c =
    let known = rw (c.self.view_is, c.learn.ensures) at c.self.invariant in
    let row_is = ap (λ z. get_or z c.args.at None) (sym c.deref.ensures.value) ∙ sym (c.in-Some-Some.ensures.lookup.3.1 None)
    ∙ c.in-Some-Some.field-0-is in
    IfOk-weaker c.take.result _ _
    (λ met takes e.
    spreads c.args.self.now c.self.inside.rows.items c.args.at c.in-Some-Some.row c.args.ends.now c.args.rest.now c.take.new.self
    c.args.queue.now.items c.take.new.queue.items known row_is (c.if-has.ensures.not_there refl) (takes e))
    c.take.ensures
