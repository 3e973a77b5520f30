use Rattle.sdd_copy.proofs.All.{ap, or_nothing, rows_of, sym, ◌∙◌}
use Rattle.sdd_copy.proofs.Uses.{first_at, with_uses}
use Rattle.sdd_copy.proofs.space.Space.rows_of.Goals as goal

pub returns-then-number-use_no : goal.returns-then-number-use_no
returns-then-number-use_no c =
    c.as_slice.ensures
    ∙ ap or_nothing (sym (first_at c.args.use_no c.loop-number.number-index c.deref-number-items.result.now
    c.loop-number-item.result c.loop-number-test.true c.loop-number-item.is c.if-number-use_no.true))
    ∙ ap or_nothing c.loop-number.invariant
    ∙ ap (λ uses. rows_of c.args.use_no (with_uses c.self.inside.ts.0 uses)) c.deref-number-items.ensures.value
    ∙ ap (rows_of c.args.use_no) c.self.view_is
