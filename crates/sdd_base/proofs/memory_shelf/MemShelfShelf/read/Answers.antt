use Rattle.std.proofs.Common.{arith}
use Rattle.std.proofs.lemmas.Grind.{common_steps}
use Rattle.sdd_base.proofs.All.{Failing, FailingShelf, ap, ◌∙◌, ◌≡◌}
use Rattle.sdd_base.proofs.memory_shelf.MemShelfShelf.read.Goals as goal

pub returns-clause-surely : goal.returns-clause-surely
returns-clause-surely c = λ free sure.
    let shelf : c.self.inside.inner ≡ c.args.self.now.shelf = ap (λ (s : FailingShelf). s.shelf) c.self.view_is in
    let failing : c.self.inside.failures ≡ c.args.self.now.failing = ap (λ (s : FailingShelf). s.failing) c.self.view_is in
    let unlisted : c.next_call_fails.new.self.fails ≡ c.args.self.now.failing.fails = ap (λ (f : Failing). f.fails) c.next_call_fails.ensures.called
    ∙ ap (λ (f : Failing). f.fails) failing in
    let inner = rw shelf at (c.read.ensures.surely free (rw shelf sure.1)) in
    (inner.0, (unlisted ∙ sure.0, inner.1), inner.2)

pub returns-clause-gives : goal.returns-clause-gives
returns-clause-gives c = grind (arith, common_steps)
