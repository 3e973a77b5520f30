use Rattle.sdd_base.proofs.All.{Failing, FailingShelf, ap, find_file, ◌∙◌, ◌≡◌}
use Rattle.sdd_base.proofs.Taken.{if_some}
use Rattle.sdd_base.proofs.memory_shelf.MemShelfShelf.open_file.Goals as goal

pub returns-clause-surely : goal.returns-clause-surely
returns-clause-surely c = λ free sure.
    let shelf : c.self.inside.inner ≡ c.args.self.now.shelf = ap (λ (s : FailingShelf). s.shelf) c.self.view_is in
    let failing : c.self.inside.failures ≡ c.args.self.now.failing = ap (λ (s : FailingShelf). s.failing) c.self.view_is in
    let unlisted : c.next_call_fails.new.self.fails ≡ c.args.self.now.failing.fails = ap (λ (f : Failing). f.fails) c.next_call_fails.ensures.called
    ∙ ap (λ (f : Failing). f.fails) failing in
    let inner = rw shelf at (c.open_file.ensures.surely free (rw shelf sure.1)) in
    if_some (find_file c.args.self.now.shelf.files c.args.name.now) _ _ (λ h. (h.0, (unlisted ∙ sure.0, h.1), h.2)) inner
