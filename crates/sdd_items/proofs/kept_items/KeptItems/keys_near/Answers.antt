use Rattle.sdd_items.proofs.All.{refl}
use Rattle.sdd_items.proofs.Ranges.{all_near, allowed_near}
use Rattle.sdd_items.proofs.kept_items.KeptItems.keys_near.Goals as goal

pub returns-then-not-self : goal.returns-then-not-self
returns-then-not-self c =
    rw (c.all.ensures, ← c.self.view_is) (all_near c.args.restrictions.now c.self.inside.items.entries c.self.invariant.0)

pub returns : goal.returns
returns c =
    rw (c.allowed_keys.ensures, ← c.self.view_is)
    (allowed_near c.self.inside.key c.args.restrictions.now c.self.inside.items.entries
    (c.if-not-are_of_keys.ensures.0 refl) c.self.invariant.0 (c.self.invariant.1 c.if-not-self.false))
