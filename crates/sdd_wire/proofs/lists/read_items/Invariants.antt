use Rattle.sdd_wire.proofs.All.{items_at, ◌-◌, ◌≡◌}
use Rattle.sdd_wire.proofs.Items.{with_front}
use Rattle.sdd_wire.proofs.lists.read_items.Given as goal

abbrev pub invariant-items : goal.invariant-items
invariant-items g l =
    with_front l.items.items (items_at g.T.Spelled.reading (l.count - l.counter) l.source)
    ≡ items_at g.T.Spelled.reading l.count l.fn.source
