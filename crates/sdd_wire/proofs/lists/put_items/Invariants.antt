use Rattle.sdd_wire.proofs.All.{AllByRecursion, flat_map, take, ◌++◌, ◌≡◌}
use Rattle.sdd_wire.proofs.lists.put_items.Given as goal

abbrev pub invariant-items : goal.invariant-items
invariant-items g l = record {
  spelling : l.out.items ≡ l.fn.out.items ++ flat_map g.T.Spelled.spelling (take l.item-index l.items);
  fits : AllByRecursion g.T.Spelled.fits (take l.item-index l.items);
}
