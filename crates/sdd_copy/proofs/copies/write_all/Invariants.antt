use Rattle.sdd_copy.proofs.All.{All, IsLive, dated, fold, held_in, with_change, ◌≡◌}
use Rattle.sdd_copy.proofs.copies.write_all.Given as goal

-- the changes that are left make of these copies what all make of the old ones
abbrev pub invariant-loop-change : goal.invariant-loop-change
invariant-loop-change l = record {
  live : All IsLive l.copies.items;
  held : fold with_change (held_in l.copies.items) (dated l.ts.0 l.change-iterator.rest.items)
      ≡ fold with_change (held_in l.fn.copies.items) (dated l.ts.0 l.fn.changes);
}
