use Rattle.sdd_dm.proofs.All.{All, IsEntry, IsTrue, first_row, fold, lent, map, with_change, ◌≡◌}
use Rattle.sdd_dm.proofs.starting.write_rows.Given as goal

abbrev pub invariant-loop-item : goal.invariant-loop-item
invariant-loop-item l = record {
  live : IsTrue l.copies.live;
  entries : All (IsEntry l.catalogue) (map lent l.item-iterator);
  value : fold with_change l.copies.value (map (first_row l.catalogue) (map lent l.item-iterator)) ≡ fold with_change l.initial.copies.value
      (map (first_row l.catalogue) (map lent l.last.entries));
}
