use Rattle.sdd_base.proofs.All.{KeepsOpen, vec_len, with_front, ℕ, ◌+◌, ◌-◌, ◌≡◌, ◌≤◌}
use Rattle.sdd_base.proofs.reading.read_file.Given as goal

abbrev pub invariant-fill : goal.invariant-fill
invariant-fill g l = record {
  within : vec_len l.bytes ≤ l.limit + 1;
  unread : g.S.Shelf.opened l.initial.shelf l.file.0 ≡ with_front l.bytes.items (g.S.Shelf.opened l.shelf l.file.0);
  is_open : g.S.Shelf.is_open l.shelf l.file.0;
  fresh : g.S.Shelf.is_open l.fn.shelf l.file.0 → ⊥;
  others : KeepsOpen (λ _. Unit {0}) (g.S.Shelf.is_open l.fn.shelf) (g.S.Shelf.is_open l.shelf) (g.S.Shelf.opened l.fn.shelf) (g.S.Shelf.opened l.shelf);
  files : g.S.Shelf.files l.shelf ≡ g.S.Shelf.files l.fn.shelf;
  later : g.S.Shelf.faults l.fn.shelf ≤ g.S.Shelf.faults l.shelf;
  surely : (free : ℕ) → g.S.Shelf.sure l.initial.shelf free → g.S.Shelf.sure l.shelf free ×
      (g.S.Shelf.faults l.shelf ≡ g.S.Shelf.faults l.initial.shelf);
}

abbrev pub decreases-fill : goal.decreases-fill
decreases-fill g l = l.limit + 1 - vec_len l.bytes
