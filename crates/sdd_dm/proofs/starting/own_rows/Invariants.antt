use Rattle.sdd_dm.proofs.All.{IfSome, drop, fold, lent, length, map, own_rows, with_own, ◌≡◌, ◌≤◌}
use Rattle.sdd_dm.proofs.starting.own_rows.Given as goal

-- the rows that are left make of these what all make of none, and the fragment of the last row is there
abbrev pub invariant-loop-rel : goal.invariant-loop-rel
invariant-loop-rel l = record {
  entries : fold (with_own l.catalogue l.copies.value) (map lent l.own.entries) (drop l.rel-index l.rows) ≡ own_rows l.catalogue l.copies.value l.rows;
  before : IfSome l.before (λ frag. (1 ≤ frag.0) × (frag.0 ≤ length l.catalogue.fragments));
}
