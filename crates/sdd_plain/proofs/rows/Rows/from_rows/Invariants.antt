use Rattle.sdd_plain.proofs.All.{database_of, drop, fold, key_in, with_row, ◌≡◌}
use Rattle.sdd_plain.proofs.rows.Rows.from_rows.Given as goal

-- the rows that are left make of these what all make of none
abbrev pub invariant-rows : goal.invariant-rows
invariant-rows l = fold (λ db r. with_row db (r.0.0, key_in l.catalogue r.0.0 r.1) r.1) l.built (drop l.rel-index l.rows) ≡ database_of l.catalogue l.rows
