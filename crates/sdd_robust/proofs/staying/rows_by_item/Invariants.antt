use Rattle.std.proofs.Common.{drop, fold, ◌≡◌}
use Rattle.sdd_lang.specs.All.{database_of, key_in, with_row}
use Rattle.sdd_robust.specs.Settings.{lent_rows}
use Rattle.sdd_robust.proofs.staying.rows_by_item.Given as goal

-- the rows that are left make of these what all make of none
abbrev pub invariant-rows : goal.invariant-rows
invariant-rows l =
    fold (λ db r. with_row db (r.0.0, key_in l.catalogue r.0.0 r.1) r.1) (lent_rows l.found.entries) (drop l.rel-index l.rows)
    ≡ database_of l.catalogue l.rows
