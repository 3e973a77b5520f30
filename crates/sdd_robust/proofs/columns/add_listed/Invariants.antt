use Rattle.std.proofs.Common.{flat_map, fold, take, ◌≡◌}
use Rattle.std.specs.BTreeSet.{insert_key}
use Rattle.std.specs.Ordering.{nat_cmp}
use Rattle.sdd_robust_laws.specs.Accesses.{column_of_part}
use Rattle.sdd_robust.proofs.columns.add_listed.Given as goal

-- with the columns that are listed so far
abbrev pub invariant-out : goal.invariant-out
invariant-out l =
    l.columns.keys ≡ fold (λ ks k. insert_key nat_cmp ks k) l.fn.columns.keys (flat_map (column_of_part l.part) (take l.at-index l.out))
