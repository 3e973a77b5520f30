use Rattle.std.proofs.Common.{flat_map, fold, take, ◌≡◌}
use Rattle.std.specs.BTreeSet.{insert_key}
use Rattle.std.specs.Ordering.{nat_cmp}
use Rattle.sdd_robust_laws.specs.Accesses.{condition_columns}
use Rattle.sdd_robust.proofs.columns.add_conditions.Given as goal

-- with the columns of the conditions so far
abbrev pub invariant-conds : goal.invariant-conds
invariant-conds l =
    l.columns.keys ≡ fold (λ ks k. insert_key nat_cmp ks k) l.fn.columns.keys (flat_map (condition_columns l.part) (take l.cond-index l.conds))
