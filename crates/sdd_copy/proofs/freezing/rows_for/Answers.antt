use Rattle.sdd_copy.proofs.All.{IfOk-weaker, map, rows_at, rows_for, ◌≡◌}
use Rattle.sdd_copy.proofs.Sorting.{found_ascending}
use Rattle.sdd_copy.proofs.freezing.rows_for.Goals as goal

pub returns-then-ascend : goal.returns-then-ascend
returns-then-ascend c =
    IfOk-weaker c.without_keys.result (λ rows. rows ≡ map (λ e. e.1) c.in_ok-found.found.items)
    (λ rows. rows ≡ rows_for (rows_at c.args.copies.now.value) c.args.one.now)
    (λ rows. found_ascending rows c.in_ok-found.found.items c.as_slice.result.now _ c.ascend.result
    c.as_slice.ensures.value c.ascend.ensures c.if-ascend.true c.in_ok-found.ensures) c.without_keys.ensures
