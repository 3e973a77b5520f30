use Rattle.sdd_copy.proofs.All.{None, Some, cond, drop, first_some, ◌==◌, ◌≡◌}
use Rattle.sdd_copy.proofs.space.Space.rows_of.Given as goal

-- the use is the first of those that are left
abbrev pub invariant-loop-number : goal.invariant-loop-number
invariant-loop-number l =
    first_some (λ e. cond (e.0 == l.use_no) (Some e.1) None) (drop l.number-index l.number-items)
    ≡ first_some (λ e. cond (e.0 == l.use_no) (Some e.1) None) l.number-items
