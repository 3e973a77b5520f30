use Rattle.sdd_verify.proofs.All.{List, get, map, named, nat_cmp, slice_cmp, take, ℕ, ◌≡◌}
use Rattle.sdd_verify.proofs.submitted.numbers_by_name.Given as goal

-- the numbers of the transactions so far
abbrev pub invariant-txns : goal.invariant-txns
invariant-txns l = (name : List ℕ) → get (slice_cmp nat_cmp) l.made name ≡ named (map (λ t. t.now) (take l.i l.txns)) name
