-- A data module starts nothing.
use Rattle.sdd_obligations.proofs.All.{Act, Home, IsDue, View, arith, starts_by, ◌≡◌}

pub d_starts_not : (h : Home) (v : View) (a : Act) → IsDue h v a → starts_by a ≡ 0
d_starts_not h v a h4 = grind (arith, starts_by)
