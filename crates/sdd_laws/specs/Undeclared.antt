-- The law of undeclared transactions (H5): each runs while no other does.
use Rattle.std.specs.Prelude.{ℕ, ◌<◌, ◌≡◌, ◌≢◌, ◌⊎◌}
use Rattle.sdd_lang.specs.All.{Catalogue}
use Rattle.sdd_history.specs.Records.{History}
use Rattle.sdd_links.specs.Attempts.{Committed, IsCommitted}
use Rattle.sdd_links.specs.Numbers.{IsModule}
use Rattle.sdd_laws.specs.Deeds.{AppliedBefore, GoesTo, IsAnswered}

-- t is wholly before u: committed before u starts, and applied wherever it is to be before u is answered there
pub record IsWhollyBefore (cat : Catalogue) (h : History) (t u : Committed) : Type 0 where
  pub time : t.start.ts < u.start.ts
  pub committed : t.place < u.start.place
  pub applied : (d k : ℕ) → GoesTo cat t d → IsAnswered h u.start d k → AppliedBefore h t.start.txn d k

-- t is wholly after u: it starts, in its committed attempt, when u is applied at every module
pub record IsWhollyAfter (cat : Catalogue) (h : History) (t u : Committed) : Type 0 where
  pub time : u.start.ts < t.start.ts
  pub applied : (d : ℕ) → IsModule cat d → AppliedBefore h u.start.txn d t.start.place

pub record KeepsUndeclared (cat : Catalogue) (h : History) : Type 0 where
  pub alone : (u t : Committed) → IsCommitted h u → IsCommitted h t → u.start.class ≡ 0 → u.start.txn ≢ t.start.txn
      → IsWhollyBefore cat h t u ⊎ IsWhollyAfter cat h t u
