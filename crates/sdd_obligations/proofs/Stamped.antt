-- A WRITE's timestamp is above 0, and no two WRITEs of different Commits have the same.
use Rattle.sdd_obligations.proofs.All.{Did, Queued, Setting, arith, clock, clock_grows, clock_number, compare, inl, inr, next_stamp, number_of, start_at, ℕ, ◌*◌, ◌++◌, ◌+◌, ◌∷◌, ◌≡◌}
use Rattle.sdd_invariants.specs.site_module.SiteLog.{Log}

pub stamp_ticks : (s : Setting) (log : Log) → next_stamp s log ≡ ((clock s.site log).ticks + 1) * 64 + number_of s.site
stamp_ticks s log = let n = clock_number s.site log in omega (arith, n)

-- so those with the same timestamp are the same
pub same_start : (s : Setting) (c k : ℕ) (l1 l2 b1 b2 : Log) (q1 q2 : Queued) → next_stamp s b1 ≡ next_stamp s b2
    → l1 ++ Did (start_at s c b1 q1) ∷ b1 ≡ l2 ++ Did (start_at s k b2 q2) ∷ b2 → (b1 ≡ b2) × (start_at s c b1 q1 ≡ start_at s k b2 q2)
same_start s c k l1 l2 b1 b2 q1 q2 e p = elim (compare l1 l2 (Did (start_at s c b1 q1)) (Did (start_at s k b2 q2)) b1 b2 p) [
  | inl r ↦ (r.0, (cc))
  | inr r ↦ grind (arith, clock_number, start_at, clock_grows)
]
