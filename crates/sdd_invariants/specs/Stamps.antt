-- Timestamps of a site's Starts rise, and lie above all that it promised before.
use Rattle.std.specs.Prelude.{ℕ, ◌*◌, ◌+◌, ◌∷◌, ◌≡◌, List, None, Option, Some, [], suc}
use Rattle.sdd_log.specs.All.{Attempt, Setting}
use Rattle.sdd_log.specs.site_module.SiteLog.{Log}
use Rattle.sdd_invariants.specs.Orders.{AllLe, IsFalling}
use Rattle.sdd_invariants.specs.Steps.{bound, last_stamp, promises, stamps}

-- no timestamp is above the clock's, and no promise above its bound
pub record IsClocked (s : Setting) (log : Log) : Type 0 where
  pub drawn_le : AllLe (last_stamp s log) (stamps log)
  pub falls : IsFalling (stamps log)
  pub promised_le : AllLe (bound s log) (promises log)

abbrev pub stamp_or : Option Attempt → ℕ
stamp_or None = 0
stamp_or (Some a) = a.ts

-- modulo 64 a timestamp is its site's number, so those of two sites differ
abbrev pub AllOf : ℕ → List ℕ → Type 0
AllOf n [] = Unit {0}
AllOf n (x ∷ xs) = ((k : ℕ) × (x ≡ suc k * 64 + n)) × AllOf n xs
