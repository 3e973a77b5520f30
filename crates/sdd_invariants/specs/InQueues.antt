-- The queue of a class is what was submitted to it and isn't committed, each with the number of its Starts; the active
-- attempt is that of its head.
use Rattle.std.specs.Prelude.{ℕ, ◌∷◌, ◌≡◌, List, [], false, filter_map, true}
use Rattle.sdd_log.specs.All.{Setting, Txn, active, contains, queue, submits}
use Rattle.sdd_log.specs.site_module.SiteLog.{Log}
use Rattle.sdd_invariants.specs.Steps.{IsServed, is_committed, queued, starts_of, submits_of}

abbrev pub AllKnown : Log → List (ℕ × Txn) → Type 0
AllKnown log [] = Unit {0}
AllKnown log (x ∷ xs) = (contains (submits log) x.0 ≡ true) × AllKnown log xs

pub record IsQueue (s : Setting) (c : ℕ) (log : Log) : Type 0 where
  pub is : queue s c log ≡ filter_map (queued c log) (submits_of s c log)
  pub known : AllKnown log (submits_of s c log)
  pub fresh : (n : ℕ) → contains (submits log) n ≡ false → (starts_of c n log ≡ 0) × (is_committed c n log ≡ false)
  pub served : IsServed (active s c log) (queue s c log)
