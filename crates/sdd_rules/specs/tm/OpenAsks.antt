-- The open ASKs of a transaction module, in every log.
use Rattle.std.specs.List.{AllByRecursion}
use Rattle.std.specs.Prelude.{List, [], ℕ, ◌<◌, ◌∷◌, ◌≢◌, ◌≤◌}
use Rattle.sdd_module.specs.All.{Log, hands}
use Rattle.sdd_rules.specs.tm.Views.{Question, asks, holds}

-- the hands of these ASKs rise, all above the first number and up to the second
abbrev pub Rise : ℕ → ℕ → List Question → Type 0
Rise low high [] = low ≤ high
Rise low high (q ∷ qs) = (low < q.hand) × Rise q.hand high qs

-- the open ASKs came by different hands, in order, and no HOLD came by one of them
pub record AreOpen (log : Log) : Type 0 where
  pub rise : Rise 0 (hands log) (asks log)
  pub last : (holds log).last ≤ hands log
  pub apart : AllByRecursion (λ q. q.hand ≢ (holds log).last) (asks log)
