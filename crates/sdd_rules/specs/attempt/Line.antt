-- The line of a class: its queue and its active attempt.
use Rattle.sdd_rules.specs.attempt.Attempts.{Attempt}
use Rattle.sdd_module.specs.All.{Catalogue}
use Rattle.std.specs.Prelude.{List, Option, ℕ}
use Rattle.sdd_rules.specs.attempt.Queues.{Queued}

-- with the class and the catalogue
pub record Line : Type 0 where
  pub catalogue : Catalogue
  pub class : ℕ
  pub queue : List Queued
  pub active : Option Attempt
