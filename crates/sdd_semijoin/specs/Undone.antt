-- How many moves of a query are left.
use Rattle.std.specs.Prelude.{ℕ, not, List, length, filter}
use Rattle.std.specs.List.{list_any}
use Rattle.sdd_lang.specs.declared.condition.Condition.{Condition}
use Rattle.sdd_semijoin.specs.declared.step.Step.{Step}
use Rattle.sdd_semijoin.specs.Steps.{Move, moves, same_step}

-- how many of these moves aren't done
abbrev pub undone_among : List Step → List Move → ℕ
undone_among done ms = length (filter (λ m. not (list_any (same_step m.step) done)) ms)

-- how many moves of the query aren't done
abbrev pub undone : List Condition → List Step → ℕ
undone conds done = undone_among done (moves conds)
