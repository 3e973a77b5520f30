-- What the heads of the pipes may do, by what the module keeps of the pipes and by which heads wait. These are the words of
-- what is due, said of digests in place of pipes.
use Rattle.std.specs.Prelude.{ℕ, ◌==◌, Bool, true, false, not, ◌&&◌, if◌then◌else◌, List, [], ◌∷◌, length, slice_index_or, Option, Some, None}
use Rattle.std.specs.List.{list_any, list_all, range_with_len}
use Rattle.sdd_module.specs.All.{Change, ClassNo, Cond, Msg, Null, Read, Write, class_no, first_some, head_of, time_at}
use Rattle.sdd_pipe.specs.Digest.{Digest}
use Rattle.sdd_pipe.specs.Pipes.{pipe_at}
use Rattle.sdd_rules.specs.declared.step.Step.{Step}
use Rattle.sdd_rules.specs.declared.step.Step.TheVariants.{Processes, Refuses, Waits}
pub use Rattle.sdd_conditions.specs.Conditions.{is_met_in, last_write_in, spoiler, spoils_in, unmet}
use Rattle.sdd_rules.specs.dm.Due.{holds_back}
use Rattle.sdd_conditions.specs.Conditions.{or_zero}

-- the first unprocessed message of class c, and whether it waits
abbrev pub head_at : List Digest → ℕ → Option Msg
head_at pipes c = head_of (pipe_at pipes c).unprocessed

abbrev pub waits_at : List Bool → ℕ → Bool
waits_at waits c = slice_index_or waits c false

-- held WRITEs

abbrev pub holds_in : List Digest → List Bool → ℕ → ℕ → List Change → ℕ → Bool
holds_in pipes waits j w changes reader = waits_at waits reader && holds_back j w changes (head_at pipes reader)

abbrev pub is_held_in : List Digest → List Bool → ℕ → ℕ → List Change → Bool
is_held_in pipes waits j w changes = not (j == 0) && list_any (holds_in pipes waits j w changes) (range_with_len 0 (length pipes))

-- steps

abbrev pub judged_in : List Digest → List Cond → Option Cond → Step
judged_in pipes lacking (Some d) = Refuses d.class (time_at (or_zero (last_write_in pipes d)))
judged_in pipes [] None = Processes
judged_in pipes (d ∷ ds) None = Waits (d ∷ ds)

abbrev pub judge_in : List Digest → List Cond → Step
judge_in pipes conds = judged_in pipes (unmet pipes conds) (spoiler pipes conds)

abbrev pub step_by : List Digest → List Bool → ℕ → Bool → Option Msg → Option Step
step_by pipes waits c waiting None = None
step_by pipes waits c waiting (Some (Null class time)) = Some Processes
step_by pipes waits c waiting (Some (Write ts class txn changes)) = if is_held_in pipes waits c ts.0 changes then None else Some Processes
step_by pipes waits c true (Some (Read ts class txn attempt conds uses)) = if list_all (is_met_in pipes) conds then Some Processes else None
step_by pipes waits c false (Some (Read ts class txn attempt conds uses)) = Some (judge_in pipes conds)
step_by pipes waits c waiting (Some m) = None

-- what the head of class c may do
abbrev pub step_at : List Digest → List Bool → ℕ → Option Step
step_at pipes waits c = step_by pipes waits c (waits_at waits c) (head_at pipes c)

-- the first head that may do something, from class 0 on

abbrev pub of_class : ℕ → Option Step → Option (ClassNo × Step)
of_class c None = None
of_class c (Some step) = Some (class_no c, step)

abbrev pub first_step : List Digest → List Bool → Option (ClassNo × Step)
first_step pipes waits = first_some (λ c. of_class c (step_at pipes waits c)) (range_with_len 0 (length pipes))
