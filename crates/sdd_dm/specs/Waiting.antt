-- For what the READ at the head of a pipe waits, by digests.
use Rattle.std.specs.Prelude.{ℕ, Bool, not, if◌then◌else◌, List, filter_map, find, length, Option, Some, None}
use Rattle.std.specs.List.{range_with_len}
use Rattle.sdd_module.specs.All.{Change, ClassNo, Cond, Msg, Read, Write, class_no}
use Rattle.sdd_pipe.specs.Digest.{Digest}
use Rattle.sdd_dm.specs.Heads.{head_at, holds_in, is_met_in, unmet, waits_at}
use Rattle.sdd_rules.specs.dm.Waiting.{conds_of}

abbrev pub waiting_in : List Digest → List Bool → ℕ → ℕ → Option (List Cond)
waiting_in pipes flags c t = if waits_at flags c then conds_of t (head_at pipes c) else None

-- of the READ of class c that waits, the conditions that aren't met

abbrev pub unmet_of : List Digest → Option Msg → Option (List Cond)
unmet_of pipes (Some (Read ts class txn attempt conds uses)) = Some (unmet pipes conds)
unmet_of pipes _ = None

abbrev pub unmet_in : List Digest → List Bool → ℕ → Option (List Cond)
unmet_in pipes flags c = if waits_at flags c then unmet_of pipes (head_at pipes c) else None

-- for the WRITE at the head of class c, the classes whose READ waits and must not see it

abbrev pub holder_at : List Digest → List Bool → ℕ → ℕ → List Change → ℕ → Option ClassNo
holder_at pipes flags j w changes reader = if holds_in pipes flags j w changes reader then Some (class_no reader) else None

abbrev pub holders_of : List Digest → List Bool → ℕ → Option Msg → Option (List ClassNo)
holders_of pipes flags c (Some (Write ts class txn changes)) =
    Some (filter_map (holder_at pipes flags c ts.0 changes) (range_with_len 0 (length pipes)))
holders_of pipes flags c _ = None

abbrev pub holders_in : List Digest → List Bool → ℕ → Option (List ClassNo)
holders_in pipes flags c = holders_of pipes flags c (head_at pipes c)

abbrev pub first_unmet : List Digest → Option (List Cond) → Option Cond
first_unmet pipes None = None
first_unmet pipes (Some conds) = find (λ d. not (is_met_in pipes d)) conds
