-- For what the READ at the head of a pipe waits.
use Rattle.sdd_module.specs.All.{Cond, Log, Msg, Read, Setting}
use Rattle.std.specs.Prelude.{List, MatchOption, None, Option, Some, find, if◌then◌else◌, not, ℕ, ◌==◌, ◌≡◌}
use Rattle.sdd_pipe.specs.Pipe.{head}
use Rattle.sdd_rules.specs.dm.Due.{is_met}
use Rattle.sdd_rules.specs.dm.Pipes.{pipe, waits}
use Rattle.sdd_rules.specs.dm.Views.{view_of}

-- the conditions of a READ with this timestamp
abbrev pub conds_of : ℕ → Option Msg → Option (List Cond)
conds_of t (Some (Read ts class txn attempt conds uses)) = if ts.0 == t then Some conds else None
conds_of t _ = None

-- those of the READ of class c with this timestamp that waits, where there is one
abbrev pub waiting_at : ℕ → ℕ → Log → Option (List Cond)
waiting_at c t log = if waits c log then conds_of t (head (pipe c log)) else None

-- None where no such READ waits, and else the first of its conditions that isn't met
abbrev pub IsAwaited : Setting → Log → ℕ → ℕ → Option Cond → Type 0
IsAwaited s log c t answer =
    MatchOption answer (waiting_at c t log ≡ None)
    (λ d. (conds : List Cond) × (waiting_at c t log ≡ Some conds) × (find (λ e. not (is_met (view_of s log) e)) conds ≡ Some d))
