-- What may stand at the head of a pipe while nothing is due at the data module.
use Rattle.std.specs.Prelude.{ℕ, ◌≡◌, Option, None, Some, false, true}
use Rattle.std.specs.List.{list_all}
use Rattle.sdd_obligations.specs.invariants.All.{Msg, Read, Setting, Write, is_held, is_met, view_of, waits}
use Rattle.sdd_obligations.specs.site_module.SiteLog.{Log}

-- nothing; a READ that waits, one of whose conditions isn't met; or a WRITE that is held
abbrev pub IsStuck : Setting → Log → ℕ → Option Msg → Type 0
IsStuck s log c None = Unit {0}
IsStuck s log c (Some (Read ts of txn attempt conds uses)) =
    (waits c log ≡ true) × (list_all (is_met (view_of s log)) conds ≡ false)
IsStuck s log c (Some (Write ts of txn changes)) = is_held (view_of s log) c ts.0 changes ≡ true
IsStuck s log c (Some _) = ⊥
