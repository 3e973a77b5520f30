-- While a READ waits, no WRITE that spoils one of its conditions is processed. Conditions on class 0, which no READ has,
-- are left out.
use Rattle.std.specs.Prelude.{ℕ, ◌∷◌, ◌≡◌, ◌⊎◌, Bool, List, None, Option, Some, [], false, true}
use Rattle.sdd_log.specs.All.{Cond, Msg, Read, Setting, head, is_at_least, pipe, spoils, view_of, waits, write_time}
use Rattle.sdd_log.specs.site_module.SiteLog.{Log}
use Rattle.sdd_invariants.specs.ReadSteps.{IsClassHere}

-- whether a processed message spoils a condition
abbrev pub spoiling : Cond → Msg → Bool
spoiling d m = is_at_least d.time.0 (write_time d.frags m)

abbrev pub AllUnspoilt : Setting → Log → List Cond → Type 0
AllUnspoilt s log [] = Unit {0}
AllUnspoilt s log (d ∷ ds) = ((d.class.0 ≡ 0) ⊎ (spoils (view_of s log) d ≡ false)) × AllUnspoilt s log ds

abbrev pub IsUnspoilt : Setting → Log → Option Msg → Type 0
IsUnspoilt s log None = ⊥
IsUnspoilt s log (Some (Read ts class txn attempt conds uses)) = AllUnspoilt s log conds
IsUnspoilt s log (Some _) = ⊥

-- where the head of the class waits, it is a READ that nothing spoils
abbrev pub IsWaiting : Setting → ℕ → Log → Type 0
IsWaiting s c log = waits c log ≡ true → IsClassHere s c × IsUnspoilt s log (head (pipe c log))
