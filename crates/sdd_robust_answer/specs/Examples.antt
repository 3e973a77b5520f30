-- Worked answers of each kind.
use Rattle.std.specs.Prelude.{ℕ, ◌≡◌, List, [], ◌∷◌, codes, refl}
use Rattle.sdd_lang.specs.All.{tm_no}
use Rattle.sdd_lang.specs.declared.transaction.Txn.{Txn}
use Rattle.sdd_robust_answer.specs.Answers.{not_robust_text, unknown_text}

abbrev named : List ℕ → Txn
named name = record { name = name; tm = tm_no 1; statements = [] }

abbrev three : List Txn
three = named (codes "check") ∷ named (codes "pay") ∷ named (codes "save") ∷ []

pub run_shown : not_robust_text (named (codes "check")) (named (codes "pay") ∷ named (codes "save") ∷ [])
    ≡ codes "snapshot isolation: not robust\nbegin check\nrun pay\nrun save\nend check\n"
run_shown = refl

-- the pivot is the second, and one that both misses and is missed is told twice
pub pivot_shown : unknown_text three (record { pivot = 1; missed = 0; missing = 2 })
    ≡ codes "snapshot isolation: unknown\npivot pay reads what check changes, and changes what save reads\n"
pivot_shown = refl

pub one_other : unknown_text three (record { pivot = 0; missed = 2; missing = 2 })
    ≡ codes "snapshot isolation: unknown\npivot check reads what save changes, and changes what save reads\n"
one_other = refl
