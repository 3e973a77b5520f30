-- Rows that may stand in a part.
use Rattle.sdd_lang.proofs.All.{Condition, Const, List, Row, Same, [], arith, cons_option, list_all, may_join, refl, ℕ, ◌∷◌, ◌≡◌}

-- a row may stand in a part where each condition by itself lets it
pub each_lets_join : (conds : List Condition) (part : ℕ) (row : Row) → list_all (λ c. may_join (c ∷ []) part row) conds ≡ may_join conds part row
each_lets_join [] part row = refl
each_lets_join (Const left op value ∷ conds) part row = grind (arith, list_all, cons_option, (each_lets_join conds part row))
each_lets_join (Same left right ∷ conds) part row = each_lets_join conds part row
