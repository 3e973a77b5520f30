-- The lowest class that covers a transaction, among the classes from one on.
use Rattle.sdd_lang.proofs.All.{Catalogue, Txn, ap, arith, class_for, cond, covers, false, filter, head_of, length, range_with_len, suc, true, unwrap_or, ℕ, ◌+◌, ◌-◌, ◌<◌, ◌∷◌, ◌≡◌, ◌≤◌}

-- the lowest of n classes from c on, or 0
unfoldable pub first_from : Catalogue → Txn → ℕ → ℕ → ℕ
first_from cat txn c n = unwrap_or (head_of (filter (covers cat txn) (range_with_len c n))) 0

pub first_of_all : (cat : Catalogue) (txn : Txn) → class_for cat txn ≡ first_from cat txn 1 (length cat.classes + 1 - 1)
unfolding first_from
first_of_all cat txn = let n : length cat.classes ≡ length cat.classes + 1 - 1 = omega arith in cc

first_step : (cat : Catalogue) (txn : Txn) (c m n : ℕ) → n ≡ suc m
    → first_from cat txn c n ≡ unwrap_or
    (head_of (cond (covers cat txn c) (c ∷ filter (covers cat txn) (range_with_len (c + 1) m))
    (filter (covers cat txn) (range_with_len (c + 1) m)))) 0
unfolding first_from
first_step cat txn c m n e = ap (λ k. unwrap_or (head_of (filter (covers cat txn) (range_with_len c k))) 0) e

pub first_here : (cat : Catalogue) (txn : Txn) (c n : ℕ) → c < n → true ≡ covers cat txn c → first_from cat txn c (n - c) ≡ c
first_here cat txn c n within covered = cc (first_step cat txn c (n - c - 1) (n - c) (omega arith), covered)

pub first_later : (cat : Catalogue) (txn : Txn) (c n : ℕ) → c < n → false ≡ covers cat txn c
    → first_from cat txn c (n - c) ≡ first_from cat txn (c + 1) (n - (c + 1))
unfolding first_from
first_later cat txn c n within covered = grind arith

pub first_of_none : (cat : Catalogue) (txn : Txn) (c n : ℕ) → n ≤ c → first_from cat txn c (n - c) ≡ 0
unfolding first_from
first_of_none cat txn c n past = let e : n - c ≡ 0 = omega arith in cc
