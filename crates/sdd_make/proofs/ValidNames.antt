-- The names of the made transactions differ.
use Rattle.sdd_make.proofs.All.{List, Txn, ap, append_cancel_left, arith, bytes_eq, bytes_eq-Decides, codes, decimal, decimal_injective, false, false_from_ne_true, has_name, map, range_with_len, refl, repeats, suc, turn, turns, txns_of, zero, ℕ, ◌++◌, ◌+◌, ◌<◌, ◌^◌, ◌∙◌, ◌≡◌, ◌≤◌}
use Rattle.sdd_make.proofs.ValidTxns.{named_by_number}

abbrev name_of : ℕ → List ℕ
name_of i = codes "t" ++ decimal i

-- transactions are named by their numbers
names_are : (count i x : ℕ) → map (λ (t : Txn). t.name) (txns_of (turns count i x).0) ≡ map name_of (range_with_len i count)
names_are zero i x = refl
names_are (suc count) i x = grind (arith, named_by_number, name_of, (names_are count (i + 1) (turn i x).1))

names_differ : (i k : ℕ) → i < 2 ^ 32 → k < 2 ^ 32 → i < k → bytes_eq (name_of i) (name_of k) ≡ false
names_differ i k p q l = grind (arith, false_from_ne_true, bytes_eq, name_of, decimal_injective, append_cancel_left, bytes_eq-Decides)

-- none of the numbers above is named so
none_above : (j a n : ℕ) → j < a → a + n ≤ 2 ^ 32 → has_name (map name_of (range_with_len a n)) (name_of j) ≡ false
none_above j a zero l u = refl
none_above j a (suc n) l u = rw (names_differ j a (omega arith) (omega arith) l) (none_above j (a + 1) n (omega arith) (omega arith))

numbers_repeat_none : (a n : ℕ) → a + n ≤ 2 ^ 32 → repeats (map name_of (range_with_len a n)) ≡ false
numbers_repeat_none a zero u = refl
numbers_repeat_none a (suc n) u = rw (none_above a (a + 1) n (omega arith) (omega arith)) (numbers_repeat_none (a + 1) n (omega arith))

pub no_name_repeats : (count i x : ℕ) → i + count ≤ 2 ^ 32 → repeats (map (λ (t : Txn). t.name) (txns_of (turns count i x).0)) ≡ false
no_name_repeats count i x l = ap repeats (names_are count i x) ∙ numbers_repeat_none i count l
