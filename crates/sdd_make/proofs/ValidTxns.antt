-- The made rows and transactions are valid.
use Rattle.sdd_make.proofs.All.{Add, All, All-append, All-cons, All-nil, AssignsValue, Bool, Condition, Const, Eq, FitsCondition, FitsRef, FitsStatement, Ge, HoldsValue, HoldsValues, Int, IsRelation, IsValidRow, IsValidTxn, IsValue, List, Stmt, Text, Txn, [], account_query, account_row, accounts, addition, arith, balances, bank, cond, is_text, length, mag, map, of_account, one, owners, payment, pos, range_with_len, rel_no, rows_put_by, suc, txn_at, txn_of, txn_of_kind, zero, ℕ, ℤ, ◌%◌, ◌+◌, ◌<◌, ◌==◌, ◌^◌, ◌∷◌, ◌≡◌, ◌≤◌}
use Rattle.sdd_make.proofs.Names.{number_named}
use Rattle.sdd_make.proofs.Owner.{owner_is_text}

-- of two values that both do
pub choose : {A : Type 0} (P : A → Type 0) (b : Bool) (x y : A) → P x → P y → P (cond b x y)
choose P b x y p q = grind arith

two : {A : Type 0} (P : A → Type 0) (x y : A) → P x → P y → All P (x ∷ y ∷ [])
two P x y p q = All-cons P x (y ∷ []) p (one P y q)

-- rows

owner_value : IsValue (Text (111 ∷ []))
owner_value = is_text (111 ∷ []) owner_is_text.utf8

accounts_from : (a n : ℕ) → a + n ≤ 2000 → All (IsValidRow bank) (map account_row (range_with_len a n))
accounts_from a zero l = All-nil (IsValidRow bank)
accounts_from a (suc n) l =
    All-cons (IsValidRow bank) (account_row a) (map account_row (range_with_len (a + 1) n)) (grind (arith, two, owner_value))
    (accounts_from (a + 1) n (omega arith))

pub accounts_valid : All (IsValidRow bank) accounts
accounts_valid =
    All-append (IsValidRow bank) (map account_row (range_with_len 0 10)) (map account_row (range_with_len 1000 10))
    (accounts_from 0 10 (omega arith)) (accounts_from 1000 10 (omega arith))

-- statements

id_fits : FitsRef bank (rel_no 1 ∷ []) (of_account 1)
id_fits = ((omega arith, omega arith), (omega arith, omega arith))

owner_fits : FitsRef bank (rel_no 1 ∷ []) (of_account 2)
owner_fits = ((omega arith, omega arith), (omega arith, omega arith))

balance_fits : FitsRef bank (rel_no 1 ∷ []) (of_account 3)
balance_fits = ((omega arith, omega arith), (omega arith, omega arith))

addition_values : (by : ℤ) (id : ℕ) → mag by < 2 ^ 63 → id < 2 ^ 63 → HoldsValues (addition by id)
addition_values by id b i = (one AssignsValue (Add 3 by) b, one HoldsValue (Const (of_account 1) Eq (Int (pos id))) i)

payment_fits : (from to : ℕ) → All (FitsStatement bank) (payment from to)
payment_fits from to = grind (arith, two, one, id_fits)

relation_there : IsRelation bank 1
relation_there = (omega arith, omega arith)

asking_fits : (first second : ℕ) (conds : List Condition) → FitsRef bank (rel_no 1 ∷ []) (of_account first)
    → FitsRef bank (rel_no 1 ∷ []) (of_account second) → length conds ≤ 16 → All (FitsCondition bank (rel_no 1 ∷ [])) conds
    → All (FitsStatement bank) (account_query first second conds)
asking_fits first second conds f s few fit = grind (arith, one, relation_there, two)

balances_values : All HoldsValues balances
balances_values = one HoldsValues _ (All-nil HoldsValue)

owners_values : All HoldsValues owners
owners_values = one HoldsValues _ (one HoldsValue (Const (of_account 3) Ge (Int (pos 50))) (omega arith))

-- transactions

at_module : (i tm : ℕ) (statements : List Stmt) → i < 2 ^ 32 → 1 ≤ tm → tm ≤ 3 → length statements ≤ 32
    → All (FitsStatement bank) statements → All HoldsValues statements → IsValidTxn bank (txn_at i tm statements)
at_module i tm statements small from to few fit values = grind (arith, number_named)

paid : (i tm from to : ℕ) → i < 2 ^ 32 → 1 ≤ tm → tm ≤ 3 → from < 2000 → to < 2000 → IsValidTxn bank (txn_at i tm (payment from to))
paid i tm from to small l u f t = at_module i tm (payment from to) small l u (omega arith) (payment_fits from to) (grind (arith, two, addition_values))

of_kind : (i kind a b : ℕ) → i < 2 ^ 32 → a < 10 → b < 10 → IsValidTxn bank (txn_of_kind i kind a b)
of_kind i kind a b small p q =
    let last = at_module i 3 balances small (omega arith) (omega arith) (omega arith)
    (asking_fits 1 3 [] id_fits balance_fits (omega arith) (All-nil (FitsCondition bank (rel_no 1 ∷ [])))) balances_values in
    let third = choose (IsValidTxn bank) (kind == 2) (txn_at i 3 (payment a (1000 + b))) (txn_at i 3 balances)
    (paid i 3 a (1000 + b) small (omega arith) (omega arith) (omega arith) (omega arith)) last in
    let second = choose (IsValidTxn bank) (kind == 1) (txn_at i 2 (payment (1000 + a) (1000 + b))) _
    (paid i 2 (1000 + a) (1000 + b) small (omega arith) (omega arith) (omega arith) (omega arith)) third in
    choose (IsValidTxn bank) (kind == 0) (txn_at i 1 (payment a b)) _ (paid i 1 a b small (omega arith) (omega arith) (omega arith) (omega arith)) second

pub txn_valid : (i kind a b : ℕ) → i < 2 ^ 32 → a < 10 → b < 10 → IsValidTxn bank (txn_of i kind a b)
txn_valid i kind a b small p q =
    choose (IsValidTxn bank) (i % 64 == 0) (txn_at i 1 owners) (txn_of_kind i kind a b)
    (at_module i 1 owners small (omega arith) (omega arith) (omega arith) (grind (arith, asking_fits, owner_fits, balance_fits, one)) owners_values) (of_kind i kind a b small p q)

-- no transaction puts a row

abbrev PutsNone : Txn → Type 0
PutsNone t = rows_put_by t ≡ 0

pub puts_none : (i kind a b : ℕ) → rows_put_by (txn_of i kind a b) ≡ 0
puts_none i kind a b = grind (arith, choose, PutsNone)

-- each is named by its number
abbrev IsNamed : ℕ → Txn → Type 0
IsNamed i t = t.name ≡ (txn_at i 1 []).name

pub named_by_number : (i kind a b : ℕ) → (txn_of i kind a b).name ≡ (txn_at i 1 []).name
named_by_number i kind a b = grind (arith, choose, IsNamed)
