-- What the made transactions do.
use Rattle.std.specs.Prelude.{ℕ, ℤ, pos, negsuc, ◌+◌, ◌%◌, ◌==◌, if◌then◌else◌, List, [], ◌∷◌, ◌++◌, codes}
use Rattle.std.specs.Fmt.{decimal}
use Rattle.sdd_script.specs.All.{Add, Condition, Const, Eq, Ge, Int, Op, Query, Ref, Stmt, Txn, Update, rel_no, tm_no}

-- a column of the accounts: 1 is the number, 2 the owner, 3 the balance
abbrev pub of_account : ℕ → Ref
of_account column = record { part = 1; column = column }

-- one condition, which compares a column with a number
abbrev pub compared : ℕ → Op → ℤ → List Condition
compared column op number = Const (of_account column) op (Int number) ∷ []

-- `update account set 1.bal += BY where 1.id = ID`
abbrev pub addition : ℤ → ℕ → Stmt
addition by id = Update (rel_no 1) (Add 3 by ∷ []) (compared 1 Eq (pos id))

-- one unit goes from an account to another one
abbrev pub payment : ℕ → ℕ → List Stmt
payment from to = addition (negsuc 0) from ∷ addition (pos 1) to ∷ []

-- a query for two columns of the accounts
abbrev pub account_query : ℕ → ℕ → List Condition → List Stmt
account_query first second conds = Query (of_account first ∷ of_account second ∷ []) (rel_no 1 ∷ []) conds ∷ []

-- `query 1.id 1.bal from account`
abbrev pub balances : List Stmt
balances = account_query 1 3 []

-- `query 1.owner 1.bal from account where 1.bal >= 50`, which no class covers at T1
abbrev pub owners : List Stmt
owners = account_query 2 3 (compared 3 Ge (pos 50))

-- transaction number i, at a module
abbrev pub txn_at : ℕ → ℕ → List Stmt → Txn
txn_at i tm statements = record { name = codes "t" ++ decimal i; tm = tm_no tm; statements = statements }

-- of the four kinds: a payment in the east, in the west, between them, and the books
abbrev pub txn_of_kind : ℕ → ℕ → ℕ → ℕ → Txn
txn_of_kind i kind a b =
    if kind == 0 then txn_at i 1 (payment a b)
    else (if kind == 1 then txn_at i 2 (payment (1000 + a) (1000 + b))
    else (if kind == 2 then txn_at i 3 (payment a (1000 + b)) else txn_at i 3 balances))

-- transaction number i; each 64th isn't of a class
abbrev pub txn_of : ℕ → ℕ → ℕ → ℕ → Txn
txn_of i kind a b = if i % 64 == 0 then txn_at i 1 owners else txn_of_kind i kind a b
