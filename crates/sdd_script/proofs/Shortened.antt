-- A statement of which no more is kept than tells that it is too long breaks the same limits.
use Rattle.sdd_script.proofs.All.{Assign, Bool, Condition, Delete, Fails, LineError, List, MAX_ASSIGNMENTS, MAX_CONDITIONS, MAX_OUTPUT_COLUMNS, MAX_STATEMENTS, MAX_USES, Ok, Option, Put, Query, Ref, RelNo, Result, Some, State, Stmt, TooMany, Update, WorkRule, [], arith, cases_Bool, few, leb-false, leb-true, length, length-take, lt-leb, must, nat_le, nat_lt, ok_is, refl, require, rule_in, short, shortened, statement_rules, take, take_all, true, with_statement, ℕ, ◌++◌, ◌+◌, ◌>>=◌, ◌∷◌, ◌≡◌, ◌≤◌}
use Rattle.sdd_script.specs.declared.fault.Counts.TheVariants as counts

-- ---- what was read in part is read of the short statement

pub fails_at : {A : Type 0} (err : LineError) (read : Result A WorkRule) (f : A → Result Stmt WorkRule) → Fails rule_in err read
    → Fails rule_in err (short (read >>= f))
fails_at err read f h = grind arith

pub fails_short : {A : Type 0} (most : ℕ) (err : LineError) (read : Result (List A) WorkRule) (f : List A → Result Stmt WorkRule)
    → Fails rule_in err (few most read) → Fails rule_in err (short (read >>= f))
fails_short most err read f h = fails_at err read f (grind (arith))

pub fails_second : {A B : Type 0} (m n : ℕ) (err : LineError) (read : Result (List A) WorkRule) (kept : List A) (second : Result (List B) WorkRule)
    (f : List A → List B → Result Stmt WorkRule) → few m read ≡ Ok kept → Fails rule_in err (few n second)
    → Fails rule_in err (short (read >>= (λ x. second >>= f x)))
fails_second m n err read kept second f e h = grind (arith, ok_is, fails_short)

pub fails_third : {A B C : Type 0} (m n k : ℕ) (err : LineError) (read : Result (List A) WorkRule) (kept : List A) (second : Result (List B)
    WorkRule) (more : List B)
    (third : Result (List C) WorkRule) (f : List A → List B → List C → Result Stmt WorkRule) → few m read ≡ Ok kept → few n second ≡ Ok more
    → Fails rule_in err (few k third) → Fails rule_in err (short (read >>= (λ x. second >>= (λ y. third >>= f x y))))
fails_third m n k err read kept second more third f e g h = grind (arith, ok_is, fails_short)

pub query_short : (read : Result (List Ref) WorkRule) (second : Result (List RelNo) WorkRule) (third : Result (List Condition) WorkRule)
    (out : List Ref) (rels : List RelNo) (conds : List Condition)
    → few MAX_OUTPUT_COLUMNS read ≡ Ok out → few MAX_USES second ≡ Ok rels → few MAX_CONDITIONS third ≡ Ok conds
    → short (read >>= (λ out. second >>= (λ rels. third >>= (λ conds. Ok (Query out rels conds))))) ≡ Ok (Query out rels conds)
query_short read second third out rels conds e g h = grind arith

pub update_short : (rel : RelNo) (read : Result (List Assign) WorkRule) (second : Result (List Condition) WorkRule) (sets : List Assign) (conds :
    List Condition)
    → few MAX_ASSIGNMENTS read ≡ Ok sets → few MAX_CONDITIONS second ≡ Ok conds
    → short (read >>= (λ sets. second >>= (λ conds. Ok (Update rel sets conds)))) ≡ Ok (Update rel sets conds)
update_short rel read second sets conds e g = grind arith

pub delete_short : (rel : RelNo) (read : Result (List Condition) WorkRule) (conds : List Condition) → few MAX_CONDITIONS read ≡ Ok conds
    → short (read >>= (λ conds. Ok (Delete rel conds))) ≡ Ok (Delete rel conds)
delete_short rel read conds e = grind arith

-- ---- the same limits are broken

whole : {A : Type 0} (most : ℕ) (xs : List A) → nat_le (length xs) most ≡ true → take (most + 1) xs ≡ xs
whole most xs within = let le : length xs ≤ most = leb-true (length xs) most within in take_all (most + 1) xs (omega arith)

same_test : {A : Type 0} (most : ℕ) (xs : List A) → nat_le (length (take (most + 1) xs)) most ≡ nat_le (length xs) most
same_test most xs = grind (arith, cases_Bool, nat_le, whole, leb-false, lt-leb, length-take)

-- the tests of a statement's lists
abbrev tested : Bool → Bool → Bool → Bool → Result (Unit {0}) WorkRule
tested statements rels conds out = do
  _ ← must (TooMany counts.Statement) statements
  _ ← must (TooMany counts.Part) rels
  _ ← must (TooMany counts.Cond) conds
  must (TooMany counts.Column) out

abbrev tested_update : Bool → Bool → Bool → Result (Unit {0}) WorkRule
tested_update statements conds sets = do
  _ ← must (TooMany counts.Statement) statements
  _ ← must (TooMany counts.Cond) conds
  must (TooMany counts.Column) sets

abbrev tested_delete : Bool → Bool → Result (Unit {0}) WorkRule
tested_delete statements conds = do
  _ ← must (TooMany counts.Statement) statements
  must (TooMany counts.Cond) conds

abbrev passed : Result (Unit {0}) WorkRule
passed = Ok tt

all_passed : (a b c d : Bool) → tested a b c d ≡ passed → (b ≡ true) × (c ≡ true) × (d ≡ true)
all_passed a b c d e = grind arith

update_passed : (a b c : Bool) → tested_update a b c ≡ passed → (b ≡ true) × (c ≡ true)
update_passed a b c e = grind arith

abbrev outcome : State → Option ℕ → Result (Unit {0}) WorkRule → Stmt → Result State WorkRule
outcome st written limits statement = do
  written ← require (TooMany counts.Row) written
  _ ← limits
  Ok (record st { statements = st.statements ++ statement ∷ []; written = written })

by_limits : (st : State) (written : Option ℕ) (limits : Result (Unit {0}) WorkRule) (s t : Stmt) → (limits ≡ passed → s ≡ t)
    → outcome st written limits s ≡ outcome st written limits t
by_limits st written limits s t same = grind (arith, outcome, passed)

same_statement : (st : State) (s : Stmt) → with_statement st (shortened s) ≡ with_statement st s
same_statement st (Put rel row) = refl
same_statement st (Query out rels conds) =
    let room = nat_lt (length st.statements) MAX_STATEMENTS in
    let limits =
    tested room (nat_le (length rels) MAX_USES) (nat_le (length conds) MAX_CONDITIONS) (nat_le (length out) MAX_OUTPUT_COLUMNS) in
    simp same_test (by_limits st (Some st.written) limits (shortened (Query out rels conds)) (Query out rels conds) (λ e.
    let all =
    all_passed room (nat_le (length rels) MAX_USES) (nat_le (length conds) MAX_CONDITIONS)
    (nat_le (length out) MAX_OUTPUT_COLUMNS) e in
    rw (whole MAX_OUTPUT_COLUMNS out all.2, whole MAX_USES rels all.0, whole MAX_CONDITIONS conds all.1) refl))
same_statement st (Update rel sets conds) =
    let room = nat_lt (length st.statements) MAX_STATEMENTS in
    let limits = tested_update room (nat_le (length conds) MAX_CONDITIONS) (nat_le (length sets) MAX_ASSIGNMENTS) in
    simp same_test (by_limits st (Some st.written) limits (shortened (Update rel sets conds)) (Update rel sets conds) (λ e.
    let all = update_passed room (nat_le (length conds) MAX_CONDITIONS) (nat_le (length sets) MAX_ASSIGNMENTS) e in
    rw (whole MAX_ASSIGNMENTS sets all.1, whole MAX_CONDITIONS conds all.0) refl))
same_statement st (Delete rel conds) =
    let room = nat_lt (length st.statements) MAX_STATEMENTS in
    let limits = tested_delete room (nat_le (length conds) MAX_CONDITIONS) in
    simp same_test (by_limits st (Some st.written) limits (shortened (Delete rel conds)) (Delete rel conds) (λ e.
    rw (whole MAX_CONDITIONS conds (grind arith)) refl))

-- a statement that is shortened breaks the rules that it breaks whole
pub same_rules : (st : State) (read : Result Stmt WorkRule) → statement_rules st (short read) ≡ statement_rules st read
same_rules st read = (grind (arith, same_statement))
