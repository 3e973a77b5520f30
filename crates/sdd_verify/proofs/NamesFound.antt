-- The number of the first transaction of each name, one transaction more.
use Rattle.sdd_verify.proofs.All.{Bor, List, None, Option, Some, Txn, TxnNo, [], ap, arith, bytes_eq, bytes_eq-Decides, cases_Bool, cond, false, get_or, is_at, is_eq-slice_cmp, is_some, length, length-map, length-take-le, map, map-append, named, named_from, nat_cmp, nat_tests, or_else, refl, slice_cmp, subst, sym, take, take_more, true, txn_no, ℕ, ◌++◌, ◌+◌, ◌<◌, ◌∙◌, ◌∷◌, ◌≡◌, ◌≤◌}

abbrev Here : Txn → ℕ → List ℕ → Option TxnNo
Here txn number name = cond (bytes_eq txn.name name) (Some (txn_no number)) None

named_from_more : (number : ℕ) (txns : List Txn) (txn : Txn) (name : List ℕ)
    → named_from number (txns ++ txn ∷ []) name ≡ or_else (named_from number txns name)
    (Here txn (number + length txns) name)
named_from_more number [] txn name = let none : number + 0 ≡ number = omega arith in rw none refl
named_from_more number (first ∷ txns) txn name = grind (arith, nat_tests, bytes_eq, named_from, Here, (named_from_more (number + 1) txns txn name))

abbrev pub Found : (List ℕ → Option TxnNo) → List Txn → Type 0
Found made txns = (name : List ℕ) → made name ≡ named txns name

some_stays : {A : Type 0} (o p : Option A) → is_some o ≡ true → or_else o p ≡ o
some_stays o p e = grind (arith, nat_tests)

or_second : {A : Type 0} (o p : Option A) → is_some o ≡ false → or_else o p ≡ p
or_second o p e = grind (arith, nat_tests)

-- a transaction whose name has a number
pub known_name : (txns : List Txn) (txn : Txn) (made : List ℕ → Option TxnNo) → is_some (made txn.name) ≡ true → Found made txns → Found made (txns ++ txn ∷ [])
known_name txns txn made has old name = grind (arith, cases_Bool, bytes_eq, bytes_eq-Decides, is_some, named_from_more, some_stays, Here, nat_tests)

-- the first transaction of a name
pub new_name : (txns : List Txn) (txn : Txn) (made new : List ℕ → Option TxnNo) (number : TxnNo) → number.0 ≡ length txns + 1 → is_some (made txn.name) ≡ false
    → ((name : List ℕ) → new name ≡ cond (is_at (slice_cmp nat_cmp txn.name) name) (Some number) (made name)) → Found made txns → Found new (txns ++ txn ∷ [])
new_name txns txn made new number is absent updates old name =
    grind (arith, Here, bytes_eq, is_eq-slice_cmp, cases_Bool, bytes_eq-Decides, is_some, named_from_more, or_second, nat_tests)

-- the transactions up to the next place
pub lent_more : (txns : List (Bor Txn)) (i : ℕ) (t : Bor Txn) → i < length txns → t ≡ get_or txns i t
    → map (λ t. t.now) (take (i + 1) txns) ≡ map (λ t. t.now) (take i txns) ++ t.now ∷ []
lent_more txns i t lt is =
    ap (map (λ (u : Bor Txn). u.now)) (grind (arith, nat_tests, take_more)) ∙ map-append (λ (u : Bor Txn). u.now) (take i txns) (t ∷ [])

-- one step of the loop, where the name has a number
pub known_step : (txns : List (Bor Txn)) (i : ℕ) (t : Bor Txn) (key : List ℕ) (made : List ℕ → Option TxnNo)
    → i < length txns → t ≡ get_or txns i t → key ≡ t.now.name
    → is_some (made key) ≡ true → Found made (map (λ t. t.now) (take i txns)) → Found made (map (λ t. t.now) (take (i + 1) txns))
known_step txns i t key made lt is same has old =
    let there = subst (λ (n : List ℕ). is_some (made n) ≡ true) same has in
    subst (Found made) (sym (lent_more txns i t lt is)) (known_name (map (λ (t : Bor Txn). t.now) (take i txns)) t.now made there old)

-- and where it has none yet
pub new_step : (txns : List (Bor Txn)) (i : ℕ) (t : Bor Txn) (key : List ℕ) (made new : List ℕ
    → Option TxnNo) → i < length txns → t ≡ get_or txns i t → key ≡ t.now.name
    → is_some (made key) ≡ false → ((name : List ℕ) → new name ≡ cond (is_at (slice_cmp nat_cmp key) name) (Some (txn_no (i + 1))) (made name))
    → Found made (map (λ t. t.now) (take i txns)) → Found new (map (λ t. t.now) (take (i + 1) txns))
new_step txns i t key made new lt is same absent updates old =
    let nothing = subst (λ (n : List ℕ). is_some (made n) ≡ false) same absent in
    let now = subst (λ (n : List ℕ). (name : List ℕ) → new name ≡ cond (is_at (slice_cmp nat_cmp n) name) (Some (txn_no (i + 1))) (made name)) same updates in
    let count : i + 1 ≡ length (map (λ (t : Bor Txn). t.now) (take i txns)) + 1 = ap (λ (k : ℕ). k + 1)
    (sym (length-map (take i txns) (λ (t : Bor Txn). t.now) ∙ length-take-le i txns (let le : i ≤ length txns = omega arith in le))) in
    subst (Found new) (sym (lent_more txns i t lt is))
    (new_name (map (λ (t : Bor Txn). t.now) (take i txns)) t.now made new (txn_no (i + 1)) count nothing
    now old)
