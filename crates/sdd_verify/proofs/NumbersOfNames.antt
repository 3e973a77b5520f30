-- Names of transactions, and the numbers that they tell.
use Rattle.sdd_verify.proofs.All.{All, All-cons, All-head, All-nil, All-tail, Answers, Bool, IsFrom1To, List, Ok, Some, Txn, TxnNo, [], along, along_ok, ap, arith, bytes_eq, bytes_eq-Decides, cases_Bool, cond, false, inl, inr, length, map, named, named_from, nat_tests, ok_along, refl, require, require_ok, slice_get, suc, sym, true, txn_name, txn_no, zero, ℕ, ◌+◌, ◌-◌, ◌<◌, ◌∷◌, ◌≡◌, ◌≢◌, ◌≤◌}
use Rattle.sdd_verify.proofs.Submissions.{found_member, some_is}

-- a number that a name tells is that of a transaction of this name
pub record Tells (txns : List Txn) (name : List ℕ) (number : TxnNo) : Type 0 where
  pub there : IsFrom1To (length txns) number.0
  pub name_is : txn_name txns number.0 ≡ name

-- counted from a number on
record TellsFrom (first : ℕ) (txns : List Txn) (name : List ℕ) (number : TxnNo) : Type 0 where
  from : first ≤ number.0
  within : number.0 < first + length txns
  found : (place : ℕ) → number.0 ≡ first + place → (t : Txn) × (slice_get txns place ≡ Some t) × (t.name ≡ name)

tells_by : (first : ℕ) (txn : Txn) (txns : List Txn) (name : List ℕ) (number : TxnNo) (b : Bool) → bytes_eq txn.name name ≡ b
    → (named_from (first + 1) txns name ≡ Some number → TellsFrom (first + 1) txns name number)
    → cond b (Some (txn_no first)) (named_from (first + 1) txns name) ≡ Some number → TellsFrom first (txn ∷ txns) name number
tells_by first txn txns name number true e later h =
    let is : first ≡ number.0 = ap (λ (n : TxnNo). n.0) (some_is (txn_no first) number h) in
    record {
      from = omega (arith, is);
      within = omega (arith, is);
      found = λ place at. let zero_is : place ≡ 0 = omega (arith, is, at) in rw zero_is (txn, refl, (bytes_eq-Decides txn.name name).0 e);
    }
tells_by first txn txns name number false e later h =
    let t = later h in
    let from = t.from in
    let within = t.within in
    record { from = omega (arith, from); within = omega (arith, within); found = λ place at. found_behind place at }
  where
    found_behind : (place : ℕ) → number.0 ≡ first + place → (t : Txn) × (slice_get (txn ∷ txns) place ≡ Some t) × (t.name ≡ name)
    found_behind zero at = let from = (later h).from in absurd (omega (arith, from, at))
    found_behind (suc place) at = (later h).found place (omega (arith, at))

tells_from : (first : ℕ) (txns : List Txn) (name : List ℕ) (number : TxnNo) → named_from first txns name ≡ Some number → TellsFrom first txns name number
tells_from first [] name number h = absurd cc
tells_from first (txn ∷ txns) name number h = grind (arith, tells_by, bytes_eq, (tells_from (first + 1) txns name number))

pub named_tells : (txns : List Txn) (name : List ℕ) (number : TxnNo) → named txns name ≡ Some number → Tells txns name number
named_tells txns name number h =
    let t = tells_from 1 txns name number h in
    let from = t.from in
    let within = t.within in
    let found = t.found (number.0 - 1) (omega (arith, from)) in
    let there = found.1 in
    record { there = (omega (arith, from), omega (arith, within)); name_is = rw there found.2 }

-- names that differ

differ : (a b : List ℕ) → a ≢ b → bytes_eq a b ≡ false
differ a b h = elim (cases_Bool (bytes_eq a b)) [ inl y ↦ absurd (h ((bytes_eq-Decides a b).0 y)) | inr f ↦ f ]

abbrev pub AllDiffer : List Txn → Type 0
AllDiffer [] = Unit {0}
AllDiffer (txn ∷ txns) = All (λ (u : Txn). u.name ≢ txn.name) txns × AllDiffer txns

-- a name tells the number of its transaction
again_from : (first : ℕ) (txns : List Txn) (place : ℕ) (t : Txn) → AllDiffer txns
    → slice_get txns place ≡ Some t → named_from first txns t.name ≡ Some (txn_no (first + place))
again_from first (txn ∷ txns) (suc place) t apart there =
    let other : t.name ≢ txn.name = found_member (λ (u : Txn). u.name ≢ txn.name) txns place t apart.0 there in
    let differs : bytes_eq txn.name t.name ≡ false = differ txn.name t.name (λ e. other (sym e)) in
    let more = again_from (first + 1) txns place t apart.1 there in
    let count : first + 1 + place ≡ first + suc place = omega arith in
    rw (differs, more, count) refl
again_from first txns place t apart there = grind (arith, some_is, bytes_eq, bytes_eq-Decides)

pub member_at : (txns : List Txn) (place : ℕ) → place < length txns → (t : Txn) × (slice_get txns place ≡ Some t)
member_at [] place lt = absurd (omega arith)
member_at (txn ∷ txns) zero lt = (txn, refl)
member_at (txn ∷ txns) (suc place) lt = member_at txns place (omega arith)

pub named_again : (txns : List Txn) (number : TxnNo) → AllDiffer txns → IsFrom1To (length txns) number.0 → named txns (txn_name txns number.0) ≡ Some number
named_again txns number apart there =
    let from = there.0 in
    let within = there.1 in
    let member = member_at txns (number.0 - 1) (omega (arith, from, within)) in
    grind (arith, nat_tests, txn_name, named, again_from, txn_no)

-- the numbers that names tell, and names that tell numbers

abbrev pub name_in : List Txn → TxnNo → List ℕ
name_in txns number = txn_name txns number.0

abbrev pub IsThere : List Txn → TxnNo → Type 0
IsThere txns number = IsFrom1To (length txns) number.0

numbers_named : (line : ℕ) (txns : List Txn) (count : ℕ) (names : List (List ℕ)) (order : List TxnNo)
    → Answers (λ _ name. require line (named txns name)) count names order → (names ≡ map (name_in txns) order) × All (IsThere txns) order
numbers_named line txns count [] [] h = (refl, All-nil (IsThere txns))
numbers_named line txns count (name ∷ names) (number ∷ order) h =
    let one = named_tells txns name number (require_ok line (named txns name) number h.0) in
    let more = numbers_named line txns (count + 1) names order h.1 in
    let here = sym one.name_is in
    let behind = more.0 in
    (rw (here, behind) refl, All-cons (IsThere txns) number order one.there more.1)
numbers_named line txns count _ _ h = absurd h

pub names_are_all : (line : ℕ) (txns : List Txn) (count : ℕ) (names : List (List ℕ)) (order : List TxnNo)
    → along (λ _ name. require line (named txns name)) count names ≡ Ok order → (names ≡ map (name_in txns) order) × All (IsThere txns) order
names_are_all line txns count names order h = numbers_named line txns count names order (along_ok (λ _ name. require line (named txns name)) count names order h)

answers_again : (line : ℕ) (txns : List Txn) (count : ℕ) (order : List TxnNo) → AllDiffer txns → All (IsThere txns) order
    → Answers (λ _ name. require line (named txns name)) count (map (name_in txns) order) order
answers_again line txns count [] apart there = tt
answers_again line txns count (number ∷ order) apart there =
    let one = named_again txns number apart (All-head (IsThere txns) number order there) in
    (ap (require line) one, answers_again line txns (count + 1) order apart (All-tail (IsThere txns) number order there))

pub numbers_again : (line : ℕ) (txns : List Txn) (count : ℕ) (order : List TxnNo) → AllDiffer txns → All (IsThere txns) order
    → along (λ _ name. require line (named txns name)) count (map (name_in txns) order) ≡ Ok order
numbers_again line txns count order apart there =
    ok_along (λ _ name. require line (named txns name)) count (map (name_in txns) order) order (answers_again line txns count order apart there)
