-- The transactions that an order of submitted ones names are found by their names among all.
use Rattle.sdd_certify.proofs.All.{All, All-cons, All-head, All-nil, All-tail, Bool, Catalogue, Event, IsValid, List, None, Option, Some, Submit, Txn, TxnNo, Workload, [], ap, arith, bytes_eq, bytes_eq-Decides, cond, false, filter_map, list_any, map, refl, repeats, slice_get, some_is, submitted, submitted_by, suc, sym, texts_of, true, txn_name, txn_named, txn_of, txns_named, zero, ℕ, ◌-◌, ◌||◌, ◌∙◌, ◌∷◌, ◌≡◌}
use Rattle.sdd_verify.proofs.NumbersOfNames.{IsThere, member_at, name_in}
use Rattle.sdd_verify.proofs.Submissions.{found_member}

abbrev names_in : List Txn → List (List ℕ)
names_in txns = map (λ (t : Txn). t.name) txns

-- a name that isn't among others is none of theirs
other_name : (name : List ℕ) (txns : List Txn) (i : ℕ) (t : Txn) → list_any (bytes_eq name) (names_in txns) ≡ false → slice_get txns i ≡ Some t
    → bytes_eq name t.name ≡ false
other_name name [] i t none is = absurd cc
other_name name (txn ∷ txns) i t none is = by_test (bytes_eq name txn.name) refl (λ more k there. other_name name txns k t more there) none i is
  where
    by_test : (b : Bool) → bytes_eq name txn.name ≡ b
        → (list_any (bytes_eq name) (names_in txns) ≡ false → (k : ℕ) → slice_get txns k ≡ Some t → bytes_eq name t.name ≡ false)
        → (b || list_any (bytes_eq name) (names_in txns)) ≡ false
        → (i : ℕ) → slice_get (txn ∷ txns) i ≡ Some t → bytes_eq name t.name ≡ false
    by_test true e later none i is = absurd cc
    by_test false e later none zero is = ap (λ (u : Txn). bytes_eq name u.name) (sym (some_is txn t is)) ∙ e
    by_test false e later none (suc i) is = later none i is

-- of transactions with different names each is found by its name
found_by_name : (txns : List Txn) (i : ℕ) (t : Txn) → repeats (names_in txns) ≡ false → slice_get txns i ≡ Some t → txn_named txns t.name ≡ Some t
found_by_name [] i t apart is = absurd cc
found_by_name (txn ∷ txns) i t apart is =
    by_test (list_any (bytes_eq txn.name) (names_in txns)) refl (λ more k there. found_by_name txns k t more there) apart i is
  where
    by_test : (b : Bool) → list_any (bytes_eq txn.name) (names_in txns) ≡ b
        → (repeats (names_in txns) ≡ false → (k : ℕ) → slice_get txns k ≡ Some t → txn_named txns t.name ≡ Some t) → cond b true (repeats (names_in txns)) ≡ false
        → (i : ℕ) → slice_get (txn ∷ txns) i ≡ Some t → txn_named (txn ∷ txns) t.name ≡ Some t
    by_test true e later apart i is = absurd cc
    by_test false e later apart zero is =
        let same : txn ≡ t = some_is txn t is in
        let itself : bytes_eq txn.name t.name ≡ true = (bytes_eq-Decides txn.name t.name).1 (ap (λ (u : Txn). u.name) same) in
        rw itself (ap (λ (u : Txn). Some u) same)
    by_test false e later apart (suc i) is =
        let other : bytes_eq txn.name t.name ≡ false = other_name txn.name txns i t e is in
        rw other (later apart i is)

-- what is submitted stands among all
record StandsAt (txns : List Txn) (t : Txn) : Type 0 where
  place : ℕ
  is : slice_get txns place ≡ Some t

submitted_stands : (txns : List Txn) (e : Event) (t : Txn) → submitted_by txns e ≡ Some t → StandsAt txns t
submitted_stands txns (Submit number) t is = record { place = number.0 - 1; is = is }
submitted_stands txns _ t is = absurd cc

all_stand : (txns : List Txn) (events : List Event) → All (StandsAt txns) (filter_map (submitted_by txns) events)
all_stand txns [] = All-nil (StandsAt txns)
all_stand txns (e ∷ events) = by_found (submitted_by txns e) refl (all_stand txns events)
  where
    by_found : (o : Option Txn) → submitted_by txns e ≡ o → All (StandsAt txns) (filter_map (submitted_by txns) events) → All (StandsAt txns) (filter_map (submitted_by txns) (e ∷ events))
    by_found None is more = rw is more
    by_found (Some t) is more =
        rw is (All-cons (StandsAt txns) t (filter_map (submitted_by txns) events) (submitted_stands txns e t is) more)

-- the transaction of a number, by its name
one_named : (cat : Catalogue) (work : Workload) (number : TxnNo) → IsValid cat work → IsThere (submitted work) number
    → txn_named work.txns (name_in (submitted work) number) ≡ txn_of (submitted work) number
one_named cat work number valid there =
    let from = there.0 in
    let within = there.1 in
    let member = member_at (submitted work) (number.0 - 1) (omega (arith, from, within)) in
    let t : Txn = member.0 in
    let is : txn_of (submitted work) number ≡ Some t = member.1 in
    let stands = found_member (StandsAt work.txns) (submitted work) (number.0 - 1) t (all_stand work.txns work.events) member.1 in
    let name : name_in (submitted work) number ≡ t.name = rw member.1 refl in
    ap (txn_named work.txns) name ∙ found_by_name work.txns stands.place t valid.names stands.is ∙ sym is

more_named : {A B C : Type 0} (f : A → Option C) (g : B → Option C) (x : A) (y : B) (xs : List A) (ys : List B) → f x ≡ g y
    → filter_map f xs ≡ filter_map g ys → filter_map f (x ∷ xs) ≡ filter_map g (y ∷ ys)
more_named {A} {B} {C} f g x y xs ys one more = by_found (g y) refl
  where
    by_found : (o : Option C) → g y ≡ o → filter_map f (x ∷ xs) ≡ filter_map g (y ∷ ys)
    by_found None is = let first : f x ≡ None = one ∙ is in rw (first, is) more
    by_found (Some z) is = let first : f x ≡ Some z = one ∙ is in rw (first, is) (ap (λ (zs : List C). z ∷ zs) more)

pub all_named : (cat : Catalogue) (work : Workload) (order : List TxnNo) → IsValid cat work → All (IsThere (submitted work)) order
    → txns_named work.txns (map (name_in (submitted work)) order) ≡ texts_of (submitted work) order
all_named cat work [] valid there = refl
all_named cat work (number ∷ order) valid there =
    more_named (txn_named work.txns) (txn_of (submitted work)) (name_in (submitted work) number) number (map (name_in (submitted work)) order) order
    (one_named cat work number valid (All-head (IsThere (submitted work)) number order there))
    (all_named cat work order valid (All-tail (IsThere (submitted work)) number order there))
