-- The transactions that names name.
use Rattle.sdd_certify.proofs.All.{All, All-cons, All-head, All-nil, All-tail, Bool, Bor, Catalogue, FitsTxn, IsValid, IsValidTxn, List, None, Option, Some, Txn, Workload, [], ap, bytes_eq, cond, false, filter_map, filter_map-append, find, get_or, length, lent_fit, map, refl, some_is, subst, take, true, txn_named, txns_named, ℕ, ◌++◌, ◌+◌, ◌<◌, ◌∙◌, ◌∷◌, ◌≡◌}
use Rattle.sdd_certify.proofs.PlacesFound.{lent_more}

-- one name more adds its transaction
pub names_more : (txns : List Txn) (names : List (Bor (List ℕ))) (i : ℕ) (d : Bor (List ℕ)) → i < length names
    → txns_named txns (map (λ t. t.now) (take (i + 1) names))
    ≡ txns_named txns (map (λ t. t.now) (take i names)) ++ txns_named txns ((get_or names i d).now ∷ [])
names_more txns names i d within =
    ap (txns_named txns) (lent_more names i d within)
    ∙ filter_map-append (txn_named txns) (map (λ (t : Bor (List ℕ)). t.now) (take i names)) ((get_or names i d).now ∷ [])

-- what is found has what each member has
found_has : {A : Type 0} (test : A → Bool) (P : A → Type 0) (xs : List A) (x : A) → All P xs → find test xs ≡ Some x → P x
found_has test P [] x all e = absurd cc
found_has {A} test P (y ∷ xs) x all e = by_test (test y) (λ more. found_has test P xs x (All-tail P y xs all) more) e
  where
    by_test : (b : Bool) → (find test xs ≡ Some x → P x) → cond b (Some y) (find test xs) ≡ Some x → P x
    by_test true later e = subst P (some_is y x e) (All-head P y xs all)
    by_test false later e = later e

-- and so have all that are found
all_given : {A B : Type 0} (f : A → Option B) (P : B → Type 0) (xs : List A) → ((x : A) (y : B) → f x ≡ Some y → P y) → All P (filter_map f xs)
all_given f P [] each = All-nil P
all_given {A} {B} f P (x ∷ xs) each = by_found (f x) refl (all_given f P xs each)
  where
    by_found : (o : Option B) → f x ≡ o → All P (filter_map f xs) → All P (filter_map f (x ∷ xs))
    by_found None is more = rw is more
    by_found (Some y) is more = rw is (All-cons P y (filter_map f xs) (each x y is) more)

all_fit : (cat : Catalogue) (work : Workload) → IsValid cat work → All (FitsTxn cat) work.txns
all_fit cat work valid = fits work.txns valid.txns
  where
    fits : (txns : List Txn) → All (IsValidTxn cat) txns → All (FitsTxn cat) txns
    fits [] all = All-nil (FitsTxn cat)
    fits (t ∷ txns) all = All-cons (FitsTxn cat) t txns (All-head (IsValidTxn cat) t txns all).fits (fits txns (All-tail (IsValidTxn cat) t txns all))

-- so they fit the catalogue
pub named_fit : (cat : Catalogue) (work : Workload) (names : List (List ℕ)) (texts : List (Bor Txn))
    → IsValid cat work → map (λ t. t.now) texts ≡ txns_named work.txns names → All (λ (t : Bor Txn). FitsTxn cat t.now) texts
named_fit cat work names texts valid is =
    let fit = all_fit cat work valid in
    lent_fit cat texts (rw is (all_given (txn_named work.txns) (FitsTxn cat) names
    (λ name t found. found_has (λ (txn : Txn). bytes_eq txn.name name) (FitsTxn cat) work.txns t fit found)))
