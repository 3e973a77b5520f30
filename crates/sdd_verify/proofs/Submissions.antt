-- The transactions that are submitted, event by event, and those that an order names.
use Rattle.sdd_verify.proofs.All.{All, All-cons, All-head, All-nil, All-tail, Bor, Catalogue, Event, FitsStart, FitsTxn, IsValid, IsValidRow, IsValidTxn, List, MAX_EVENTS, Option, RelNo, Some, Submit, Txn, TxnNo, Value, Workload, [], arith, filter_map, filter_map-append, get_or, length, length-map, map, nat_tests, refl, slice_get, submitted, submitted_by, subst, suc, take, take_more, texts_of, txn_of, zero, ℕ, ◌++◌, ◌+◌, ◌-◌, ◌<◌, ◌∷◌, ◌≡◌, ◌≤◌}

-- what a list gives that goes on by one member
pub filter_map_more : {A B : Type 0} (f : A → Option B) (xs : List A) (i : ℕ) (d : A) → i < length xs
    → filter_map f (take (i + 1) xs) ≡ filter_map f (take i xs) ++ filter_map f (get_or xs i d ∷ [])
filter_map_more f xs i d within = rw (take_more xs i d within, filter_map-append) refl

-- an event adds what it gives
pub submitted_more : (txns : List Txn) (events : List Event) (i : ℕ) (d : Event) → i < length events
    → filter_map (submitted_by txns) (take (i + 1) events) ≡ filter_map (submitted_by txns)
    (take i events) ++ filter_map (submitted_by txns) (get_or events i d ∷ [])
submitted_more txns events i d within = filter_map_more (submitted_by txns) events i d within

-- a number adds its transaction
pub texts_more : (txns : List Txn) (order : List TxnNo) (i : ℕ) (d : TxnNo) → i < length order
    → texts_of txns (take (i + 1) order) ≡ texts_of txns (take i order) ++ texts_of txns (get_or order i d ∷ [])
texts_more txns order i d within = filter_map_more (txn_of txns) order i d within

-- no more are given than there are members
given_length : {A B : Type 0} (f : A → Option B) (x : A) (xs : List A) (o : Option B) → f x ≡ o
    → length (filter_map f xs) ≤ length xs → length (filter_map f (x ∷ xs)) ≤ length (x ∷ xs)
given_length f x xs o e h = grind (arith, nat_tests)

filter_map_length : {A B : Type 0} (f : A → Option B) (xs : List A) → length (filter_map f xs) ≤ length xs
filter_map_length f [] = omega arith
filter_map_length f (x ∷ xs) = given_length f x xs (f x) refl (filter_map_length f xs)

pub few_submitted : (work : Workload) → length work.events ≤ MAX_EVENTS → length (submitted work) ≤ MAX_EVENTS
few_submitted work few = let most = filter_map_length (submitted_by work.txns) work.events in omega (arith, few, most)

pub few_lent : (work : Workload) (txns : List (Bor Txn)) → length work.events ≤ MAX_EVENTS → map (λ t. t.now) txns ≡ submitted work → length txns ≤ MAX_EVENTS
few_lent work txns few is = grind (arith, nat_tests, few_submitted, submitted, length-map)

pub some_is : {A : Type 0} (x y : A) → Some x ≡ Some y → x ≡ y
some_is x y e = cc

-- a member that is found is one of the list
pub found_member : {A : Type 0} (P : A → Type 0) (xs : List A) (i : ℕ) (x : A) → All P xs → slice_get xs i ≡ Some x → P x
found_member P [] i x all is = absurd cc
found_member P (y ∷ xs) zero x all is = subst P (some_is y x is) (All-head P y xs all)
found_member P (y ∷ xs) (suc i) x all is = found_member P xs i x (All-tail P y xs all) is

-- members that a test gives have what each that it may give has

given_more : {A B : Type 0} (f : A → Option B) (P : B → Type 0) (x : A) (xs : List A) (o : Option B)
    → f x ≡ o → ((y : B) → o ≡ Some y → P y) → All P (filter_map f xs) → All P (filter_map f (x ∷ xs))
given_more f P x xs o e each h = grind (arith, nat_tests, filter_map)

all_given : {A B : Type 0} (f : A → Option B) (P : B → Type 0) (xs : List A) → ((x : A) (y : B) → f x ≡ Some y → P y) → All P (filter_map f xs)
all_given f P [] each = All-nil P
all_given f P (x ∷ xs) each = given_more f P x xs (f x) refl (each x) (all_given f P xs each)

event_valid : (cat : Catalogue) (txns : List Txn) (e : Event) (t : Txn) → All (IsValidTxn cat) txns → submitted_by txns e ≡ Some t → IsValidTxn cat t
event_valid cat txns (Submit number) t all is = found_member (IsValidTxn cat) txns (number.0 - 1) t all is
event_valid cat txns _ t all is = absurd cc

-- the transactions that a valid workload submits are valid
pub submitted_valid : (cat : Catalogue) (work : Workload) → IsValid cat work → All (IsValidTxn cat) (submitted work)
submitted_valid cat work valid = all_given (submitted_by work.txns) (IsValidTxn cat) work.events (λ e t is. event_valid cat work.txns e t valid.txns is)

-- and so they fit the catalogue

all_fit : (cat : Catalogue) (txns : List Txn) → All (IsValidTxn cat) txns → All (FitsTxn cat) txns
all_fit cat [] all = All-nil (FitsTxn cat)
all_fit cat (t ∷ txns) all = All-cons (FitsTxn cat) t txns (All-head (IsValidTxn cat) t txns all).fits (all_fit cat txns (All-tail (IsValidTxn cat) t txns all))

pub submitted_fit : (cat : Catalogue) (work : Workload) → IsValid cat work → All (FitsTxn cat) (submitted work)
submitted_fit cat work valid = all_fit cat (submitted work) (submitted_valid cat work valid)

pub lent_fit : (cat : Catalogue) (txns : List (Bor Txn)) → All (FitsTxn cat) (map (λ t. t.now) txns) → All (λ (t : Bor Txn). FitsTxn cat t.now) txns
lent_fit cat [] all = All-nil (λ (t : Bor Txn). FitsTxn cat t.now)
lent_fit cat (t ∷ txns) all =
    let given : List Txn = map (λ (u : Bor Txn). u.now) txns in
    All-cons (λ (u : Bor Txn). FitsTxn cat u.now) t txns (All-head (FitsTxn cat) t.now given all) (lent_fit cat txns (All-tail (FitsTxn cat) t.now given all))

-- those that an order names fit it too
pub texts_fit : (cat : Catalogue) (work : Workload) (order : List TxnNo) (texts : List (Bor Txn))
    → IsValid cat work → map (λ t. t.now) texts ≡ texts_of (submitted work) order → All (λ (t : Bor Txn). FitsTxn cat t.now) texts
texts_fit cat work order texts valid is =
    let fit = submitted_fit cat work valid in
    lent_fit cat texts (rw is (all_given (txn_of (submitted work)) (FitsTxn cat) order
    (λ n t found. found_member (FitsTxn cat) (submitted work) (n.0 - 1) t fit found)))

pub start_fits : (cat : Catalogue) (rows : List (RelNo × List Value)) → All (IsValidRow cat) rows → All (FitsStart cat) rows
start_fits cat [] all = All-nil (FitsStart cat)
start_fits cat (r ∷ rows) all = All-cons (FitsStart cat) r rows (All-head (IsValidRow cat) r rows all).fits
    (start_fits cat rows (All-tail (IsValidRow cat) r rows all))

-- and so do the rows
pub rows_fit : (cat : Catalogue) (work : Workload) → IsValid cat work → All (FitsStart cat) work.rows
rows_fit cat work valid = start_fits cat work.rows valid.rows
