-- Names that don't meet give back the transactions, so two reports on the same transactions that have one text tell of the
-- same ones.
use Rattle.sdd_verified.proofs.All.{AllByRecursion, AreNamed, Catalogue, Input, IsFrom1To, IsReportOn, IsSoundCatalogue, IsValid, List, Pending, Some, TellOfTheSame, Txn, TxnNo, Workload, [], all_by_member, ap, arith, bytes_eq, false, input_of, length, length-map, listed_submits, map, named_by_events, names_of, once, option_map_or, order_of, pending_names, pending_numbers, place_of_name, position, refl, repeats, report_of, same_Some, slice_get, slice_index_or as get_or, subst, suc, sym, txn_name, txn_no, whole_in, whole_named, whole_sound, ℕ, ◌-◌, ◌<◌, ◌∙◌, ◌∷◌, ◌≡◌}
use Rattle.sdd_verified.proofs.OneText.{one_text}
use Rattle.sdd_verified.proofs.PartsBack.{same_first}
use Rattle.sdd_verified.proofs.Reported.{one_given}
use Rattle.sdd_verified.proofs.Submitting.{is_in_schedule}

abbrev named : List Txn → List (List ℕ)
named txns = map (λ (t : Txn). t.name) txns

-- the name at a place
name_at : (txns : List Txn) (i : ℕ) → option_map_or (λ (t : Txn). t.name) (slice_get txns i) [] ≡ get_or (named txns) i []
name_at (t ∷ txns) (suc i) = name_at txns i
name_at _ _ = refl

-- a name has one place
one_place : (txns : List Txn) → repeats (named txns) ≡ false → (i j : ℕ) → i < length txns → j < length txns
    → get_or (named txns) i [] ≡ get_or (named txns) j [] → i ≡ j
one_place txns differ i j less below e =
    let long = length-map txns (λ (t : Txn). t.name) in
    let first = place_of_name (named txns) i differ (omega (arith, long, less)) in
    let second = place_of_name (named txns) j differ (omega (arith, long, below)) in
    same_Some i j (sym first ∙ ap (λ (n : List ℕ). position (bytes_eq n) (named txns)) e ∙ second)

number_back : (txns : List Txn) → repeats (named txns) ≡ false → (n m : ℕ) → IsFrom1To (length txns) n → IsFrom1To (length txns) m
    → txn_name txns n ≡ txn_name txns m → n ≡ m
number_back txns differ n m h k e =
    let from = h.0 in
    let to = h.1 in
    let low = k.0 in
    let high = k.1 in
    let place = one_place txns differ (n - 1) (m - 1) (omega (arith, from, to)) (omega (arith, low, high))
    (sym (name_at txns (n - 1)) ∙ e ∙ name_at txns (m - 1)) in
    omega (arith, place, from, low)

abbrev AreThere : List Txn → List TxnNo → Type 0
AreThere txns numbers = AllByRecursion (λ (n : TxnNo). IsFrom1To (length txns) n.0) numbers

numbers_back : (txns : List Txn) → repeats (named txns) ≡ false → (xs ys : List TxnNo) → AreThere txns xs → AreThere txns ys
    → names_of txns xs ≡ names_of txns ys → xs ≡ ys
numbers_back txns differ [] [] h k e = refl
numbers_back txns differ (x ∷ xs) (y ∷ ys) h k e =
    let s = same_first (txn_name txns x.0) (txn_name txns y.0) (names_of txns xs) (names_of txns ys) e in
    let n = number_back txns differ x.0 y.0 h.0 k.0 s.0 in
    ap (λ m. txn_no m ∷ xs) n ∙ ap (λ l. y ∷ l) (numbers_back txns differ xs ys h.1 k.1 s.1)
numbers_back txns differ _ _ h k e = cc

names_by_numbers : (txns : List Txn) (left : List Pending) → pending_names txns left ≡ names_of txns (pending_numbers left)
names_by_numbers txns [] = refl
names_by_numbers txns (p ∷ left) = ap (λ l. txn_name txns p.txn.0 ∷ l) (names_by_numbers txns left)

all_by_place : {A : Type 0} (P : A → Type 0) (xs : List A) → ((j : ℕ) (x : A) → slice_get xs j ≡ Some x → P x) → AllByRecursion P xs
all_by_place P [] h = tt
all_by_place P (x ∷ xs) h = (h 0 x refl, all_by_place P xs (λ j. h (suc j)))

numbers_there : (txns : List Txn) (left : List Pending) → AllByRecursion (λ (p : Pending). IsFrom1To (length txns) p.txn.0) left
    → AreThere txns (pending_numbers left)
numbers_there txns [] h = tt
numbers_there txns (p ∷ left) h = (h.0, numbers_there txns left h.1)

-- the transactions of a report are given

order_there : (cat : Catalogue) (work : Workload) (text : List ℕ) → IsSoundCatalogue (whole_in cat work) → AreNamed (whole_in cat work) → IsValid cat work
    → (r : IsReportOn cat work text) → AreThere work.txns (order_of cat work r.of_run.log)
order_there cat work text sound are valid r =
    all_by_member (λ (n : TxnNo). IsFrom1To (length work.txns) n.0) (order_of cat work r.of_run.log) (one_given cat work text sound are valid r)

pending_there : (cat : Catalogue) (work : Workload) (text : List ℕ) → IsValid cat work → (r : IsReportOn cat work text)
    → AreThere work.txns (pending_numbers (report_of (input_of cat r.of_run.tables work) r.of_run.log).pending)
pending_there cat work text valid r =
    let g : Input = input_of cat r.of_run.tables work in
    numbers_there work.txns (report_of g r.of_run.log).pending
    (all_by_place (λ (p : Pending). IsFrom1To (length work.txns) p.txn.0) (report_of g r.of_run.log).pending (λ j p there.
    (let s = listed_submits g r.of_run.log j p there in
    named_by_events cat (length work.txns) p.txn.0 work.events valid.events
    (is_in_schedule g r.of_run.log r.of_run.log_is.lawful (once work.events valid.submitted) p.txn.0 s.0 s.1))))

pub one_text_of_the_same : (cat : Catalogue) (work other : Workload) (text : List ℕ) → IsSoundCatalogue cat → AreNamed cat → IsValid cat work → IsValid cat other
    → work.txns ≡ other.txns → (one : IsReportOn cat work text) → (two : IsReportOn cat other text) → TellOfTheSame cat work other text one two
one_text_of_the_same cat work other text sound are valid fine same one two =
    let t = one_text cat work other text sound are valid fine one two in
    let order1 : List TxnNo = order_of cat work one.of_run.log in
    let order2 : List TxnNo = order_of cat other two.of_run.log in
    let left1 : List Pending = (report_of (input_of cat one.of_run.tables work) one.of_run.log).pending in
    let left2 : List Pending = (report_of (input_of cat two.of_run.tables other) two.of_run.log).pending in
    record {
      order = numbers_back work.txns valid.names order1 order2
          (order_there cat work text (whole_sound cat work sound valid) (whole_named cat work are valid) valid one)
          (subst (λ (txns : List Txn). AreThere txns order2) (sym same)
          (order_there cat other text (whole_sound cat other sound fine) (whole_named cat other are fine) fine two))
          (t.order ∙ ap (λ (txns : List Txn). names_of txns order2) (sym same));
      pending = numbers_back work.txns valid.names (pending_numbers left1) (pending_numbers left2) (pending_there cat work text valid one)
          (subst (λ (txns : List Txn). AreThere txns (pending_numbers left2)) (sym same) (pending_there cat other text fine two))
          (sym (names_by_numbers work.txns left1) ∙ t.pending ∙ names_by_numbers other.txns left2
          ∙ ap (λ (txns : List Txn). names_of txns (pending_numbers left2)) (sym same));
    }
