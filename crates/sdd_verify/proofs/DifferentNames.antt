-- The names of the transactions that a valid workload submits differ.
use Rattle.sdd_verify.proofs.All.{All, All-head, All-nil, All-tail, AreDistinct, Catalogue, Event, IsValid, IsValidEvent, List, MatchOption, None, Option, Some, Txn, Workload, [], ap, arith, at, bytes_eq, false, filter_map, get_or, length, map, nat_tests, place_of_name, position, refl, repeats, slice_get, submitted, submitted_by, suc, sym, zero, ℕ, ◌-◌, ◌<◌, ◌∙◌, ◌∷◌, ◌≡◌, ◌≢◌, ◌≤◌}
use Rattle.sdd_verify.proofs.NumbersOfNames.{AllDiffer}
use Rattle.sdd_script.specs.Valid as scripts

pub some_is : {A : Type 0} (x y : A) → Some x ≡ Some y → x ≡ y
some_is x y e = cc

abbrev names_of : List Txn → List (List ℕ)
names_of txns = map (λ (t : Txn). t.name) txns

record NameAt (txns : List Txn) (i : ℕ) (name : List ℕ) : Type 0 where
  is : get_or (names_of txns) i [] ≡ name
  within : i < length (names_of txns)

name_at : (txns : List Txn) (i : ℕ) (t : Txn) → slice_get txns i ≡ Some t → NameAt txns i t.name
name_at [] i t e = absurd cc
name_at (txn ∷ txns) zero t e = record { is = ap (λ (u : Txn). u.name) (some_is txn t e); within = omega arith }
name_at (txn ∷ txns) (suc i) t e = grind (arith, (name_at txns i t e))

-- transactions of one name stand at one place
one_place : (txns : List Txn) (i k : ℕ) (t u : Txn) → repeats (names_of txns) ≡ false
    → slice_get txns i ≡ Some t → slice_get txns k ≡ Some u → t.name ≡ u.name → i ≡ k
one_place txns i k t u none e f same =
    let a = name_at txns i t e in
    let b = name_at txns k u f in
    let first : position (bytes_eq (get_or (names_of txns) i [])) (names_of txns) ≡ Some i = place_of_name (names_of txns) i none a.within in
    let second : position (bytes_eq (get_or (names_of txns) k [])) (names_of txns) ≡ Some k = place_of_name (names_of txns) k none b.within in
    let names : get_or (names_of txns) i [] ≡ get_or (names_of txns) k [] = a.is ∙ same ∙ sym b.is in
    some_is i k (sym first ∙ ap (λ (n : List ℕ). position (bytes_eq n) (names_of txns)) names ∙ second)

-- numbers that differ

abbrev NotAmong : ℕ → List ℕ → Type 0
NotAmong x [] = Unit {0}
NotAmong x (n ∷ ns) = (n ≢ x) × NotAmong x ns

not_among : (x : ℕ) (ns : List ℕ) → ((k : ℕ) → k < length ns → get_or ns k 0 ≢ x) → NotAmong x ns
not_among x [] h = tt
not_among x (n ∷ ns) h = (h 0 (omega arith), not_among x ns (λ k lt. h (suc k) (omega arith)))

others_apart : (x : ℕ) (ns : List ℕ) → AreDistinct (x ∷ ns) → AreDistinct ns
others_apart x ns h i k less within d e = h (suc i) (suc k) (omega arith) (omega arith) d e

-- what an event submits, by its number and by its text
abbrev Submits : List Txn → Option ℕ → Option Txn → Type 0
Submits txns number text = MatchOption number (text ≡ None) (λ n. (text ≡ slice_get txns (n - 1)) × (1 ≤ n))

submits : (cat : Catalogue) (count : ℕ) (txns : List Txn) (e : Event) → IsValidEvent cat count e → Submits txns (scripts.submitted_by e) (submitted_by txns e)
submits cat count txns e v = grind (arith, nat_tests)

module _ (cat : Catalogue) (count : ℕ) (txns : List Txn) (none : repeats (names_of txns) ≡ false) where
  abbrev Other : Txn → Txn → Type 0
  Other t u = u.name ≢ t.name

  abbrev IsFine : Event → Type 0
  IsFine e = IsValidEvent cat count e

  others_by : (x : ℕ) (t : Txn) (e : Event) (events : List Event) (number : Option ℕ) (text : Option Txn) → slice_get txns (x - 1) ≡ Some t → 1 ≤ x
      → scripts.submitted_by e ≡ number → submitted_by txns e ≡ text → Submits txns number text
      → (NotAmong x (filter_map scripts.submitted_by events) → All (Other t) (filter_map (submitted_by txns) events))
      → NotAmong x (filter_map scripts.submitted_by (e ∷ events)) → All (Other t) (filter_map (submitted_by txns) (e ∷ events))
  others_by x t e events None None is least a b h later apart = let there = rw a at apart in rw b (later there)
  others_by x t e events number text is least a b h later apart = grind (arith, Other, filter_map, submitted_by, nat_tests, one_place)

  others_differ : (x : ℕ) (t : Txn) (events : List Event) → slice_get txns (x - 1) ≡ Some t → 1 ≤ x → All IsFine events
      → NotAmong x (filter_map scripts.submitted_by events) → All (Other t) (filter_map (submitted_by txns) events)
  others_differ x t [] is least fine apart = All-nil (Other t)
  others_differ x t (e ∷ events) is least fine apart =
      others_by x t e events (scripts.submitted_by e) (submitted_by txns e) is least refl refl (submits cat count txns e (All-head IsFine e events fine))
      (λ more. others_differ x t events is least (All-tail IsFine e events fine) more) apart

  all_by : (e : Event) (events : List Event) (number : Option ℕ) (text : Option Txn)
      → scripts.submitted_by e ≡ number → submitted_by txns e ≡ text → Submits txns number text
      → All IsFine events → (AreDistinct (filter_map scripts.submitted_by events) → AllDiffer (filter_map (submitted_by txns) events))
      → AreDistinct (filter_map scripts.submitted_by (e ∷ events)) → AllDiffer (filter_map (submitted_by txns) (e ∷ events))
  all_by e events None None a b h fine later apart = let there = rw a at apart in rw b (later there)
  all_by e events None (Some u) a b h fine later apart = absurd cc
  all_by e events (Some m) None a b h fine later apart = let there =
      rw a at apart in rw b (later (others_apart m (filter_map scripts.submitted_by events) there))
  all_by e events (Some m) (Some u) a b h fine later apart =
      let there = rw a at apart in
      let numbers : List ℕ = filter_map scripts.submitted_by events in
      rw b (
        others_differ m u events (sym h.0) h.1 fine (not_among m numbers (λ k lt e. there 0 (suc k) (omega arith) (omega arith) 0 (sym e))),
        later
            (others_apart m numbers there),
      )

  all_differ : (events : List Event) → All IsFine events → AreDistinct (filter_map scripts.submitted_by events)
      → AllDiffer (filter_map (submitted_by txns) events)
  all_differ [] fine apart = tt
  all_differ (e ∷ events) fine apart =
      all_by e events (scripts.submitted_by e) (submitted_by txns e) refl refl
      (submits cat count txns e (All-head IsFine e events fine)) (All-tail IsFine e events fine)
      (λ more. all_differ events (All-tail IsFine e events fine) more) apart

pub submitted_differ : (cat : Catalogue) (work : Workload) → IsValid cat work → AllDiffer (submitted work)
submitted_differ cat work valid = all_differ cat (length work.txns) work.txns valid.names work.events valid.events valid.submitted
