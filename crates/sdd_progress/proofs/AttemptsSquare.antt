-- A history has no more attempts than the square of the number of its transactions: each starts once more than others
-- commit at most, and each commits once.
use Rattle.sdd_progress.proofs.All.{All-head, All-tail, AllByRecursion, AreFew, Bool, Commit, HasCommit, History, IsDistinct-cons, List, NamesOneOf, None, Option, Rec, Some, Start, TxnsExist, [], arith, attempt_of, attempts, cases_eq, cases_lt, commits_of_others, cond, cons_option, eq-eqb, eqb, eqb-false, false, filter, filter_map, is_start_of, le-leb, length, length-le_from_distinct_below, member_is, nat_le, nat_tests, ne_eqb, placed, refl, same_Some, starts_of, subst, suc, suc-mul, sym, true, zero, ℕ, ◌*◌, ◌+◌, ◌<◌, ◌==◌, ◌∷◌, ◌≡◌, ◌≢◌, ◌≤◌}
use Rattle.std.specs.List.{IsDistinct}
use Rattle.sdd_progress.proofs.FewClasses.{each_weaker}

-- each transaction has one Commit
abbrev pub OneCommit : History → Type 0
OneCommit h = (n i j k l : ℕ) → HasCommit h n i k → HasCommit h n j l → k ≡ l

-- the transactions other than n that commit

committer : ℕ → Rec → Option ℕ
committer n (Commit txn attempt reply changes values rows) = cond (txn.0 == n) None (Some txn.0)
committer n r = None

committers : ℕ → History → List ℕ
committers n [] = []
committers n (e ∷ h) = cons_option (committer n e.1) (committers n h)

as_many : (n : ℕ) (h : History) → length (committers n h) ≡ commits_of_others h n
unfolding committer committers
as_many n [] = refl
as_many n ((k, Commit txn attempt reply changes values rows) ∷ h) = grind (arith, committers, (as_many n h))
as_many n ((k, _) ∷ h) = as_many n h

-- each commits at some place, is another one than n, and is one of so many

pub record IsCommitter (n count : ℕ) (h : History) (q place : ℕ) : Type 0 where
  pub other : q ≢ n
  pub from : 1 ≤ q
  pub to : q ≤ count
  pub number : ℕ
  pub commit : HasCommit h q number place

abbrev Commits : ℕ → ℕ → History → ℕ → Type 0
Commits n count h q = (place : ℕ) × IsCommitter n count h q place

commit_later : (e : ℕ × Rec) (h : History) (q number place : ℕ) → HasCommit h q number place → HasCommit (e ∷ h) q number (suc place)
commit_later e h q number place m = record { reply = m.reply; changes = m.changes; values = m.values; rows = m.rows; is_recorded = m.is_recorded }

commits_here : (n count : ℕ) (e : ℕ × Rec) (h : History) (q : ℕ) → NamesOneOf count e.1 → committer n e.1 ≡ Some q → IsCommitter n count (e ∷ h) q 0
unfolding committer
commits_here n count (k, Commit txn attempt reply changes values rows) h q named e =
    elim (txn.0 == n) as (λ b. (txn.0 == n) ≡ b → cond b None (Some txn.0) ≡ Some q
    → IsCommitter n count ((k, Commit txn attempt reply changes values rows) ∷ h) q 0) [
      | true ↦ λ p s. absurd (cc)
      | false ↦ λ p s.
          subst (λ z. IsCommitter n count ((k, Commit txn attempt reply changes values rows) ∷ h) z 0) (same_Some txn.0 q s)
          (record {
            other = eqb-false txn.0 n p;
            from = named.0;
            to = named.1;
            number = attempt;
            commit = record { reply = reply; changes = changes; values = values; rows = rows; is_recorded = refl };
          })
    ] refl e
commits_here n count (k, _) h q named e = absurd (cc)

-- they differ
pub record AreCommitters (n count : ℕ) (h : History) (qs : List ℕ) : Type 0 where
  pub differ : IsDistinct eqb qs
  pub each : AllByRecursion (Commits n count h) qs

no_committers : (n count : ℕ) → AreCommitters n count [] []
unfolding IsDistinct
no_committers n count = record { differ = tt; each = tt }

with_committer : (n count : ℕ) (e : ℕ × Rec) (h : History) (o : Option ℕ) (qs : List ℕ) → OneCommit (e ∷ h)
    → ((q : ℕ) → o ≡ Some q → IsCommitter n count (e ∷ h) q 0) → AreCommitters n count h qs → AreCommitters n count (e ∷ h) (cons_option o qs)
with_committer n count e h None qs one here rest = record { differ = rest.differ; each = each_weaker (λ q c. ((suc c.0, record { other = c.1.other; from = c.1.from; to = c.1.to; number = c.1.number; commit = commit_later e h q c.1.number c.0 c.1.commit }))) qs rest.each }
with_committer n count e h (Some q) qs one here rest =
    let first = here q refl in
    let later = each_weaker (λ z c. ((suc c.0, record { other = c.1.other; from = c.1.from; to = c.1.to; number = c.1.number; commit = commit_later e h z c.1.number c.0 c.1.commit }))) qs rest.each in
    let apart : (z : ℕ) → Commits n count h z → eqb q z ≡ false =
    λ z c. ne_eqb q z (λ same.
    let places : 0 ≡ suc c.0 = one q first.number c.1.number 0 (suc c.0) first.commit
    (subst (λ y. HasCommit (e ∷ h) y c.1.number (suc c.0)) (sym same) (commit_later e h z c.1.number c.0 c.1.commit)) in
    absurd (omega arith)) in
    record { differ = IsDistinct-cons eqb q qs (each_weaker apart qs rest.each) rest.differ; each = ((0, first), later) }

one_later : (e : ℕ × Rec) (h : History) → OneCommit (e ∷ h) → OneCommit h
one_later e h one n i j k l a b = let same = one n i j (suc k) (suc l) (commit_later e h n i k a) (commit_later e h n j l b) in omega arith

all_committers : (n count : ℕ) (h : History) → OneCommit h → TxnsExist count h → AreCommitters n count h (committers n h)
unfolding committers
all_committers n count [] one exist = no_committers n count
all_committers n count (e ∷ h) one exist =
    with_committer n count e h (committer n e.1) (committers n h) one
    (λ q is. commits_here n count e h q (All-head (λ d. NamesOneOf count d.1) e h exist) is)
    (all_committers n count h (one_later e h one) (All-tail (λ d. NamesOneOf count d.1) e h exist))

-- with 0 and n itself they are different numbers up to the count
pub commits_few : (n count : ℕ) (h : History) → OneCommit h → TxnsExist count h → 1 ≤ n → n ≤ count → suc (commits_of_others h n) ≤ count
commits_few n count h one exist low high =
    let all = all_committers n count h one exist in
    let qs = committers n h in
    let from_n : AllByRecursion (λ q. eqb n q ≡ false) qs = each_weaker (λ q c. ne_eqb n q (λ e. c.1.other (sym e))) qs all.each in
    let from_zero : AllByRecursion (λ q. eqb 0 q ≡ false) (n ∷ qs) =
    (ne_eqb 0 n (λ e. absurd (omega arith)), each_weaker (λ q c. ne_eqb 0 q (λ e. let f = c.1.from in absurd (omega arith))) qs all.each) in
    let differ = IsDistinct-cons eqb 0 (n ∷ qs) from_zero (IsDistinct-cons eqb n qs from_n all.differ) in
    let small : AllByRecursion (λ q. q < count + 1) (0 ∷ n ∷ qs) =
    (omega arith, (omega arith, each_weaker (λ q c. (let t = c.1.to in omega arith)) qs all.each)) in
    omega (arith, (length-le_from_distinct_below (0 ∷ n ∷ qs) (count + 1) differ (λ q m. member_is (λ z. z < count + 1) (0 ∷ n ∷ qs) q small m)), as_many n h)

-- Starts of the transactions up to m

start_to : ℕ → Rec → Bool
start_to m (Start txn attempt class ts p2 uses) = nat_le txn.0 m
start_to m r = false

starts_to : History → ℕ → ℕ
starts_to h m = length (filter (λ e. start_to m e.1) h)

one_more : {A : Type 0} (x m : ℕ) (e : A) (xs ys zs : List A) → length xs ≤ length ys + length zs
    → length (cond (nat_le x (suc m)) (e ∷ xs) xs) ≤ length (cond (nat_le x m) (e ∷ ys) ys) + length (cond (x == suc m) (e ∷ zs) zs)
one_more x m e xs ys zs l = grind (arith, cases_lt, nat_le, le-leb, ne_eqb, cases_eq, eq-eqb)

step : (h : History) (m : ℕ) → starts_to h (suc m) ≤ starts_to h m + starts_of h (suc m)
unfolding start_to starts_to
step [] m = omega arith
step ((k, Start txn attempt class ts p2 uses) ∷ h) m =
    one_more txn.0 m (k, Start txn attempt class ts p2 uses) (filter (λ e. start_to (suc m) e.1) h)
    (filter (λ e. start_to m e.1) h) (filter (λ e. is_start_of (suc m) e.1) h) (step h m)
step ((k, _) ∷ h) m = step h m

none_from : {A : Type 0} (x : ℕ) (e : A) (xs : List A) → 1 ≤ x → length xs ≡ 0 → length (cond (nat_le x 0) (e ∷ xs) xs) ≡ 0
none_from x e xs l z = let no : nat_le x 0 ≡ false = grind (arith, nat_tests) in rw no z

none_to_zero : (count : ℕ) (h : History) → TxnsExist count h → starts_to h 0 ≡ 0
unfolding start_to starts_to
none_to_zero count [] exist = refl
none_to_zero count ((k, Start txn attempt class ts p2 uses) ∷ h) exist =
    none_from txn.0 (k, Start txn attempt class ts p2 uses) (filter (λ e. start_to 0 e.1) h)
    (All-head (λ d. NamesOneOf count d.1) (k, Start txn attempt class ts p2 uses) h exist).0
    (none_to_zero count h (All-tail (λ d. NamesOneOf count d.1) (k, Start txn attempt class ts p2 uses) h exist))
none_to_zero count ((k, x) ∷ h) exist = none_to_zero count h (All-tail (λ d. NamesOneOf count d.1) (k, x) h exist)

-- all attempts are of transactions up to the count

all_from : {A : Type 0} (x count many : ℕ) (e : A) (xs : List A) → x ≤ count → many ≤ length xs → suc many ≤ length (cond (nat_le x count) (e ∷ xs) xs)
all_from x count many e xs l m = let yes : nat_le x count ≡ true = le-leb x count l in rw yes (omega (arith, m))

all_to_count : (count k : ℕ) (h : History) → TxnsExist count h → length (filter_map attempt_of (placed k h)) ≤ starts_to h count
unfolding start_to starts_to
all_to_count count k [] exist = omega arith
all_to_count count k ((i, Start txn attempt class ts p2 uses) ∷ h) exist =
    all_from txn.0 count (length (filter_map attempt_of (placed (suc k) h))) (i, Start txn attempt class ts p2 uses) (filter (λ e. start_to count e.1) h)
    (All-head (λ d. NamesOneOf count d.1) (i, Start txn attempt class ts p2 uses) h exist).1
    (all_to_count count (suc k) h (All-tail (λ d. NamesOneOf count d.1) (i, Start txn attempt class ts p2 uses) h exist))
all_to_count count k ((i, x) ∷ h) exist = all_to_count count (suc k) h (All-tail (λ d. NamesOneOf count d.1) (i, x) h exist)

module _ (count : ℕ) (h : History) (one : OneCommit h) (exist : TxnsExist count h) (few : AreFew h) where
  up_to : (m : ℕ) → m ≤ count → starts_to h m ≤ m * count
  up_to zero l = let z = none_to_zero count h exist in omega arith
  up_to (suc m) l =
      let before = up_to m (omega arith) in
      let more = step h m in
      let commits = commits_few (suc m) count h one exist (omega (arith, few (suc m))) l in
      let product = suc-mul m count in
      omega arith

  pub attempts_square : length (attempts h) ≤ count * count
  attempts_square =
      let all = all_to_count count 0 h exist in
      omega (arith, up_to count (omega arith))
