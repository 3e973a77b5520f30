-- Tests that tell that a history keeps the law of Starts.
use Rattle.sdd_history_examples.proofs.All.{AllByRecursion, Attempt, Bool, Catalogue, Committed, CommittedBefore, Contains, Eras, HasCommit, History, IsAttempt, IsBound, IsCommitted, IsOfSubmit, IsSubmitted, KeepsStarts, List, Option, Some, Ts, Txn, and_parts, ap, arith, attempts, cases_lt, catalogue_at, class_for, committed, each_has, eq-eqb, eqb-true, event_at, in_attempts, in_committed, is_some, list_all, lt-ltb, ltb-true, nat_lt, not, not-true, one_start, option_map, p2_time, refl, starts_before, subst, suc, true, txn_at, unwrap_or, ℕ, ◌%◌, ◌&&◌, ◌<◌, ◌==◌, ◌∙◌, ◌≡◌, ◌≤◌}
use Rattle.sdd_history_examples.proofs.Each.{same, same_is, if_so, so, each, all_pairs, each_pair}
use Rattle.sdd_history_examples.proofs.Listed.{CommitAt, submits, in_submits, commits, in_commits, is_committed, committed_before}

-- the class that covers a transaction with a number where it is submitted
abbrev pub class_of_text : Catalogue → Eras → List Txn → History → ℕ × ℕ → ℕ
class_of_text cat eras txns h x = unwrap_or (option_map (class_for (catalogue_at cat eras (event_at h x.1))) (txn_at txns x.0)) 0

-- the first attempt's timestamp and bound are not above this bound
abbrev is_bound_over : ℕ → Attempt → Bool
is_bound_over p2 b = not (nat_lt p2 b.ts) && not (nat_lt p2 (p2_time b))

abbrev is_bound : List Attempt → Attempt → Bool
is_bound all a =
    if_so (is_some a.p2)
    ((p2_time a % 64 == 63)
    && (nat_lt (p2_time a) a.ts
    && list_all (λ b. if_so (b.class == a.class) (if_so (nat_lt b.place a.place) (is_bound_over (p2_time a) b))) all))

-- a transaction that was submitted before another, and would have its class, is committed before that one starts
abbrev waits_for : Catalogue → Eras → List Txn → History → Attempt → ℕ × ℕ → ℕ × ℕ → Bool
waits_for cat eras txns h a own other =
    if_so (own.0 == a.txn) (if_so (nat_lt other.1 own.1) (if_so (class_of_text cat eras txns h other == a.class) (is_committed h other.0 a.place)))

pub record PassStarts (cat : Catalogue) (eras : Eras) (txns : List Txn) (h : History) : Type 0 where
  pub submitted : AllByRecursion (IsOfSubmit cat eras txns h) (attempts h)
  pub one_submit : all_pairs (λ x y. if_so (x.0 == y.0) (x.1 == y.1)) (submits h) (submits h) ≡ true
  pub numbered : list_all (λ a. a.number == suc (starts_before h a.txn a.place)) (attempts h) ≡ true
  pub time : list_all (λ a. nat_lt 0 a.ts) (attempts h) ≡ true
  pub one_time : all_pairs (λ a b. if_so (a.ts == b.ts) (a.place == b.place)) (attempts h) (attempts h) ≡ true
  pub rise : all_pairs (λ a b. if_so (a.class == b.class) (if_so (nat_lt a.place b.place) (nat_lt a.ts b.ts))) (attempts h) (attempts h) ≡ true
  pub in_turn : all_pairs (λ a b. if_so (a.class == b.class) (if_so (nat_lt a.place b.place)
      (all_pairs (λ x y. if_so (x.0 == a.txn) (if_so (y.0 == b.txn) (not (nat_lt y.1 x.1)))) (submits h) (submits h)))) (attempts h) (attempts h) ≡ true
  pub after_earlier : list_all (λ a. all_pairs (waits_for cat eras txns h a) (submits h) (submits h)) (attempts h) ≡ true
  pub one_commit : all_pairs (λ x y. if_so (x.txn == y.txn) (x.place == y.place)) (commits h) (commits h) ≡ true
  pub by_last : all_pairs (λ t a. if_so (a.txn == t.start.txn) (not (nat_lt t.start.number a.number))) (committed h) (attempts h) ≡ true
  pub bound_there : list_all (λ a. same (is_some a.p2) (not (a.class == 0))) (attempts h) ≡ true
  pub bound : list_all (is_bound (attempts h)) (attempts h) ≡ true

not_below : (m n : ℕ) → not (nat_lt m n) ≡ true → n ≤ m
not_below m n e = grind (arith, cases_lt, not-true, nat_lt, lt-ltb)

module _ (cat : Catalogue) (eras : Eras) (txns : List Txn) (h : History) (pass : PassStarts cat eras txns h) where
  numbered : (a : Attempt) → IsAttempt h a → a.number ≡ suc (starts_before h a.txn a.place)
  numbered a s =
      eqb-true a.number (suc (starts_before h a.txn a.place))
      (each (λ a. a.number == suc (starts_before h a.txn a.place)) (attempts h) a pass.numbered (in_attempts h a s))

  pub there : (t : Committed) → IsCommitted h t → Contains (committed h) t
  there t c = in_committed h (one_start h numbered) t c

  one_submit : (n j k : ℕ) → IsSubmitted h n j → IsSubmitted h n k → j ≡ k
  one_submit n j k p q =
      let e = each_pair (λ (x y : ℕ × ℕ). if_so (x.0 == y.0) (x.1 == y.1)) (submits h) (submits h) (n, j) (n, k) pass.one_submit (in_submits h n j p)
      (in_submits h n k q) in
      eqb-true j k (so (n == n) (j == k) e (eq-eqb n n refl))

  one_time : (a b : Attempt) → IsAttempt h a → IsAttempt h b → a.ts ≡ b.ts → a.place ≡ b.place
  one_time a b p q e =
      let t = each_pair (λ (a b : Attempt). if_so (a.ts == b.ts) (a.place == b.place)) (attempts h) (attempts h) a b pass.one_time (in_attempts h a p)
      (in_attempts h b q) in
      eqb-true a.place b.place (so (a.ts == b.ts) (a.place == b.place) t (eq-eqb a.ts b.ts e))

  rise : (a b : Attempt) → IsAttempt h a → IsAttempt h b → a.class ≡ b.class → a.place < b.place → a.ts < b.ts
  rise a b p q e l =
      let t = each_pair (λ (a b : Attempt). if_so (a.class == b.class) (if_so (nat_lt a.place b.place) (nat_lt a.ts b.ts))) (attempts h)
      (attempts h) a b pass.rise (in_attempts h a p) (in_attempts h b q) in
      let u = so (a.class == b.class) (if_so (nat_lt a.place b.place) (nat_lt a.ts b.ts)) t (eq-eqb a.class b.class e) in
      ltb-true a.ts b.ts (so (nat_lt a.place b.place) (nat_lt a.ts b.ts) u (lt-ltb a.place b.place l))

  in_turn : (a b : Attempt) (j k : ℕ) → IsAttempt h a → IsAttempt h b → a.class ≡ b.class → a.place < b.place
      → IsSubmitted h a.txn j → IsSubmitted h b.txn k → j ≤ k
  in_turn a b j k p q e l s r =
      let test : ℕ × ℕ → ℕ × ℕ → Bool = λ x y. if_so (x.0 == a.txn) (if_so (y.0 == b.txn) (not (nat_lt y.1 x.1))) in
      let t = each_pair (λ (a b : Attempt). if_so (a.class == b.class)
      (if_so (nat_lt a.place b.place)
      (all_pairs (λ (x y : ℕ × ℕ). if_so (x.0 == a.txn) (if_so (y.0 == b.txn) (not (nat_lt y.1 x.1)))) (submits h) (submits h)))) (attempts h)
      (attempts h) a b pass.in_turn (in_attempts h a p) (in_attempts h b q) in
      let u = so (a.class == b.class) (if_so (nat_lt a.place b.place) (all_pairs test (submits h) (submits h))) t (eq-eqb a.class b.class e) in
      let v = so (nat_lt a.place b.place) (all_pairs test (submits h) (submits h)) u (lt-ltb a.place b.place l) in
      let w = each_pair test (submits h) (submits h) (a.txn, j) (b.txn, k) v (in_submits h a.txn j s) (in_submits h b.txn k r) in
      let x = so (a.txn == a.txn) (if_so (b.txn == b.txn) (not (nat_lt k j))) w (eq-eqb a.txn a.txn refl) in
      not_below k j (so (b.txn == b.txn) (not (nat_lt k j)) x (eq-eqb b.txn b.txn refl))

  after_earlier : (a : Attempt) (n j k : ℕ) (txn : Txn) → IsAttempt h a → IsSubmitted h a.txn k → IsSubmitted h n j → j < k
      → txn_at txns n ≡ Some txn → class_for (catalogue_at cat eras (event_at h j)) txn ≡ a.class → CommittedBefore h n a.place
  after_earlier a n j k txn p s r l is class =
      let t = each (λ (a : Attempt). all_pairs (waits_for cat eras txns h a) (submits h) (submits h)) (attempts h) a pass.after_earlier (in_attempts h a p) in
      let u = each_pair (waits_for cat eras txns h a) (submits h) (submits h) (a.txn, k) (n, j) t (in_submits h a.txn k s) (in_submits h n j r) in
      let own : class_of_text cat eras txns h (n, j) ≡ a.class =
      ap (λ o. unwrap_or (option_map (class_for (catalogue_at cat eras (event_at h j))) o) 0) is ∙ class in
      let last = if_so (class_of_text cat eras txns h (n, j) == a.class) (is_committed h n a.place) in
      let v = so (a.txn == a.txn) (if_so (nat_lt j k) last) u (eq-eqb a.txn a.txn refl) in
      let w = so (nat_lt j k) last v (lt-ltb j k l) in
      committed_before h n a.place
      (so (class_of_text cat eras txns h (n, j) == a.class) (is_committed h n a.place) w (eq-eqb (class_of_text cat eras txns h (n, j)) a.class own))

  one_commit : (n i j k l : ℕ) → HasCommit h n i k → HasCommit h n j l → k ≡ l
  one_commit n i j k l p q =
      let e = each_pair (λ (x y : CommitAt). if_so (x.txn == y.txn) (x.place == y.place)) (commits h) (commits h) _ _ pass.one_commit (in_commits h n i k p)
      (in_commits h n j l q) in
      eqb-true k l (so (n == n) (k == l) e (eq-eqb n n refl))

  by_last : (t : Committed) (a : Attempt) → IsCommitted h t → IsAttempt h a → a.txn ≡ t.start.txn → a.number ≤ t.start.number
  by_last t a c p e =
      let u = each_pair (λ (t : Committed) (a : Attempt). if_so (a.txn == t.start.txn) (not (nat_lt t.start.number a.number))) (committed h)
      (attempts h) t a pass.by_last (there t c) (in_attempts h a p) in
      not_below t.start.number a.number (so (a.txn == t.start.txn) (not (nat_lt t.start.number a.number)) u (eq-eqb a.txn t.start.txn e))

  bound : (a : Attempt) (p2 : Ts) → IsAttempt h a → a.p2 ≡ Some p2 → IsBound h a p2.0
  bound a p2 p e =
      let same : p2_time a ≡ p2.0 = ap (λ (o : Option Ts). unwrap_or (option_map (λ (t : Ts). t.0) o) 0) e in
      let rest = list_all (λ (b : Attempt). if_so (b.class == a.class) (if_so (nat_lt b.place a.place) (is_bound_over (p2_time a) b))) (attempts h) in
      let u = each (is_bound (attempts h)) (attempts h) a pass.bound (in_attempts h a p) in
      let t = so (is_some a.p2) ((p2_time a % 64 == 63) && (nat_lt (p2_time a) a.ts && rest)) u (ap is_some e) in
      let one = and_parts (p2_time a % 64 == 63) (nat_lt (p2_time a) a.ts && rest) t in
      let two = and_parts (nat_lt (p2_time a) a.ts) rest one.1 in
      subst (IsBound h a) same
      (record {
        last = eqb-true (p2_time a % 64) 63 one.0;
        below = ltb-true (p2_time a) a.ts two.0;
        above = λ b q class l.
            let u = each (λ (b : Attempt). if_so (b.class == a.class) (if_so (nat_lt b.place a.place) (is_bound_over (p2_time a) b))) (attempts h) b two.1
            (in_attempts h b q) in
            let v = so (b.class == a.class) (if_so (nat_lt b.place a.place) (is_bound_over (p2_time a) b)) u (eq-eqb b.class a.class class) in
            let w = so (nat_lt b.place a.place) (is_bound_over (p2_time a) b) v (lt-ltb b.place a.place l) in
            let both = and_parts (not (nat_lt (p2_time a) b.ts)) (not (nat_lt (p2_time a) (p2_time b))) w in
            (not_below (p2_time a) b.ts both.0, not_below (p2_time a) (p2_time b) both.1);
      })

  pub keeps_starts : KeepsStarts cat eras txns h
  keeps_starts =
      record {
        submitted = λ a p. each_has (IsOfSubmit cat eras txns h) (attempts h) a pass.submitted (in_attempts h a p);
        one_submit = one_submit;
        numbered = numbered;
        time = λ a p. let l = ltb-true 0 a.ts (each (λ (a : Attempt). nat_lt 0 a.ts) (attempts h) a pass.time (in_attempts h a p)) in omega arith;
        one_time = one_time;
        rise = rise;
        in_turn = in_turn;
        after_earlier = after_earlier;
        one_commit = one_commit;
        by_last = by_last;
        bound_there = λ a p.
            same_is (is_some a.p2) (not (a.class == 0))
            (each (λ (a : Attempt). same (is_some a.p2) (not (a.class == 0))) (attempts h) a pass.bound_there (in_attempts h a p));
        bound = bound;
      }
