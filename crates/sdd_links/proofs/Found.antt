-- The lists of attempts and of committed transactions have exactly those that the history has.
use Rattle.sdd_links.proofs.All.{Attempt, Bool, Commit, Committed, Contains, Contains-cases, Contains-here, Contains-later, Contains-nil, History, IsAttempt, IsCommitted, IsRecordAt, List, Rec, Some, [], and_from, and_parts, ap, arith, attempt_of, attempts, committed, committed_of, cond, eq-eqb, eqb-true, false, find, inl, inr, is_attempt_of, option_map, placed, refl, rules, same_Some, subst, suc, sym, true, txn_no, zero, ℕ, ◌+◌, ◌==◌, ◌∙◌, ◌∷◌, ◌≡◌}
use Rattle.sdd_links.proofs.Members.{Contains-filter_map, Contains-from_filter_map}
use Rattle.sdd_links.proofs.Places.{same_start, one_attempt}

-- each record is there with its place

placed_there : (h : History) (k j : ℕ) (r : Rec) → IsRecordAt h j r → Contains (placed k h) (k + j, r)
placed_there [] k j r s = absurd (cc)
placed_there (e ∷ h) k zero r s = grind arith
placed_there (e ∷ h) k (suc j) r s = grind (arith, Contains-later, (placed_there h (suc k) j r s))

placed_from : (h : History) (k : ℕ) (x : ℕ × Rec) → Contains (placed k h) x → (j : ℕ) × (x.0 ≡ k + j) × IsRecordAt h j x.1
placed_from [] k x h = absurd (Contains-nil x h)
placed_from (e ∷ rest) k x h =
    elim (Contains-cases (k, e.1) (placed (suc k) rest) x h) [
      | inl same ↦
          grind arith
      | inr later ↦
          let r = placed_from rest (suc k) x later in
          let place = r.1 in
          (suc r.0, omega arith, r.2)
    ]

pub at_place : (h : History) (k : ℕ) (r : Rec) → IsRecordAt h k r → Contains (placed 0 h) (k, r)
at_place h k r s = let same : 0 + k ≡ k = omega arith in subst (λ z. Contains (placed 0 h) (z, r)) same (placed_there h 0 k r s)

pub recorded_at : (h : History) (x : ℕ × Rec) → Contains (placed 0 h) x → IsRecordAt h x.0 x.1
recorded_at h x m =
    let r = placed_from h 0 x m in
    let same : r.0 ≡ x.0 = let p = r.1 in omega arith in
    subst (λ k. IsRecordAt h k x.1) same r.2

-- attempts

pub in_attempts : (h : History) (a : Attempt) → IsAttempt h a → Contains (attempts h) a
in_attempts h a s = search (rules, Contains-filter_map, at_place)

attempt_from : (h : History) (x : ℕ × Rec) (a : Attempt) → IsRecordAt h x.0 x.1 → attempt_of x ≡ Some a → IsAttempt h a
attempt_from h x a s e = grind arith

pub from_attempts : (h : History) (a : Attempt) → Contains (attempts h) a → IsAttempt h a
from_attempts h a m =
    let r = Contains-from_filter_map attempt_of (placed 0 h) a m in
    attempt_from h r.0 a (recorded_at h r.0 r.1) r.2

-- the attempt that is found

find_from : {A : Type 0} (p : A → Bool) (xs : List A) (x : A) → find p xs ≡ Some x → Contains xs x × (p x ≡ true)
find_from p [] x e = absurd (cc)
find_from p (y ∷ xs) x e =
    elim (p y) as (λ b. p y ≡ b → cond b (Some y) (find p xs) ≡ Some x → Contains (y ∷ xs) x × (p x ≡ true)) [
      | true ↦ grind (arith, same_Some, Contains-here)
      | false ↦ λ t s.
          let r = find_from p xs x s in
          (Contains-later y xs x r.0, r.1)
    ] refl e

find_there : {A : Type 0} (p : A → Bool) (xs : List A) (x : A) → Contains xs x → p x ≡ true → (y : A) × (find p xs ≡ Some y)
find_there p [] x m t = absurd (Contains-nil x m)
find_there p (y ∷ xs) x m t =
    elim (p y) as (λ b. p y ≡ b → (z : _) × (cond b (Some y) (find p xs) ≡ Some z)) [
      | true ↦ λ e. (y, refl)
      | false ↦ λ e. elim (Contains-cases y xs x m) [
        | inl same ↦ let wrong : false ≡ true = sym e ∙ ap p (sym same) ∙ t in absurd (cc)
        | inr later ↦ find_there p xs x later t
      ]
    ] refl

-- committed transactions

committed_from : (h : History) (x : ℕ × Rec) (t : Committed) → IsRecordAt h x.0 x.1 → committed_of (attempts h) x ≡ Some t → IsCommitted h t
committed_from h x t s e = grind (arith, find_from, from_attempts)

pub from_committed : (h : History) (t : Committed) → Contains (committed h) t → IsCommitted h t
from_committed h t m =
    let r = Contains-from_filter_map (committed_of (attempts h)) (placed 0 h) t m in
    committed_from h r.0 t (recorded_at h r.0 r.1) r.2

-- where of a transaction and number there is one Start
pub in_committed : (h : History)
    → ((a b : Attempt) → IsAttempt h a → IsAttempt h b → a.txn ≡ b.txn → a.number ≡ b.number → a.place ≡ b.place)
    → (t : Committed) → IsCommitted h t → Contains (committed h) t
in_committed h one_start t c =
    let a = t.start in
    let r : Rec = Commit (txn_no a.txn) a.number t.reply t.changes t.values t.rows in
    let passes : is_attempt_of a.txn a.number a ≡ true = and_from (a.txn == a.txn) (a.number == a.number) (eq-eqb a.txn a.txn refl)
    (eq-eqb a.number a.number refl) in
    let found = find_there (is_attempt_of a.txn a.number) (attempts h) a (in_attempts h a c.started) passes in
    let b = found.0 in
    let is = find_from (is_attempt_of a.txn a.number) (attempts h) b found.1 in
    let both = and_parts (b.txn == a.txn) (b.number == a.number) is.1 in
    let start = from_attempts h b is.0 in
    let place = one_start b a start c.started (eqb-true b.txn a.txn both.0) (eqb-true b.number a.number both.1) in
    let same : b ≡ a = one_attempt b a (same_start h b a start c.started place) in
    Contains-filter_map (committed_of (attempts h)) (placed 0 h) (t.place, r) t (at_place h t.place r c.committed)
    (ap (λ o. option_map (λ (s : Attempt). record { start = s; reply = t.reply; changes = t.changes; values = t.values; rows = t.rows; place = t.place }) o) (found.1 ∙ ap (λ z. Some z) same))
