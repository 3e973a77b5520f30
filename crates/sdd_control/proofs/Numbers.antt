-- The numbers that a site wrote are those from 1 to its last.
use Rattle.sdd_control.proofs.All.{Act, Bool, FitAll, List, Log, Note, T, Write, [], arith, cases_Bool, cases_eq, cases_lt, cond, count_from, false, greatest, greatest_of, inl, inr, is_number, is_write, last_number, last_number_of, le-leb, leb→le, log_after, log_of, nat_le, nat_lt, nat_tests, not, not_false, note_of, noted, or_left, or_right, refl, subst, suc, sym, true, zero, ℕ, ◌+◌, ◌<◌, ◌==◌, ◌∙◌, ◌∷◌, ◌≡◌, ◌≤◌, ◌⊎◌}
use Rattle.sdd_control.proofs.Promises.{number_noted}
use Rattle.sdd_control.proofs.Cases.{Case, case_of}
use Rattle.sdd_control.proofs.Kept.{more, write_case}
use Rattle.sdd_control.proofs.Lists.{and_right, first_at, first_before, not_true, or_cases}
use Rattle.sdd_control.proofs.Puts.{same, two_same}

pub record Numbered (writes : ℕ) (log : Log) : Type 0 where
  pub within : (i k : ℕ) → noted (is_write i k) log ≡ true → (1 ≤ k) × (k ≤ last_number log i)
  pub wrote : (i k : ℕ) → 1 ≤ k → k ≤ last_number log i → noted (is_write i k) log ≡ true
  pub most : (i : ℕ) → last_number log i ≤ writes

-- a note isn't of a write by i, or is of its last
number_cases : (i : ℕ) (n : Note) (before : ℕ)
    → ((last_number_of i n before ≡ before) × ((k : ℕ) → is_write i k n ≡ false))
    ⊎ ((m : ℕ) × (n ≡ Write i m) × (last_number_of i n before ≡ m))
number_cases i n before = grind (arith, nat_tests, cases_lt, cases_eq, cases_Bool, same)

write_same : (i k m : ℕ) (n : Note) → n ≡ Write i m → is_write i k n ≡ true → m ≡ k
write_same i k m n e f = same m k (and_right (i == i) (m == k) (subst (λ z. is_write i k z ≡ true) e f))

module _ (backups writes : ℕ) (log : Log) (a : Act) (n : Note) (c : Case backups writes log a n) (h : Numbered writes log) where
  -- a site writes the number after its last
  pub next_number : (i m : ℕ) → n ≡ Write i m → (m ≡ suc (last_number log i)) × (m ≤ writes)
  next_number i m e =
      let w = write_case backups writes log a i m (subst (λ z. Case backups writes log a z) e c) in
      let f = first_at (λ z. not (noted (is_write i z) log)) 1 writes m w.1 in
      let l = f.0 in
      let u = f.1 in
      elim (cases_lt (last_number log i) m) [
        | inl above ↦ elim (cases_lt (suc (last_number log i)) m) [
          | inl v ↦
              let g = first_before (λ z. not (noted (is_write i z) log)) 1 writes m (suc (last_number log i)) w.1 (omega arith) v in
              let b = h.within i (suc (last_number log i)) (not_false (noted (is_write i (suc (last_number log i))) log) g) in
              let d = b.1 in
              absurd (omega arith)
          | inr v ↦ (omega arith, omega arith)
        ]
        | inr below ↦
            let t : noted (is_write i m) log ≡ true = h.wrote i m l below in
            let o : noted (is_write i m) log ≡ false = not_true (noted (is_write i m) log) f.2 in
            absurd (cc)
      ]

  within_on : (i k : ℕ) → noted (is_write i k) (more log a n) ≡ true → (1 ≤ k) × (k ≤ last_number (more log a n) i)
  within_on i k e =
      elim (number_cases i n (last_number log i)) [
        | inl x ↦ elim (or_cases (is_write i k n) (noted (is_write i k) log) e) [
          | inl p ↦ let q = x.1 k in absurd (cc)
          | inr p ↦ let g = h.within i k p in let u = g.0 in let v = g.1 in let y = x.0 in (omega arith, omega arith)
        ]
        | inr x ↦
            let m = next_number i x.0 x.1 in
            let s = m.0 in
            let y = x.2 in
            elim (or_cases (is_write i k n) (noted (is_write i k) log) e) [
              | inl p ↦ let q = write_same i k x.0 n x.1 p in (omega arith, omega arith)
              | inr p ↦ let g = h.within i k p in let u = g.0 in let v = g.1 in (omega arith, omega arith)
            ]
      ]

  wrote_on : (i k : ℕ) → 1 ≤ k → k ≤ last_number (more log a n) i → noted (is_write i k) (more log a n) ≡ true
  wrote_on i k l u =
      elim (cases_lt (last_number log i) k) [
        | inr v ↦ or_right (is_write i k n) (noted (is_write i k) log) (h.wrote i k l v)
        | inl v ↦ elim (number_cases i n (last_number log i)) [
          | inl x ↦ let y = x.0 in absurd (omega arith)
          | inr x ↦
              let m = next_number i x.0 x.1 in
              grind (arith, nat_tests, or_left, is_write, noted, two_same)
        ]
      ]

  most_on : (i : ℕ) → last_number (more log a n) i ≤ writes
  most_on i = grind (arith, number_cases, next_number, h.most)

  pub numbered_on : Numbered writes (more log a n)
  numbered_on = record { within = within_on; wrote = wrote_on; most = most_on }

numbered_nil : (writes : ℕ) → Numbered writes []
numbered_nil writes = record { within = λ i k e. absurd (cc); wrote = λ i k l u. absurd (omega arith); most = λ i. omega arith }

numbered_after : (backups writes : ℕ) (log : Log) (acts : List Act)
    → Numbered writes log → FitAll backups acts → Numbered writes (log_after backups writes log acts)
numbered_after backups writes log [] h f = h
numbered_after backups writes log (a ∷ acts) h f =
    let note = note_of backups writes log a in
    numbered_after backups writes (more log a note) acts (numbered_on backups writes log a note (case_of backups writes log a f.0) h) f.1

pub numbered : (backups writes : ℕ) (acts : List Act) → FitAll backups acts → Numbered writes (log_of backups writes acts)
numbered backups writes acts f = numbered_after backups writes [] acts (numbered_nil writes) f

greater : (b before : ℕ) → ((cond (nat_lt before b) b before ≡ b) × (before ≤ b)) ⊎ ((cond (nat_lt before b) b before ≡ before) × (b ≤ before))
greater b before = grind (arith, nat_tests)

-- what a note makes of the greatest number
greatest_cases : (n : Note) (before : ℕ)
    → (((k : ℕ) → is_number k n ≡ true → k ≤ before) × (greatest_of n before ≡ before))
    ⊎ ((a : ℕ) × (b : ℕ) × (n ≡ Write a b) × (greatest_of n before ≡ b) × (before ≤ b))
greatest_cases n before = grind (arith, nat_tests, greater, same)

number_same : (k a b : ℕ) (n : Note) → n ≡ Write a b → is_number k n ≡ true → b ≡ k
number_same k a b n e q = same b k (subst (λ z. is_number k z ≡ true) e q)

-- a number that was written is at most the greatest
at_most_greatest : (k : ℕ) (log : Log) → noted (is_number k) log ≡ true → k ≤ greatest log
at_most_greatest k [] e = absurd (cc)
at_most_greatest k (x ∷ log) e = grind (arith, greatest_cases, or_cases, number_same, (at_most_greatest k log))

-- the greatest number was written, if there is one
greatest_by : (log : Log) → 1 ≤ greatest log → (i : ℕ) × (noted (is_write i (greatest log)) log ≡ true)
greatest_by [] l = absurd (omega arith)
greatest_by (x ∷ log) l = grind (arith, greatest_cases, two_same, (greatest_by log))

module _ (writes : ℕ) (log : Log) (h : Numbered writes log) where
  -- a number was written exactly where it is one from 1 to the greatest
  pub is_written : (k : ℕ) → 1 ≤ k → noted (is_number k) log ≡ nat_le k (greatest log)
  is_written k l =
      elim (cases_Bool (noted (is_number k) log)) [
        | inl e ↦ let u = at_most_greatest k log e in e ∙ sym (le-leb k (greatest log) u)
        | inr e ↦ elim (cases_Bool (nat_le k (greatest log))) [
          | inl u ↦
              let m : k ≤ greatest log = leb→le k (greatest log) (subst T (sym u) tt) in
              let g = greatest_by log (omega arith) in
              let r = h.within g.0 (greatest log) g.1 in
              let s = r.1 in
              let w = number_noted g.0 k log (h.wrote g.0 k l (omega arith)) in
              absurd (cc)
          | inr u ↦ e ∙ sym u
        ]
      ]

  pub greatest_within : greatest log ≤ writes
  greatest_within =
      elim (cases_lt 0 (greatest log)) [
        | inl l ↦
            let g = greatest_by log l in
            let r = h.within g.0 (greatest log) g.1 in
            grind (arith, nat_tests)
        | inr l ↦ omega arith
      ]

count_none : (p : ℕ → Bool) (g k n : ℕ) → ((j : ℕ) → k ≤ j → p j ≡ nat_le j g) → g < k → count_from p k n ≡ 0
count_none p g k zero same l = refl
count_none p g k (suc n) same l = grind (arith, nat_tests, same, (count_none p g (k + 1) n (λ j m. same j (omega arith)) (omega arith)))

count_up_to : (p : ℕ → Bool) (g k n : ℕ) → ((j : ℕ) → k ≤ j → p j ≡ nat_le j g) → k ≤ g + 1 → g < k + n → count_from p k n + k ≡ g + 1
count_up_to p g k zero same l u = omega arith
count_up_to p g k (suc n) same l u =
    let t = same k (omega arith) in
    elim (cases_lt g k) [
      | inl above ↦ grind (arith, nat_tests, (count_none p g (k + 1) n (λ j m. same j (omega arith)) (omega arith)))
      | inr below ↦ grind (arith, nat_tests, (count_up_to p g (k + 1) n (λ j m. same j (omega arith)) (omega arith) (omega arith)))
    ]

-- how many numbers were written
pub count_written : (writes : ℕ) (log : Log) → Numbered writes log → count_from (λ k. noted (is_number k) log) 1 writes ≡ greatest log
count_written writes log h =
    let u = greatest_within writes log h in
    let e = count_up_to (λ k. noted (is_number k) log) (greatest log) 1 writes (λ k l. is_written writes log h k l) (omega arith) (omega arith) in
    omega arith
