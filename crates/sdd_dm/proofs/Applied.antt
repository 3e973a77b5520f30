-- A WRITE that is applied: its changes stand among those of its class, wherever they came in time.
use Rattle.sdd_dm.proofs.All.{AreSame, Bool, Change, Contains, Contains-append_cases, Contains-append_left, Contains-append_right, Contains-cases, Contains-here, Contains-later, Contains-nil, Dated, DatesDiffer, Did, EachHanded, Handed, List, Log, Msg, None, Option, Rec, Records, Setting, Site, Some, [], all_dated, applied, arith, changes_in, classes_of, dated, false, first_rows, flat_map, head, if◌then◌else◌, inl, inr, is_apply, length, nat_tests, number_is, pipe, range_with_len, refl, same_number, subst, suc, sym, true, written, zero, ℕ, ◌&&◌, ◌++◌, ◌+◌, ◌<◌, ◌==◌, ◌∷◌, ◌≡◌, ◌≤◌, ◌⊎◌}
use Rattle.sdd_dm.proofs.Handed.{head_handed}
use Rattle.sdd_rules.proofs.dm.Acted.{acted_more}

-- members of what is made over the classes

in_range : (a n k : ℕ) → k < n → Contains (range_with_len a n) (a + k)
in_range a zero k l = absurd (omega arith)
in_range a (suc n) zero l = grind arith
in_range a (suc n) (suc k) l = grind (arith, nat_tests, Contains-later, range_with_len, (in_range (a + 1) n k (omega arith)))

flat_in : {A B : Type 0} (f : A → List B) (xs : List A) (k : A) (x : B) → Contains xs k → Contains (f k) x → Contains (flat_map f xs) x
flat_in f [] k x h g = absurd (Contains-nil k h)
flat_in f (y ∷ xs) k x h g = grind (arith, Contains-cases, Contains-append_left, Contains-append_right, flat_in f xs k x)

flat_from : {A B : Type 0} (f : A → List B) (xs : List A) (x : B) → Contains (flat_map f xs) x → (k : A) × Contains xs k × Contains (f k) x
flat_from f [] x h = absurd (Contains-nil x h)
flat_from {A = A} f (y ∷ xs) x h = elim (Contains-append_cases (f y) (flat_map f xs) x h) as (λ _. (k : A) × Contains (y ∷ xs) k × Contains (f k) x) [
  | inl here ↦ (y, Contains-here y xs, here)
  | inr later ↦ let r = flat_from f xs x later in (r.0, Contains-later y xs r.0 r.1, r.2)
]

-- what is applied was handed

abbrev IsIn : Dated → Msg → Type 0
IsIn all m = (x : ℕ × Change) → Contains (changes_in (Some m)) x → Contains all x

each_in : (log : Log) (all : Dated) → ((x : ℕ × Change) → Contains (written log) x → Contains all x) → EachHanded (IsIn all) log
each_in [] all h = tt
each_in (Handed from m ∷ log) all h = (
  λ x i. h x (Contains-append_left (changes_in (Some m)) (written log) x i),
  each_in log all (λ x i. h x (Contains-append_right (changes_in (Some m)) (written log) x i)),
)
each_in (_ ∷ log) all h = each_in log all h

head_by : (c : ℕ) (log : Log) (o : Option Msg) (x : ℕ × Change) → head (pipe c log) ≡ o → Contains (changes_in o) x → Contains (written log) x
head_by c log None x e h = absurd (Contains-nil x h)
head_by c log (Some m) x e h = head_handed (IsIn (written log)) c log m (each_in log (written log) (λ y i. i)) e x h

head_written : (c : ℕ) (log : Log) (x : ℕ × Change) → Contains (changes_in (head (pipe c log))) x → Contains (written log) x
head_written c log x h = head_by c log (head (pipe c log)) x refl h

acted_by : (b : Bool) (xs ys all : Dated) (x : ℕ × Change) → (Contains xs x → Contains all x) → (Contains ys x → Contains all x)
    → Contains (if b then xs ++ ys else xs) x → Contains all x
acted_by false xs ys all x f g h = f h
acted_by true xs ys all x f g h = elim (Contains-append_cases xs ys x h) as (λ _. Contains all x) [ inl i ↦ f i | inr i ↦ g i ]

applied_written : (c : ℕ) (log : Log) (x : ℕ × Change) → Contains (applied c log) x → Contains (written log) x
applied_written c [] x h = h
applied_written c (Handed from m ∷ log) x h = Contains-append_right (changes_in (Some m)) (written log) x (applied_written c log x h)
applied_written c (Did (Records k r sends) ∷ log) x h =
    acted_by ((k == c) && is_apply r) (applied c log) (changes_in (head (pipe c log))) (written log) x (applied_written c log x) (head_written c log x) h
applied_written c (_ ∷ log) x h = applied_written c log x h

dated_in_all : (s : Setting) (log : Log) (x : ℕ × Change) → Contains (dated s log) x → Contains (all_dated s log) x
dated_in_all s log x h = elim (Contains-append_cases (first_rows s) (flat_map (λ c. applied c log) (classes_of s)) x h) as (λ _. Contains (all_dated s log) x) [
  | inl first ↦ Contains-append_left (first_rows s) (written log) x first
  | inr later ↦
      let r = flat_from (λ c. applied c log) (classes_of s) x later in
      Contains-append_right (first_rows s) (written log) x (applied_written r.0 log x r.2)
]

-- the dates differ still

pub fewer_differ : (xs ys : Dated) → ((x : ℕ × Change) → Contains xs x → Contains ys x) → DatesDiffer ys → DatesDiffer xs
fewer_differ xs ys h d = λ x y i j. d x y (h x i) (h y j)

pub applied_differ : (s : Setting) (log : Log) (c : ℕ) → DatesDiffer (all_dated s log) → DatesDiffer (dated s log ++ changes_in (head (pipe c log)))
applied_differ s log c d =
    fewer_differ (dated s log ++ changes_in (head (pipe c log))) (all_dated s log)
    (λ x h. elim (Contains-append_cases (dated s log) (changes_in (head (pipe c log))) x h) as (λ _. Contains (all_dated s log) x) [
      | inl i ↦ dated_in_all s log x i
      | inr i ↦ Contains-append_right (first_rows s) (written log) x (head_written c log x i)
    ]) d

-- an Apply adds the changes of the head of its pipe

more_dated : (s : Setting) (log : Log) (c : ℕ) (r : Rec) (sends : List (Site × Msg)) (x : ℕ × Change) → c ≤ length s.catalogue.classes
    → is_apply r ≡ true
    → Contains (dated s log ++ changes_in (head (pipe c log))) x → Contains (dated s (Did (Records c r sends) ∷ log)) x
more_dated s log c r sends x l e h =
    let after : Log = Did (Records c r sends) ∷ log in
    let all : List (ℕ × Change) = flat_map (λ k. applied k after) (classes_of s) in
    elim (Contains-append_cases (dated s log) (changes_in (head (pipe c log))) x h) as (λ _. Contains (dated s after) x) [
      | inl old ↦ elim (Contains-append_cases (first_rows s) (flat_map (λ k. applied k log) (classes_of s)) x old) as (λ _. Contains (dated s after) x) [
        | inl first ↦ Contains-append_left (first_rows s) all x first
        | inr later ↦
            let p = flat_from (λ k. applied k log) (classes_of s) x later in
            Contains-append_right (first_rows s) all x
            (flat_in (λ k. applied k after) (classes_of s) p.0 x p.1
            (acted_more ((c == p.0) && is_apply r) (applied p.0 log) (changes_in (head (pipe p.0 log))) x p.2))
      ]
      | inr new ↦
          Contains-append_right (first_rows s) all x
          (flat_in (λ k. applied k after) (classes_of s) c x (let e : 0 + c ≡ c = omega arith in
          subst (Contains (classes_of s)) e (in_range 0 (suc (length s.catalogue.classes)) c (omega arith)))
          (subst (λ xs. Contains xs x) (sym (rw (same_number c c refl, e) refl)) (Contains-append_right (applied c log) (changes_in (head (pipe c log))) x new)))
    ]

acted_from : (b : Bool) (xs ys : Dated) (x : ℕ × Change) → Contains (if b then xs ++ ys else xs) x → Contains xs x ⊎ ((b ≡ true) × Contains ys x)
acted_from false xs ys x h = inl h
acted_from true xs ys x h =
    elim (Contains-append_cases xs ys x h) as (λ _. Contains xs x ⊎ ((true ≡ true) × Contains ys x)) [ inl i ↦ inl i | inr i ↦ inr (refl, i) ]

no_more_dated : (s : Setting) (log : Log) (c : ℕ) (r : Rec) (sends : List (Site × Msg)) (x : ℕ × Change)
    → Contains (dated s (Did (Records c r sends) ∷ log)) x → Contains (dated s log ++ changes_in (head (pipe c log))) x
no_more_dated s log c r sends x h =
    let after : Log = Did (Records c r sends) ∷ log in
    let new : Dated = changes_in (head (pipe c log)) in
    let old : Dated = flat_map (λ k. applied k log) (classes_of s) in
    elim (Contains-append_cases (first_rows s) (flat_map (λ k. applied k after) (classes_of s)) x h) as (λ _. Contains (dated s log ++ new) x) [
      | inl first ↦ Contains-append_left (dated s log) new x (Contains-append_left (first_rows s) old x first)
      | inr later ↦
          let p = flat_from (λ k. applied k after) (classes_of s) x later in
          elim (acted_from ((c == p.0) && is_apply r) (applied p.0 log) (changes_in (head (pipe p.0 log))) x p.2) as (λ _. Contains (dated s log ++ new) x) [
            | inl i ↦ Contains-append_left (dated s log) new x
                (Contains-append_right (first_rows s) old x (flat_in (λ k. applied k log) (classes_of s) p.0 x p.1 i))
            | inr i ↦
                let same : c ≡ p.0 = number_is c p.0 (grind arith) in
                Contains-append_right (dated s log) new x (subst (λ k. Contains (changes_in (head (pipe k log))) x) (sym same) i.1)
          ]
    ]

pub same_dated : (s : Setting) (log : Log) (c : ℕ) (r : Rec) (sends : List (Site × Msg)) → c ≤ length s.catalogue.classes → is_apply r ≡ true
    → AreSame (dated s log ++ changes_in (head (pipe c log))) (dated s (Did (Records c r sends) ∷ log))
same_dated s log c r sends l e = λ x. (more_dated s log c r sends x l e, no_more_dated s log c r sends x)

-- another record adds none

pub dated_kept : (s : Setting) (log : Log) (c : ℕ) (r : Rec) (sends : List (Site × Msg)) → is_apply r ≡ false
    → dated s (Did (Records c r sends) ∷ log) ≡ dated s log
dated_kept s log c r sends e = grind arith
