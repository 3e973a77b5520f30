-- The changes of a WRITE that is handed: no two of them change one item, and no other change has its time.
use Rattle.sdd_dm.proofs.All.{AllByRecursion, Bool, Change, Contains, Contains-append_cases, Contains-append_left, Contains-append_right, Contains-cases, Contains-here, Contains-later, Contains-nil, Dated, DatesDiffer, Equal, Handed, IsDistinct, IsDistinct-head, IsDistinct-tail, Item, List, Log, Msg, Setting, Some, Write, [], all_dated, ap, arith, changes_in, contains, database_of, false, first_row, first_rows, inl, inr, int_cmp, is_eq, is_own, item_cmp, map, nat_cmp, nat_tests, ordering_then, refl, same_number, sym, true, with_time, write_time_of, write_times, written, ℕ, ℤ, ◌++◌, ◌<◌, ◌∙◌, ◌∷◌, ◌≡◌}

-- members of a list that a function makes

pub from_map : {A B : Type 0} (f : A → B) (xs : List A) (y : B) → Contains (map f xs) y → (x : A) × Contains xs x × (y ≡ f x)
from_map f [] y h = absurd (Contains-nil y h)
from_map {A = A} f (x ∷ xs) y h = grind (arith, Contains-cases, Contains-here, Contains-later, (from_map f xs y))

pub each_map : {A B : Type 0} (P : B → Type 0) (f : A → B) (xs : List A) (x : A) → AllByRecursion P (map f xs) → Contains xs x → P (f x)
each_map P f [] x h i = absurd (Contains-nil x i)
each_map P f (y ∷ xs) x h i = grind (arith, Contains-cases, (each_map P f xs x h.1))

-- the changes of a WRITE are of different items

abbrev item : Change → Item
item x = (x.frag.0, x.key)

abbrev is_one : Item → Item → Bool
is_one x y = is_eq (item_cmp x y)

pub own_item : (f : ℕ) (k : ℤ) → is_eq (ordering_then (nat_cmp f f) (int_cmp k k)) ≡ true
own_item f k = let e : nat_cmp f f ≡ Equal = grind (arith, nat_tests) in rw e (is_own k)

one_item : (x y : Change) → x.frag.0 ≡ y.frag.0 → x.key ≡ y.key → is_one (item x) (item y) ≡ true
one_item x y e f = rw (e, f) (own_item y.frag.0 y.key)

pub one_change : (xs : List Change) (x y : Change) → IsDistinct is_one (map item xs) → Contains xs x → Contains xs y → x.frag.0 ≡ y.frag.0
    → x.key ≡ y.key
    → x ≡ y
one_change [] x y d i j e f = absurd (Contains-nil x i)
one_change (z ∷ xs) x y d i j e f =
    let apart = IsDistinct-head is_one (item z) (map item xs) d in
    elim (Contains-cases z xs x i) as (λ _. x ≡ y) [
      | inl a ↦ elim (Contains-cases z xs y j) as (λ _. x ≡ y) [
        | inl b ↦ a ∙ sym b
        | inr b ↦ absurd (let yes = one_item z y (ap (λ w. w.frag.0) (sym a) ∙ e) (ap (λ w. w.key) (sym a) ∙ f) in
            absurd cc (each_map (λ j. is_one (item z) j ≡ false) item xs y apart b))
      ]
      | inr a ↦ elim (Contains-cases z xs y j) as (λ _. x ≡ y) [
        | inl b ↦ absurd (let yes = one_item z x (ap (λ w. w.frag.0) (sym b) ∙ sym e) (ap (λ w. w.key) (sym b)
            ∙ sym f) in absurd cc (each_map (λ j. is_one (item z) j ≡ false) item xs x apart a))
        | inr b ↦ one_change xs x y (IsDistinct-tail is_one (item z) (map item xs) d) a b e f
      ]
    ]

-- the time of a WRITE that was handed before is known

written_time : (m : Msg) (times : List ℕ) (x : ℕ × Change) → Contains (changes_in (Some m)) x
    → contains (with_time (write_time_of m) times) x.0 ≡ true
written_time (Write ts class txn changes) times x h =
    let e : ts.0 ≡ x.0 = ap (λ y. y.0) (sym (from_map (λ c. (ts.0, c)) changes x h).2) in
    rw (same_number ts.0 x.0 e) refl
written_time _ times x h = absurd (Contains-nil x h)

later_time : (m : Msg) (times : List ℕ) (t : ℕ) → contains times t ≡ true → contains (with_time (write_time_of m) times) t ≡ true
later_time m times t h = grind arith

written_times : (log : Log) (x : ℕ × Change) → Contains (written log) x → contains (write_times log) x.0 ≡ true
written_times [] x h = absurd (Contains-nil x h)
written_times (Handed from m ∷ log) x h =
    elim (Contains-append_cases (changes_in (Some m)) (written log) x h) as (λ _. contains (with_time (write_time_of m) (write_times log)) x.0 ≡ true) [
      | inl i ↦ written_time m (write_times log) x i
      | inr i ↦ later_time m (write_times log) x.0 (written_times log x i)
    ]
written_times (_ ∷ log) x h = written_times log x h

-- of the changes of a new WRITE and all before, two of one item have two times

abbrev new_dated : ℕ → List Change → Dated
new_dated t changes = map (λ c. (t, c)) changes

not_before : (s : Setting) (log : Log) (t : ℕ) (x : ℕ × Change) → 0 < t → contains (write_times log) t ≡ false → Contains (all_dated s log) x
    → x.0 ≡ t → ⊥
not_before s log t x above fresh h e = elim (Contains-append_cases (first_rows s) (written log) x h) as (λ _. ⊥) [
  | inl i ↦ let z = (let r = from_map (first_row s.catalogue) (database_of s.catalogue s.rows) x i in ap (λ y. y.0) r.2) in absurd (omega arith)
  | inr i ↦ let yes = ap (contains (write_times log)) (sym e) ∙ written_times log x i in absurd cc
]

both_new : (t : ℕ) (changes : List Change) (x y : ℕ × Change) → IsDistinct is_one (map item changes) → Contains (new_dated t changes) x
    → Contains (new_dated t changes) y → x.1.frag.0 ≡ y.1.frag.0 → x.1.key ≡ y.1.key → x ≡ y
both_new t changes x y d i j e f =
    let p = from_map (λ c. (t, c)) changes x i in
    let q = from_map (λ c. (t, c)) changes y j in
    let xp = ap (λ z. z.1) p.2 in
    let yq = ap (λ z. z.1) q.2 in
    let same : p.0 ≡ q.0 = one_change changes p.0 q.0 d p.1 q.1 (ap (λ c. c.frag.0) (sym xp) ∙ e ∙ ap (λ c. c.frag.0) yq)
    (ap (λ c. c.key) (sym xp) ∙ f ∙ ap (λ c. c.key) yq) in
    p.2 ∙ ap (λ c. (t, c)) same ∙ sym q.2

-- a new one or an old one
where_dated : (s : Setting) (log : Log) (news : Dated) (x : ℕ × Change) (P : Type 0) → (Contains news x → P) → (Contains (all_dated s log) x → P)
    → Contains (first_rows s ++ (news ++ written log)) x → P
where_dated s log news x P f g h = elim (Contains-append_cases (first_rows s) (news ++ written log) x h) as (λ _. P) [
  | inl i ↦ g (Contains-append_left (first_rows s) (written log) x i)
  | inr i ↦ elim (Contains-append_cases news (written log) x i) as (λ _. P) [
    | inl j ↦ f j
    | inr j ↦ g (Contains-append_right (first_rows s) (written log) x j)
  ]
]

pub new_differ : (s : Setting) (log : Log) (t : ℕ) (changes : List Change) → 0 < t → contains (write_times log) t ≡ false
    → IsDistinct is_one (map item changes)
    → DatesDiffer (all_dated s log) → DatesDiffer (first_rows s ++ (new_dated t changes ++ written log))
new_differ s log t changes above fresh d old = λ x y i j e f time.
    where_dated s log (new_dated t changes) x (x ≡ y)
    (λ a. where_dated s log (new_dated t changes) y (x ≡ y)
    (λ b. both_new t changes x y d a b e f)
    (λ b. absurd (not_before s log t y above fresh b (sym time ∙ (let r = from_map (λ c. (t, c)) changes x a in ap (λ y. y.0) r.2)))) j)
    (λ a. where_dated s log (new_dated t changes) y (x ≡ y)
    (λ b. absurd (not_before s log t x above fresh a (time ∙ (let r = from_map (λ c. (t, c)) changes y b in ap (λ y. y.0) r.2))))
    (λ b. old x y a b e f time) j)
    i
