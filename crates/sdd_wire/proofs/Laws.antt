-- What is read is spelled so, and what is spelled is read: the law of one reading, and of one reading
-- and then the next.
use Rattle.sdd_wire.proofs.All.{List, Ok, Option, Reading, Result, Some, Source, [], after, ap, append_assoc, arith, get_or, known_at, meant, nat_tests, place, read_as, subst, sym, ℕ, ◌++◌, ◌<◌, ◌>>=◌, ◌≡◌}

abbrev pub AreBytes : List ℕ → Type 0
AreBytes bytes = (i : ℕ) → get_or bytes i 0 < 256

abbrev is_ok : {A : Type 0} → A × Source → Result (A × Source) ℕ
is_ok x = Ok x

-- a text was taken from the front
pub record TakesText (s : Source) (text : List ℕ) (t : Source) : Type 0 where
  pub parts : s.left ≡ text ++ t.left
  pub bytes : AreBytes t.left

pub record Took {A : Type 0} (P : A → List ℕ → Type 0) (s : Source) (x : A) (t : Source) : Type 0 where
  pub text : List ℕ
  pub takes : TakesText s text t
  pub holds : P x text

-- P holds of whatever is read and the text that it is read from
pub record OnlyReads {A : Type 0} (P : A → List ℕ → Type 0) (reading : Reading A) : Type 0 where
  pub took : (s t : Source) (x : A) → AreBytes s.left → reading s ≡ Ok (x, t) → Took P s x t

abbrev pub left : ℕ → List ℕ → Source
left whole bytes = record { whole = whole; left = bytes }

-- a text is read as x, whatever follows it
pub record ReadsBack {A : Type 0} (reading : Reading A) (text : List ℕ) (x : A) : Type 0 where
  pub reads : (whole : ℕ) (rest : List ℕ) → reading (left whole (text ++ rest)) ≡ Ok (x, left whole rest)

abbrev pub IsSpelled : {A : Type 0} → (A → Type 0) → (A → List ℕ) → A → List ℕ → Type 0
IsSpelled fits spelling x text = (text ≡ spelling x) × fits x

pub record Law {A : Type 0} (fits : A → Type 0) (spelling : A → List ℕ) (reading : Reading A) : Type 0 where
  pub back : (x : A) → fits x → ReadsBack reading (spelling x) x
  pub only : OnlyReads (IsSpelled fits spelling) reading

ok_is : {A : Type 0} (x y : A × Source) → is_ok x ≡ is_ok y → x ≡ y
ok_is x y e = cc

after_ok : {A B : Type 0} (r : Result (A × Source) ℕ) (next : A → Reading B) (y : B × Source)
    → after r next ≡ Ok y → (x : A) × (s : Source) × (r ≡ Ok (x, s)) × (next x s ≡ Ok y)
after_ok r next y e = grind (arith, nat_tests)

taken_on : (s : Source) (front : List ℕ) (mid : Source) (text : List ℕ) (t : Source)
    → TakesText s front mid → TakesText mid text t → TakesText s (front ++ text) t
taken_on s front mid text t first second = grind (arith, nat_tests, append_assoc)

spelled_front : (s : Source) (text front : List ℕ) (t : Source) → text ≡ front → TakesText s text t → TakesText s front t
spelled_front s text front t is takes = grind (arith, nat_tests)

-- one reading and then the next
pub only_then : {A B : Type 0} {P : A → List ℕ → Type 0} {first : Reading A} {next : A → Reading B}
    {Q : B → List ℕ → Type 0} → OnlyReads P first
    → ((x : A) (text : List ℕ) → P x text → OnlyReads (λ y more. Q y (text ++ more)) (next x))
    → OnlyReads Q (first >>= next)
only_then {first = first} {next = next} {Q = Q} only then = record {
  took = λ s t y bytes e.
      let read = after_ok (first s) next (y, t) e in
      let a = only.took s read.1 read.0 bytes read.2 in
      let b = (then read.0 a.text a.holds).took read.1 t y a.takes.bytes read.3 in
      record { text = a.text ++ b.text; takes = taken_on s a.text read.1 b.text t a.takes b.takes; holds = b.holds };
}

pub only_next : {A B : Type 0} {fits : A → Type 0} {spelling : A → List ℕ} {first : Reading A}
    {next : A → Reading B} {Q : B → List ℕ → Type 0} → Law fits spelling first
    → ((x : A) → fits x → OnlyReads (λ y more. Q y (spelling x ++ more)) (next x)) → OnlyReads Q (first >>= next)
only_next {next = next} {Q = Q} law then = only_then law.only (λ x text h.
    subst (λ (l : List ℕ). OnlyReads (λ y more. Q y (l ++ more)) (next x)) (sym h.0) (then x h.1))

-- the last reading
pub only_last : {A B : Type 0} {fits : A → Type 0} {spelling : A → List ℕ} {last : Reading A}
    {Q : B → List ℕ → Type 0} (made : A → B)
    → Law fits spelling last
    → ((x : A) → fits x → Q (made x) (spelling x)) → OnlyReads Q (last >>= (λ x. read_as (made x)))
only_last {B = B} {spelling = spelling} {last = last} {Q = Q} made law then = record {
  took = λ s t y bytes e.
      let read = after_ok (last s) (λ x. read_as (made x)) (y, t) e in
      let a = law.only.took s read.1 read.0 bytes read.2 in
      let end = ok_is (made read.0, read.1) (y, t) read.3 in
      record {
        text = spelling read.0;
        takes = subst (λ (p : B × Source). TakesText s (spelling read.0) p.1) end (spelled_front s a.text (spelling read.0) read.1 a.holds.0 a.takes);
        holds = subst (λ (p : B × Source). Q p.0 (spelling read.0)) end (then read.0 a.holds.1);
      };
}

-- nothing more is read
pub only_done : {A : Type 0} (x : A) (Q : A → List ℕ → Type 0) → Q x [] → OnlyReads Q (read_as x)
only_done {A = A} x Q h = grind (arith, nat_tests, ok_is)

pub back_next : {A B : Type 0} {first : Reading A} {text more : List ℕ} {x : A} {y : B} (next : A → Reading B)
    → ReadsBack first text x → ReadsBack (next x) more y → ReadsBack (first >>= next) (text ++ more) y
back_next {first = first} {text = text} {more = more} {x = x} next a b = grind (arith, nat_tests, append_assoc)

pub back_last : {A B : Type 0} {last : Reading A} {text : List ℕ} {x : A} (made : A → B)
    → ReadsBack last text x → ReadsBack (last >>= (λ y. read_as (made y))) text (made x)
back_last made a = record { reads = λ whole rest. ap (λ r. after r (λ y. read_as (made y))) (a.reads whole rest) }

pub back_as : {A : Type 0} {reading : Reading A} {text other : List ℕ} {x : A}
    → ReadsBack reading text x → text ≡ other → ReadsBack reading other x
back_as {reading = reading} {x = x} h is = subst (λ (l : List ℕ). ReadsBack reading l x) is h

pub only_weaker : {A : Type 0} {P : A → List ℕ → Type 0} {reading : Reading A} (Q : A → List ℕ → Type 0)
    → OnlyReads P reading → ((x : A) (text : List ℕ) → P x text → Q x text) → OnlyReads Q reading
only_weaker Q only weaker = record {
  took = λ s t x bytes e.
      let a = only.took s t x bytes e in
      record { text = a.text; takes = a.takes; holds = weaker x a.text a.holds };
}

-- a field that stands for something
known_ok : {A : Type 0} (at : ℕ) (o : Option A) (s : Source) (y : A × Source)
    → known_at at o s ≡ Ok y → (o ≡ Some y.0) × (s ≡ y.1)
known_ok at o s y e = grind (arith, nat_tests)

pub only_meant : {A B : Type 0} {fits : A → Type 0} {spelling : A → List ℕ} {field : Reading A}
    {Q : B → List ℕ → Type 0} (meaning : A → Option B)
    → Law fits spelling field
    → ((x : A) (y : B) → fits x → meaning x ≡ Some y → Q y (spelling x)) → OnlyReads Q (meant meaning field)
only_meant {spelling = spelling} {field = field} meaning law then = record {
  took = λ s t y bytes e.
      let read = after_ok (field s) (λ x. known_at (place s) (meaning x)) (y, t) e in
      let a = law.only.took s read.1 read.0 bytes read.2 in
      let found = known_ok (place s) (meaning read.0) read.1 (y, t) read.3 in
      record {
        text = spelling read.0;
        takes = subst (λ (u : Source). TakesText s (spelling read.0) u) found.1 (spelled_front s a.text (spelling read.0) read.1 a.holds.0 a.takes);
        holds = then read.0 y a.holds.1 found.0;
      };
}

pub back_meant : {A B : Type 0} {field : Reading A} {text : List ℕ} {x : A} {y : B} (meaning : A → Option B)
    → ReadsBack field text x → meaning x ≡ Some y → ReadsBack (meant meaning field) text y
back_meant {text = text} meaning a is = grind (arith, left)
