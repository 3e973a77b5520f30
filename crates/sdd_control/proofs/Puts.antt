-- What a note puts on a link, and the tests of a note.
use Rattle.sdd_control.proofs.All.{Act, Bool, Deliver, GONE, Gone, List, Message, Note, OK, Ok, Stop, Tell, VALUE, Val, Value, [], and_both, ap, arith, cases_Bool, cases_eq, cases_lt, cond, drop, eq-eqb, eqb-true, false, is_gone, is_ok, is_stop, is_tell, is_value, nat_tests, put, refl, taken, true, ℕ, ◌&&◌, ◌==◌, ◌≡◌, ◌⊎◌}
use Rattle.sdd_control.proofs.Lists.{and_left, and_right, Has, Tidy, has_drop, has_cond, tidy_cond}

pub same : (a b : ℕ) → (a == b) ≡ true → a ≡ b
same a b e = eqb-true a b e

pub same_itself : (a : ℕ) → (a == a) ≡ true
same_itself a = eq-eqb a a refl

two : (a b i j : ℕ) → ((a == i) && (b == j)) ≡ true → (a ≡ i) × (b ≡ j)
two a b i j e = (same a i (and_left (a == i) (b == j) e), same b j (and_right (a == i) (b == j) e))

pub two_same : (i j : ℕ) → ((i == i) && (j == j)) ≡ true
two_same i j = and_both (i == i) (j == j) (same_itself i) (same_itself j)

pub gone_is : (j i : ℕ) (n : Note) → is_gone j i n ≡ true → n ≡ Gone j i
gone_is j i n e = grind (arith, nat_tests, two)

pub ok_is : (j i : ℕ) (n : Note) → is_ok j i n ≡ true → n ≡ Ok j i
ok_is j i n e = grind (arith, nat_tests, two)

pub stop_is : (i : ℕ) (n : Note) → is_stop i n ≡ true → n ≡ Stop i
stop_is i n e = grind (arith, nat_tests, same)

pub value_is : (j i : ℕ) (n : Note) → is_value j i n ≡ true → (v : Val) × (n ≡ Value j i v)
value_is j i n e = grind (arith, nat_tests, two)

pub tell_is : (i j : ℕ) (n : Note) → is_tell i j n ≡ true → (v : Val) × (n ≡ Tell i j v)
tell_is i j n e = grind (arith, nat_tests, two)

pub put_value : (n : Note) (i j : ℕ) (v : Val) → Has (put n i j) (VALUE v) → n ≡ Tell i j v
put_value n i j v h = grind (arith, nat_tests, has_cond, two)

pub put_ok : (n : Note) (i j : ℕ) → Has (put n i j) OK → is_value i j n ≡ true
put_ok n i j h = grind (arith, nat_tests, has_cond)

pub put_gone : (n : Note) (i j : ℕ) → Has (put n i j) GONE → is_stop i n ≡ true
put_gone n i j h = grind (arith, nat_tests, has_cond, and_left)

pub put_tidy : (n : Note) (i j : ℕ) → Tidy (put n i j)
put_tidy n i j = grind (arith, nat_tests, tidy_cond)

-- a note that puts something on a link from i is one of i
pub put_by : (n : Note) (i j : ℕ) → (put n i j ≡ []) ⊎ ((v : Val) × (n ≡ Tell i j v)) ⊎ ((v : Val) × (n ≡ Value i j v)) ⊎ (n ≡ Stop i)
put_by n i j = grind (arith, nat_tests, cases_lt, cases_eq, cases_Bool, two, same, and_left)

pub has_taken : (a : Act) (i j : ℕ) (xs : List Message) (m : Message) → Has (taken a i j xs) m → Has xs m
has_taken (Deliver a b) i j xs m h = by_test ((a == i) && (b == j)) h
  where
    by_test : (c : Bool) → Has (cond c (drop 1 xs) xs) m → Has xs m
    by_test true k = has_drop xs m k
    by_test false k = k
has_taken _ i j xs m h = h

pub taken_here : (i j : ℕ) (xs : List Message) → taken (Deliver i j) i j xs ≡ drop 1 xs
taken_here i j xs = ap (λ c. cond c (drop 1 xs) xs) (two_same i j)

pub taken_nil : (a : Act) (i j : ℕ) → taken a i j [] ≡ []
taken_nil (Deliver a b) i j = by_test ((a == i) && (b == j))
  where
    by_test : (c : Bool) → cond {A = List Message} c (drop {A = Message} 1 []) [] ≡ []
    by_test true = refl
    by_test false = refl
taken_nil _ i j = refl

pub tidy_taken : (a : Act) (i j : ℕ) (xs : List Message) → Tidy xs → Tidy (drop 1 xs) → Tidy (taken a i j xs)
tidy_taken (Deliver a b) i j xs t u = by_test ((a == i) && (b == j))
  where
    by_test : (c : Bool) → Tidy (cond c (drop 1 xs) xs)
    by_test true = u
    by_test false = t
tidy_taken _ i j xs t u = t
