-- Sets of fragments, as flags: what one more flag adds, and whether all members pass a test.
use Rattle.sdd_lang.proofs.All.{AllByRecursion, Bool, Catalogue, Less, List, [], arith, cases_lt, cond, false, filter, get_or-replicate, get_or-set_other, get_or-set_same, get_or_past, has, inl, inr, insert_key, length, length-replicate, list_all, members, nat_cmp, nat_cmp_is, nat_tests, not, numbers_to, range_with_len, refl, replicate, slice_set as set, suc, sym, true, zero, ℕ, ◌+◌, ◌-◌, ◌<◌, ◌||◌, ◌∷◌, ◌≡◌, ◌≤◌}

none_has : (n f : ℕ) → has (replicate n false) f ≡ false
none_has n f = grind (arith, cases_lt, get_or-replicate, length-replicate, get_or_past)

none_kept : (p : ℕ → Bool) → ((f : ℕ) → p f ≡ false) → (ns : List ℕ) → filter p ns ≡ []
none_kept p none [] = refl
none_kept p none (n ∷ ns) = rw (none n) (none_kept p none ns)

-- where no flag is set there is no member
pub no_members : (n : ℕ) (cat : Catalogue) → members cat (replicate n false) ≡ []
no_members n cat = none_kept (has (replicate n false)) (none_has n) (numbers_to (length cat.fragments))

above_same : (flags : List Bool) (f a n : ℕ) → f < a → filter (has (set flags f true)) (range_with_len a n) ≡ filter (has flags) (range_with_len a n)
above_same flags f a zero past = refl
above_same flags f a (suc n) past = grind (arith, range_with_len, get_or-set_other, (above_same flags f (a + 1) n (omega arith)))

kept_above : (p : ℕ → Bool) (f a n : ℕ) → f < a → AllByRecursion (λ x. f < x) (filter p (range_with_len a n))
kept_above p f a zero past = tt
kept_above p f a (suc n) past = grind (arith, range_with_len, (kept_above p f (a + 1) n (omega arith)))

put_before : (xs : List ℕ) (f : ℕ) → AllByRecursion (λ x. f < x) xs → insert_key nat_cmp xs f ≡ f ∷ xs
put_before [] f all = refl
put_before (x ∷ xs) f all = rw (sym (nat_cmp_is f x Less all.0)) refl

put_at_first : (b : Bool) (xs : List ℕ) (f : ℕ) → AllByRecursion (λ x. f < x) xs → insert_key nat_cmp (cond b (f ∷ xs) xs) f ≡ f ∷ xs
put_at_first b xs f all = grind (arith, nat_cmp_is, put_before)

set_first : (flags : List Bool) (f n : ℕ) → f < length flags
    → filter (has (set flags f true)) (range_with_len f (suc n)) ≡ insert_key nat_cmp (filter (has flags) (range_with_len f (suc n))) f
set_first flags f n within = rw (get_or-set_same flags f true false within, above_same flags f (f + 1) n (omega arith))
    (sym (put_at_first (has flags f) (filter (has flags) (range_with_len (f + 1) n)) f (kept_above (has flags) f (f + 1) n (omega arith))))

set_within : (flags : List Bool) (f : ℕ) → f < length flags → (a n : ℕ) → a ≤ f → f < a + n
    → filter (has (set flags f true)) (range_with_len a n) ≡ insert_key nat_cmp (filter (has flags) (range_with_len a n)) f
set_within flags f within a zero from to = absurd (omega arith)
set_within flags f within a (suc n) from to = elim (cases_lt a f) [
  | inl before ↦ grind (arith, nat_tests, get_or-set_other, nat_cmp_is, (set_within flags f within (a + 1) n (omega arith) (omega arith)))
  | inr here ↦ let same : f ≡ a = omega arith in rw (← same) (set_first flags f n within)
]

-- a flag that is set puts its number in its place
pub one_more_member : (cat : Catalogue) (flags : List Bool) (f : ℕ) → f < length flags → 1 ≤ f → f ≤ length cat.fragments
    → members cat (set flags f true) ≡ insert_key nat_cmp (members cat flags) f
one_more_member cat flags f within from to = set_within flags f within 1 (length cat.fragments) from (omega arith)

-- whether those of n members from c on that are there pass
unfoldable pub pass_from : (ℕ → Bool) → List Bool → ℕ → ℕ → Bool
pass_from p flags c n = list_all p (filter (has flags) (range_with_len c n))

pub pass_all : (p : ℕ → Bool) (flags : List Bool) (n : ℕ) → list_all p (filter (has flags) (numbers_to n)) ≡ pass_from p flags 1 (n + 1 - 1)
unfolding pass_from
pass_all p flags n = let e : n ≡ n + 1 - 1 = omega arith in cc

pub pass_none : (p : ℕ → Bool) (flags : List Bool) (c n : ℕ) → n ≤ c → pass_from p flags c (n - c) ≡ true
unfolding pass_from
pass_none p flags c n past = let e : n - c ≡ 0 = omega arith in cc

pub pass_fails : (p : ℕ → Bool) (flags : List Bool) (c n : ℕ) → c < n → false ≡ (not (has flags c) || p c) → pass_from p flags c (n - c) ≡ false
unfolding pass_from
pass_fails p flags c n within e = grind (arith, range_with_len)

pub pass_more : (p : ℕ → Bool) (flags : List Bool) (c n : ℕ) → c < n → true ≡ (not (has flags c) || p c)
    → pass_from p flags c (n - c) ≡ pass_from p flags (c + 1) (n - (c + 1))
unfolding pass_from
pass_more p flags c n within e = grind (arith, range_with_len)
