-- Lists of the places of words: the lowest bit first, one word more, and what two sets have.
use Rattle.std.proofs.Common.{Bool, Contains, List, [], add-zero, ap, append_assoc, arith, cond, false, filter, inl, inr, length, min, refl, slice_index_or as get_or, suc, sym, true, w64, zero, zero-add, ℕ, ◌&&◌, ◌*◌, ◌++◌, ◌+◌, ◌-◌, ◌/◌, ◌%◌, ◌^◌, ◌<◌, ◌==◌, ◌≢◌, ◌∙◌, ◌∷◌, ◌≡◌, ◌≤◌}
use Rattle.std.specs.Int.{bit_at, bit_not}
use Rattle.std.specs.List.{range_with_len}
use Rattle.std.specs.Prelude.{bit_and}
use Rattle.std.proofs.lemmas.Bool.{cases_eq}
use Rattle.std.proofs.lemmas.List.Elements.{filter-append}
use Rattle.std.proofs.lemmas.List.FromFn.{get_or-range_with_len, length-range_with_len}
use Rattle.std.proofs.lemmas.Nat.Bits.{bit_at-lt, bit_at-zero, bit_at_and, bit_at_clear_other, bit_at_clear_same}
use Rattle.sdd_links.proofs.Members.{Contains-filter}
use Rattle.sdd_robust.specs.PlaceSets.{common, has, places_of, word_places}

-- ---- filters over the numbers from one on

pub same_in_range : (p q : ℕ → Bool) (a n : ℕ) → ((k : ℕ) → a ≤ k → k < a + n → p k ≡ q k)
    → filter p (range_with_len a n) ≡ filter q (range_with_len a n)
same_in_range p q a zero h = refl
same_in_range p q a (suc n) h =
    ap (λ b. cond b (a ∷ filter p (range_with_len (a + 1) n)) (filter p (range_with_len (a + 1) n))) (h a (omega arith) (omega arith))
    ∙ ap (λ xs. cond (q a) (a ∷ xs) xs) (same_in_range p q (a + 1) n (λ k low high. h k (omega (arith, low)) (omega (arith, high))))

none_in_range : (p : ℕ → Bool) (a n : ℕ) → ((k : ℕ) → a ≤ k → k < a + n → p k ≡ false) → filter p (range_with_len a n) ≡ []
none_in_range p a zero h = refl
none_in_range p a (suc n) h =
    ap (λ b. cond b (a ∷ filter p (range_with_len (a + 1) n)) (filter p (range_with_len (a + 1) n))) (h a (omega arith) (omega arith))
    ∙ none_in_range p (a + 1) n (λ k low high. h k (omega (arith, low)) (omega (arith, high)))

range_parts : (a m n : ℕ) → range_with_len a (m + n) ≡ range_with_len a m ++ range_with_len (a + m) n
range_parts a zero n = ap (range_with_len a) (zero-add n) ∙ ap (λ x. range_with_len x n) (sym (add-zero a))
range_parts a (suc m) n =
    let longer : suc m + n ≡ suc (m + n) = omega arith in
    let later : a + 1 + m ≡ a + suc m = omega arith in
    ap (range_with_len a) longer
    ∙ ap (λ xs. a ∷ xs) (range_parts (a + 1) m n ∙ ap (λ x. range_with_len (a + 1) m ++ range_with_len x n) later)

filter_parts : (p : ℕ → Bool) (a m n : ℕ)
    → filter p (range_with_len a (m + n)) ≡ filter p (range_with_len a m) ++ filter p (range_with_len (a + m) n)
filter_parts p a m n = ap (filter p) (range_parts a m n) ∙ filter-append p (range_with_len a m) (range_with_len (a + m) n)

-- ---- the places of one word

pub no_places : (first : ℕ) → word_places 0 first ≡ []
no_places first = none_in_range (λ place. bit_at 0 (place - first) == 1) first 64 (λ k _ _. ap (λ b. b == 1) (bit_at-zero (k - first)))

module _ (first bit : ℕ) (small : bit < 64) where
  abbrev there_in : ℕ → ℕ → Bool
  there_in word place = bit_at word (place - first) == 1

  abbrev rest : ℕ → List ℕ
  rest word = filter (there_in word) (range_with_len (first + bit + 1) (63 - bit))

  from_lowest : (word : ℕ) → ((i : ℕ) → i < bit → bit_at word i ≡ 0)
      → word_places word first ≡ cond (bit_at word bit == 1) ((first + bit) ∷ rest word) (rest word)
  from_lowest word low =
      let parts : 64 ≡ bit + suc (63 - bit) = omega (arith, small) in
      let at : first + bit - first ≡ bit = omega arith in
      ap (λ n. filter (there_in word) (range_with_len first n)) parts ∙ filter_parts (there_in word) first bit (suc (63 - bit))
      ∙ ap (λ xs. xs ++ filter (there_in word) (range_with_len (first + bit) (suc (63 - bit))))
      (none_in_range (there_in word) first bit (λ k lo hi. ap (λ b. b == 1) (low (k - first) (omega (arith, lo, hi)))))
      ∙ ap (λ i. cond (bit_at word i == 1) ((first + bit) ∷ rest word) (rest word)) at

  lowest_first : (word left : ℕ) → bit_at word bit ≡ 1 → ((i : ℕ) → i < bit → bit_at word i ≡ 0) → bit_at left bit ≡ 0
      → ((i : ℕ) → i < 64 → i ≢ bit → bit_at left i ≡ bit_at word i) → word_places word first ≡ (first + bit) ∷ word_places left first
  lowest_first word left there low gone others =
      let low_left : (i : ℕ) → i < bit → bit_at left i ≡ 0 = λ i l. others i (omega (arith, l, small)) (λ e. omega (arith, e, l)) ∙ low i l in
      let same : rest word ≡ rest left =
      same_in_range (there_in word) (there_in left) (first + bit + 1) (63 - bit)
      (λ k lo hi. ap (λ b. b == 1) (sym (others (k - first) (omega (arith, lo, hi, small)) (λ e. omega (arith, e, lo))))) in
      from_lowest word low ∙ ap (λ b. cond (b == 1) ((first + bit) ∷ rest word) (rest word)) there ∙ ap (λ xs. (first + bit) ∷ xs) same
      ∙ ap (λ xs. (first + bit) ∷ xs) (sym (from_lowest left low_left ∙ ap (λ b. cond (b == 1) ((first + bit) ∷ rest left) (rest left)) gone))

-- the places that are queued, and those of the bits that are left, where the lowest one is queued
pub one_place_more : (word left first bit : ℕ) (start before after : List ℕ) → bit < 64 → bit_at left bit ≡ 1
    → ((i : ℕ) → i < bit → bit_at left i ≡ 0) → after ≡ before ++ (first + bit) ∷ []
    → before ++ word_places left first ≡ start ++ word_places word first
    → after ++ word_places (bit_and left (bit_not w64 (1 * 2 ^ bit % 2 ^ 64))) first ≡ start ++ word_places word first
one_place_more word left first bit start before after small there low is invariant =
    let now : ℕ = bit_and left (bit_not w64 (1 * 2 ^ bit % 2 ^ 64)) in
    let lowest = lowest_first first bit small left now there low (bit_at_clear_same w64 left bit small)
    (λ i l ne. bit_at_clear_other w64 left bit small i l ne) in
    ap (λ xs. xs ++ word_places now first) is ∙ append_assoc before ((first + bit) ∷ []) (word_places now first)
    ∙ ap (λ xs. before ++ xs) (sym lowest) ∙ invariant

pub in_word : (word first bit : ℕ) → bit < 64 → bit_at word bit ≡ 1 → Contains (word_places word first) (first + bit)
in_word word first bit small there =
    let at : first + bit - first ≡ bit = omega arith in
    let long = length-range_with_len first 64 in
    Contains-filter (λ place. bit_at word (place - first) == 1) (range_with_len first 64) (first + bit)
    (ap (λ i. bit_at word i == 1) at ∙ ap (λ b. b == 1) there)
    (bit, omega (arith, long, small), get_or-range_with_len first 64 bit (first + bit) small)

-- ---- what two sets have, by words

abbrev both : List ℕ → List ℕ → ℕ → Bool
both words others place = has words place && has others place

abbrev pub common_below : List ℕ → List ℕ → ℕ → List ℕ
common_below words others n = filter (both words others) (range_with_len 0 (64 * n))

both_bits : (x y : ℕ) → x < 2 → y < 2 → ((x == 1) && (y == 1)) ≡ (min x y == 1)
both_bits x y a b =
    elim (cases_eq x 1) [
      | inl e ↦ elim (cases_eq y 1) [
        | inl f ↦ rw (e, f) refl
        | inr f ↦ (let none : y ≡ 0 = omega (arith, f, b) in rw (e, none) refl)
      ]
      | inr e ↦ (let none : x ≡ 0 = omega (arith, e, a) in elim (cases_eq y 1) [
        | inl f ↦ rw (none, f) refl
        | inr f ↦ (let neither : y ≡ 0 = omega (arith, f, b) in rw (none, neither) refl)
      ])
    ]

pub one_word_more : (words others : List ℕ) (n word other : ℕ) → word ≡ get_or words n 0 → other ≡ get_or others n 0
    → common_below words others (n + 1) ≡ common_below words others n ++ word_places (bit_and word other) (n * 64)
one_word_more words others n word other word_is other_is =
    let longer : 64 * (n + 1) ≡ 64 * n + 64 = omega arith in
    let from : 0 + 64 * n ≡ n * 64 = omega arith in
    ap (λ m. filter (both words others) (range_with_len 0 m)) longer ∙ filter_parts (both words others) 0 (64 * n) 64
    ∙ ap (λ xs. common_below words others n ++ xs)
    (ap (λ a. filter (both words others) (range_with_len a 64)) from
    ∙ same_in_range (both words others) (λ place. bit_at (bit_and word other) (place - n * 64) == 1) (n * 64) 64 at_place)
  where
    at_place : (k : ℕ) → n * 64 ≤ k → k < n * 64 + 64 → both words others k ≡ (bit_at (bit_and word other) (k - n * 64) == 1)
    at_place k lo hi =
        let at : k / 64 ≡ n = omega (arith, lo, hi) in
        let bit : k % 64 ≡ k - n * 64 = omega (arith, lo, hi) in
        rw (at, bit, ← word_is, ← other_is)
        (both_bits (bit_at word (k - n * 64)) (bit_at other (k - n * 64)) (bit_at-lt word (k - n * 64)) (bit_at-lt other (k - n * 64))
        ∙ ap (λ b. b == 1) (sym (bit_at_and word other (k - n * 64))))

same_twice : (b : Bool) → (b && b) ≡ b
same_twice true = refl
same_twice false = refl

pub common_with_itself : (words : List ℕ) → common words words ≡ places_of words
common_with_itself words = same_in_range (both words words) (has words) 0 (64 * length words) (λ k _ _. same_twice (has words k))
