-- Sets of places: one more, one less, without those of another one.
use Rattle.std.proofs.Common.{Bool, Contains, List, ap, arith, inl, inr, length, max, slice_index_or as get_or, slice_set as set, subst, sym, true, w64, ℕ, ◌*◌, ◌+◌, ◌++◌, ◌-◌, ◌/◌, ◌%◌, ◌^◌, ◌<◌, ◌∙◌, ◌≡◌, ◌≤◌, ◌⊎◌}
use Rattle.std.specs.Prelude.{bit_and, bit_or, min}
use Rattle.std.specs.Int.{bit_at, bit_not, trailing_zeros}
use Rattle.std.proofs.lemmas.Bool.{cases_eq, cases_lt}
use Rattle.std.proofs.lemmas.List.{get_or-set_other, get_or-set_same, get_or_default, get_or_past, length-set}
use Rattle.std.proofs.lemmas.List.Elements.{Contains-append_left, Contains-append_right}
use Rattle.std.proofs.lemmas.Nat.{and_le_l}
use Rattle.std.proofs.lemmas.Nat.Bits.{bit_at-lt, bit_at-trailing_zeros, bit_at-zero, bit_at_and, bit_at_clear_other, bit_at_clear_same, bit_at_not, bit_at_or, bit_at_set_other, bit_at_set_same}
use Rattle.sdd_robust.specs.PlaceSets.{Has, Lacks, TakesOut, place_bit, word_places}
use Rattle.sdd_robust.specs.declared.member.Member.{Member}
use Rattle.sdd_robust.proofs.WordPlaces.{in_word}

-- a place is in a set or isn't

pub has_or_lacks : (words : List ℕ) (place : ℕ) → Has words place ⊎ Lacks words place
has_or_lacks words place =
    let small = bit_at-lt (get_or words (place / 64) 0) (place % 64) in
    elim (cases_eq (place_bit words place) 1) [ inl e ↦ inl e | inr n ↦ inr (omega (arith, small, n)) ]

pub not_both : (words : List ℕ) (place : ℕ) → Has words place → Lacks words place → ⊥
not_both words place h l = omega (arith, h, l)

pub still_lacks : (old new : List ℕ) → ((place : ℕ) → Has new place → Has old place) → (place : ℕ) → Lacks old place → Lacks new place
still_lacks old new fewer place l =
    elim (has_or_lacks new place) [ inl h ↦ absurd (not_both old place (fewer place h) l) | inr e ↦ e ]

-- one more

module _ (words : List ℕ) (place word : ℕ) (l : place / 64 < length words) (is : word ≡ get_or words (place / 64) word) where
  abbrev with_bit : ℕ
  with_bit = bit_or word (1 * 2 ^ (place % 64) % 2 ^ 64)

  word_is : word ≡ get_or words (place / 64) 0
  word_is = is ∙ get_or_default words (place / 64) word 0 l

  pub added : Has (set words (place / 64) with_bit) place
  added = ap (λ x. bit_at x (place % 64)) (get_or-set_same words (place / 64) with_bit 0 l) ∙ bit_at_set_same w64 word (place % 64) (omega arith)

  pub still_has : (other : ℕ) → Has words other → Has (set words (place / 64) with_bit) other
  still_has other h =
      elim (cases_eq (other / 64) (place / 64)) [
        | inl e ↦
            let here : get_or (set words (place / 64) with_bit) (other / 64) 0 ≡ with_bit =
            ap (λ z. get_or (set words (place / 64) with_bit) z 0) e ∙ get_or-set_same words (place / 64) with_bit 0 l in
            let old : bit_at word (other % 64) ≡ 1 = ap (λ x. bit_at x (other % 64)) (word_is ∙ ap (λ z. get_or words z 0) (sym e)) ∙ h in
            let both = bit_at_or word (1 * 2 ^ (place % 64) % 2 ^ 64) (other % 64) in
            let small = bit_at-lt with_bit (other % 64) in
            ap (λ x. bit_at x (other % 64)) here ∙ omega (arith, both, old, small)
        | inr n ↦ ap (λ x. bit_at x (other % 64)) (get_or-set_other words (place / 64) (other / 64) with_bit 0 n) ∙ h
      ]

  pub no_other_added : (other : ℕ) → Lacks words other → Lacks (set words (place / 64) with_bit) other ⊎ (other ≡ place)
  no_other_added other h =
      elim (cases_eq (other / 64) (place / 64)) [
        | inl e ↦
            let here : get_or (set words (place / 64) with_bit) (other / 64) 0 ≡ with_bit =
            ap (λ z. get_or (set words (place / 64) with_bit) z 0) e ∙ get_or-set_same words (place / 64) with_bit 0 l in
            let old : bit_at word (other % 64) ≡ 0 = ap (λ x. bit_at x (other % 64)) (word_is ∙ ap (λ z. get_or words z 0) (sym e)) ∙ h in
            elim (cases_eq (other % 64) (place % 64)) [
              | inl q ↦ inr (omega (arith, e, q))
              | inr n ↦ inl (ap (λ x. bit_at x (other % 64)) here ∙ bit_at_set_other w64 word (place % 64) (omega arith) (other % 64) n ∙ old)
            ]
        | inr n ↦ inl (ap (λ x. bit_at x (other % 64)) (get_or-set_other words (place / 64) (other / 64) with_bit 0 n) ∙ h)
      ]

-- one less

module _ (words : List ℕ) (place word : ℕ) (l : place / 64 < length words) (is : word ≡ get_or words (place / 64) word) where
  abbrev without_bit : ℕ
  without_bit = bit_and word (bit_not w64 (1 * 2 ^ (place % 64) % 2 ^ 64))

  pub removed : Lacks (set words (place / 64) without_bit) place
  removed =
      ap (λ x. bit_at x (place % 64)) (get_or-set_same words (place / 64) without_bit 0 l) ∙ bit_at_clear_same w64 word (place % 64) (omega arith)

  pub others_lack : (other : ℕ) → Lacks (set words (place / 64) without_bit) other → Lacks words other ⊎ (other ≡ place)
  others_lack other h =
      elim (cases_eq (other / 64) (place / 64)) [
        | inl e ↦
            let here : get_or (set words (place / 64) without_bit) (other / 64) 0 ≡ without_bit =
            ap (λ z. get_or (set words (place / 64) without_bit) z 0) e ∙ get_or-set_same words (place / 64) without_bit 0 l in
            let was : get_or words (other / 64) 0 ≡ word = ap (λ z. get_or words z 0) e ∙ sym (is ∙ get_or_default words (place / 64) word 0 l) in
            elim (cases_eq (other % 64) (place % 64)) [
              | inl q ↦ inr (omega (arith, e, q))
              | inr n ↦
                  inl (ap (λ x. bit_at x (other % 64)) was
                  ∙ sym (bit_at_clear_other w64 word (place % 64) (omega arith) (other % 64) (omega arith) n)
                  ∙ ap (λ x. bit_at x (other % 64)) (sym here) ∙ h)
            ]
        | inr n ↦ inl (ap (λ x. bit_at x (other % 64)) (sym (get_or-set_other words (place / 64) (other / 64) without_bit 0 n)) ∙ h)
      ]

  pub fewer_have : (other : ℕ) → Has (set words (place / 64) without_bit) other → Has words other
  fewer_have other h =
      elim (cases_eq (other / 64) (place / 64)) [
        | inl e ↦
            let here : get_or (set words (place / 64) without_bit) (other / 64) 0 ≡ without_bit =
            ap (λ z. get_or (set words (place / 64) without_bit) z 0) e ∙ get_or-set_same words (place / 64) without_bit 0 l in
            let was : get_or words (other / 64) 0 ≡ word = ap (λ z. get_or words z 0) e ∙ sym (is ∙ get_or_default words (place / 64) word 0 l) in
            let now : bit_at without_bit (other % 64) ≡ 1 = ap (λ x. bit_at x (other % 64)) (sym here) ∙ h in
            let two = bit_at_and word (bit_not w64 (1 * 2 ^ (place % 64) % 2 ^ 64)) (other % 64) in
            let small = bit_at-lt word (other % 64) in
            ap (λ x. bit_at x (other % 64)) was ∙ omega (arith, two, now, small)
        | inr n ↦ ap (λ x. bit_at x (other % 64)) (sym (get_or-set_other words (place / 64) (other / 64) without_bit 0 n)) ∙ h
      ]

pub lacks_past : (words : List ℕ) (place : ℕ) → length words ≤ place / 64 → Lacks words place
lacks_past words place l = ap (λ x. bit_at x (place % 64)) (get_or_past words (place / 64) 0 l) ∙ bit_at-zero (place % 64)

-- a word without the bits of another one

pub rest_of_word : (word other bit : ℕ) → other < 2 ^ 64 → bit < 64
    → bit_at (bit_and word (bit_not w64 other)) bit ≡ min (bit_at word bit) (1 - bit_at other bit)
rest_of_word word other bit fits l = bit_at_and word (bit_not w64 other) bit ∙ ap (min (bit_at word bit)) (bit_at_not w64 other bit fits l)

-- clearing a bit that is set makes a word smaller
pub cleared : (word bit : ℕ) → bit < 64 → bit_at word bit ≡ 1 → bit_and word (bit_not w64 (1 * 2 ^ bit % 2 ^ 64)) < word
cleared word bit small there =
    let left : ℕ = bit_and word (bit_not w64 (1 * 2 ^ bit % 2 ^ 64)) in
    let gone : bit_at left bit ≡ 0 = bit_at_clear_same w64 word bit small in
    elim (cases_eq left word) [
      | inl same ↦ absurd (let both : bit_at left bit ≡ bit_at word bit = ap (λ x. bit_at x bit) same in omega (arith, both, gone, there))
      | inr other ↦ let less = and_le_l word (bit_not w64 (1 * 2 ^ bit % 2 ^ 64)) in omega (arith, less, other)
    ]

-- Of the first n words the bits of the others are taken.
pub record AreTaken (old others now before after : List ℕ) (n : ℕ) : Type 0 where
  pub long : length now ≡ length old
  pub done : (k bit : ℕ) → k < n → bit < 64
      → bit_at (get_or now k 0) bit ≡ min (bit_at (get_or old k 0) bit) (1 - bit_at (get_or others k 0) bit)
  pub to_come : (k : ℕ) → n ≤ k → get_or now k 0 ≡ get_or old k 0
  pub kept : (place : ℕ) → Contains before place → Contains after place
  pub queued : (k bit : ℕ) → k < n → bit < 64 → bit_at (get_or old k 0) bit ≡ 1 → bit_at (get_or others k 0) bit ≡ 1
      → Contains after (k * 64 + bit)

module _ (old others now before middle after : List ℕ) (n word other rest : ℕ) (taken : AreTaken old others now before middle n)
    (l : n < length now) (word_is : word ≡ get_or now n 0) (other_is : other ≡ get_or others n 0)
    (rest_is : (bit : ℕ) → bit < 64 → bit_at rest bit ≡ min (bit_at word bit) (1 - bit_at other bit))
    (queue_is : after ≡ middle ++ word_places (bit_and word other) (n * 64)) where
  still_there : (place : ℕ) → Contains middle place → Contains after place
  still_there place h = subst (λ z. Contains z place) (sym queue_is) (Contains-append_left middle (word_places (bit_and word other) (n * 64)) place h)

  now_there : (bit : ℕ) → bit < 64 → bit_at word bit ≡ 1 → bit_at other bit ≡ 1 → Contains after (n * 64 + bit)
  now_there bit small p q =
      let two = bit_at_and word other bit in
      let here = in_word (bit_and word other) (n * 64) bit small (omega (arith, two, p, q)) in
      subst (λ z. Contains z (n * 64 + bit)) (sym queue_is)
      (Contains-append_right middle (word_places (bit_and word other) (n * 64)) (n * 64 + bit) here)

  old_word : get_or old n 0 ≡ word
  old_word = sym (taken.to_come n (omega arith)) ∙ sym word_is

  done_more : (k bit : ℕ) → k < n + 1 → bit < 64
      → bit_at (get_or (set now n rest) k 0) bit ≡ min (bit_at (get_or old k 0) bit) (1 - bit_at (get_or others k 0) bit)
  done_more k bit low small =
      elim (cases_eq k n) [
        | inl e ↦
            subst (λ z. bit_at (get_or (set now n rest) z 0) bit ≡ min (bit_at (get_or old z 0) bit) (1 - bit_at (get_or others z 0) bit)) (sym e)
            (ap (λ x. bit_at x bit) (get_or-set_same now n rest 0 l) ∙ rest_is bit small
            ∙ ap (λ x. min (bit_at x bit) (1 - bit_at other bit)) (sym old_word)
            ∙ ap (λ x. min (bit_at (get_or old n 0) bit) (1 - bit_at x bit)) other_is)
        | inr d ↦ ap (λ x. bit_at x bit) (get_or-set_other now n k rest 0 d) ∙ taken.done k bit (omega (arith, low, d)) small
      ]

  queued_more : (k bit : ℕ) → k < n + 1 → bit < 64 → bit_at (get_or old k 0) bit ≡ 1 → bit_at (get_or others k 0) bit ≡ 1
      → Contains after (k * 64 + bit)
  queued_more k bit low small p q =
      elim (cases_eq k n) [
        | inl e ↦
            subst (λ z. Contains after (z * 64 + bit)) (sym e)
            (now_there bit small (ap (λ x. bit_at x bit) (sym old_word ∙ ap (λ z. get_or old z 0) (sym e)) ∙ p)
            (ap (λ x. bit_at x bit) (other_is ∙ ap (λ z. get_or others z 0) (sym e)) ∙ q))
        | inr d ↦ still_there (k * 64 + bit) (taken.queued k bit (omega (arith, low, d)) small p q)
      ]

  pub taken_more : AreTaken old others (set now n rest) before after (n + 1)
  taken_more = record {
    long = length-set now n rest ∙ taken.long;
    done = done_more;
    to_come = λ k high. get_or-set_other now n k rest 0 (λ e. omega (arith, e, high)) ∙ taken.to_come k (omega (arith, high));
    kept = λ place h. still_there place (taken.kept place h);
    queued = queued_more;
  }

module _ (old others new before after : List ℕ) (n : ℕ) (taken : AreTaken old others new before after n) (l : length old ≤ n) where
  same_past : (place : ℕ) → n ≤ place / 64 → place_bit new place ≡ 0
  same_past place h =
      ap (λ x. bit_at x (place % 64)) (taken.to_come (place / 64) h ∙ get_or_past old (place / 64) 0 (omega (arith, l, h))) ∙ bit_at-zero (place % 64)

  bit_is : (place : ℕ) → place / 64 < n → place_bit new place ≡ min (place_bit old place) (1 - place_bit others place)
  bit_is place h = taken.done (place / 64) (place % 64) h (omega arith)

  fewer : (place : ℕ) → Has new place → Has old place
  fewer place h =
      let small = bit_at-lt (get_or old (place / 64) 0) (place % 64) in
      elim (cases_lt (place / 64) n) [
        | inl low ↦ let e = bit_is place low in omega (arith, e, h, small)
        | inr high ↦ absurd (not_both new place h (same_past place high))
      ]

  apart : (place : ℕ) → Has new place → Lacks others place
  apart place h =
      elim (cases_lt (place / 64) n) [
        | inl low ↦ let e = bit_is place low in omega (arith, e, h)
        | inr high ↦ absurd (not_both new place h (same_past place high))
      ]

  queued : (place : ℕ) → Has old place → Lacks new place → Contains after place
  queued place h q =
      let small = bit_at-lt (get_or others (place / 64) 0) (place % 64) in
      elim (cases_lt (place / 64) n) [
        | inl low ↦
            let e = bit_is place low in
            let both : place_bit others place ≡ 1 = omega (arith, e, h, q, small) in
            let at : place / 64 * 64 + place % 64 ≡ place = omega arith in
            subst (Contains after) at (taken.queued (place / 64) (place % 64) low (omega arith) h both)
        | inr high ↦ absurd (not_both old place h (lacks_past old place (omega (arith, l, high))))
      ]

  pub takes_out : TakesOut old others new before after
  takes_out = record { fewer = fewer; apart = apart; kept = taken.kept; queued = queued }

-- Of the first n words the bits of the others are added.
pub record AreAdded (old others now : List ℕ) (n : ℕ) : Type 0 where
  pub long : length now ≡ length old
  pub done : (k bit : ℕ) → k < n → bit_at (get_or now k 0) bit ≡ max (bit_at (get_or old k 0) bit) (bit_at (get_or others k 0) bit)
  pub to_come : (k : ℕ) → n ≤ k → get_or now k 0 ≡ get_or old k 0

module _ (old others now : List ℕ) (n word other : ℕ) (are : AreAdded old others now n) (l : n < length now) (word_is : word ≡ get_or now n 0)
    (other_is : other ≡ get_or others n 0) where
  all_more : (k bit : ℕ) → k < n + 1
      → bit_at (get_or (set now n (bit_or word other)) k 0) bit ≡ max (bit_at (get_or old k 0) bit) (bit_at (get_or others k 0) bit)
  all_more k bit low =
      elim (cases_eq k n) [
        | inl e ↦
            subst (λ z. bit_at (get_or (set now n (bit_or word other)) z 0) bit ≡ max (bit_at (get_or old z 0) bit) (bit_at (get_or others z 0) bit)) (sym e)
            (ap (λ x. bit_at x bit) (get_or-set_same now n (bit_or word other) 0 l) ∙ bit_at_or word other bit
            ∙ ap (λ x. max (bit_at x bit) (bit_at other bit)) (word_is ∙ are.to_come n (omega arith))
            ∙ ap (λ x. max (bit_at (get_or old n 0) bit) (bit_at x bit)) other_is)
        | inr d ↦ ap (λ x. bit_at x bit) (get_or-set_other now n k (bit_or word other) 0 d) ∙ are.done k bit (omega (arith, low, d))
      ]

  pub added_more : AreAdded old others (set now n (bit_or word other)) (n + 1)
  added_more = record {
    long = length-set now n (bit_or word other) ∙ are.long;
    done = all_more;
    to_come = λ k high. get_or-set_other now n k (bit_or word other) 0 (λ e. omega (arith, e, high)) ∙ are.to_come k (omega (arith, high));
  }

-- a set has a place where a word isn't 0

pub one_there : (words : List ℕ) (at word : ℕ) → word ≡ get_or words at 0 → (bit : ℕ) × (bit < 64) × (bit_at word bit ≡ 1)
    → (place : ℕ) × Has words place
one_there words at word is one =
    let word_at : (at * 64 + one.0) / 64 ≡ at = omega (arith, one.1) in
    let bit_is : (at * 64 + one.0) % 64 ≡ one.0 = omega (arith, one.1) in
    (at * 64 + one.0, rw (word_at, bit_is, ← is) one.2)

pub one_bit : (word : ℕ) → 0 < word → word < 2 ^ 64 → (bit : ℕ) × (bit < 64) × (bit_at word bit ≡ 1)
one_bit word positive fits = let lowest = bit_at-trailing_zeros w64 word positive fits in (trailing_zeros w64 word, lowest.0, lowest.1)

-- A set gets the places of members one after the other.

abbrev pub HasBelow : (Member → Bool) → List Member → List ℕ → ℕ → Type 0
HasBelow test members words n = (m : Member) (at : Contains members m) → at.0 < n → test m ≡ true → Has words at.0

pub one_below : (test : Member → Bool) (members : List Member) (old new : List ℕ) (place : ℕ) (x : Member) → get_or members place x ≡ x
    → ((other : ℕ) → Has old other → Has new other) → (test x ≡ true → Has new place)
    → HasBelow test members old place → HasBelow test members new (place + 1)
one_below test members old new place x is kept this below m at l e =
    elim (cases_eq at.0 place) [
      | inl q ↦
          let same : m ≡ x = sym at.2 ∙ get_or_default members at.0 m x at.1 ∙ ap (λ z. get_or members z x) q ∙ is in
          subst (Has new) (sym q) (this (subst (λ z. test z ≡ true) same e))
      | inr d ↦ kept at.0 (below m at (omega (arith, l, d)) e)
    ]
