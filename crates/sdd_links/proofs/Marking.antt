-- Where transactions were applied and answered, one record after the other.
use Rattle.sdd_links.proofs.All.{Answered, Applied, Bool, History, None, Option, Rec, Some, answer_key, apply_key, arith, cases_Bool, cond, false, first_place, get_or, is_answer, is_apply, is_at, is_some, last_place, length, option_or, pair_cmp, refl, rules, take, triple_cmp, true, ℕ, ◌+◌, ◌<◌, ◌≡◌}
use Rattle.sdd_links.proofs.Firsts.{first_more, last_more}

-- a record of a key passes the tests of that key
abbrev pub passes_by : {K : Type 0} → (K → K → Bool) → Option K → K → Bool
passes_by same None k = false
passes_by same (Some j) k = same j k

apply_passes_by : (k : ℕ × ℕ) (r : Rec) → is_apply k.0 k.1 r ≡ passes_by (λ a b. is_at (pair_cmp a) b) (apply_key r) k
apply_passes_by k r = search rules

answer_passes_by : (k : ℕ × ℕ × ℕ) (r : Rec) → is_answer k.0 k.1 k.2 r ≡ passes_by (λ a b. is_at (triple_cmp a) b) (answer_key r) k
answer_passes_by k r = search rules

same_pair_is : (a b : ℕ × ℕ) → is_at (pair_cmp a) b ≡ true → a ≡ b
same_pair_is a b e = search rules

-- Of each key the place of the first record, or of the last, in a map.
module _ {K : Type 0} (same : K → K → Bool) (key : Rec → Option K) (test : K → Rec → Bool)
    (by : (k : K) (r : Rec) → test k r ≡ passes_by same (key r) k) where
  abbrev First : (K → Option ℕ) → History → Type 0
  First made h = (k : K) → made k ≡ first_place (test k) h

  abbrev Last : (K → Option ℕ) → History → Type 0
  Last made h = (k : K) → made k ≡ last_place (test k) h

  module _ (h : History) (i : ℕ) (e : ℕ × Rec) (within : i < length h) (there : e ≡ get_or h i e) (made new : K → Option ℕ) where
    first_with : (o : Option K) → key e.1 ≡ o → First made (take i h)
        → ((k : K) → new k ≡ option_or (made k) (cond (passes_by same o k) (Some i) None)) → First new (take (i + 1) h)
    first_with o is old with k = search (rules, first_more)

    last_with : (o : Option K) → key e.1 ≡ o → Last made (take i h)
        → ((k : K) → new k ≡ cond (passes_by same o k) (Some i) (made k)) → Last new (take (i + 1) h)
    last_with o is old with k = search (rules, last_more)

    -- a key that the map didn't have
    first_new : (j : K) → key e.1 ≡ Some j → is_some (made j) ≡ false → ((a b : K) → same a b ≡ true → a ≡ b)
        → ((k : K) → new k ≡ cond (same j k) (Some i) (made k)) → First made (take i h) → First new (take (i + 1) h)
    first_new j is absent equal updates old = search (rules, first_with)

    last_new : (j : K) → key e.1 ≡ Some j → ((k : K) → new k ≡ cond (same j k) (Some i) (made k))
        → Last made (take i h) → Last new (take (i + 1) h)
    last_new j is updates old = last_with (Some j) is old updates

  module _ (h : History) (i : ℕ) (e : ℕ × Rec) (within : i < length h) (there : e ≡ get_or h i e) (made : K → Option ℕ) where
    -- a record without a key, and a key that the map has
    first_same : key e.1 ≡ None → First made (take i h) → First made (take (i + 1) h)
    first_same none old = first_with h i e within there made made None none old (λ k. keeps (made k))
      where
        keeps : (o : Option ℕ) → o ≡ option_or o None
        keeps o = grind arith

    first_again : (j : K) → key e.1 ≡ Some j → is_some (made j) ≡ true → ((a b : K) → same a b ≡ true → a ≡ b)
        → First made (take i h) → First made (take (i + 1) h)
    first_again j is has equal old =
        first_with h i e within there made made (Some j) is old
        (grind (arith, cases_Bool, is_some, option_or))

    last_same : key e.1 ≡ None → Last made (take i h) → Last made (take (i + 1) h)
    last_same none old = last_with h i e within there made made None none old (λ k. refl)

-- the two maps
module _ (h : History) (i : ℕ) (e : ℕ × Rec) (within : i < length h) (there : e ≡ get_or h i e) where
  abbrev same_pairs : ℕ × ℕ → ℕ × ℕ → Bool
  same_pairs a b = is_at (pair_cmp a) b

  abbrev same_triples : ℕ × ℕ × ℕ → ℕ × ℕ × ℕ → Bool
  same_triples a b = is_at (triple_cmp a) b

  pub no_apply : (made : ℕ → ℕ → Option ℕ) → apply_key e.1 ≡ None → Applied made (take i h) → Applied made (take (i + 1) h)
  no_apply made none old n d =
      first_same same_pairs apply_key (λ k. is_apply k.0 k.1) apply_passes_by h i e within there (λ k. made k.0 k.1) none
      (λ k. old k.0 k.1) (n, d)

  pub applied_again : (made : ℕ → ℕ → Option ℕ) (j : ℕ × ℕ) → apply_key e.1 ≡ Some j → is_some (made j.0 j.1) ≡ true
      → Applied made (take i h) → Applied made (take (i + 1) h)
  applied_again made j is has old n d =
      first_again same_pairs apply_key (λ k. is_apply k.0 k.1) apply_passes_by h i e within there (λ k. made k.0 k.1) j is has same_pair_is
      (λ k. old k.0 k.1) (n, d)

  pub applied_first : (made new : ℕ → ℕ → Option ℕ) (j : ℕ × ℕ) → apply_key e.1 ≡ Some j → is_some (made j.0 j.1) ≡ false
      → ((k : ℕ × ℕ) → new k.0 k.1 ≡ cond (is_at (pair_cmp j) k) (Some i) (made k.0 k.1))
      → Applied made (take i h) → Applied new (take (i + 1) h)
  applied_first made new j is absent updates old n d =
      first_new same_pairs apply_key (λ k. is_apply k.0 k.1) apply_passes_by h i e within there (λ k. made k.0 k.1) (λ k. new k.0 k.1) j
      is absent same_pair_is updates (λ k. old k.0 k.1) (n, d)

  pub no_answer : (made : ℕ → ℕ → ℕ → Option ℕ) → answer_key e.1 ≡ None → Answered made (take i h) → Answered made (take (i + 1) h)
  no_answer made none old n k d =
      last_same same_triples answer_key (λ a. is_answer a.0 a.1 a.2) answer_passes_by h i e within there (λ a. made a.0 a.1 a.2) none
      (λ a. old a.0 a.1 a.2) (n, k, d)

  pub answered_last : (made new : ℕ → ℕ → ℕ → Option ℕ) (j : ℕ × ℕ × ℕ) → answer_key e.1 ≡ Some j
      → ((a : ℕ × ℕ × ℕ) → new a.0 a.1 a.2 ≡ cond (is_at (triple_cmp j) a) (Some i) (made a.0 a.1 a.2))
      → Answered made (take i h) → Answered new (take (i + 1) h)
  answered_last made new j is updates old n k d =
      last_new same_triples answer_key (λ a. is_answer a.0 a.1 a.2) answer_passes_by h i e within there (λ a. made a.0 a.1 a.2)
      (λ a. new a.0 a.1 a.2) j is updates (λ a. old a.0 a.1 a.2) (n, k, d)
