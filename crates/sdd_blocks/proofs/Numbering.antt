-- Numbers for marks, one mark after the other.
use Rattle.sdd_blocks.proofs.All.{AreNumbered, List, Some, [], ap, arith, cases_eq, cases_lt, get_or, get_or-set_same, get_or_append_left, get_or_from_slice_get, get_or_push, inl, inr, length, length_push, nat_tests, set, slice_get, slice_get-get_or, slice_get_within, suc, sym, ℕ, ◌++◌, ◌+◌, ◌<◌, ◌∙◌, ◌∷◌, ◌≡◌, ◌≢◌, ◌≤◌}
use Rattle.sdd_blocks.proofs.Places.{read_set}

-- the first marks have numbers up to `last`, as given for each mark
pub record IsNumberingAt (marks given numbers : List ℕ) (last count : ℕ) : Type 0 where
  pub one_each : length numbers ≡ count
  pub few : last ≤ count
  pub zero_given : get_or given 0 0 ≡ 0
  pub bounded : (x : ℕ) → get_or given x 0 ≤ last
  pub distinct : (x y : ℕ) → get_or given x 0 ≡ get_or given y 0 → get_or given x 0 ≢ 0 → x ≡ y
  pub number_is : (k : ℕ) → k < count → get_or numbers k 0 ≡ get_or given (get_or marks k 0) 0
  pub all_given : (k : ℕ) → k < count → get_or marks k 0 ≢ 0 → get_or given (get_or marks k 0) 0 ≢ 0
  pub reached : (b : ℕ) → b < last → (j : ℕ) × (j < count) × (get_or numbers j 0 ≡ suc b)
  pub in_order : (k b : ℕ) → k < count → get_or numbers k 0 ≡ suc (suc b)
      → (j : ℕ) × (j < k) × (get_or numbers j 0 ≡ suc b)

-- before the first mark no number is given
pub no_numbers_yet : (marks given : List ℕ) → ((x : ℕ) → get_or given x 0 ≡ 0) → IsNumberingAt marks given [] 0 0
no_numbers_yet marks given zeros = grind (arith, nat_tests)

module _ (marks given numbers : List ℕ) (last count : ℕ) (s : IsNumberingAt marks given numbers last count) where
  -- the numbers stay where they are
  kept : (n k : ℕ) → k < count → get_or (numbers ++ n ∷ []) k 0 ≡ get_or numbers k 0
  kept n k h = get_or_append_left numbers (n ∷ []) 0 k (omega (arith, s.one_each))

  -- the new number stands after them
  new : (n : ℕ) → get_or (numbers ++ n ∷ []) count 0 ≡ n
  new n = get_or_push numbers n 0 count s.one_each

  -- each number so far still has a place
  reached_kept : (n b : ℕ) → b < last → (j : ℕ) × (j < count) × (get_or (numbers ++ n ∷ []) j 0 ≡ suc b)
  reached_kept n b h = let r = s.reached b h in (r.0, r.1, kept n r.0 r.1 ∙ r.2)

  -- and still stands after the number before it
  in_order_kept : (n k b : ℕ) → k < count → get_or (numbers ++ n ∷ []) k 0 ≡ suc (suc b)
      → (j : ℕ) × (j < k) × (get_or (numbers ++ n ∷ []) j 0 ≡ suc b)
  in_order_kept n k b h e =
      let r = s.in_order k b h (sym (kept n k h) ∙ e) in
      (r.0, r.1, let l = r.1 in kept n r.0 (omega arith) ∙ r.2)

  -- a mark whose number is given
  pub number_given : (get_or marks count 0 ≢ 0 → get_or given (get_or marks count 0) 0 ≢ 0)
      → IsNumberingAt marks given (numbers ++ get_or given (get_or marks count 0) 0 ∷ []) last (count + 1)
  number_given known =
      let n = get_or given (get_or marks count 0) 0 in
      record {
        one_each = length_push numbers n ∙ ap (λ z. z + 1) s.one_each;
        few = omega (arith, s.few);
        zero_given = s.zero_given;
        bounded = s.bounded;
        distinct = s.distinct;
        number_is = grind (arith, nat_tests, kept n, new n, s.number_is);
        all_given = grind (arith, nat_tests, s.all_given);
        reached = λ b h. let r = reached_kept n b h in (r.0, omega (arith, r.1), r.2);
        in_order = λ k b h e. elim (cases_lt k count) [
          | inl l ↦ in_order_kept n k b l e
          | inr l ↦
              let at : k ≡ count = omega arith in
              let is : n ≡ suc (suc b) = sym (new n) ∙ rw at at e in
              let r = reached_kept n b (omega (arith, is, s.bounded (get_or marks count 0))) in
              (r.0, omega (arith, r.1), r.2)
        ];
      }

  -- a mark that gets the next number
  pub number_made : get_or marks count 0 ≢ 0 → get_or given (get_or marks count 0) 0 ≡ 0
      → get_or marks count 0 < length given
      → IsNumberingAt marks (set given (get_or marks count 0) (last + 1)) (numbers ++ (last + 1) ∷ []) (last + 1) (count + 1)
  number_made not_zero not_given within =
      let mark = get_or marks count 0 in
      let n = last + 1 in
      record {
        one_each = length_push numbers n ∙ ap (λ z. z + 1) s.one_each;
        few = omega (arith, s.few);
        zero_given = elim (read_set given mark n 0 0 within) [ inl d ↦ absurd (not_zero (sym d.0)) | inr d ↦ d.1 ∙ s.zero_given ];
        bounded = grind (arith, read_set given mark n, s.bounded);
        distinct = grind (arith, read_set given mark n, s.bounded, s.distinct);
        number_is = grind (arith, cases_lt, read_set given mark n, kept n, new n, s.number_is, s.all_given);
        all_given = grind (arith, cases_lt, read_set given mark n, s.all_given);
        reached = λ b h. elim (cases_lt b last) [
          | inl l ↦ let r = reached_kept n b l in (r.0, omega (arith, r.1), r.2)
          | inr l ↦ (count, omega arith, new n ∙ omega arith)
        ];
        in_order = λ k b h e. elim (cases_lt k count) [
          | inl l ↦ in_order_kept n k b l e
          | inr l ↦
              let at : k ≡ count = omega arith in
              let is : n ≡ suc (suc b) = sym (new n) ∙ rw at at e in
              let r = reached_kept n b (omega (arith, is)) in
              (r.0, omega (arith, r.1), r.2)
        ];
      }

-- after all marks the numbers are those of the marks
module _ (marks given numbers : List ℕ) (last count : ℕ) (s : IsNumberingAt marks given numbers last count) (n : length marks ≡ count) where
  -- a number is the one given for its mark
  number_at : (k a x : ℕ) → slice_get numbers k ≡ Some a → slice_get marks k ≡ Some x → a ≡ get_or given x 0
  number_at k a x p q = grind (arith, nat_tests, slice_get_within, get_or_from_slice_get)

  -- the number 0 is that of the mark 0 alone
  zero_number : (k a x : ℕ) → slice_get numbers k ≡ Some a → slice_get marks k ≡ Some x → a ≡ 0 → x ≡ 0
  zero_number k a x p q e = grind (arith, nat_tests, slice_get_within, get_or_from_slice_get, cases_eq, number_at)

  -- equal numbers are those of equal marks
  one_mark : (j k a b x y : ℕ) → slice_get numbers j ≡ Some a → slice_get numbers k ≡ Some b
      → slice_get marks j ≡ Some x → slice_get marks k ≡ Some y → a ≡ b → x ≡ y
  one_mark j k a b x y p q u v e =
      let ax = number_at j a x p u in
      let by = number_at k b y q v in
      grind (arith, nat_tests, cases_eq, zero_number j a x p u, zero_number k b y q v, s.distinct x y)

  pub all_numbered : AreNumbered marks numbers
  all_numbered =
      record {
        one_each = s.one_each ∙ sym n;
        none = λ k b x p q. (zero_number k b x p q, λ e. number_at k b x p q ∙ ap (λ z. get_or given z 0) e ∙ s.zero_given);
        same = λ j k a b x y p q u v.
            (one_mark j k a b x y p q u v, λ e. number_at j a x p u ∙ ap (λ z. get_or given z 0) e ∙ sym (number_at k b y q v));
        in_order = λ k b e.
            let h = slice_get_within numbers k (suc (suc b)) e in
            let r = s.in_order k b (omega (arith, s.one_each)) (get_or_from_slice_get numbers k (suc (suc b)) 0 e) in
            (r.0, r.1, slice_get-get_or numbers r.0 0 (let l = r.1 in omega arith) ∙ ap (λ z. Some z) r.2);
      }

-- one step of the loop over the marks, where the number of the mark was given before
pub step_given : (marks given numbers next_given next_numbers : List ℕ) (last next_last count n : ℕ)
    → IsNumberingAt marks given numbers last count → next_given ≡ given → next_last ≡ last
    → (get_or marks count 0 ≢ 0 → get_or given (get_or marks count 0) 0 ≢ 0) → n ≡ get_or next_given (get_or marks count 0) 0
    → next_numbers ≡ numbers ++ n ∷ [] → IsNumberingAt marks next_given next_numbers next_last (count + 1)
step_given marks given numbers next_given next_numbers last next_last count n s g l known is e =
    rw (e, is, g, l) (number_given marks given numbers last count s known)

-- one step where the mark gets the next number
pub step_made : (marks given numbers next_given next_numbers : List ℕ) (last next_last count n : ℕ)
    → IsNumberingAt marks given numbers last count
    → next_given ≡ set given (get_or marks count 0) (last + 1) → next_last ≡ last + 1
    → get_or marks count 0 ≢ 0 → get_or given (get_or marks count 0) 0 ≡ 0 → get_or marks count 0 < length given
    → n ≡ get_or next_given (get_or marks count 0) 0 → next_numbers ≡ numbers ++ n ∷ []
    → IsNumberingAt marks next_given next_numbers next_last (count + 1)
step_made marks given numbers next_given next_numbers last next_last count n s g l not_zero not_given within is e =
    rw (e, is, g, l, get_or-set_same given (get_or marks count 0) (last + 1) 0 within) (number_made marks given numbers last count s not_zero not_given within)
