-- Marks for the members of pairs, one pair after the other.
use Rattle.sdd_blocks.proofs.All.{All, AreMarked, IsPaired, Joins, List, Some, ap, arith, cases_lt, get_or, get_or_default, get_or_from_slice_get, inl, inr, length, length-set, nat_tests, refl, set, slice_get, slice_get_within, slice_index, some_pair_parts, suc, sym, zero, ℕ, ◌+◌, ◌<◌, ◌∙◌, ◌≡◌, ◌≤◌}
use Rattle.sdd_blocks.proofs.Places.{read_set}

-- the members of the first pairs have marks of their labels, and all others have 0
pub record IsMarkingAt (pairs : List (ℕ × ℕ)) (labels marks : List ℕ) (count : ℕ) : Type 0 where
  pub one_each : length marks ≡ length labels
  pub off : (k : ℕ) → get_or marks k 0 ≡ 0 → (i j : ℕ) → i < count → ¬ Joins pairs i k j
  pub on : (k x : ℕ) → get_or marks k 0 ≡ suc x → (slice_index labels k ≡ x) × IsPaired pairs k

-- before the first pair all marks are 0
pub no_marks_yet : (pairs : List (ℕ × ℕ)) (labels marks : List ℕ) → length marks ≡ length labels
    → ((k : ℕ) → get_or marks k 0 ≡ 0) → IsMarkingAt pairs labels marks 0
no_marks_yet pairs labels marks n zeros = grind (arith, nat_tests)

-- a pair more, with both of its members marked
pub pair_marked : (pairs : List (ℕ × ℕ)) (labels marks : List ℕ) (count a b : ℕ)
    → IsMarkingAt pairs labels marks count → slice_get pairs count ≡ Some (a, b) → a < length labels → b < length labels
    → IsMarkingAt pairs labels (set (set marks a (slice_index labels a + 1)) b (slice_index labels b + 1)) (count + 1)
pair_marked pairs labels marks count a b s here a_within b_within =
    let once = set marks a (slice_index labels a + 1) in
    let once_length = length-set marks a (slice_index labels a + 1) in
    let in_once : b < length once = omega (arith, s.one_each) in
    let in_marks : a < length marks = omega (arith, s.one_each) in
    record {
      one_each = length-set once b (slice_index labels b + 1) ∙ once_length ∙ s.one_each;
      off = λ k e i j h m.
          elim (read_set once b (slice_index labels b + 1) k 0 in_once) [
            | inl d ↦ absurd (omega (arith, d.1, e))
            | inr d ↦ elim (read_set marks a (slice_index labels a + 1) k 0 in_marks) [
              | inl f ↦ absurd (omega (arith, d.1, f.1, e))
              | inr f ↦ elim (cases_lt i count) [
                | inl l ↦ s.off k (sym f.1 ∙ sym d.1 ∙ e) i j l m
                | inr l ↦ grind (arith, nat_tests, some_pair_parts)
              ]
            ]
          ];
      on = λ k x e.
          elim (read_set once b (slice_index labels b + 1) k 0 in_once) [
            | inl d ↦ (ap (λ z. slice_index labels z) d.0 ∙ omega (arith, d.1, e), rw d.0 (count, a, inr here))
            | inr d ↦ elim (read_set marks a (slice_index labels a + 1) k 0 in_marks) [
              | inl f ↦ (ap (λ z. slice_index labels z) f.0 ∙ omega (arith, d.1, f.1, e), rw f.0 (count, b, inl here))
              | inr f ↦ s.on k x (sym f.1 ∙ sym d.1 ∙ e)
            ]
          ];
    }

-- after all pairs all their members are marked
pub all_marked : (pairs : List (ℕ × ℕ)) (labels marks : List ℕ) (count : ℕ)
    → IsMarkingAt pairs labels marks count → length pairs ≤ count → AreMarked pairs labels marks
all_marked pairs labels marks count s done =
    record {
      one_each = s.one_each;
      none = λ k e p.
          let l : p.0 < length pairs = elim p.2 [ inl g ↦ slice_get_within pairs p.0 (k, p.1) g | inr g ↦ slice_get_within pairs p.0 (p.1, k) g ] in
          s.off k (get_or_from_slice_get marks k 0 0 e) p.0 p.1 (omega arith) p.2;
      some = λ k x e. s.on k x (get_or_from_slice_get marks k (suc x) 0 e);
    }

-- a mark is at most one more than a label
mark_below : (pairs : List (ℕ × ℕ)) (labels marks : List ℕ) (count : ℕ)
    → IsMarkingAt pairs labels marks count → All (λ label. label < length labels) labels → (k : ℕ)
    → k < length labels → (x : ℕ) → get_or marks k 0 ≡ x → x < length labels + 1
mark_below pairs labels marks count s below k h zero e = omega arith
mark_below pairs labels marks count s below k h (suc x) e = let l = below k 0 h in let m = s.on k x e in omega (arith, m.0)

-- the same of all marks
pub marks_below : (pairs : List (ℕ × ℕ)) (labels marks : List ℕ) (count : ℕ)
    → IsMarkingAt pairs labels marks count → All (λ label. label < length labels) labels
    → All (λ mark. mark < length labels + 1) marks
marks_below pairs labels marks count s below k d h =
    let l = mark_below pairs labels marks count s below k (omega (arith, s.one_each)) (get_or marks k 0) refl in
    omega (arith, (get_or_default marks k d 0 h))
