-- The ranges of a list of entries that have its diagonals, by one entry after another.
use Rattle.sdd_protocol.proofs.All.{All, All-replicate, All-set, All-weaker, Covers, Diagonal, DiagonalIndex, Edge, Entry, HasCell, IsIndexOf, List, ap, arith, cases_eq, cell, get_or, get_or-set_other, get_or-set_same, get_or_default, inl, inr, length, length-replicate, length-set, mul-add-lt, nat_tests, no_diagonals, range_of, set, subst, sym, widened, with_edge, ℕ, ◌*◌, ◌+◌, ◌<◌, ◌∙◌, ◌≡◌, ◌≤◌}

-- a range up to here is in place
abbrev IsRange : ℕ → ℕ × ℕ → Type 0
IsRange count p = (p.0 ≤ p.1) × (p.1 ≤ count)

pub index_none : (entries : List Entry) (width : ℕ) → IsIndexOf entries 0 (no_diagonals width)
index_none entries width =
    record {
      square = length-replicate (width * width) (0, 0);
      within = All-replicate (IsRange 0) (width * width) (0, 0) (omega arith, omega arith);
      covers = λ k d l. absurd (omega arith);
    }

-- a widened range is in place, keeps the index that it had, and has the new one
widened_range : (p : ℕ × ℕ) (k : ℕ) → IsRange k p → IsRange (k + 1) (widened p k)
widened_range p k h = grind (arith, nat_tests)

widened_keeps : (p : ℕ × ℕ) (k m : ℕ) → p.1 ≤ k → p.0 ≤ m → m < p.1 → ((widened p k).0 ≤ m) × (m < k + 1)
widened_keeps p k m h a b = grind (arith, nat_tests)

widened_has : (p : ℕ × ℕ) (k : ℕ) → IsRange k p → ((widened p k).0 ≤ k) × (k < k + 1)
widened_has p k h = grind (arith, nat_tests)

module _ (entries : List Entry) (count : ℕ) (index : DiagonalIndex) (h : IsIndexOf entries count index) where
  -- the cell of a reader and a writer is there
  cell_within : (i j : ℕ) → i < index.width → j < index.width → cell index i j < length index.ranges
  cell_within i j p q = subst (λ z. cell index i j < z) (sym h.square) (mul-add-lt i index.width j index.width p q)

  range_at : (i j : ℕ) → i < index.width → j < index.width → IsRange count (range_of index i j)
  range_at i j p q = h.within (cell index i j) (0, 0) (cell_within i j p q)

  -- what is covered stays covered
  covers_same : (e : Edge) → HasCell index.width e → (k : ℕ) (f : Edge) → Covers index k f
      → k < count → Covers (with_edge index e count) k f
  covers_same (Diagonal i j g) c k (Diagonal a b f) p l =
      let n = cell index i.0 j.0 in
      let m = cell index a.0 b.0 in
      let old = range_of index i.0 j.0 in
      let next = set index.ranges n (widened old count) in
      elim (cases_eq m n) [
        | inl e ↦
            let here : get_or next m (0, 0) ≡ widened old count =
            ap (λ z. get_or next z (0, 0)) e ∙ get_or-set_same index.ranges n (widened old count) (0, 0) (cell_within i.0 j.0 c.0 c.1) in
            let was = subst (λ z. ((get_or index.ranges z (0, 0)).0 ≤ k) × (k < (get_or index.ranges z (0, 0)).1)) e p in
            subst (λ z. (z.0 ≤ k) × (k < z.1)) (sym here) (widened_keeps old count k (range_at i.0 j.0 c.0 c.1).1 was.0 was.1)
        | inr d ↦ subst (λ z. (z.0 ≤ k) × (k < z.1)) (sym (get_or-set_other index.ranges n m (widened old count) (0, 0) d)) p
      ]
  covers_same _ c k _ p l = grind (arith, nat_tests)

  -- the new place is covered
  covers_new : (e : Edge) → HasCell index.width e → Covers (with_edge index e count) count e
  covers_new (Diagonal i j g) c =
      let n = cell index i.0 j.0 in
      let old = range_of index i.0 j.0 in
      subst (λ z. (z.0 ≤ count) × (count < z.1)) (sym (get_or-set_same index.ranges n (widened old count) (0, 0) (cell_within i.0 j.0 c.0 c.1)))
      (widened_has old count (range_at i.0 j.0 c.0 c.1))
  covers_new _ c = cc

  within_later : All (IsRange (count + 1)) index.ranges
  within_later = All-weaker (IsRange count) (IsRange (count + 1)) (λ p q. (q.0, omega arith)) index.ranges h.within

  within_more : (e : Edge) → HasCell index.width e → All (IsRange (count + 1)) (with_edge index e count).ranges
  within_more (Diagonal i j g) c =
      All-set (IsRange (count + 1)) index.ranges (cell index i.0 j.0) (widened (range_of index i.0 j.0) count)
      (widened_range (range_of index i.0 j.0) count (range_at i.0 j.0 c.0 c.1)) within_later
  within_more _ c = omega arith

  pub index_more : (d : Entry) → count < length entries → HasCell index.width (get_or entries count d).edge
      → IsIndexOf entries (count + 1) (with_edge index (get_or entries count d).edge count)
  index_more d l c = grind (arith, nat_tests, length-set, within_more, cases_eq, get_or_default, covers_new, covers_same)

width-with_edge : (index : DiagonalIndex) (e : Edge) (k : ℕ) → (with_edge index e k).width ≡ index.width
width-with_edge index e k = grind (arith, nat_tests)

-- one more entry
pub index_step : (entries : List Entry) (count width : ℕ) (index next : DiagonalIndex) (d : Entry)
    → next ≡ with_edge index (get_or entries count d).edge count → count < length entries
    → All (λ e. HasCell width e.edge) entries → (index.width ≡ width) × IsIndexOf entries count index
    → (next.width ≡ width) × IsIndexOf entries (count + 1) next
index_step entries count width index next d e l cells h =
    let edge = (get_or entries count d).edge in (
      ap (λ z. z.width) e ∙ width-with_edge index edge count ∙ h.0,
      subst (λ z. IsIndexOf entries (count + 1) z) (sym e) (index_more entries count index h.1 d l (subst (λ z. HasCell z edge) (sym h.0) (cells count d l))),
    )
