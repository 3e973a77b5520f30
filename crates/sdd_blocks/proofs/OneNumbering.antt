-- There is one list of block numbers.
use Rattle.sdd_blocks.proofs.All.{AreBlocks, List, Some, ap, arith, cases_lt, ext_get_or, get_or, inl, inr, length, nat_tests, refl, slice_get, slice_get-get_or, suc, sym, zero, ℕ, ◌<◌, ◌∙◌, ◌≡◌, ◌≤◌}

-- before a number each lower one stands
lower_before : (edges : List (ℕ × ℕ)) (blocks : List ℕ) → AreBlocks edges blocks → (b k a : ℕ)
    → slice_get blocks k ≡ Some (suc b) → a < b → (j : ℕ) × (j < k) × (slice_get blocks j ≡ Some (suc a))
lower_before edges blocks h zero k a e l = absurd (omega arith)
lower_before edges blocks h (suc b) k a e l =
    let r = h.in_order k b e in
    elim (cases_lt a b) [
      | inl m ↦ let q = lower_before edges blocks h b r.0 a r.2 m in (q.0, let x = q.1 in let y = r.1 in omega arith, q.2)
      | inr m ↦ let same : b ≡ a = omega arith in (r.0, r.1, r.2 ∙ ap (λ z. Some (suc z)) same)
    ]

-- where the numbers before an edge are the same, no number is lower in the one list than in the other
not_lower : (edges : List (ℕ × ℕ)) (xs ys : List ℕ) → AreBlocks edges xs → AreBlocks edges ys
    → (k a b : ℕ) → slice_get xs k ≡ Some (suc a) → slice_get ys k ≡ Some (suc b)
    → ((j c : ℕ) → j < k → slice_get ys j ≡ Some c → slice_get xs j ≡ Some c) → b ≤ a
not_lower edges xs ys p q k a b e f before =
    elim (cases_lt a b) [
      | inl l ↦
          let r = lower_before edges ys q b k a f l in
          let linked = (p.same r.0 k (suc a) (suc a) (before r.0 (suc a) r.1 r.2) e (λ z. absurd (omega arith))).0 refl in
          absurd (omega (arith, (q.same r.0 k (suc a) (suc b) r.2 f (λ z. absurd (omega arith))).1 linked))
      | inr l ↦ l
    ]

-- numbers of one edge are the same
same_number : (edges : List (ℕ × ℕ)) (xs ys : List ℕ) → AreBlocks edges xs → AreBlocks edges ys
    → (k a b : ℕ) → slice_get xs k ≡ Some a → slice_get ys k ≡ Some b
    → ((j c : ℕ) → j < k → slice_get ys j ≡ Some c → slice_get xs j ≡ Some c)
    → ((j c : ℕ) → j < k → slice_get xs j ≡ Some c → slice_get ys j ≡ Some c) → a ≡ b
same_number edges xs ys p q k zero zero e f one other = refl
same_number edges xs ys p q k zero (suc b) e f one other = absurd (p.none k e (q.some k b f))
same_number edges xs ys p q k (suc a) zero e f one other = absurd (q.none k f (p.some k a e))
same_number edges xs ys p q k (suc a) (suc b) e f one other = grind (arith, nat_tests, not_lower)

module _ (edges : List (ℕ × ℕ)) (xs ys : List ℕ) (p : AreBlocks edges xs) (q : AreBlocks edges ys) where
  -- the numbers of the first edges are the same
  same_below : (n k : ℕ) → k < n → k < length edges → get_or xs k 0 ≡ get_or ys k 0
  same_below zero k l h = absurd (omega arith)
  same_below (suc n) k l h =
      let x = slice_get-get_or xs k 0 (omega (arith, p.one_each)) in
      let y = slice_get-get_or ys k 0 (omega (arith, q.one_each)) in
      let s : (j : ℕ) → j < k → slice_get xs j ≡ slice_get ys j = λ j m.
      grind (arith, p.one_each, q.one_each, slice_get-get_or, same_below n j (omega arith) (omega arith)) in
      same_number edges xs ys p q k (get_or xs k 0) (get_or ys k 0) x y (λ j c m e. s j m ∙ e) (λ j c m e. sym (s j m) ∙ e)

  -- two lists of block numbers of one graph are equal
  pub one_numbering : xs ≡ ys
  one_numbering = ext_get_or 0 xs ys (p.one_each ∙ sym q.one_each) (λ k h. same_below (suc k) k (omega arith) (omega (arith, p.one_each)))
