-- The flags of those that wait, by one entry after the other.
use Rattle.sdd_ask.proofs.All.{Bool, CELLS, Entry, List, Tells, WIDTH, ap, arith, cases_eq, drop, false, flag_at, get_or, get_or-set_other, get_or-replicate, get_or-set_same, inl, inr, is_wait, length, length-replicate, list_any_more, nat_tests, replicate, set, sym, take, take-append_seam, true, waits_for, ℕ, ◌&&◌, ◌*◌, ◌++◌, ◌+◌, ◌<◌, ◌==◌, ◌||◌, ◌∙◌, ◌≡◌}

-- no flag is set
pub none_wait : (flags : List Bool) → flags ≡ replicate CELLS false → (entries : List Entry) → Tells flags (waits_for (take 0 entries))
none_wait flags e entries =
    record {
      cells = ap length e ∙ length-replicate CELLS false;
      at = λ i j a b. ap (λ z. flag_at z i j) e ∙ get_or-replicate CELLS (i * WIDTH + j) false false (omega arith);
    }

-- the flag of two numbers is set
pub flag_set : (flags : List Bool) (a b i j : ℕ) → length flags ≡ CELLS → a < WIDTH → b < WIDTH → i < WIDTH → j < WIDTH
    → flag_at (set flags (a * WIDTH + b) true) i j ≡ (flag_at flags i j || ((a == i) && (b == j)))
flag_set flags a b i j cells la lb li lj =
    elim (cases_eq (i * WIDTH + j) (a * WIDTH + b)) [
      | inl e ↦
          let same_row : a ≡ i = omega arith in
          let same_column : b ≡ j = omega arith in
          let here : flag_at (set flags (a * WIDTH + b) true) i j ≡ true =
          ap (λ z. get_or (set flags (a * WIDTH + b) true) z false) e ∙ get_or-set_same flags (a * WIDTH + b) true false (omega arith) in
          grind (arith, nat_tests)
      | inr d ↦
          let kept : flag_at (set flags (a * WIDTH + b) true) i j ≡ flag_at flags i j =
          get_or-set_other flags (a * WIDTH + b) (i * WIDTH + j) true false d in
          grind (arith, nat_tests)
    ]

-- the flags of a slice that was lent are written back
pub written_back : (old new : List Bool) (n : ℕ) → n ≡ length old → length new ≡ length old
    → take n (new ++ drop (length new) old) ≡ new
written_back old new n count long =
    ap (λ k. take k (new ++ drop (length new) old)) (count ∙ sym long) ∙ take-append_seam new (drop (length new) old)

-- one more entry, by the flags as they were lent
pub more_wait : (entries : List Entry) (k : ℕ) (d : Entry) (old lent new : List Bool) → k < length entries
    → Tells old (waits_for (take k entries)) → lent ≡ old → length new ≡ length lent
    → ((i j : ℕ) → i < WIDTH → j < WIDTH → flag_at new i j ≡ (flag_at lent i j || is_wait i j (get_or entries k d)))
    → Tells new (waits_for (take (k + 1) entries))
more_wait entries k d old lent new l tells is same_length now =
    record {
      cells = same_length ∙ ap length is ∙ tells.cells;
      at = λ i j a b.
          now i j a b
          ∙ ap (λ z. flag_at z i j || is_wait i j (get_or entries k d)) is
          ∙ ap (λ z. z || is_wait i j (get_or entries k d)) (tells.at i j a b)
          ∙ sym (list_any_more (is_wait i j) entries k d l);
    }
