-- A list that is joined of pieces: where an item of a piece stands, and what a change of a piece changes.
use Rattle.sdd_net.proofs.All.{IfSome, IsSome, List, OnErr, OnSome, Option, Result, Some, [], ap, append-nil, append_assoc, arith, drop, flat_map, flat_map-append, get_before, get_or, length, length-append, nat_tests, refl, remove, remove-append_left, remove-append_right, replicate, replicate-append-replicate, slice_get, slice_get_read, slice_set, suc, sym, take, without_at, zero, ℕ, ◌++◌, ◌+◌, ◌<◌, ◌∙◌, ◌∷◌, ◌≡◌}

-- an item stands after the items before it
get_behind : {A : Type 0} (before after : List A) (j : ℕ)
    → slice_get (before ++ after) (length before + j) ≡ slice_get after j
get_behind [] after j = let same : 0 + j ≡ j = omega arith in rw same refl
get_behind (x ∷ before) after j = grind (arith, nat_tests, (get_behind before after j))

-- an item of the middle part is taken out of it
without_between : {A : Type 0} (before middle after : List A) (j : ℕ) → j < length middle
    → without_at (before ++ (middle ++ after)) (length before + j) ≡ before ++ (remove middle j ++ after)
without_between before middle after j l =
    sym (let next : suc (length before + j) ≡ (length before + j) + 1 = omega arith in
    ap (λ n. take (length before + j) (before ++ (middle ++ after)) ++ drop n (before ++ (middle ++ after))) next)
    ∙ remove-append_right before (middle ++ after) (length before) (length before + j) refl (omega arith)
    ∙ ap (λ k. before ++ remove (middle ++ after) k) (omega arith)
    ∙ ap (λ ys. before ++ ys) (remove-append_left middle after j l)

module _ {X A : Type 0} (f : X → List A) where
  -- the pieces before one, that one, and those after it
  split_at : (ps : List X) (i : ℕ) (p : X) → i < length ps → p ≡ get_or ps i p
      → flat_map f ps ≡ flat_map f (take i ps) ++ (f p ++ flat_map f (drop (suc i) ps))
  split_at [] i p l e = absurd (omega arith)
  split_at (q ∷ ps) zero p l e = ap (λ x. f x ++ flat_map f ps) (sym e)
  split_at (q ∷ ps) (suc i) p l e = grind (arith, nat_tests, append_assoc, (split_at ps i p (omega arith) e))

  set_at : (ps : List X) (i : ℕ) (p : X) → i < length ps
      → flat_map f (slice_set ps i p) ≡ flat_map f (take i ps) ++ (f p ++ flat_map f (drop (suc i) ps))
  set_at [] i p l = absurd (omega arith)
  set_at (q ∷ ps) zero p l = refl
  set_at (q ∷ ps) (suc i) p l = grind (arith, nat_tests, append_assoc, (set_at ps i p (omega arith)))

  take_more : (ps : List X) (i : ℕ) (p : X) → i < length ps → p ≡ get_or ps i p
      → flat_map f (take (suc i) ps) ≡ flat_map f (take i ps) ++ f p
  take_more [] i p l e = absurd (omega arith)
  take_more (q ∷ ps) zero p l e = append-nil (f q) ∙ ap f (sym e)
  take_more (q ∷ ps) (suc i) p l e = grind (arith, nat_tests, append_assoc, (take_more ps i p (omega arith) e))

  -- so many items stand in the pieces up to one
  pub count_more : (ps : List X) (i : ℕ) (p : X) → i < length ps → p ≡ get_or ps i p
      → length (flat_map f (take (i + 1) ps)) ≡ length (flat_map f (take i ps)) + length (f p)
  count_more ps i p l e =
      let next : i + 1 ≡ suc i = omega arith in
      ap (λ n. length (flat_map f (take n ps))) next
      ∙ ap length (take_more ps i p l e)
      ∙ length-append (flat_map f (take i ps)) (f p)

  -- an item of a piece stands after the items of the pieces before it
  pub item_at : (ps : List X) (i j : ℕ) (p : X) → i < length ps → p ≡ get_or ps i p → j < length (f p)
      → slice_get (flat_map f ps) (length (flat_map f (take i ps)) + j) ≡ slice_get (f p) j
  item_at ps i j p l e within =
      ap (λ xs. slice_get xs (length (flat_map f (take i ps)) + j)) (split_at ps i p l e)
      ∙ get_behind (flat_map f (take i ps)) (f p ++ flat_map f (drop (suc i) ps)) j
      ∙ get_before (f p) (flat_map f (drop (suc i) ps)) j within

  -- a piece without its item j
  pub without_item : (ps : List X) (i j : ℕ) (p q : X) → i < length ps → p ≡ get_or ps i p
      → j < length (f p) → f q ≡ remove (f p) j → flat_map f (slice_set ps i q)
      ≡ without_at (flat_map f ps) (length (flat_map f (take i ps)) + j)
  without_item ps i j p q l e within left =
      set_at ps i q l
      ∙ ap (λ ys. flat_map f (take i ps) ++ (ys ++ flat_map f (drop (suc i) ps))) left
      ∙ sym (without_between (flat_map f (take i ps)) (f p) (flat_map f (drop (suc i) ps)) j within)
      ∙ ap (λ xs. without_at xs (length (flat_map f (take i ps)) + j)) (sym (split_at ps i p l e))

  -- a piece with the same items
  pub same_items : (ps : List X) (i : ℕ) (p q : X) → i < length ps → p ≡ get_or ps i p → f q ≡ f p
      → flat_map f (slice_set ps i q) ≡ flat_map f ps
  same_items ps i p q l e same = grind (arith, nat_tests, set_at, split_at)

  drop_whole : (ps : List X) (n : ℕ) → length ps ≡ n → drop n ps ≡ []
  drop_whole (p ∷ ps) (suc n) e = drop_whole ps n (omega (arith, e))
  drop_whole _ _ e = cc

  -- the last piece with one item more
  pub item_more : (ps : List X) (i : ℕ) (p q : X) (x : A) → length ps ≡ i + 1 → p ≡ get_or ps i p
      → f q ≡ f p ++ x ∷ [] → flat_map f (slice_set ps i q) ≡ flat_map f ps ++ x ∷ []
  item_more ps i p q x last e more =
      let l : i < length ps = omega (arith, last) in
      let none : flat_map f (drop (suc i) ps) ≡ [] = ap (flat_map f) (drop_whole ps (suc i) (omega (arith, last))) in
      set_at ps i q l
      ∙ rw (none, more, append-nil (f p ++ x ∷ [])) refl
      ∙ sym (append_assoc (flat_map f (take i ps)) (f p) (x ∷ []))
      ∙ ap (λ ys. ys ++ x ∷ []) (sym (split_at ps i p l e ∙ rw (none, append-nil (f p)) refl))

  -- an empty piece may go
  pub without_empty : (ps : List X) (i : ℕ) (p : X) → i < length ps → p ≡ get_or ps i p → f p ≡ []
      → flat_map f (remove ps i) ≡ flat_map f ps
  without_empty ps i p l e none =
      flat_map-append f (take i ps) (drop (suc i) ps)
      ∙ ap (λ ys. flat_map f (take i ps) ++ (ys ++ flat_map f (drop (suc i) ps))) (sym none)
      ∙ sym (split_at ps i p l e)

-- so many of one event, and as many more
pub times_more : {A : Type 0} (start before now : List A) (x : A) (n m k : ℕ) → before ≡ start ++ replicate n x → now ≡ before ++ replicate m x
    → k ≡ n + m
    → now ≡ start ++ replicate k x
times_more start before now x n m k e f g = grind (arith, nat_tests, append_assoc, replicate-append-replicate)

-- what holds whether or not a result is an error
pub on_err : {T E : Type 0} (r : Result T E) {A : Type 0} → A → OnErr r A
on_err r a = grind (arith, nat_tests)

-- what is read of a piece is what stands at its place in the whole
pub item_read : {R A : Type 0} (value : R → A) (r : Option R) (whole piece : List A) (k j : ℕ)
    → j < length piece → slice_get whole k ≡ slice_get piece j → IfSome r (λ y. value y ≡ get_or piece j (value y))
    → IfSome r (λ y. slice_get whole k ≡ Some (value y))
item_read value r whole piece k j l e read = grind (arith, slice_get_read)

-- what holds of a result that is there
pub of_some : {A : Type 0} (r : Option A) {B : Type 0} → IsSome r → OnSome r B → B
of_some r some b = grind (arith, nat_tests)
