-- The eras of a log that puts several class lists in force.
use Rattle.sdd_progress.proofs.All.{AreErasOf, Catalogue, Eras, HasSoundLists, Input, List, Log, Mark, Redeclares, Some, [], ap, arith, at_seam, catalogue_at, cond, eras_begun, eras_of, false, in_left, inl, inr, le-leb, le_is, length, length-append, marks, nat_le, nth_era, place_within, redeclares, refl, slice_get, slice_index_or, subst, suc, sym, true, true_or_false, zero, ℕ, ◌++◌, ◌+◌, ◌-◌, ◌<◌, ◌∙◌, ◌∷◌, ◌≡◌, ◌≤◌, ◌⊎◌}
use Rattle.sdd_progress.proofs.SinceRedeclare.{redeclares_back}

-- a member of a list with one more at its end
at_snoc : {A : Type 0} (xs : List A) (y : A) (k : ℕ) (m : A) → slice_get (xs ++ y ∷ []) k ≡ Some m → (slice_get xs k ≡ Some m) ⊎ ((k ≡ length xs) × (y ≡ m))
at_snoc [] y zero m e = let p : y ≡ m = cc in inr (refl, p)
at_snoc [] y (suc k) m e = cc
at_snoc (x ∷ xs) y zero m e = inl e
at_snoc (x ∷ xs) y (suc k) m e = grind (arith, (at_snoc xs y k m e))

-- an era of the log: its list, and that it has begun
abbrev IsNumbered : Input → Log → Type 0
IsNumbered g log = (k : ℕ) (a : ℕ × Catalogue) → slice_get (eras_of g log) k ≡ Some a → (a.1 ≡ (nth_era g k).catalogue) × (a.0 ≤ marks log)

len : (g : Input) (log : Log) → length (eras_of g log) ≡ suc (redeclares log)
len g [] = refl
len g (Redeclares t ∷ log) = grind (arith, length-append, (len g log))
len g (_ ∷ log) = len g log

later_mark : (g : Input) (log : Log) → IsNumbered g log → (k : ℕ) (a : ℕ × Catalogue) → slice_get (eras_of g log) k ≡ Some a
    → (a.1 ≡ (nth_era g k).catalogue) × (a.0 ≤ suc (marks log))
later_mark g log h k a e = let r = h k a e in let l = r.1 in (r.0, omega (arith, l))

numbered : (g : Input) (log : Log) → IsNumbered g log
numbered g [] zero a e = let p : (0, (nth_era g 0).catalogue) ≡ a = cc in
    (ap (λ (x : ℕ × Catalogue). x.1) (sym p), let q : 0 ≡ a.0 = ap (λ (x : ℕ × Catalogue). x.0) p in omega (arith, q))
numbered g [] (suc k) a e = cc
numbered g (Redeclares t ∷ log) k a e =
    let y : ℕ × Catalogue = (suc (marks log), (nth_era g (suc (redeclares log))).catalogue) in
    elim (at_snoc (eras_of g log) y k a e) [
      | inl p ↦ later_mark g log (numbered g log) k a p
      | inr p ↦ (let n : k ≡ suc (redeclares log) = p.0 ∙ len g log in
          let q : suc (marks log) ≡ a.0 = ap (λ (x : ℕ × Catalogue). x.0) p.1 in
          (ap (λ (x : ℕ × Catalogue). x.1) (sym p.1) ∙ ap (λ i. (nth_era g i).catalogue) (sym n), omega (arith, q)))
    ]
numbered g (Mark x ∷ log) k a e = later_mark g log (numbered g log) k a e
numbered g (_ ∷ log) k a e = numbered g log k a e

rises : (g : Input) (log : Log) (k : ℕ) (a b : ℕ × Catalogue) → slice_get (eras_of g log) k ≡ Some a → slice_get (eras_of g log) (suc k) ≡ Some b → a.0 < b.0
rises g [] k a b e f = cc
rises g (Redeclares t ∷ log) k a b e f =
    let y : ℕ × Catalogue = (suc (marks log), (nth_era g (suc (redeclares log))).catalogue) in
    elim (at_snoc (eras_of g log) y (suc k) b f) [
      | inl p ↦ elim (at_snoc (eras_of g log) y k a e) [
        | inl q ↦ rises g log k a b q p
        | inr q ↦ (let l = place_within (eras_of g log) (suc k) b p in let n = q.0 in absurd (omega (arith, l, n)))
      ]
      | inr p ↦ grind (arith, at_snoc, eras_of, numbered, marks)
    ]
rises g (_ ∷ log) k a b e f = rises g log k a b e f

first : (g : Input) (log : Log) → slice_get (eras_of g log) 0 ≡ Some (0, (nth_era g 0).catalogue)
first g [] = refl
first g (Redeclares t ∷ log) = in_left (eras_of g log) _ 0 (0, (nth_era g 0).catalogue) (first g log)
first g (_ ∷ log) = first g log

-- those of a log go on in a longer one
stays : (g : Input) (later log : Log) (k : ℕ) (a : ℕ × Catalogue) → slice_get (eras_of g log) k ≡ Some a → slice_get (eras_of g (later ++ log)) k ≡ Some a
stays g [] log k a e = e
stays g (Redeclares t ∷ later) log k a e = in_left (eras_of g (later ++ log)) _ k a (stays g later log k a e)
stays g (_ ∷ later) log k a e = stays g later log k a e

-- the last one
last : (g : Input) (log : Log) → (a : ℕ × Catalogue) × (slice_get (eras_of g log) (redeclares log) ≡ Some a) × (a.1 ≡ (nth_era g (redeclares log)).catalogue)
last g [] = ((0, (nth_era g 0).catalogue), refl, refl)
last g (Redeclares t ∷ log) =
    let y : ℕ × Catalogue = (suc (marks log), (nth_era g (suc (redeclares log))).catalogue) in
    (y, ap (slice_get (eras_of g log ++ y ∷ [])) (sym (len g log)) ∙ at_seam (eras_of g log) [] y, refl)
last g (_ ∷ log) = last g log

-- how many have begun

one_begun : (n m : ℕ) (y : ℕ × Catalogue) → n ≤ m → length (cond (nat_le n m) (y ∷ []) []) ≡ 1
one_begun n m y l = rw (le-leb n m l) refl

sum_one : (a b c d : ℕ) → a ≡ b + c → b ≡ d → c ≡ 1 → a ≡ suc d
sum_one a b c d e f g = omega (arith, e, f, g)

begun_more : (eras : Eras) (y : ℕ × Catalogue) (event : ℕ)
    → eras_begun (eras ++ y ∷ []) event ≡ eras_begun eras event + length (cond (nat_le y.0 event) (y ∷ []) [])
begun_more [] y event = elim (nat_le y.0 event) as (λ b. length (cond b (y ∷ []) []) ≡ 0 + length (cond b (y ∷ []) [])) [ true ↦ refl | false ↦ refl ]
begun_more (x ∷ eras) y event = grind (arith, nat_le, (begun_more eras y event))

begun_all : (g : Input) (log : Log) (n : ℕ) → marks log ≤ n → eras_begun (eras_of g log) n ≡ suc (redeclares log)
begun_all g [] n l = one_begun 0 n (0, (nth_era g 0).catalogue) (omega arith)
begun_all g (Redeclares t ∷ log) n l =
    let y : ℕ × Catalogue = (suc (marks log), (nth_era g (suc (redeclares log))).catalogue) in
    let low : suc (marks log) ≤ n = l in
    sum_one _ _ _ _ (begun_more (eras_of g log) y n) (begun_all g log n (omega (arith, low))) (one_begun (suc (marks log)) n y low)
begun_all g (Mark x ∷ log) n l = let low : suc (marks log) ≤ n = l in begun_all g log n (omega (arith, low))
begun_all g (_ ∷ log) n l = begun_all g log n l

pub marks_up : (later log : Log) → marks log ≤ marks (later ++ log)
marks_up [] log = omega arith
marks_up (Mark x ∷ later) log = let i = marks_up later log in omega (arith, i)
marks_up (Redeclares t ∷ later) log = let i = marks_up later log in omega (arith, i)
marks_up (_ ∷ later) log = marks_up later log

-- those that a longer log has more begin later
begun_later : (g : Input) (later log : Log) → eras_begun (eras_of g (later ++ log)) (marks log) ≡ eras_begun (eras_of g log) (marks log)
begun_later g [] log = refl
begun_later g (Redeclares t ∷ later) log = grind (arith, begun_more, true_or_false, nat_le, le_is, marks_up, (begun_later g later log))
begun_later g (_ ∷ later) log = begun_later g later log

pub begun_is : (g : Input) (log later before : Log) → log ≡ later ++ before → eras_begun (eras_of g log) (marks before) ≡ suc (redeclares before)
begun_is g log later before is =
    ap (λ l. eras_begun (eras_of g l) (marks before)) is ∙ begun_later g later before ∙ begun_all g before (marks before) (omega arith)

pub index_or : {A : Type 0} (xs : List A) (k : ℕ) (d m : A) → slice_get xs k ≡ Some m → slice_index_or xs k d ≡ m
index_or [] k d m e = cc
index_or (x ∷ xs) zero d m e = let p : x ≡ m = cc in p
index_or (x ∷ xs) (suc k) d m e = index_or xs k d m e

current_era_is : (g : Input) (log later before : Log) → log ≡ later ++ before
    → catalogue_at g.catalogue (eras_of g log) (marks before) ≡ (nth_era g (redeclares before)).catalogue
current_era_is g log later before is =
    let a = last g before in
    let there : slice_get (eras_of g log) (redeclares before) ≡ Some a.0 =
    subst (λ l. slice_get (eras_of g l) (redeclares before) ≡ Some a.0) (sym is) (stays g later before (redeclares before) a.0 a.1) in
    ap (λ n. (slice_index_or (eras_of g log) (n - 1) (0, g.catalogue)).1) (begun_is g log later before is)
    ∙ ap (λ n. (slice_index_or (eras_of g log) n (0, g.catalogue)).1) (omega arith)
    ∙ ap (λ (x : ℕ × Catalogue). x.1) (index_or (eras_of g log) (redeclares before) (0, g.catalogue) a.0 there) ∙ a.2

pub are_eras_of : (g : Input) (log : Log) → HasSoundLists g log → AreErasOf g log (eras_of g log)
are_eras_of g log lists = record {
  are_eras = record {
    first = ((nth_era g 0).catalogue, first g log);
    rise = rises g log;
    each = grind (arith, numbered, place_within, eras_of, len);
  };
  era_is = current_era_is g log;
  tabled = λ later before is. (let l = redeclares_back later before in
      (lists (redeclares before) (omega (arith, l, ap redeclares is))).table);
}
