-- The first word of a text, and those after it.
use Rattle.sdd_verify.proofs.All.{All, All-nil, Bool, Fails, Flaw, List, None, Ok, Result, Some, [], along, ap, append-nil, append_assoc, arith, cases_Bool, drop, drop_all, eqb, eqb-true, fails_bind, false, inl, inr, length, length-append, line_in, nat_tests, past, place_at, place_here, place_on, position, position_or_len, refl, slice_split_at, slice_split_none, subst, sym, take, take-append-drop, take_all, with_front, words_behind, words_of, ℕ, ◌++◌, ◌+◌, ◌-◌, ◌<◌, ◌>>=◌, ◌∷◌, ◌≡◌, ◌⊎◌}
use Rattle.sdd_verify.proofs.RepliesPassed.{fails}

abbrev is_space : ℕ → Bool
is_space c = eqb c 32

abbrev IsNoSpace : ℕ → Type 0
IsNoSpace c = eqb c 32 ≡ false

abbrev place_of : List ℕ → ℕ
place_of text = position_or_len is_space text

none_before : (text : List ℕ) → All IsNoSpace (take (place_of text) text)
none_before [] = All-nil IsNoSpace
none_before (c ∷ cs) = elim (cases_Bool (is_space c)) [
  | inl space ↦ subst (λ n. All IsNoSpace (take n (c ∷ cs))) (sym (place_here is_space c cs space)) (All-nil IsNoSpace)
  | inr other ↦
      subst (λ n. All IsNoSpace (take n (c ∷ cs))) (sym (place_on is_space c cs other)) (grind (arith, nat_tests, IsNoSpace, place_of, (none_before cs)))
]

-- after the first word nothing stands, or a space
abbrev EndsOrSpace : List ℕ → Type 0
EndsOrSpace text = (text ≡ []) ⊎ ((rest : List ℕ) × (text ≡ 32 ∷ rest))

behind_it : (text : List ℕ) → EndsOrSpace (drop (place_of text) text)
behind_it [] = inl refl
behind_it (c ∷ cs) = elim (cases_Bool (is_space c)) [
  | inl space ↦ subst (λ n. EndsOrSpace (drop n (c ∷ cs))) (sym (place_here is_space c cs space)) (inr (cs, ap (λ k. k ∷ cs) (eqb-true c 32 space)))
  | inr other ↦ subst (λ n. EndsOrSpace (drop n (c ∷ cs))) (sym (place_on is_space c cs other)) (behind_it cs)
]

cut_by : (text word behind : List ℕ) → text ≡ word ++ behind → All IsNoSpace word → EndsOrSpace behind → words_of text ≡ word ∷ words_behind behind
cut_by text word behind parted none ends = grind (arith, nat_tests, words_of, append-nil, slice_split_none, is_space, words_behind, slice_split_at)

cut_is : (text : List ℕ) → words_of text ≡ take (place_of text) text ∷ words_behind (drop (place_of text) text)
cut_is text =
    cut_by text (take (place_of text) text) (drop (place_of text) text) (sym (take-append-drop (place_of text) text)) (none_before text) (behind_it text)

pub cut_at_place : (text : List ℕ) (n : ℕ) → Some n ≡ position is_space text → words_of text ≡ take n text ∷ words_behind (drop n text)
cut_at_place text n e = subst (λ k. words_of text ≡ take k text ∷ words_behind (drop k text)) (sym (place_at is_space text n e)) (cut_is text)

pub cut_nowhere : (text : List ℕ) → None ≡ position is_space text → words_of text ≡ text ∷ []
cut_nowhere text e = grind (arith, nat_tests, place_of, past, is_space, cut_is, words_behind, take_all, drop_all)

-- ---- one name more

-- what is left after the space
abbrev left : List ℕ → List ℕ
left rest = take (length rest - 1) (drop 1 rest)

regroup : {B : Type 0} (front : List B) (y : B) (reading : Result (List B) ℕ)
    → with_front front (reading >>= (λ ys. Ok (y ∷ ys))) ≡ with_front (front ++ y ∷ []) reading
regroup front y reading = grind (arith, nat_tests, append_assoc)

pub name_read : {B : Type 0} (f : ℕ → List ℕ → Result B ℕ) (rest name behind : List ℕ) (front : List B) (y : B) (total : Result (List B) ℕ) → 0 < length rest
    → words_of (left rest) ≡ name ∷ words_behind behind → f (length front) name ≡ Ok y → with_front front (along f (length front) (words_behind rest)) ≡ total
    → with_front (front ++ y ∷ []) (along f (length (front ++ y ∷ [])) (words_behind behind)) ≡ total
name_read f rest name behind front y total some cut read so_far =
    grind (arith, nat_tests, length-append, along, words_behind, left, take_all, words_of, with_front, regroup)

pub name_fails : {B : Type 0} (f : ℕ → List ℕ → Result B ℕ) (rest name behind : List ℕ) (front : List B) (flaw : Flaw) (total : Result (List B) ℕ)
    → 0 < length rest → words_of (left rest) ≡ name ∷ words_behind behind → Fails line_in flaw (f (length front) name)
    → with_front front (along f (length front) (words_behind rest)) ≡ total → Fails line_in flaw total
name_fails {B} f rest name behind front flaw total some cut fails so_far = grind (arith, fails_bind, nat_tests, left, take_all, words_of)

pub names_read : {B : Type 0} (f : ℕ → List ℕ → Result B ℕ) (rest : List ℕ) (front : List B) (total : Result (List B) ℕ) → length rest < 1
    → with_front front (along f (length front) (words_behind rest)) ≡ total → total ≡ Ok front
names_read f rest front total none so_far = grind (arith, nat_tests, append-nil)

pub names_begin : {B : Type 0} (f : ℕ → List ℕ → Result B ℕ) (names : List (List ℕ)) → with_front [] (along f 0 names) ≡ along f 0 names
names_begin f names = (grind (arith, nat_tests))
