-- Sifting the choices of a group loses no row of the answer, or else more rows are left than there is room for.
use Rattle.sdd_exec.proofs.All.{Agrees, AllAlike, Answers, AreSound, Choice, Condition, Const, Has, IsOutside, IsSifted, List, NoRepeats, Option, OutsAlike, Ref, Row, Same, TooMany, [], arith, cases_Bool, cond, false, inl, inr, is_taken, length, link_between, links_of, map, meets_all, outs_of, picked, refl, spliced, subst, sym, true, value_at, values_of, ℕ, ⊎_elim, ◌-◌, ◌<◌, ◌∙◌, ◌∷◌, ◌≡◌, ◌⊎◌}
use Rattle.sdd_exec.proofs.Splices.{new_in, new_out, value_in, new_there, meets_new, outs_new, links_on, outs_on}

-- choices with one value in each link are alike
pub alike_by_values : (parts : List (List Row)) (group : List ℕ) (d c : Choice) (conds : List Condition)
    → values_of parts (links_of group conds) d ≡ values_of parts (links_of group conds) c → AllAlike parts group d c conds
alike_by_values parts group d c [] e = tt
alike_by_values parts group d c (Const left op value ∷ conds) e = (tt, alike_by_values parts group d c conds e)
alike_by_values parts group d c (Same left right ∷ conds) e =
    let f = value_at (picked parts d) in
    let g = value_at (picked parts c) in
    let o : Option Ref = link_between group left right in
    let rs : List Ref = links_of group conds in (grind (arith, link_between, (alike_by_values parts group d c conds (grind arith))))

pub outs_by_values : (parts : List (List Row)) (group : List ℕ) (d c : Choice) (out : List Ref)
    → values_of parts (outs_of group out) d ≡ values_of parts (outs_of group out) c → OutsAlike parts group d c out
outs_by_values parts group d c [] e = tt
outs_by_values parts group d c (r ∷ out) e =
    ⊎_elim
    (λ (yes : is_taken group (r.part - 1) ≡ true).
    let both : values_of parts (r ∷ outs_of group out) d ≡ values_of parts (r ∷ outs_of group out) c = rw yes at e in
    let rest : values_of parts (outs_of group out) d ≡ values_of parts (outs_of group out) c = cc in
    (λ inside. cc, outs_by_values parts group d c out rest))
    (λ (not : is_taken group (r.part - 1) ≡ false).
    let rest : values_of parts (outs_of group out) d ≡ values_of parts (outs_of group out) c = rw not at e in
    (λ inside. absurd (let never : true ≡ false = sym inside ∙ not in cc), outs_by_values parts group d c out rest))
    (cases_Bool (is_taken group (r.part - 1)))

-- of a row of the answer what it has in the listed columns of a group
abbrev listed : List ℕ → List Ref → Row → Row
listed group [] row = []
listed group (r ∷ out) [] = []
listed group (r ∷ out) (v ∷ row) = cond (is_taken group (r.part - 1)) (v ∷ listed group out row) (listed group out row)

listed_values : (parts : List (List Row)) (group : List ℕ) (t : Choice) (out : List Ref)
    → listed group out (values_of parts out t) ≡ values_of parts (outs_of group out) t
listed_values parts group t [] = refl
listed_values parts group t (r ∷ out) = grind (arith, ⊎_elim, cases_Bool, (listed_values parts group t out))

-- a splice has the listed values of what was put in
outs_put_in : (parts : List (List Row)) (group : List ℕ) (d t : Choice) (out : List Ref)
    → values_of parts (outs_of group out) (spliced (length parts) group d t) ≡ values_of parts (outs_of group out) d
outs_put_in parts group d t [] = refl
outs_put_in parts group d t (r ∷ out) =
    let rest = outs_put_in parts group d t out in
    ⊎_elim
    (λ (yes : is_taken group (r.part - 1) ≡ true).
    rw (yes, (sym (value_in parts group d t r yes)), rest))
    (λ (not : is_taken group (r.part - 1) ≡ false). rw (not, rest))
    (cases_Bool (is_taken group (r.part - 1)))

-- rows that differ in what f tells of them
many_rows : (f : Row → Row) (P : Row → Type 0) (os : List Row) → NoRepeats os → ((o : Row) → Has os o → (row : Row) × P row × (f row ≡ o))
    → (rows : List Row) × (length rows ≡ length os) × NoRepeats rows × ((row : Row) → Has rows row → P row × Has os (f row))
many_rows f P [] once each = ([], refl, tt, λ row has. absurd has)
many_rows f P (o ∷ os) once each =
    let one = each o (inl refl) in
    let rest = many_rows f P os once.1 (λ q has. each q (inr has)) in
    let long : length rest.0 ≡ length os = rest.1 in (
      one.0 ∷ rest.0,
      omega arith,
      (λ has. once.0 (subst (Has os) one.2 (rest.3 one.0 has).1), rest.2),
      λ row has.
          ⊎_elim
          (λ (same : one.0 ≡ row). subst (λ (r : Row). P r × Has (o ∷ os) (f r)) same (one.1, inl (sym one.2)))
          (λ later. let r = rest.3 row later in (r.0, inr r.1))
          has,
    )

pub sifted_answers : (parts : List (List Row)) (conds : List Condition) (out : List Ref) (room : ℕ) (Rest : Choice
    → Type 0) (group : List ℕ) (choices kept : List Choice) (row : Row)
    → IsOutside parts group Rest → AreSound parts conds group kept → IsSifted parts conds out room group choices kept
    → Answers parts conds out Rest group choices row
    → Answers parts conds out Rest group kept row ⊎ TooMany room (Answers parts conds out Rest group kept)
sifted_answers parts conds out room Rest group choices kept row outside sound sifted a =
    let t : Choice = a.0 in
    let met : meets_all conds (picked parts t) ≡ true = a.2 in
    let is_row : map (value_at (picked parts t)) out ≡ row = a.3 in
    let rest : Rest t = a.4 in
    let c : Choice = a.5.0 in
    let agrees : Agrees parts group c t = a.5.2 in
    let Kept : Row → Type 0 = Answers parts conds out Rest group kept in
    let put_in : (d : Choice) → Has kept d → values_of parts (links_of group conds) d ≡ values_of parts (links_of group conds) c → Kept
    (values_of parts out (spliced (length parts) group d t)) =
    λ d has links. (
      spliced (length parts) group d t,
      new_there parts group d t (sound d has).0 a.1,
      meets_new parts group d t conds (sound d has).1 (links_on parts group d c t conds agrees (alike_by_values parts group d c conds links)) met,
      refl,
      outside t (spliced (length parts) group d t) (new_out parts group d t) rest,
      (d, has, new_in parts group d t),
    ) in
    ⊎_elim
    (λ like.
    let d : Choice = like.0 in
    let same : values_of parts out (spliced (length parts) group d t) ≡ row =
    outs_new parts group d t out (outs_on parts group d c t out agrees (outs_by_values parts group d c out like.3)) ∙ is_row in
    inl (subst Kept same (put_in d like.1 like.2)))
    (λ many.
    let made = many_rows (listed group out) Kept many.0 many.2
    (λ o has.
    let like = many.3 o has in
    let d : Choice = like.0 in (
      values_of parts out (spliced (length parts) group d t),
      put_in d like.1 like.2,
      listed_values parts group (spliced (length parts) group d t) out ∙ outs_put_in parts group d t out ∙ like.3,
    )) in
    let long : length made.0 ≡ length many.0 = made.1 in
    let more : room < length many.0 = many.1 in
    inr (made.0, omega arith, made.2, λ r has. (made.3 r has).0))
    (sifted.covered c a.5.1)
