-- One choice in the place of another: when the rows of some parts, a group, may be replaced by others.
use Rattle.std.specs.Prelude.{ℕ, ◌-◌, ◌<◌, ◌≡◌, true, false, cond, List, [], ◌∷◌, length, map, slice_index, slice_index_or}
use Rattle.std.specs.List.{range_with_len}
use Rattle.sdd_lang.specs.declared.condition.Ref.{Ref}
use Rattle.sdd_lang.specs.declared.condition.Condition.{Condition}
use Rattle.sdd_lang.specs.declared.condition.Condition.TheVariants.{Const, Same}
use Rattle.sdd_lang.specs.All.{Row, meets_all, value_at}
use Rattle.sdd_lang.specs.Condition.{meets}
use Rattle.sdd_exec.specs.Choices.{Choice, picked, is_there, is_taken}
use Rattle.sdd_shipped.specs.Members.{Has}

-- the choice with the places of c in these parts and those of t in all others
abbrev pub spliced : ℕ → List ℕ → Choice → Choice → Choice
spliced parts group c t = map (λ p. cond (is_taken group p) (slice_index c p) (slice_index t p)) (range_with_len 0 parts)

-- two choices have one place in each part of a group
abbrev pub Agrees : List (List Row) → List ℕ → Choice → Choice → Type 0
Agrees parts group c t = (p : ℕ) → p < length parts → is_taken group p ≡ true → slice_index c p ≡ slice_index t p

-- the places of a choice in a group are those of rows
abbrev pub IsThereIn : List (List Row) → List ℕ → Choice → Type 0
IsThereIn parts group c = (p : ℕ) → p < length parts → is_taken group p ≡ true → slice_index c p < length (slice_index_or parts p [])

-- a choice meets a condition if that is on columns of a group alone
abbrev pub MeetsInside : List (List Row) → List ℕ → Choice → Condition → Type 0
MeetsInside parts group c (Const left op value) =
    is_taken group (left.part - 1) ≡ true → meets (picked parts c) (Const left op value) ≡ true
MeetsInside parts group c (Same left right) =
    is_taken group (left.part - 1) ≡ true → is_taken group (right.part - 1) ≡ true → meets (picked parts c) (Same left right) ≡ true

-- two choices have one value where a condition ties a column of the group to one outside of it
abbrev pub LinksAlike : List (List Row) → List ℕ → Choice → Choice → Condition → Type 0
LinksAlike parts group c d (Const left op value) = Unit {0}
LinksAlike parts group c d (Same left right) =
    (is_taken group (left.part - 1) ≡ true → is_taken group (right.part - 1) ≡ false → value_at (picked parts c) left ≡ value_at (picked parts d) left)
    × (is_taken group (left.part - 1) ≡ false → is_taken group (right.part - 1) ≡ true → value_at (picked parts c) right ≡ value_at (picked parts d) right)

abbrev pub AllInside : List (List Row) → List ℕ → Choice → List Condition → Type 0
AllInside parts group c [] = Unit {0}
AllInside parts group c (k ∷ conds) = MeetsInside parts group c k × AllInside parts group c conds

abbrev pub AllAlike : List (List Row) → List ℕ → Choice → Choice → List Condition → Type 0
AllAlike parts group c d [] = Unit {0}
AllAlike parts group c d (k ∷ conds) = LinksAlike parts group c d k × AllAlike parts group c d conds

-- two choices have one value in each listed column of the group
abbrev pub OutsAlike : List (List Row) → List ℕ → Choice → Choice → List Ref → Type 0
OutsAlike parts group c d [] = Unit {0}
OutsAlike parts group c d (r ∷ out) =
    (is_taken group (r.part - 1) ≡ true → value_at (picked parts c) r ≡ value_at (picked parts d) r) × OutsAlike parts group c d out

-- the rows of choices of a group are there, and meet the conditions that are on columns of the group alone
abbrev pub AreSound : List (List Row) → List Condition → List ℕ → List Choice → Type 0
AreSound parts conds group kept = (c : Choice) → Has kept c → IsThereIn parts group c × AllInside parts group c conds

-- a row is answered by a choice of all parts that agrees with a kept one in the group, and of which the rest holds
abbrev pub Answers : List (List Row) → List Condition → List Ref → (Choice → Type 0) → List ℕ → List Choice → Row → Type 0
Answers parts conds out Rest group kept row =
    (t : Choice) × (is_there parts t ≡ true) × (meets_all conds (picked parts t) ≡ true)
    × (map (value_at (picked parts t)) out ≡ row) × Rest t × ((c : Choice) × Has kept c × Agrees parts group c t)

-- what holds of a choice holds of each that has its places outside of the group
abbrev pub IsOutside : List (List Row) → List ℕ → (Choice → Type 0) → Type 0
IsOutside parts group Rest =
    (s t : Choice) → ((p : ℕ) → p < length parts → is_taken group p ≡ false → slice_index s p ≡ slice_index t p) → Rest s → Rest t
