-- Places of transactions in an order, by their names. Where a name stands twice, its place is the first.
use Rattle.std.specs.Prelude.{ℕ, ◌-◌, List, [], ◌∷◌, Option, Some, None, codes, slice_index_or, unwrap_or, ◌≡◌, refl}
use Rattle.std.specs.List.{position_from}
use Rattle.std.specs.Str.{bytes_eq}

-- the place of this name, counted from 1
abbrev pub place_in : List (List ℕ) → List ℕ → Option ℕ
place_in names name = position_from (bytes_eq name) 1 names

-- the place of a transaction among these names, counted from 1; 0 where it doesn't stand there, or there is none
abbrev pub place_of : List (List ℕ) → Option (List ℕ) → ℕ
place_of names None = 0
place_of names (Some name) = unwrap_or (place_in names name) 0

-- the name at a place
abbrev pub name_at : List (List ℕ) → ℕ → List ℕ
name_at names place = slice_index_or names (place - 1) []

-- worked

abbrev a_b : List (List ℕ)
a_b = codes "a" ∷ codes "b" ∷ []

pub b_is_second : place_of a_b (Some (codes "b")) ≡ 2
b_is_second = refl

pub c_is_nowhere : place_of a_b (Some (codes "c")) ≡ 0
c_is_nowhere = refl

pub second_is_b : name_at a_b 2 ≡ codes "b"
second_is_b = refl
