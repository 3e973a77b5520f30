-- What is taken one after the other: again and again the item with the least time of those that are ready.
use Rattle.std.specs.Prelude.{ℕ, zero, suc, nat_lt, ◌==◌, Bool, not, if◌then◌else◌, List, [], ◌∷◌, filter, Option, Some, None}
use Rattle.std.specs.List.{list_any}

-- Of items of any kind with different times, of which some have to come before others:

-- whether none of these has to come before x
abbrev pub is_ready : {A : Type 0} → (A → A → Bool) → List A → A → Bool
is_ready before left x = not (list_any (λ y. before y x) left)

-- of two the one with the smaller time; of equal ones the first
abbrev pub earlier : {A : Type 0} → (A → ℕ) → A → Option A → Option A
earlier time x None = Some x
earlier time x (Some y) = if nat_lt (time y) (time x) then Some y else Some x

-- the one with the least time
abbrev pub earliest : {A : Type 0} → (A → ℕ) → List A → Option A
earliest time [] = None
earliest time (x ∷ xs) = earlier time x (earliest time xs)

-- the others, which have other times
abbrev pub without : {A : Type 0} → (A → ℕ) → A → List A → List A
without time x xs = filter (λ y. not (time y == time x)) xs

-- of those that are left, n are taken one after the other, as long as some one is ready
abbrev pub taken : {A : Type 0} → (A → A → Bool) → (A → ℕ) → ℕ → List A → List A
taken before time zero left = []
taken before time (suc n) left =
    elim (earliest time (filter (is_ready before left) left)) [
      | None ↦ []
      | Some x ↦ x ∷ taken before time n (without time x left)
    ]
