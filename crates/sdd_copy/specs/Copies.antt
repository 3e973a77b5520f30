-- The copies of fragments at one module, and the changes that they represent.
use Rattle.std.specs.Prelude.{ℕ, zero, suc, ◌≡◌, ℤ, pos, Bool, true, List, [], ◌∷◌, map, slice_index_or, Option, Some, None, is_some, IfSome, refl}
use Rattle.std.specs.List.{All}
use Rattle.std.specs.Option.{option_map}
use Rattle.sdd_lang.specs.All.{Change, Int, Kept, Use, Value, frag_no}
use Rattle.sdd_copy.specs.Contents.{Dated, of_fragment}
use Rattle.sdd_items.specs.Items.{Items, written, items_of, entries_in}

-- by fragment number, from 0 on, the items of the fragment's copy, or None where there is no copy
abbrev pub Held : Type 0
Held = List (Option Items)

-- whether there is a copy of fragment f
abbrev pub is_here : Held → ℕ → Bool
is_here copies f = is_some (slice_index_or copies f None)

abbrev pub or_none : Option Items → Items
or_none None = []
or_none (Some items) = items

-- the items of the copy of fragment f, none where there is no copy
abbrev pub items_at : Held → ℕ → Items
items_at copies f = or_none (slice_index_or copies f None)

-- the rows of each fragment, with their keys, ascending
abbrev pub rows_at : Held → ℕ → List (ℤ × List Value)
rows_at copies f = entries_in (items_at copies f)

-- a list with another item at a place, where it has one there
abbrev pub changed_at : {A : Type 0} → ℕ → (A → A) → List A → List A
changed_at place change [] = []
changed_at zero change (x ∷ xs) = change x ∷ xs
changed_at (suc place) change (x ∷ xs) = x ∷ changed_at place change xs

-- the write rule at the copy of a change's fragment, where there is one
abbrev pub with_change : Held → ℕ × Change → Held
with_change copies x = changed_at x.1.frag.0 (option_map (λ items. written items x)) copies

-- the copies hold what these changes of their fragments leave
abbrev pub Represent : Held → Dated → Type 0
Represent copies xs = (f : ℕ) → is_here copies f ≡ true → items_at copies f ≡ items_of (of_fragment f xs)

-- there is a copy of each fragment of a use
abbrev pub AreHere : Held → Use → Type 0
AreHere copies u = All (λ f. is_here copies f.0 ≡ true) u.frags

-- copies in memory: what they hold, and whether no call on them ran out of memory

abbrev pub held_in : List (Option (Kept Items)) → Held
held_in copies = map (λ c. option_map (λ k. k.value) c) copies

abbrev pub IsLive : Option (Kept Items) → Type 0
IsLive c = IfSome c (λ k. k.live ≡ true)

-- worked: of a module with a copy of fragment 1 alone, changes of fragments 1 and 2 leave a row in the one copy
abbrev row_of : ℕ → List Value
row_of n = Int (pos 4) ∷ Int (pos n) ∷ []

abbrev change_of : ℕ → ℕ → Change
change_of f n = record { frag = frag_no f; key = pos 4; row = Some (row_of n) }

abbrev example : Held
example = with_change (with_change (None ∷ Some [] ∷ []) (65, change_of 1 7)) (65, change_of 2 8)

pub one_row : rows_at example 1 ≡ (pos 4, row_of 7) ∷ []
one_row = refl

pub no_row : rows_at example 2 ≡ []
no_row = refl
