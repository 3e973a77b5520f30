-- The forms that words take after one another: lists up to a keyword, conditions, assignments.
use Rattle.std.specs.Prelude.{ℕ, List, [], ◌∷◌, codes, ◌+◌, ◌&&◌, take, drop, Bool, true, false, Option, Some, None, if◌then◌else◌}
use Rattle.std.specs.Option.{option_map, unwrap_or}
use Rattle.std.specs.List.{position, position_or_len, before_first, list_all}
use Rattle.sdd_words.specs.Keywords.{is_key, op_of, adds_of, is_free, looks_like_column}
use Rattle.sdd_words.specs.Words.{Word}
use Rattle.sdd_words.specs.declared.form.Comparison.{Comparison}
use Rattle.sdd_words.specs.declared.form.Setting.{Setting}

-- the words before and after the first that is this keyword
abbrev pub cut_at : List ℕ → List Word → Option (List Word × List Word)
cut_at key ws = option_map (λ k. (take k ws, drop (k + 1) ws)) (position (is_key key) ws)

-- the words before the first that is this keyword, or all
abbrev pub up_to : List ℕ → List Word → List Word
up_to key ws = before_first (is_key key) ws

-- the words from the first that is this keyword on, or none
abbrev pub from_key : List ℕ → List Word → List Word
from_key key ws = drop (position_or_len (is_key key) ws) ws

-- one condition after its keyword
abbrev pub comparison_of : List ℕ → Word → Word → Word → Word → Option Comparison
comparison_of key k left op right =
    if is_key key k && looks_like_column left && is_free right
    then option_map (λ o. record { left = left; op = o; right = right }) (op_of op)
    else None

abbrev pub joined : {A : Type 0} → Option A → Option (List A) → Option (List A)
joined (Some x) (Some xs) = Some (x ∷ xs)
joined _ _ = None

-- conditions, the first after the keyword and each further one after `and`
unfoldable pub comparisons : List ℕ → List Word → Option (List Comparison)
comparisons key [] = Some []
comparisons key (k ∷ left ∷ op ∷ right ∷ more) = joined (comparison_of key k left op right) (comparisons (codes "and") more)
comparisons key _ = None

-- the conditions after `where`, if there are any
abbrev pub conditions_form : List Word → Option (List Comparison)
conditions_form ws = comparisons (codes "where") ws

-- one assignment
abbrev pub setting_of : Word → Word → Word → Option Setting
setting_of left op right =
    if looks_like_column left && is_free right
    then option_map (λ adds. record { left = left; adds = adds; right = right }) (adds_of op)
    else None

-- assignments, one after the other
unfoldable pub settings : List Word → Option (List Setting)
settings [] = Some []
settings (left ∷ op ∷ right ∷ more) = joined (setting_of left op right) (settings more)
settings _ = None

abbrev pub not_empty : List Word → Bool
not_empty [] = false
not_empty (w ∷ ws) = true

-- words that can stand for columns, at least one
abbrev pub look_like_columns : List Word → Bool
look_like_columns ws = not_empty ws && list_all looks_like_column ws

-- words that can stand for names, at least one
abbrev pub are_free : List Word → Bool
are_free ws = not_empty ws && list_all is_free ws

-- what stands before a condition: `where` before the first one, else `and`
abbrev pub comparison_key : Bool → List ℕ
comparison_key true = codes "where"
comparison_key false = codes "and"

-- the conditions of words, none where they aren't conditions
abbrev pub comparisons_left : List ℕ → List Word → List Comparison
comparisons_left key ws = unwrap_or (comparisons key ws) []

-- the assignments of words, none where they aren't assignments
abbrev pub settings_left : List Word → List Setting
settings_left ws = unwrap_or (settings ws) []
