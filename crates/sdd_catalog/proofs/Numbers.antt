-- Items by their numbers, which are counted from 1.
use Rattle.sdd_catalog.proofs.All.{List, get_or, get_or_default, length, ℕ, ◌<◌, ◌∙◌, ◌≡◌}

-- the item that is read is the one with the number, whatever would stand past the end
pub item_at : {A : Type 0} (xs : List A) (i : ℕ) (d : A) (x : A) → x ≡ get_or xs i x → i < length xs → x ≡ get_or xs i d
item_at xs i d x is within = is ∙ get_or_default xs i x d within
