-- What the changes of a WRITE are.
use Rattle.std.specs.Prelude.{ℕ, ◌≡◌, true, List, map}
use Rattle.std.specs.List.{All, IsDistinct}
use Rattle.std.specs.Ordering.{is_eq}
use Rattle.sdd_invariants.specs.All.{Catalogue, Change, IsChange, has_copy, item_cmp}

-- a change of an item of a relation, which names the fragment that holds the item and leaves there a row that fits, with
-- the item's key, or none
abbrev pub IsItemChange : Catalogue → Change → Type 0
IsItemChange cat c = IsChange cat ((c.frag.0, c.key), c.row)

-- changes as a WRITE takes them to data module d: the module has copies of their fragments, and they are of different
-- items
pub record AreWritten (cat : Catalogue) (d : ℕ) (changes : List Change) : Type 0 where
  pub each : All (IsItemChange cat) changes
  pub here : All (λ (x : Change). has_copy cat d x.frag.0 ≡ true) changes
  pub items : IsDistinct (λ x y. is_eq (item_cmp x y)) (map (λ (x : Change). (x.frag.0, x.key)) changes)
