-- Rows that meet conditions, and changes that are made to them.
use Rattle.std.specs.Prelude.{cond, List, [], ◌∷◌, Option, Some, None, fold, map}
use Rattle.std.specs.Borrow.{Bor}
use Rattle.sdd_lang.specs.All.{Change, Database, Item, Row, meets_all, with_row, without_row}
use Rattle.sdd_lang.specs.declared.condition.Condition.{Condition}

-- changes that are lent
abbrev pub lent_changes : List (Bor Change) → List Change
lent_changes changes = map (λ c. c.now) changes

-- entries put one by one
abbrev pub entered : Database → Database
entered entries = fold (λ rows e. with_row rows e.0 e.1) [] entries

-- rows that meet conditions, after a change of one: the new row stands where it meets them
abbrev pub with_matching : List Condition → Database → Item → Option Row → Database
with_matching conds rows item None = without_row rows item
with_matching conds rows item (Some row) = cond (meets_all conds (row ∷ [])) (with_row rows item row) (without_row rows item)
