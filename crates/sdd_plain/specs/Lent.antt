-- Entries of one relation.
use Rattle.std.specs.Prelude.{ℕ}
use Rattle.sdd_lang.specs.All.{Item, Row}

-- the entry, as one of the relation
abbrev pub as_of : ℕ → Item × Row → Item × Row
as_of rel e = ((rel, e.0.1), e.1)
