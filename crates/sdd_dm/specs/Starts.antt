-- With which rows a data module begins.
use Rattle.std.specs.Prelude.{Bool, cond, List, [], fold}
use Rattle.std.specs.Borrow.{Bor}
use Rattle.sdd_module.specs.All.{Catalogue, Database, Item, RelNo, Row, Value, fragment_of, key_in, with_row}
use Rattle.sdd_copy.specs.Copies.{Held, is_here}

-- an item with its row, which is lent
abbrev pub lent : Item × Bor (List Value) → Item × Row
lent e = (e.0, e.1.now)

-- whether there is a copy of the fragment of an item
abbrev pub is_own : Catalogue → Held → Item → Bool
is_own cat copies item = is_here copies (fragment_of cat item.0 item.1)

-- the database with a row, where there is a copy of its fragment
abbrev pub with_own : Catalogue → Held → Database → RelNo × Row → Database
with_own cat copies db r =
    cond (is_own cat copies (r.0.0, key_in cat r.0.0 r.1)) (with_row db (r.0.0, key_in cat r.0.0 r.1) r.1) db

-- the database of the rows whose fragments have copies
abbrev pub own_rows : Catalogue → Held → List (RelNo × Row) → Database
own_rows cat copies rows = fold (with_own cat copies) [] rows
