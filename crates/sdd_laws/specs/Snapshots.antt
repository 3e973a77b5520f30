-- The copies of fragments, as a history gives them, and the database of an attempt's snapshots.
use Rattle.std.specs.Prelude.{ℕ, ℤ, Bool, List, [], ◌++◌, map, take, fold, Some, filter}
use Rattle.std.specs.List.{list_any, flat_map, position_or_len}
use Rattle.sdd_lang.specs.All.{Catalogue, Change, Database, Item, RelNo, Row, ascending, database_of, frag_no, fragment_at, fragment_of, fragments_in, with_row}
use Rattle.sdd_copy.specs.Contents.{Dated, contents}
use Rattle.sdd_history.specs.Records.{History}
use Rattle.sdd_links.specs.Attempts.{Attempt, Committed, committed}
use Rattle.sdd_links.specs.Precedence.{module_of, is_answer, is_apply}

-- a row that was there from the beginning has the date 0; of two with one key the later stands
abbrev pub first_row : Catalogue → Item × Row → ℕ × Change
first_row cat e = (0, record { frag = frag_no (fragment_of cat e.0.0 e.0.1); key = e.0.1; row = Some e.1 })

abbrev pub first_rows : Catalogue → List (RelNo × Row) → Dated
first_rows cat rows = map (first_row cat) (database_of cat rows)

-- the changes of a committed transaction, dated by the timestamp of its committed attempt
abbrev pub dated : Committed → Dated
dated t = map (λ c. (t.start.ts, c)) t.changes

-- whether a transaction has an Apply at module d before place k
abbrev pub is_applied : History → ℕ → ℕ → ℕ → Bool
is_applied h d k n = list_any (λ e. is_apply n d e.1) (take k h)

-- what makes the copies at module d before place k: the changes of the transactions that are applied there, in the order
-- of their Commits
abbrev pub dated_at : Catalogue → List (RelNo × Row) → History → ℕ → ℕ → Dated
dated_at cat rows h d k =
    first_rows cat rows ++ flat_map dated (filter (λ t. is_applied h d k t.start.txn) (committed h))

-- the copy of fragment f there, by keys
abbrev pub copy_at : Catalogue → List (RelNo × Row) → History → ℕ → ℕ → ℕ → List (ℤ × Row)
copy_at cat rows h d k f = contents f (dated_at cat rows h d k)

-- the place of the Answer of an attempt at a module; where there is none, the end of the history
abbrev pub answer_place : History → Attempt → ℕ → ℕ
answer_place h a d = position_or_len (λ e. is_answer a.txn a.number d e.1) h

-- the snapshot of fragment f that an attempt reads: the copy where its class reads f, just before its Answer there
abbrev pub snapshot : Catalogue → List (RelNo × Row) → History → Attempt → ℕ → List (ℤ × Row)
snapshot cat rows h a f =
    let d : ℕ = module_of cat a.class f in
    copy_at cat rows h d (answer_place h a d) f

-- by items
abbrev pub items_of : Catalogue → ℕ → List (ℤ × Row) → Database
items_of cat f rows = map (λ e. (((fragment_at cat f).rel.0, e.0), e.1)) rows

abbrev pub with_item : Database → Item × Row → Database
with_item db e = with_row db e.0 e.1

-- the database of the snapshots of all fragments that an attempt reads
abbrev pub base_of : Catalogue → List (RelNo × Row) → History → Attempt → Database
base_of cat rows h a =
    fold with_item [] (flat_map (λ f. items_of cat f (snapshot cat rows h a f)) (ascending (fragments_in a.uses)))
