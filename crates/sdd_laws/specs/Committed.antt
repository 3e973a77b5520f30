-- What the copies of a module hold of the changes of committed transactions.
use Rattle.std.specs.Prelude.{ℕ, ◌*◌, ◌==◌, ◌≡◌, ℤ, pos, Bool, true, false, ◌&&◌, List, [], ◌∷◌, ◌++◌, filter, map, Some, refl}
use Rattle.std.specs.List.{flat_map}
use Rattle.sdd_lang.specs.All.{Catalogue, Change, Database, Item, Row, accounts, frag_no, fragment_at, fragment_of, two}
use Rattle.sdd_copy.specs.Contents.{Dated, contents}
use Rattle.sdd_copy.specs.Items.{dated}

-- Committed transactions, of any type, as they change copies.
pub record Writers (T : Type 0) : Type 0 where
  -- the timestamp of the attempt that was committed, as its Start gives it
  pub ts : T → ℕ
  -- the changes of its Commit
  pub changes : T → List Change

-- a row that was there from the beginning: it has the date 0, which is before every transaction
abbrev pub first_row : Catalogue → Item × Row → ℕ × Change
first_row cat e = (0, record { frag = frag_no (fragment_of cat e.0.0 e.0.1); key = e.0.1; row = Some e.1 })

-- the changes of transactions, each dated by its transaction's timestamp
abbrev pub changes_of : {T : Type 0} → Writers T → List T → Dated
changes_of w txns = flat_map (λ x. dated (w.ts x) (w.changes x)) txns

-- the rows that were there from the beginning, and the changes of transactions
abbrev pub all_dated : {T : Type 0} → Catalogue → Database → Writers T → List T → Dated
all_dated cat first w txns = map (first_row cat) first ++ changes_of w txns

-- the copy of fragment f at a module that began with these rows, where those of the committed transactions are applied
-- for which the test holds: rows with their keys, ascending
abbrev pub copy_of : {T : Type 0} → Catalogue → Database → Writers T → List T → (T → Bool) → ℕ → List (ℤ × Row)
copy_of cat first w commits applied f = contents f (all_dated cat first w (filter applied commits))

-- whether a copy of fragment f takes a change of a transaction, which is applied at its module or isn't
abbrev pub counts : Bool → ℕ → Change → Bool
counts applied f c = applied && (c.frag.0 == f)

-- the changes that it takes of committed transactions
abbrev pub taken : {T : Type 0} → Writers T → List T → (T → Bool) → ℕ → Dated
taken w commits applied f = flat_map (λ x. dated (w.ts x) (filter (counts (applied x) f) (w.changes x))) commits

-- the rows of a copy of fragment f, as entries of a database
abbrev pub entries_of : Catalogue → ℕ → List (ℤ × Row) → Database
entries_of cat f rows = map (λ e. (((fragment_at cat f).rel.0, e.0), e.1)) rows

-- worked: transaction n has the timestamp 64 n, and puts the row (5, n); from the beginning there is the row (5, 0)
abbrev pub puts : Writers ℕ
puts = record { ts = λ n. 64 * n; changes = λ n. record { frag = frag_no 1; key = pos 5; row = Some (two (pos 5) (pos n)) } ∷ [] }

abbrev first : Database
first = ((1, pos 5), two (pos 5) (pos 0)) ∷ []

-- where transactions 1 and 2 are applied the row is that of 2, though 2 was committed first
pub later_start : copy_of accounts first puts (2 ∷ 1 ∷ []) (λ n. true) 1 ≡ (pos 5, two (pos 5) (pos 2)) ∷ []
later_start = refl

-- where 1 alone is applied it is that of 1
pub only_applied : copy_of accounts first puts (2 ∷ 1 ∷ []) (λ n. n == 1) 1 ≡ (pos 5, two (pos 5) (pos 1)) ∷ []
only_applied = refl

-- and where none is, the first row
pub none_applied : copy_of accounts first puts (2 ∷ 1 ∷ []) (λ n. false) 1 ≡ (pos 5, two (pos 5) (pos 0)) ∷ []
none_applied = refl
