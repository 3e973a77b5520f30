-- What holds of all numbers of 64 bits, and of each value of the rows and transactions that are given, holds of the values in every
-- copy that a log leaves.
use Rattle.sdd_verified.proofs.All.{AllByRecursion, AreErasOf, Catalogue, Change, Committed, Contains, Contains-from_filter, Contains-here, Contains-later, Database, Dated, Eras, HasSoundData, Input, Int, IsPermitted, IsReplayed, IsSerial, IsSoundCatalogue, List, Log, None, Option, RelNo, Row, Some, Txn, TxnNo, Value, [], agrees, are_recorded, at_each, committed, cond, cons_option, contents, copy_at, database_of, dated, dated_at, false, filter, filter_map, first_row, first_rows, flat_map, history, if◌then◌else◌, in_range, int_cmp, is_applied, is_eq, keeps_answers, keeps_applies, keeps_starts, keys_in, latest, ledger, listed, map, nat_lt, newer, of_fragment, refl, replayed, row_left, row_with, rows_make_database, tm_no, true, txn_at, unwrap_or, ℕ, ℤ, ◌++◌, ◌==◌, ◌∷◌, ◌≡◌}
use Rattle.sdd_verified.proofs.ValuesKept.{Changes, Hold, Holds, Leaves, Stored, WritesAll, first_holds, given_changes}

module _ (P : Value → Type 0) (ints : (n : ℤ) → in_range n ≡ true → P (Int n)) where
  -- what dated changes leave

  abbrev pub AreLeft : Dated → Type 0
  AreLeft xs = AllByRecursion (λ (x : ℕ × Change). Leaves P ints x.1.row) xs

  abbrev IsLeft : Option (ℕ × Change) → Type 0
  IsLeft None = Unit {0}
  IsLeft (Some x) = Leaves P ints x.1.row

  newer_left : (x : ℕ × Change) (o : Option (ℕ × Change)) → Leaves P ints x.1.row → IsLeft o → IsLeft (newer x o)
  newer_left x None h k = h
  newer_left x (Some y) h k = elim (nat_lt x.0 y.0) as (λ b. IsLeft (cond b (Some y) (Some x))) [ true ↦ k | false ↦ h ]

  latest_left : (key : ℤ) (xs : Dated) → AreLeft xs → IsLeft (latest key xs)
  latest_left key [] h = tt
  latest_left key (x ∷ xs) h =
      let more = latest_left key xs h.1 in
      elim (is_eq (int_cmp x.1.key key)) as (λ b. IsLeft (if b then newer x (latest key xs) else latest key xs)) [
        | true ↦ newer_left x (latest key xs) h.0 more
        | false ↦ more
      ]

  abbrev IsRowLeft : Option (ℤ × Row) → Type 0
  IsRowLeft None = Unit {0}
  IsRowLeft (Some e) = Holds P ints e.1

  row_with_left : (key : ℤ) (row : Option Row) → Leaves P ints row → IsRowLeft (row_with key row)
  row_with_left key None h = tt
  row_with_left key (Some row) h = h

  row_is_left : (key : ℤ) (o : Option (ℕ × Change)) → IsLeft o → IsRowLeft (row_left key o)
  row_is_left key None h = tt
  row_is_left key (Some x) h = row_with_left key x.1.row h

  onto_rows : (o : Option (ℤ × Row)) (rest : List (ℤ × Row)) → IsRowLeft o → AllByRecursion (λ (e : ℤ × Row). Holds P ints e.1) rest
      → AllByRecursion (λ (e : ℤ × Row). Holds P ints e.1) (cons_option o rest)
  onto_rows None rest h k = k
  onto_rows (Some e) rest h k = (h, k)

  rows_of_keys : (keys : List ℤ) (xs : Dated) → AreLeft xs
      → AllByRecursion (λ (e : ℤ × Row). Holds P ints e.1) (filter_map (λ (k : ℤ). row_left k (latest k xs)) keys)
  rows_of_keys [] xs h = tt
  rows_of_keys (key ∷ keys) xs h = onto_rows (row_left key (latest key xs)) _ (row_is_left key (latest key xs) (latest_left key xs h)) (rows_of_keys keys xs h)

  of_one_fragment : (f : ℕ) (xs : Dated) → AreLeft xs → AreLeft (of_fragment f xs)
  of_one_fragment f [] h = tt
  of_one_fragment f (x ∷ xs) h =
      let more = of_one_fragment f xs h.1 in
      elim (x.1.frag.0 == f) as (λ b. AreLeft (cond b (x ∷ of_fragment f xs) (of_fragment f xs))) [ true ↦ (h.0, more) | false ↦ more ]

  contents_hold : (f : ℕ) (xs : Dated) → AreLeft xs → AllByRecursion (λ (e : ℤ × Row). Holds P ints e.1) (contents f xs)
  contents_hold f xs h = rows_of_keys (keys_in (of_fragment f xs)) (of_fragment f xs) (of_one_fragment f xs h)

  rows_alone : (es : List (ℤ × Row)) → AllByRecursion (λ (e : ℤ × Row). Holds P ints e.1) es → Hold P ints (map (λ (e : ℤ × Row). e.1) es)
  rows_alone [] h = tt
  rows_alone (e ∷ es) h = (h.0, rows_alone es h.1)

  -- the first rows, and the changes of transactions

  first_left : (cat : Catalogue) (db : Database) → Stored P ints db → AreLeft (map (first_row cat) db)
  first_left cat [] h = tt
  first_left cat (e ∷ db) h = (h.0, first_left cat db h.1)

  both_left : (xs ys : Dated) → AreLeft xs → AreLeft ys → AreLeft (xs ++ ys)
  both_left [] ys h k = k
  both_left (x ∷ xs) ys h k = (h.0, both_left xs ys h.1 k)

  dated_left : (ts : ℕ) (cs : List Change) → Changes P ints cs → AreLeft (map (λ (c : Change). (ts, c)) cs)
  dated_left ts [] h = tt
  dated_left ts (c ∷ cs) h = (h.0, dated_left ts cs h.1)

  all_dated_left : (all : List Committed) → ((t : Committed) → Contains all t → Changes P ints t.changes) → AreLeft (flat_map dated all)
  all_dated_left [] h = tt
  all_dated_left (t ∷ all) h =
      both_left (dated t) (flat_map dated all) (dated_left t.start.ts t.changes (h t (Contains-here t all)))
      (all_dated_left all (λ u there. h u (Contains-later t all u there)))

  module _ (g : Input) (rows : List (RelNo × Row)) (eras : Eras) (log : Log) (sound : IsSoundCatalogue g.catalogue) (fine : HasSoundData g rows)
      (permitted : IsPermitted g log) (are : AreErasOf g log eras) (order : List TxnNo) (serial : IsSerial g.catalogue (history log) order)
      (rows_hold : AllByRecursion (λ (r : RelNo × Row). Holds P ints r.1) rows)
      (writes : (n : ℕ) (t : Txn) → txn_at g.txns n ≡ Some t → WritesAll P ints t) where
    text_by : (n : ℕ) (o : Option Txn) → txn_at g.txns n ≡ o → WritesAll P ints (unwrap_or o (record { name = []; tm = tm_no 0; statements = [] }))
    text_by n None e = tt
    text_by n (Some t) e = writes n t e

    text_writes : (t : Committed) → WritesAll P ints ((ledger g.catalogue g.txns (history log)).txn t)
    text_writes t = text_by t.start.txn (txn_at g.txns t.start.txn) refl

    whole : IsReplayed g.catalogue (database_of g.catalogue rows) (ledger g.catalogue g.txns (history log)) (committed (history log))
        (listed (history log) order serial.committed)
    whole =
        let h = history log in
        let starting = keeps_starts g log eras sound permitted are in
        let answering = keeps_answers g rows eras log sound fine permitted are in
        let applying = keeps_applies g log sound permitted in
        replayed g.catalogue sound (database_of g.catalogue rows) (rows_make_database g.catalogue rows fine.rows_fit fine.rows_held)
        (ledger g.catalogue g.txns h) (committed h)
        (are_recorded g.catalogue sound eras are.are_eras rows g.txns h fine.txns_fit fine.txns_held starting answering applying)
        (listed h order serial.committed)
        (agrees g.catalogue sound eras are.are_eras rows g.txns h fine.txns_fit fine.txns_held starting answering applying order serial)

    each_changes : (t : Committed) → Contains (committed (history log)) t → Changes P ints t.changes
    each_changes t there =
        let h = history log in
        let starting = keeps_starts g log eras sound permitted are in
        let answering = keeps_answers g rows eras log sound fine permitted are in
        let applying = keeps_applies g log sound permitted in
        let same = agrees g.catalogue sound eras are.are_eras rows g.txns h fine.txns_fit fine.txns_held starting answering applying order serial in
        at_each (λ (u : Committed). Changes P ints u.changes) (listed h order serial.committed)
        (given_changes P ints g.catalogue (ledger g.catalogue g.txns h) (database_of g.catalogue rows) (listed h order serial.committed)
        (first_holds P ints g.catalogue rows rows_hold) text_writes whole.gives) t ((same.same t).0 there)

    pub copy_holds : (d k f : ℕ) → Hold P ints (map (λ (e : ℤ × Row). e.1) (copy_at g.catalogue rows (history log) d k f))
    copy_holds d k f =
        let h = history log in
        let chosen : List Committed = filter (λ (t : Committed). is_applied h d k t.start.txn) (committed h) in
        let all : AreLeft (dated_at g.catalogue rows h d k) =
        both_left (first_rows g.catalogue rows) (flat_map dated chosen)
        (first_left g.catalogue (database_of g.catalogue rows) (first_holds P ints g.catalogue rows rows_hold))
        (all_dated_left chosen (λ t there. each_changes t (Contains-from_filter (λ (t : Committed). is_applied h d k t.start.txn) (committed h) t there).0)) in
        rows_alone (copy_at g.catalogue rows h d k f) (contents_hold f (dated_at g.catalogue rows h d k) all)
