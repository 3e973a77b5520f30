-- What holds of all numbers of 64 bits, and of each value that a workload allows, holds of the values in the replies and in
-- the copies that a report on its run tells.
use Rattle.sdd_verified.proofs.All.{Add, All, All-at, All-head, All-tail, AllByRecursion, Assign, AssignsValue, Catalogue, Contains, CopyTable, HoldsValues, Input, Int, IsReportOn, IsSoundCatalogue, IsValid, IsValidRow, IsValidTxn, IsValue, List, None, Option, Put, RelNo, Row, Some, Stmt, To, Txn, TxnNo, Update, Value, Workload, [], cons_option, copy_rows_are, database_of, eras_are, eras_of, fine, history, in_range, input_of, length, lists, permitted, recursion_from_All, refl, run, serial_order, subst, sym, tables_of, true, txn_at, whole_in, ℕ, ℤ, ◌-◌, ◌∷◌, ◌≡◌}
use Rattle.sdd_verified.proofs.CleanCopies.{copy_holds}
use Rattle.sdd_verified.proofs.ValuesKept.{Assigns, Answers, Hold, Holds, Writes, WritesAll, first_holds, serial_answers}
use Rattle.sdd_run.specs.progress.obligations.laws.Replay.{texts_of}

module _ (P : Value → Type 0) (ints : (n : ℤ) → in_range n ≡ true → P (Int n)) (given : (v : Value) → IsValue v → P v) where
  row_given : (row : Row) → AllByRecursion IsValue row → Holds P ints row
  row_given [] h = tt
  row_given (v ∷ row) h = (given v h.0, row_given row h.1)

  sets_given : (sets : List Assign) → AllByRecursion AssignsValue sets → AllByRecursion (Assigns P ints) sets
  sets_given [] h = tt
  sets_given (To n value ∷ sets) h = (given value h.0, sets_given sets h.1)
  sets_given (Add n by ∷ sets) h = (tt, sets_given sets h.1)

  writes_given : (statements : List Stmt) → AllByRecursion HoldsValues statements → AllByRecursion (Writes P ints) statements
  writes_given [] h = tt
  writes_given (Put rel row ∷ rest) h = (row_given row (recursion_from_All IsValue row h.0), writes_given rest h.1)
  writes_given (Update rel sets conds ∷ rest) h = (sets_given sets (recursion_from_All AssignsValue sets h.0.0), writes_given rest h.1)
  writes_given (_ ∷ rest) h = (tt, writes_given rest h.1)

  rows_given : (cat : Catalogue) (rows : List (RelNo × Row)) → All (IsValidRow cat) rows → AllByRecursion (λ (r : RelNo × Row). Holds P ints r.1) rows
  rows_given cat [] v = tt
  rows_given cat (r ∷ rows) v =
      (row_given r.1 (recursion_from_All IsValue r.1 (All-head (IsValidRow cat) r rows v).values), rows_given cat rows (All-tail (IsValidRow cat) r rows v))

  -- the transactions of an order

  text_onto : (o : Option Txn) (rest : List Txn) → ((t : Txn) → o ≡ Some t → WritesAll P ints t)
      → AllByRecursion (WritesAll P ints) rest → AllByRecursion (WritesAll P ints) (cons_option o rest)
  text_onto None rest h k = k
  text_onto (Some t) rest h k = (h t refl, k)

  texts_given : (txns : List Txn) → ((n : ℕ) (t : Txn) → txn_at txns n ≡ Some t → WritesAll P ints t) → (order : List TxnNo)
      → AllByRecursion (WritesAll P ints) (texts_of txns order)
  texts_given txns h [] = tt
  texts_given txns h (n ∷ order) = text_onto (txn_at txns n.0) (texts_of txns order) (λ t e. h n.0 t e) (texts_given txns h order)

  module _ (cat : Catalogue) (work : Workload) (text : List ℕ) (sound : IsSoundCatalogue (whole_in cat work)) (valid : IsValid cat work)
      (r : IsReportOn cat work text) where
    abbrev whole : Catalogue
    whole = whole_in cat work

    writes : (n : ℕ) (t : Txn) → txn_at work.txns n ≡ Some t → WritesAll P ints t
    writes n t e =
        let v = All-at (IsValidTxn cat) work.txns (n - 1) t e valid.txns in
        writes_given t.statements (recursion_from_All HoldsValues t.statements v.values)

    pub answers_given : AllByRecursion (Answers P ints) (run whole work.rows work.txns (serial_order whole (history r.of_run.log))).0
    answers_given =
        serial_answers P ints whole (database_of whole work.rows) (texts_of work.txns (serial_order whole (history r.of_run.log)))
        (first_holds P ints whole work.rows (rows_given cat work.rows valid.rows)) (texts_given work.txns writes (serial_order whole (history r.of_run.log)))

    pub copied_given : (table : CopyTable) → Contains (tables_of (input_of cat r.of_run.tables work) r.of_run.log) table → Hold P ints table.rows
    copied_given table there =
        let g : Input = input_of cat r.of_run.tables work in
        let goods = fine cat r.of_run.tables work sound valid r.of_run.tables_are in
        let may = permitted cat r.of_run.tables work sound valid r.of_run.tables_are r.of_run.log r.of_run.log_is in
        subst (Hold P ints) (sym
        (copy_rows_are g work.rows r.of_run.log sound goods may (lists cat r.of_run.tables work sound valid r.of_run.tables_are r.of_run.log r.of_run.log_is) table there))
        (copy_holds P ints g work.rows (eras_of (input_of cat r.of_run.tables work) r.of_run.log) r.of_run.log sound goods may
        (eras_are cat r.of_run.tables work sound valid r.of_run.tables_are r.of_run.log r.of_run.log_is) (serial_order whole (history r.of_run.log)) r.serial
        (rows_given cat work.rows valid.rows) writes table.dm.0 (length (history r.of_run.log)) table.frag.0)
