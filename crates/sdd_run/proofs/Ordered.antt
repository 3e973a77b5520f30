-- The history of a run has a serial order, along which one plain database gives its replies.
use Rattle.sdd_run.proofs.All.{All-at, AllZip, AreAllApplied, AreAppliedAlike, AreFewRejected, AreTables, Attempt, Catalogue, Contains, CopyTable, Entry, IsAttempt, IsClassOf, IsFree, IsFreeClass, IsFreeInEach, IsOrderable, IsReplyOf, IsSerial, IsSoundCatalogue, IsTheLog, IsUndisturbed, IsValid, KeepsStarts, List, Log, Workload, eras_in, eras_of, few_rejected, Input, IsLawful, are_eras_of, lawful_end, lawful_permitted, subst, ◌++◌, history, input_of, length, order_of, plain_run, replies, rows_left, serial_order_is, tables_of, whole_in, ℕ, ◌≡◌}
use Rattle.sdd_run.proofs.ErasWithTables.{of_list}
use Rattle.sdd_run.proofs.FreeAttempts.{undisturbed}
use Rattle.sdd_run.proofs.Left.{alike_in, left_in}
use Rattle.sdd_run.proofs.RunOf.{eras_are, fine, known_of, lawful_lists, lists, permitted, submit_given, up}
use Rattle.sdd_progress.proofs.KeptEras as succession

module _ (cat : Catalogue) (tables : List (List Entry)) (work : Workload) (sound : IsSoundCatalogue (whole_in cat work)) (valid : IsValid cat work)
    (tabled : AreTables cat work tables) (log : Log) (the_log : IsTheLog (input_of cat tables work) log) where
  pub starts : KeepsStarts (whole_in cat work) (eras_of (input_of cat tables work) log) work.txns (history log)
  starts = (known_of cat tables work sound valid tabled log the_log).starts

  pub orderable : IsOrderable (whole_in cat work) (history log)
  orderable =
      succession.orderable (input_of cat tables work) work.rows log (record { catalogue = sound }) (fine cat tables work sound valid tabled)
      (submit_given cat tables work sound valid tabled) the_log.lawful (lists cat tables work sound valid tabled log the_log)
      (up cat tables work sound valid tabled log the_log)

  pub serial : IsSerial (whole_in cat work) (history log) (order_of cat work log)
  serial = serial_order_is (whole_in cat work) (history log) orderable

  pub replayed : AllZip (IsReplyOf (history log)) (order_of cat work log) (plain_run cat work log).0
  replayed =
      replies (input_of cat tables work) work.rows (eras_of (input_of cat tables work) log) log (order_of cat work log) sound
      (fine cat tables work sound valid tabled) (permitted cat tables work sound valid tabled log the_log)
      (eras_are cat tables work sound valid tabled log the_log) serial

  -- at each moment
  pub few : (later before : Log) → log ≡ later ++ before → AreFewRejected (history before)
  few later before is =
      let g : Input = input_of cat tables work in
      let submits = submit_given cat tables work sound valid tabled in
      let now : IsLawful g before = lawful_end g later before (subst (IsLawful g) is the_log.lawful) in
      few_rejected g before (eras_of g before) sound
      (lawful_permitted g before submits.once now) (are_eras_of g before (lawful_lists cat tables work sound valid tabled before now))

  free_class : (c : ℕ) → IsClassOf (whole_in cat work) c → IsFreeInEach cat work c → IsFreeClass (input_of cat tables work) c
  free_class c class free = record {
    class = class;
    tabled = λ k f e. (of_list (eras_in cat work) tables tabled k f e).era;
    free = λ k f e. All-at (λ of_list. IsFree of_list c) (eras_in cat work) k f.catalogue (of_list (eras_in cat work) tables tabled k f e).there free;
  }

  pub free_undisturbed : (a : Attempt) → IsAttempt (history log) a → IsClassOf (whole_in cat work) a.class → IsFreeInEach cat work a.class
      → IsUndisturbed (history log) a
  free_undisturbed a started class free =
      undisturbed (input_of cat tables work) log (eras_of (input_of cat tables work) log)
      (permitted cat tables work sound valid tabled log the_log) starts a started (free_class a.class class free)

  pub alike : (one two : CopyTable) → Contains (tables_of (input_of cat tables work) log) one
      → Contains (tables_of (input_of cat tables work) log) two → one.frag ≡ two.frag
      → AreAppliedAlike (history log) one.frag.0 one.dm.0 (length (history log)) two.dm.0 (length (history log)) → one.rows ≡ two.rows
  alike =
      alike_in (input_of cat tables work) work.rows log sound (fine cat tables work sound valid tabled)
      (permitted cat tables work sound valid tabled log the_log) (lists cat tables work sound valid tabled log the_log)

  pub left : (copy : CopyTable) → Contains (tables_of (input_of cat tables work) log) copy
      → AreAllApplied (history log) copy.frag.0 copy.dm.0 (length (history log))
      → copy.rows ≡ rows_left (whole_in cat work) (plain_run cat work log).1 copy.frag.0
  left =
      left_in (input_of cat tables work) work.rows log sound (fine cat tables work sound valid tabled)
      (permitted cat tables work sound valid tabled log the_log) (lists cat tables work sound valid tabled log the_log) (order_of cat work log) serial
