-- What is known of the run of a valid workload, whatever class lists it puts in force.
use Rattle.sdd_run.proofs.All.{All-weaker, AreErasOf, AreTables, Catalogue, Entry, FitsStart, FitsTxn, HasSoundData, HasSoundLists, IsLawful, IsPermitted, IsSoundCatalogue, IsTheLog, IsUpAtRedeclares, IsValid, IsValidRow, IsValidTxn, Known, List, Log, SubmitGiven, Workload, are_eras_of, arith, classes_in, eras_of, few_redeclares, input_of, known, lawful_permitted, length, redeclares, up_at_redeclares, whole_in, ◌≤◌}
use Rattle.sdd_run.proofs.Beginning.{rows_given}
use Rattle.sdd_run.proofs.ErasWithTables.{era_at, how_many, list_at}
use Rattle.sdd_run.proofs.Goods.{few_ticks, fits_given, held, puts_held}
use Rattle.sdd_run.proofs.Marked.{named}
use Rattle.sdd_run.proofs.Submissions.{once}
use Rattle.sdd_run.proofs.Timely.{timely}
use Rattle.sdd_run.proofs.Whole.{events_valid, rows_valid, txns_valid}

module _ (cat : Catalogue) (tables : List (List Entry)) (work : Workload) (sound : IsSoundCatalogue (whole_in cat work)) (valid : IsValid cat work)
    (tabled : AreTables cat work tables) where
  pub submit_given : SubmitGiven (input_of cat tables work)
  submit_given = record {
    once = once work.events valid.submitted;
    given = λ n there. named (whole_in cat work) (length work.txns) n work.events (events_valid cat work valid) there;
  }

  pub fine : HasSoundData (input_of cat tables work) work.rows
  fine =
      let whole = whole_in cat work in
      record {
        txns_fit = All-weaker (IsValidTxn whole) (FitsTxn whole) (λ t v. v.fits) work.txns (txns_valid cat work valid);
        txns_held = grind (arith, puts_held, txns_valid);
        rows_fit = All-weaker (IsValidRow whole) (FitsStart whole) (λ r v. v.fits) work.rows (rows_valid cat work valid);
        rows_held = grind (arith, held, rows_valid);
        alike = λ d here. rows_given cat tables work d here.0 here.1;
      }

  module _ (log : Log) (lawful : IsLawful (input_of cat tables work) log) where
    -- no list is put in force beyond the last
    pub few_lists : redeclares log ≤ length (classes_in cat work)
    few_lists =
        let all = how_many cat tables work tabled in
        let few = few_redeclares (input_of cat tables work) log (few_ticks (whole_in cat work) (length work.txns) work.events (events_valid cat work valid))
        lawful (timely cat tables work valid tabled) (omega (arith, all)) in
        omega (arith, few, all)

    pub lawful_lists : HasSoundLists (input_of cat tables work) log
    lawful_lists k l =
        let within : k ≤ length (classes_in cat work) = omega (arith, l, few_lists) in
        record {
          fits = fits_given cat tables work sound valid work.events;
          era = era_at cat tables work tabled k within;
          table = (list_at cat tables work tabled k within).era;
        }

  module _ (log : Log) (the_log : IsTheLog (input_of cat tables work) log) where
    pub permitted : IsPermitted (input_of cat tables work) log
    permitted = lawful_permitted (input_of cat tables work) log (once work.events valid.submitted) the_log.lawful

    pub lists : HasSoundLists (input_of cat tables work) log
    lists = lawful_lists log the_log.lawful

    pub up : IsUpAtRedeclares (input_of cat tables work) log
    up =
        up_at_redeclares (input_of cat tables work) log (few_ticks (whole_in cat work) (length work.txns) work.events (events_valid cat work valid))
        the_log.lawful (timely cat tables work valid tabled)

    pub eras_are : AreErasOf (input_of cat tables work) log (eras_of (input_of cat tables work) log)
    eras_are = are_eras_of (input_of cat tables work) log lists

    pub known_of : Known (input_of cat tables work) log
    known_of = known (input_of cat tables work) work.rows log (record { catalogue = sound }) fine submit_given the_log.lawful lists up
