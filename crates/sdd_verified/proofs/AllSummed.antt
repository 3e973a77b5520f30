-- Where a run leaves nothing undone, its summary tells as many committed as there are transactions.
use Rattle.sdd_verified.proofs.All.{AllCommitted, Catalogue, EndsQuiet, HasCommit, IsFrom1To, IsOrderable, IsSerial, IsSoundCatalogue, IsSummaryOn, IsValid, KeepsStarts, List, NoneIsDown, SettleAll, TellsAllDone, Workload, eras_of, history, input_of, length, marks, named_by_events as named, once, order_of, orderable, quiet_behind, refl, settled, starts, submits_in, subst, summary_of, whole_in, ℕ, ◌≤◌}
use Rattle.sdd_verified.proofs.AllCounted.{all_counted}
use Rattle.sdd_verified.proofs.EachMarked.{each_submitted}
use Rattle.sdd_verified.proofs.NoneDown.{are_up, none_down}
use Rattle.sdd_verified.proofs.Submitting.{is_in_schedule}
use Rattle.sdd_run.proofs.Ordered.{serial}

module _ (cat : Catalogue) (work : Workload) (text : List ℕ) (sound : IsSoundCatalogue (whole_in cat work)) (valid : IsValid cat work)
    (all : SettleAll (length work.txns) work.events) (r : IsSummaryOn cat work text) where
  abbrev whole : Catalogue
  whole = whole_in cat work

  fine : IsOrderable whole (history r.of_run.log)
  fine = orderable cat r.of_run.tables work sound valid r.of_run.tables_are r.of_run.log r.of_run.log_is

  along : IsSerial whole (history r.of_run.log) (order_of cat work r.of_run.log)
  along = serial cat r.of_run.tables work sound valid r.of_run.tables_are r.of_run.log r.of_run.log_is

  keeps : KeepsStarts whole (eras_of (input_of cat r.of_run.tables work) r.of_run.log) work.txns (history r.of_run.log)
  keeps = starts cat r.of_run.tables work sound valid r.of_run.tables_are r.of_run.log r.of_run.log_is

  up : NoneIsDown whole r.of_run.log
  up at here = none_down (input_of cat r.of_run.tables work) r.of_run.log at (are_up work.events all.none_down) r.of_run.log_is.lawful

  links : EndsQuiet (input_of cat r.of_run.tables work) r.of_run.log
  links = quiet_behind cat r.of_run.tables work sound valid r.of_run.tables_are r.of_run.log r.of_run.log_is all.ends

  committed : AllCommitted (history r.of_run.log)
  committed = (settled cat r.of_run.tables work sound valid r.of_run.tables_are r.of_run.log r.of_run.log_is fine along links up).committed

  -- what is committed was submitted, so it is one of the transactions
  within : (n number place : ℕ) → HasCommit (history r.of_run.log) n number place → IsFrom1To (length work.txns) n
  within n number place c =
      let a = fine.started n number place c in
      let s = keeps.submitted a.0 a.1 in
      let there = is_in_schedule (input_of cat r.of_run.tables work) r.of_run.log r.of_run.log_is.lawful (once work.events valid.submitted) a.0.txn s.place s.submitted in
      named cat (length work.txns) n work.events valid.events (subst (λ m. 1 ≤ submits_in m work.events) a.2 there)

  each : (n : ℕ) → 1 ≤ n → n ≤ length work.txns → (number : ℕ) × (place : ℕ) × HasCommit (history r.of_run.log) n number place
  each n lo hi =
      let s = each_submitted (input_of cat r.of_run.tables work) r.of_run.log n r.of_run.log_is.lawful r.of_run.log_is.complete (all.submit_all n lo hi) in
      let c = committed n s.place s.submitted in
      (c.number, c.place, c.commit)

  pub all_summed : TellsAllDone (length work.txns) text
  all_summed =
      record {
        counts = summary_of (length work.txns) (history r.of_run.log) (marks r.of_run.log);
        text_is = r.text_is;
        transactions = refl;
        committed = all_counted (length work.txns) (history r.of_run.log) fine.one_commit within each;
      }
