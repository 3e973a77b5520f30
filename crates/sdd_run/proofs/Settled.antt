-- A run that a settle or a redeclare ends leaves nothing undone, where no module is down at its end.
use Rattle.sdd_run.proofs.All.{AllCommitted, AreAllApplied, AreTables, Attempt, Catalogue, Commit, Committed, Contains, Contains-from_filter, Contains-from_flat_map, Contains-from_map, CopyTable, D, EndsAtRest, EndsQuiet, Entry, HasCommit, HasSoundLists, History, Input, IsAtEnd, IsAttempt, IsCommitted, IsLawful, IsListed, IsOrderable, IsRecordAt, IsSerial, IsSettled, IsSoundCatalogue, IsSubmitted, IsTheLog, IsValid, List, Log, LosesNothing, None, NoneIsDown, Rests, SubmitGiven, TellsAllCommitted, TxnNo, WasCommitted, Workload, ap, applied_at_copies, arith, dated, dm_no, has_copy, history, input_of, lawful_numbered, lawful_permitted, length, local_of, next, numbers_to, order_of, redeclares, report_of, setting_of, settled_is_committed, settled_is_finished, settled_is_quiet, subst, sym, table_of, tables_at, tables_of, times_in, txn_no, up_at_redeclares, whole_in, with_event, ℕ, ◌++◌, ◌≡◌, ◌⊎◌}
use Rattle.sdd_progress.proofs.Committed.{all_committed as all_committed_of}
use Rattle.sdd_progress.proofs.Finished.{finished}
use Rattle.sdd_progress.proofs.IdleAtRedeclares.{idle_at_redeclares}
use Rattle.sdd_progress.proofs.NoneWaits.{is_idle}
use Rattle.sdd_progress.proofs.HangsOn.{holds_up_undeclared}
use Rattle.sdd_progress.proofs.Outage.{complete_is_still, costs_no_more, resting_is_still}
use Rattle.sdd_progress.proofs.Settled.{resting_is_quiet}
use Rattle.sdd_progress.specs.HangsOn.{HoldsUpUndeclared}
use Rattle.sdd_progress.specs.Outage.{CostsNoMore}
use Rattle.sdd_progress.specs.Premises.{IsIdleAtRedeclares}
use Rattle.sdd_progress.specs.Quiet.{IsStill}
use Rattle.sdd_run.proofs.AtRest.{quiet_at_rest}
use Rattle.sdd_run.proofs.Goods.{few_ticks}
use Rattle.sdd_run.proofs.Modules.{all_up}
use Rattle.sdd_run.proofs.RunOf.{lawful_lists, lists, submit_given, up}
use Rattle.sdd_run.proofs.Timely.{timely}
use Rattle.sdd_run.proofs.Whole.{events_valid}
use Rattle.sdd_run.proofs.Listed.{each_listed}
use Rattle.sdd_run.proofs.Lossless.{in_one}
use Rattle.sdd_run.proofs.NonePending.{none_pending}
use Rattle.sdd_run.proofs.Once.{each_once}

-- a committed transaction stands in a serial order once

committed_by : (h : History) (n number place : ℕ) → HasCommit h n number place → (a : Attempt) → IsAttempt h a → a.txn ≡ n → a.number ≡ number
    → (t : Committed) × IsCommitted h t × (t.start.txn ≡ n)
committed_by h n number place c a started txn attempt =
    let of_attempt = subst (λ k. IsRecordAt h place (Commit (txn_no n) k c.reply c.changes c.values c.rows)) (sym attempt) c.is_recorded in (
      record { start = a; reply = c.reply; changes = c.changes; values = c.values; rows = c.rows; place = place },
      record {
        started = started;
        committed = subst (λ m. IsRecordAt h place (Commit (txn_no m) a.number c.reply c.changes c.values c.rows)) (sym txn) of_attempt;
      },
      txn,
    )

is_there_once : (cat : Catalogue) (h : History) (order : List TxnNo) → IsOrderable cat h
    → IsSerial cat h order → (n : ℕ) → WasCommitted h n → times_in n order ≡ 1
is_there_once cat h order fine serial n w =
    let a = fine.started n w.number w.place w.commit in
    let t = committed_by h n w.number w.place w.commit a.0 a.1 a.2 a.3 in
    subst (λ m. times_in m order ≡ 1) t.2 (each_once cat h order serial t.0 t.1)

module _ (cat : Catalogue) (tables : List (List Entry)) (work : Workload) (sound : IsSoundCatalogue (whole_in cat work)) (valid : IsValid cat work)
    (tabled : AreTables cat work tables) (log : Log) (the_log : IsTheLog (input_of cat tables work) log) where
  submits : SubmitGiven (input_of cat tables work)
  submits = submit_given cat tables work sound valid tabled

  current_era : HasSoundLists (input_of cat tables work) log
  current_era = lists cat tables work sound valid tabled log the_log

  at_end : NoneIsDown (whole_in cat work) log → IsAtEnd (input_of cat tables work) log
  at_end are_up = record {
    lawful = the_log.lawful;
    complete = the_log.complete;
    up_before = up cat tables work sound valid tabled log the_log;
    up = all_up (input_of cat tables work) log are_up;
  }

  is_settled : EndsQuiet (input_of cat tables work) log → NoneIsDown (whole_in cat work) log → IsSettled (input_of cat tables work) log
  is_settled links are_up = record { at_end = at_end are_up; links = links }

  -- after a settle or a redeclare the links are quiet
  pub quiet_behind : EndsAtRest work.events → EndsQuiet (input_of cat tables work) log
  quiet_behind ends =
      let g : Input = input_of cat tables work in
      let before : Input = record g { events = ends.before } in
      let same : g ≡ with_event before ends.last = ap (λ es. record g { events = es }) ends.is in
      quiet_at_rest before ends.last ends.at_rest log (subst (λ x. IsLawful x log) same the_log.lawful)
      (subst (λ x. next x log ≡ None) same the_log.complete)

  all_committed : EndsQuiet (input_of cat tables work) log → NoneIsDown (whole_in cat work) log → AllCommitted (history log)
  all_committed links are_up = settled_is_committed (input_of cat tables work) log current_era submits (is_settled links are_up)

  -- and between two events
  pub settled_before : (later before : Log) → log ≡ later ++ before → Rests (input_of cat tables work) before
      → EndsQuiet (input_of cat tables work) before → NoneIsDown (whole_in cat work) before → AllCommitted (history before)
  settled_before later before is rests links are_up =
      let g : Input = input_of cat tables work in
      let their = lawful_lists cat tables work sound valid tabled before rests.lawful in
      let were_up = up_at_redeclares g before (few_ticks (whole_in cat work) (length work.txns) work.events (events_valid cat work valid))
      rests.lawful (timely cat tables work valid tabled) in
      let q = resting_is_quiet g before submits.once rests links (all_up g before are_up) in
      let last = their (redeclares before) (omega arith) in
      let idle = is_idle g before q last (idle_at_redeclares g before submits.once rests.lawful their were_up) in
      all_committed_of g before q.permitted their (lawful_numbered g before submits rests.lawful) (finished g before q last.fits.sound idle)

  -- an outage costs no more than what needs the modules that are down, at the end and between two events

  idle_before : IsIdleAtRedeclares (input_of cat tables work) log
  idle_before =
      idle_at_redeclares (input_of cat tables work) log submits.once the_log.lawful current_era
      (up cat tables work sound valid tabled log the_log)

  still_at_end : EndsQuiet (input_of cat tables work) log → IsStill (input_of cat tables work) log
  still_at_end links = complete_is_still (input_of cat tables work) log submits.once the_log.lawful the_log.complete links

  pub outage : EndsQuiet (input_of cat tables work) log → CostsNoMore (input_of cat tables work) log
  outage links = costs_no_more (input_of cat tables work) log (still_at_end links) current_era idle_before

  pub undeclared : EndsQuiet (input_of cat tables work) log → HoldsUpUndeclared (input_of cat tables work) log
  undeclared links = holds_up_undeclared (input_of cat tables work) log (still_at_end links) current_era idle_before

  idle_then : (before : Log) → Rests (input_of cat tables work) before → IsIdleAtRedeclares (input_of cat tables work) before
  idle_then before rests =
      let g : Input = input_of cat tables work in
      let were_up = up_at_redeclares g before (few_ticks (whole_in cat work) (length work.txns) work.events (events_valid cat work valid))
      rests.lawful (timely cat tables work valid tabled) in
      idle_at_redeclares g before submits.once rests.lawful (lawful_lists cat tables work sound valid tabled before rests.lawful) were_up

  pub outage_before : (later before : Log) → log ≡ later ++ before → Rests (input_of cat tables work) before
      → EndsQuiet (input_of cat tables work) before → CostsNoMore (input_of cat tables work) before
  outage_before later before is rests links =
      let g : Input = input_of cat tables work in
      costs_no_more g before (resting_is_still g before submits.once rests links)
      (lawful_lists cat tables work sound valid tabled before rests.lawful) (idle_then before rests)

  pub undeclared_before : (later before : Log) → log ≡ later ++ before → Rests (input_of cat tables work) before
      → EndsQuiet (input_of cat tables work) before → HoldsUpUndeclared (input_of cat tables work) before
  undeclared_before later before is rests links =
      let g : Input = input_of cat tables work in
      holds_up_undeclared g before (resting_is_still g before submits.once rests links)
      (lawful_lists cat tables work sound valid tabled before rests.lawful) (idle_then before rests)

  pub settled : IsOrderable (whole_in cat work) (history log) → IsSerial (whole_in cat work) (history log) (order_of cat work log)
      → EndsQuiet (input_of cat tables work) log → NoneIsDown (whole_in cat work) log → TellsAllCommitted (report_of (input_of cat tables work) log)
  settled fine serial links are_up =
      let all = all_committed links are_up in
      record {
        committed = all;
        in_order = λ n place there. is_there_once (whole_in cat work) (history log) (order_of cat work log) fine serial n (all n place there);
        none_pending = none_pending (input_of cat tables work) log all;
      }

  -- each transaction that was submitted is committed or listed
  listed : (n place : ℕ) → IsSubmitted (history log) n place → WasCommitted (history log) n ⊎ IsListed (report_of (input_of cat tables work) log).pending n
  listed =
      each_listed (input_of cat tables work) log (lawful_permitted (input_of cat tables work) log submits.once the_log.lawful)
      current_era (lawful_numbered (input_of cat tables work) log submits the_log.lawful)

  -- and is so once
  pub nothing_lost : IsOrderable (whole_in cat work) (history log) → IsSerial (whole_in cat work) (history log) (order_of cat work log)
      → ((n j k : ℕ) → IsSubmitted (history log) n j → IsSubmitted (history log) n k → j ≡ k) → LosesNothing (report_of (input_of cat tables work) log)
  nothing_lost fine serial one n place there =
      in_one (input_of cat tables work) log (whole_in cat work) (order_of cat work log) serial
      (λ m w. is_there_once (whole_in cat work) (history log) (order_of cat work log) fine serial m w) one n (listed n place there)

  -- at each copy all is applied that changed its fragment
  pub applied : EndsQuiet (input_of cat tables work) log → NoneIsDown (whole_in cat work) log
      → (copy : CopyTable) → Contains (tables_of (input_of cat tables work) log) copy → AreAllApplied (history log) copy.frag.0 copy.dm.0 (length (history log))
  applied links are_up copy there =
      let g : Input = input_of cat tables work in
      let s = is_settled links are_up in
      let done = settled_is_finished g log current_era submits.once s in
      let at = Contains-from_flat_map (tables_at g log) (numbers_to g.catalogue.dms) copy there in
      let xs = dated (setting_of g (D (dm_no at.0))) (local_of g (D (dm_no at.0)) log) in
      let of = Contains-from_map (table_of at.0 xs) _ copy at.2 in
      let copied = Contains-from_filter (has_copy g.catalogue at.0) (numbers_to (length g.catalogue.fragments)) of.0 of.1 in
      subst (λ (t : CopyTable). AreAllApplied (history log) t.frag.0 t.dm.0 (length (history log)))
      (sym of.2) (applied_at_copies g log of.0 at.0 sound (settled_is_quiet g log submits.once s) current_era done.idle copied.1)
