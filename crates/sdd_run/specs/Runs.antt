-- The run of a workload: what is given to its world, and which log is the run's. A workload may have further lists of
-- classes: then the whole catalogue has the classes of all lists, and one list after the other is in force, with the
-- protocol table of its own catalogue. Without further lists the whole catalogue is the catalogue itself.
use Rattle.std.specs.Prelude.{ℕ, ◌≡◌, List, [], ◌∷◌, ◌++◌, Contains, length, map}
use Rattle.std.specs.List.{All, AllZip}
use Rattle.sdd_lists.specs.InForce.{eras_in, whole_in}
use Rattle.sdd_make.specs.Summary.{summary_of, summary_text}
use Rattle.sdd_progress.specs.obligations.base.declared.number.TxnNo.{TxnNo}
use Rattle.sdd_progress.specs.obligations.base.declared.reply.Reply.{Reply}
use Rattle.sdd_progress.specs.obligations.catalog.Catalogue.{Catalogue, numbers_to}
use Rattle.sdd_progress.specs.obligations.graph.Edges.{IsClassOf}
use Rattle.sdd_progress.specs.obligations.history.Records.{History}
use Rattle.sdd_progress.specs.obligations.lang.Database.{Database}
use Rattle.sdd_progress.specs.obligations.laws.Copied.{AreAppliedAlike}
use Rattle.sdd_progress.specs.obligations.laws.Replay.{AreAllApplied, IsReplyOf, run}
use Rattle.sdd_progress.specs.obligations.logs.Entries.{Input, Log, history, marks}
use Rattle.sdd_progress.specs.obligations.logs.Lawful.{EndsByLimit, IsTheLog}
use Rattle.sdd_progress.specs.obligations.logs.Resting.{Rests}
use Rattle.sdd_progress.specs.obligations.protocol.Protocols.{IsTable}
use Rattle.sdd_progress.specs.obligations.protocol.declared.entry.Entry.{Entry}
use Rattle.sdd_progress.specs.obligations.links.Attempts.{Attempt, Committed, IsAttempt, IsCommitted}
use Rattle.sdd_progress.specs.obligations.links.Orderable.{IsOrderable}
use Rattle.sdd_progress.specs.obligations.serial_orders.Orders.{IsSerial}
use Rattle.sdd_progress.specs.obligations.serial_orders.SerialOrder.{serial_order}
use Rattle.sdd_progress.specs.obligations.site_module.SiteLog.{Era}
use Rattle.sdd_progress.specs.Committed.{AllCommitted}
use Rattle.sdd_progress.specs.Few.{AreFewRejected}
use Rattle.sdd_progress.specs.Free.{IsFree}
use Rattle.sdd_progress.specs.HangsOn.{HoldsUpUndeclared}
use Rattle.sdd_progress.specs.Outage.{CostsNoMore}
use Rattle.sdd_report.specs.Committed.{names_of, order_line}
use Rattle.sdd_report.specs.Replies.{replies_along}
use Rattle.sdd_report.specs.Report.{Report, after_replies, report_text}
use Rattle.sdd_report.specs.Trace.{trace}
use Rattle.sdd_report.specs.declared.copies.CopyTable.{CopyTable}
use Rattle.sdd_script.specs.declared.workload.Workload.{Workload}
use Rattle.sdd_schedule.specs.Copies.{rows_left}
use Rattle.sdd_run.specs.Clocks.{HasLowClocks}
use Rattle.sdd_run.specs.ComesBefore.{ComesBefore, IsSubmittedBefore, times_in}
use Rattle.sdd_run.specs.Free.{IsUndisturbed}
use Rattle.sdd_run.specs.Reasons.{TellsPending}
use Rattle.sdd_run.specs.Reports.{report_of}
use Rattle.sdd_run.specs.Settled.{EndsAtRest, EndsQuiet, LosesNothing, NoneIsDown, TellsAllCommitted}

-- each class list with its protocol table
abbrev pub eras_with_tables : List Catalogue → List (List Entry) → List Era
eras_with_tables [] tables = []
eras_with_tables (cat ∷ cats) [] = []
eras_with_tables (cat ∷ cats) (table ∷ tables) = record { catalogue = cat; table = table } ∷ eras_with_tables cats tables

-- of each list of a workload the protocol table
abbrev pub AreTables : Catalogue → Workload → List (List Entry) → Type 0
AreTables cat work tables = AllZip IsTable (eras_in cat work) tables

-- what is given: the class lists, and each data module begins with the workload's rows
abbrev pub input_of : Catalogue → List (List Entry) → Workload → Input
input_of cat tables work = record {
  catalogue = whole_in cat work;
  eras = eras_with_tables (eras_in cat work) tables;
  rows = map (λ d. work.rows) (numbers_to cat.dms);
  txns = work.txns;
  events = work.events;
}

-- before its first event
abbrev pub first_input : Catalogue → List (List Entry) → Workload → Input
first_input cat tables work = record (input_of cat tables work) { events = [] }

-- the serial order of what a run committed
abbrev pub order_of : Catalogue → Workload → Log → List TxnNo
order_of cat work log = serial_order (whole_in cat work) (history log)

-- what one plain database that begins with the workload's rows replies along that order, and what it is left with
abbrev pub plain_run : Catalogue → Workload → Log → List Reply × Database
plain_run cat work log = run (whole_in cat work) work.rows work.txns (order_of cat work log)

-- in no class list a class lies on a simple cycle of the conflict graph
abbrev pub IsFreeInEach : Catalogue → Workload → ℕ → Type 0
IsFreeInEach cat work class = All (λ of_list. IsFree of_list class) (eras_in cat work)

-- The run of a workload: by the protocol tables of its class lists, of which each has one, the one log of what is given.
pub record Run (cat : Catalogue) (work : Workload) : Type 0 where
  pub tables : List (List Entry)
  pub tables_are : AreTables cat work tables
  pub log : Log
  pub log_is : IsTheLog (input_of cat tables work) log

-- what is given to its world, and what the world records
abbrev pub input : {cat : Catalogue} {work : Workload} → Run cat work → Input
input {cat} {work} r = input_of cat r.tables work

abbrev pub records : {cat : Catalogue} {work : Workload} → Run cat work → History
records {cat} {work} r = history r.log

-- the order of its report, and what one plain database replies along it and is left with
abbrev pub order : {cat : Catalogue} {work : Workload} → Run cat work → List TxnNo
order {cat} {work} r = order_of cat work r.log

abbrev pub plain : {cat : Catalogue} {work : Workload} → Run cat work → List Reply × Database
plain {cat} {work} r = plain_run cat work r.log

-- its report, as the log gives it
abbrev pub report : {cat : Catalogue} {work : Workload} → Run cat work → Report
report {cat} {work} r = report_of (input r) r.log

-- at each moment of it: after each beginning of its log
abbrev pub AtEachMoment : {cat : Catalogue} {work : Workload} → Run cat work → (Log → Type 0) → Type 0
AtEachMoment {cat} {work} r P = (later before : Log) → r.log ≡ later ++ before → P before

-- A text is the report on the run of a workload.
pub record IsReportOn (cat : Catalogue) (work : Workload) (text : List ℕ) : Type 0 where
  pub of_run : Run cat work
  pub text_is : text ≡ report_text (report of_run)
  -- The order in the text is serial: each committed transaction stands in it once, after all that precede it, among which
  -- are those of its own class that were submitted before it.
  pub orderable : IsOrderable (whole_in cat work) (records of_run)
  pub serial : IsSerial (whole_in cat work) (records of_run) (order of_run)
  pub once : (t : Committed) → IsCommitted (records of_run) t → times_in t.start.txn (order of_run) ≡ 1
  pub in_turn : (x y : Committed) → IsCommitted (records of_run) x → IsCommitted (records of_run) y → x.start.class ≡ y.start.class
      → IsSubmittedBefore (records of_run) x y → ComesBefore (order of_run) x.start.txn y.start.txn
  -- One plain database that begins with the workload's rows and runs the transactions in that order gives the replies of their
  -- Commits; and these are the replies in the text, after the trace and the order.
  pub replies : AllZip (IsReplyOf (records of_run)) (order of_run) (plain of_run).0
  pub text_has_replies : text
      ≡ trace (whole_in cat work) work.txns (records of_run)
      ++ (order_line work.txns (order of_run)
      ++ (replies_along (names_of work.txns (order of_run)) (plain of_run).0 ++ after_replies (report of_run)))
  -- A copy at which all is applied that changed its fragment lists the rows that this database is left with.
  pub copies : (copy : CopyTable) → Contains (report of_run).copies copy
      → AreAllApplied (records of_run) copy.frag.0 copy.dm.0 (length (records of_run))
      → copy.rows ≡ rows_left (whole_in cat work) (plain of_run).1 copy.frag.0
  -- Two copies of a fragment at which the same transactions are applied that change it list the same rows.
  pub alike : (one two : CopyTable) → Contains (report of_run).copies one → Contains (report of_run).copies two → one.frag ≡ two.frag
      → AreAppliedAlike (records of_run) one.frag.0 one.dm.0 (length (records of_run)) two.dm.0 (length (records of_run)) → one.rows ≡ two.rows
  -- No attempt of a class that lies on no simple cycle of a conflict graph waits or is rejected; and at each moment of the
  -- run of each transaction no more attempts are rejected than other transactions are committed.
  pub free : (a : Attempt) → IsAttempt (records of_run) a → IsClassOf (whole_in cat work) a.class → IsFreeInEach cat work a.class
      → IsUndisturbed (records of_run) a
  pub rejections : AtEachMoment of_run (λ before. AreFewRejected (history before))
  -- At each moment of the run each clock stands below 2^39 ticks.
  pub low_clocks : HasLowClocks (input of_run) of_run.log
  -- Each transaction that was submitted stands in the order once, or is listed as pending once, and never both.
  pub nothing_lost : LosesNothing (report of_run)
  -- What is listed as pending is listed in the order of submission; each was submitted, isn't committed, and waits for what the text says:
  -- a place in the queue of a class, a class at a data module, or a message of a transaction or data module, never one of U.
  pub reasons : TellsPending (input of_run) of_run.log (report of_run).pending
  -- Where a settle or a redeclare is the last event, the links are quiet at the end. Where they are, and no module is down
  -- then, each transaction that was submitted is committed, so it stands in the order, and none is pending.
  pub quiet : EndsAtRest work.events → EndsQuiet (input of_run) of_run.log
  pub settled : EndsQuiet (input of_run) of_run.log → NoneIsDown (whole_in cat work) of_run.log → TellsAllCommitted (report of_run)
  -- So it is at each moment between two events.
  pub settled_before : AtEachMoment of_run (λ before. Rests (input of_run) before → EndsQuiet (input of_run) before
      → NoneIsDown (whole_in cat work) before → AllCommitted (history before))
  -- At such a moment, and at the end, an outage costs no more than what needs the modules that are down: a transaction of a
  -- declared class commits unless an attempt of its class needs such a module, or an undeclared transaction isn't done; and its
  -- change is applied at a copy unless the copy's module is down, or one that the passing of its class needs.
  pub outage : EndsQuiet (input of_run) of_run.log → CostsNoMore (input of_run) of_run.log
  pub outage_before : AtEachMoment of_run (λ before. Rests (input of_run) before → EndsQuiet (input of_run) before
      → CostsNoMore (input of_run) before)
  -- Of an undeclared transaction it leaves this undone: one that is pending hangs on a module that is down, since it lacks a
  -- data module's answer, since its READ waits for a class whose passing needs the module, since the undeclared one before it
  -- isn't applied there, since a transaction module hasn't said HELD for it, or since an attempt of a declared class needs it
  -- that has to end first. Meanwhile no attempt is under way of a class whose attempts need nothing that is down.
  pub undeclared : EndsQuiet (input of_run) of_run.log → HoldsUpUndeclared (input of_run) of_run.log
  pub undeclared_before : AtEachMoment of_run (λ before. Rests (input of_run) before → EndsQuiet (input of_run) before
      → HoldsUpUndeclared (input of_run) before)
  -- Where no module is down at the end, each copy lists the rows that this database is left with.
  pub left : EndsQuiet (input of_run) of_run.log → NoneIsDown (whole_in cat work) of_run.log
      → (copy : CopyTable) → Contains (report of_run).copies copy
      → copy.rows ≡ rows_left (whole_in cat work) (plain of_run).1 copy.frag.0

-- A text is the summary of the run: it says how many transactions there are, how many Commits, Rejects and Waits the
-- log of the run has, and how many events.
pub record IsSummaryOn (cat : Catalogue) (work : Workload) (text : List ℕ) : Type 0 where
  pub of_run : Run cat work
  pub text_is : text ≡ summary_text (summary_of (length work.txns) (records of_run) (marks of_run.log))

-- the limit of events or of a link's messages ends the run
pub record EndsAtLimit (cat : Catalogue) (work : Workload) : Type 0 where
  pub tables : List (List Entry)
  pub tables_are : AreTables cat work tables
  pub log : Log
  pub ends : EndsByLimit (input_of cat tables work) log
