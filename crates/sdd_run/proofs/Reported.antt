-- What is reported of a world that has carried out all events of a workload is reported of its run.
use Rattle.sdd_run.proofs.All.{AreAtLastHomes, AreTables, Catalogue, EndsAtLimit, EndsBy, EndsByLimit, Entry, Event, History, IfOk, IsReportOn, IsRunOf, IsSoundCatalogue, IsSummaryOn, IsTheLog, IsValid, List, Log, Represents, Result, Summary, Txn, Workload, World, ap, arith, eras_of, first_input, history, input_of, length, marks, none_due, order_of, over_at_end, report_of, report_text, subst, summary_of, summary_text, whole_in, with_events, ℕ, ◌∙◌, ◌≡◌}
use Rattle.sdd_run.proofs.Beginning.{all_given}
use Rattle.sdd_run.proofs.Goods.{fits_given}
use Rattle.sdd_run.proofs.InTurn.{in_turn}
use Rattle.sdd_run.proofs.LastHomes.{at_last_homes}
use Rattle.sdd_run.proofs.LowClocks.{low_clocks}
use Rattle.sdd_run.proofs.Once.{each_once}
use Rattle.sdd_run.proofs.Ordered.{alike, few, free_undisturbed, left, orderable, replayed, serial, starts}
use Rattle.sdd_run.proofs.Reasons.{tells_pending}
use Rattle.sdd_run.proofs.RunOf.{known_of, permitted}
use Rattle.sdd_run.proofs.Settled.{applied, nothing_lost, outage, outage_before, quiet_behind, settled, settled_before, undeclared, undeclared_before}
use Rattle.sdd_run.proofs.WithRepliesOfOrder.{with_replies_of_order}

pub if_ok : {A E : Type 0} (res : Result A E) (P Q : A → Type 0) → ((x : A) → P x → Q x) → IfOk res P → IfOk res Q
if_ok res P Q f p = grind arith

-- a run is given all of its events

pub run_of : (cat : Catalogue) (tables : List (List Entry)) (work : Workload) (events : List Event) → events ≡ work.events
    → (w : World) (log : Log) → Represents w (with_events (first_input cat tables work) events) log → IsRunOf cat tables work w
run_of cat tables work events same w log represents =
    let s = subst (λ g. Represents w g log) (ap (with_events (first_input cat tables work)) same ∙ all_given cat tables work) represents in
    record { log = log; log_is = record { lawful = s.calm.rests.lawful; within = s.calm.rests.within; complete = s.complete }; represents = s }

pub ended : (cat : Catalogue) (tables : List (List Entry)) (work : Workload) → AreTables cat work tables → (events : List Event) → events ≡ work.events
    → EndsBy (with_events (first_input cat tables work) events) → EndsAtLimit cat work
ended cat tables work tabled events same e = record {
  tables = tables;
  tables_are = tabled;
  log = e.0;
  ends = subst (λ g. EndsByLimit g e.0) (ap (with_events (first_input cat tables work)) same ∙ all_given cat tables work) e.1;
}

-- each pending transaction was submitted at the site of its class by the last list
pub last_homes : (cat : Catalogue) (tables : List (List Entry)) (work : Workload) → IsSoundCatalogue (whole_in cat work) → IsValid cat work
    → AreTables cat work tables
    → (log : Log) → IsTheLog (input_of cat tables work) log → AreAtLastHomes (input_of cat tables work) log
last_homes cat tables work sound valid tabled log the_log =
    at_last_homes (input_of cat tables work) log (known_of cat tables work sound valid tabled log the_log)

-- the report on the run
pub reported : (cat : Catalogue) (tables : List (List Entry)) (work : Workload) (log : Log)
    → IsSoundCatalogue (whole_in cat work) → IsValid cat work → AreTables cat work tables → IsTheLog (input_of cat tables work) log
    → (text : List ℕ) → text ≡ report_text (report_of (input_of cat tables work) log) → IsReportOn cat work text
reported cat tables work log sound valid tabled the_log text is =
    let whole = whole_in cat work in
    let order = order_of cat work log in
    let fine = orderable cat tables work sound valid tabled log the_log in
    let along = serial cat tables work sound valid tabled log the_log in
    let given = replayed cat tables work sound valid tabled log the_log in
    let starting = starts cat tables work sound valid tabled log the_log in
    record {
      of_run = record { tables = tables; tables_are = tabled; log = log; log_is = the_log };
      text_is = is;
      orderable = fine;
      serial = along;
      once = each_once whole (history log) order along;
      in_turn = grind (arith, in_turn, eras_of, input_of, history);
      replies = given;
      text_has_replies = is ∙ with_replies_of_order (report_of (input_of cat tables work) log) _ fine.one_commit given;
      copies = left cat tables work sound valid tabled log the_log;
      alike = alike cat tables work sound valid tabled log the_log;
      free = free_undisturbed cat tables work sound valid tabled log the_log;
      rejections = few cat tables work sound valid tabled log the_log;
      low_clocks = low_clocks cat tables work sound valid tabled log the_log.lawful;
      nothing_lost = nothing_lost cat tables work sound valid tabled log the_log fine along starting.one_submit;
      reasons = tells_pending (input_of cat tables work) log (permitted cat tables work sound valid tabled log the_log)
          (fits_given cat tables work sound valid work.events) the_log.lawful
          (none_due (input_of cat tables work) log (over_at_end (input_of cat tables work) log the_log));
      quiet = quiet_behind cat tables work sound valid tabled log the_log;
      settled = settled cat tables work sound valid tabled log the_log fine along;
      settled_before = settled_before cat tables work sound valid tabled log the_log;
      outage = outage cat tables work sound valid tabled log the_log;
      outage_before = outage_before cat tables work sound valid tabled log the_log;
      undeclared = undeclared cat tables work sound valid tabled log the_log;
      undeclared_before = undeclared_before cat tables work sound valid tabled log the_log;
      left = λ links up copy there.
          left cat tables work sound valid tabled log the_log copy there (applied cat tables work sound valid tabled log the_log links up copy there);
    }

-- the summary of the run: of counts that were made of its records
pub summed_up : (cat : Catalogue) (tables : List (List Entry)) (work : Workload) (w : World) → AreTables cat work tables
    → (r : IsRunOf cat tables work w) (text : List ℕ) (counts : Summary) (txns : List Txn) (records : History) (events : ℕ) → text ≡ summary_text counts
    → counts ≡ summary_of (length txns) records events → txns ≡ work.txns → records ≡ history r.log → events ≡ marks r.log → IsSummaryOn cat work text
summed_up cat tables work w tabled r text counts txns records events printed made txns_are records_are events_are = record {
  of_run = record { tables = tables; tables_are = tabled; log = r.log; log_is = r.log_is };
  text_is = printed ∙ ap summary_text (made ∙ (λ i. summary_of (length (txns_are i)) (records_are i) (events_are i)));
}
