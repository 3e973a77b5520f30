-- A run that a settle or a redeclare ends, and that leaves nothing undone.
use Rattle.std.specs.Prelude.{ℕ, ◌+◌, ◌==◌, ◌≡◌, false, true, List, [], ◌∷◌, ◌++◌, refl}
use Rattle.std.proofs.Common.{ap}
use Rattle.std.proofs.lemmas.Bool.{false≢true}
use Rattle.sdd_progress.specs.obligations.base.Numbers.{class_no, txn_no}
use Rattle.sdd_progress.specs.obligations.base.declared.event.Event.{Event}
use Rattle.sdd_progress.specs.obligations.base.declared.event.Event.TheVariants.{Redeclare, Settle, Submit}
use Rattle.sdd_progress.specs.obligations.base.declared.number.TxnNo.{TxnNo}
use Rattle.sdd_progress.specs.obligations.base.declared.site.Site.{Site}
use Rattle.sdd_progress.specs.obligations.catalog.Catalogue.{Catalogue}
use Rattle.sdd_progress.specs.obligations.history.declared.record.Rec.TheVariants.{Submit as Submission}
use Rattle.sdd_progress.specs.obligations.laws.Deeds.{IsSubmitted}
use Rattle.sdd_progress.specs.obligations.logs.Entries.{Input, Log}
use Rattle.sdd_progress.specs.obligations.logs.Traffic.{all_links, calls_of, is_down}
use Rattle.sdd_progress.specs.obligations.net.Links.{quiet}
use Rattle.sdd_progress.specs.obligations.links.Examples.{crossing}
use Rattle.sdd_progress.specs.Committed.{AllCommitted}
use Rattle.sdd_report.specs.Report.{Report}
use Rattle.sdd_report.specs.declared.pending.Pending.{Pending}
use Rattle.sdd_report.specs.declared.pending.Why.TheVariants.{Queued}
use Rattle.sdd_script.specs.Valid.{IsModule}
use Rattle.sdd_run.specs.ComesBefore.{times_in, times_pending}

-- an event before which rounds go on until the links are quiet: said of the event itself, not of a log
abbrev pub IsAtRest : Event → Type 0
IsAtRest Settle = Unit {0}
IsAtRest Redeclare = Unit {0}
IsAtRest _ = ⊥

-- such an event is the last
pub record EndsAtRest (events : List Event) : Type 0 where
  pub before : List Event
  pub last : Event
  pub is : events ≡ before ++ last ∷ []
  pub at_rest : IsAtRest last

-- at the end of the log no module is down
abbrev pub NoneIsDown : Catalogue → Log → Type 0
NoneIsDown cat log = (at : Site) → IsModule cat at → is_down at log ≡ false

-- at the end of the log no packet is in flight, and all is acknowledged; said of the links alone, whatever is due
abbrev pub EndsQuiet : Input → Log → Type 0
EndsQuiet g log = quiet (all_links g) (calls_of log) ≡ true

-- a report that loses nothing: each transaction that was submitted stands in the order once and isn't pending, or is
-- listed as pending once and doesn't stand in the order
abbrev pub LosesNothing : Report → Type 0
LosesNothing r = (n place : ℕ) → IsSubmitted r.history n place → times_in n r.order + times_pending n r.pending ≡ 1

-- a report by which each transaction that was submitted is committed and stands in the order once, and none is pending
pub record TellsAllCommitted (r : Report) : Type 0 where
  pub committed : AllCommitted r.history
  pub in_order : (n place : ℕ) → IsSubmitted r.history n place → times_in n r.order ≡ 1
  pub none_pending : r.pending ≡ []

-- worked: a submit and a settle, or a redeclare
pub ends_with_settle : EndsAtRest (Submit (txn_no 1) ∷ Settle ∷ [])
ends_with_settle = record { before = Submit (txn_no 1) ∷ []; last = Settle; is = refl; at_rest = tt }

pub ends_with_redeclare : EndsAtRest (Submit (txn_no 1) ∷ Redeclare ∷ [])
ends_with_redeclare = record { before = Submit (txn_no 1) ∷ []; last = Redeclare; is = refl; at_rest = tt }

-- worked: transaction 1 is submitted, and a report tells so much of it

abbrev telling : List TxnNo → List Pending → Report
telling order left = record {
  catalogue = crossing;
  txns = [];
  history = (1, Submission (txn_no 1)) ∷ [];
  order = order;
  pending = left;
  copies = [];
}

abbrev waiting : Pending
waiting = record { txn = txn_no 1; why = Queued (class_no 1) 1 }

-- one that tells nothing of it loses it
pub lost : LosesNothing (telling [] []) → ⊥
lost h = false≢true (ap (λ z. z == 1) (h 1 0 refl))

-- and one that lists it as committed and as pending isn't right either
pub reported_twice : LosesNothing (telling (txn_no 1 ∷ []) (waiting ∷ [])) → ⊥
reported_twice h = false≢true (ap (λ z. z == 1) (h 1 0 refl))

-- where it is submitted once it is listed once
pub listed_alone : times_in 1 (telling [] (waiting ∷ [])).order + times_pending 1 (telling [] (waiting ∷ [])).pending ≡ 1
listed_alone = refl
