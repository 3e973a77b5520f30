-- What is pending when a run ends: the transactions that were submitted and aren't committed, and why.
use Rattle.std.specs.Prelude.{ℕ, ◌==◌, ◌≡◌, Bool, false, not, if◌then◌else◌, List, [], ◌∷◌, filter_map, find, slice_get, Option, Some, None}
use Rattle.std.specs.List.{list_any}
use Rattle.std.specs.Option.{option_map}
use Rattle.sdd_world.specs.needs.All.{Commit, Cond, D, Input, Log, Rec, Setting, Site, Standing, Submitted, TxnNo, U, dm_no, history, is_met, local_of, numbers_to, setting_of, view_of}
use Rattle.sdd_world.specs.needs.history.declared.record.Rec.TheVariants.{Submit}
use Rattle.sdd_world.specs.needs.site_module.SiteLog as site
use Rattle.sdd_world.specs.needs.site_rules.declared.standing.Standing.TheVariants as standings
use Rattle.sdd_world.specs.needs.dm.Waiting.{waiting_at}
use Rattle.sdd_report.specs.Pending.{under_way}
use Rattle.sdd_report.specs.declared.pending.Pending.{Pending}
use Rattle.sdd_report.specs.declared.pending.Waiting.{Waiting}
use Rattle.sdd_report.specs.declared.pending.Why.{Why}
use Rattle.sdd_report.specs.declared.pending.Why.TheVariants as reasons
use Rattle.sdd_world.specs.sites.Standings.{standing_of}

-- what a READ waits for

-- the first of its conditions that isn't met
abbrev pub unmet : Setting → site.Log → Option (List Cond) → Option Cond
unmet s log None = None
unmet s log (Some conds) = find (λ e. not (is_met (view_of s log) e)) conds

abbrev pub wait_for : ℕ → Cond → Waiting
wait_for d cond = record { dm = dm_no d; class = cond.class; time = cond.time }

-- where the READ of class c with timestamp t waits at module d, for what
abbrev pub wait_at : Input → Log → ℕ → ℕ → ℕ → Option Waiting
wait_at g log c t d =
    option_map (wait_for d)
    (unmet (setting_of g (D (dm_no d))) (local_of g (D (dm_no d)) log) (waiting_at c t (local_of g (D (dm_no d)) log)))

-- at all modules where it waits, ascending
abbrev pub waits_of : Input → Log → ℕ → ℕ → List Waiting
waits_of g log c t = filter_map (wait_at g log c t) (numbers_to g.catalogue.dms)

-- Why a transaction is pending that stands so at its site: it has a place in a queue; it is under way, and a message to it
-- is missing; or its READ waits at some modules, and the wait at the lowest of them is told (`under_way`).
abbrev pub why_of : Input → Log → Standing → Option Why
why_of g log standings.Absent = None
why_of g log (standings.Queued class place) = Some (reasons.Queued class place)
why_of g log (standings.Underway class None at) = Some (reasons.Underway at)
why_of g log (standings.Underway class (Some ts) at) = Some (under_way at (waits_of g log class.0 ts.0))

-- which transactions are pending

abbrev pub commits : ℕ → ℕ × Rec → Bool
commits n (event, Commit txn attempt reply changes values rows) = txn.0 == n
commits n _ = false

-- the site at which a transaction was submitted: that of its class by the list in force then
abbrev pub submitted_at : Log → ℕ → Site
submitted_at [] n = U
submitted_at (Submitted at m ∷ log) n = if m == n then at else submitted_at log n
submitted_at (_ ∷ log) n = submitted_at log n

-- how transaction n stands at a site, and why it is pending there
abbrev pub status_at : Input → Log → Site → ℕ → Standing
status_at g log at n = standing_of at (setting_of g at) (local_of g at log) n

abbrev pub why_at : Input → Log → Site → ℕ → Option Why
why_at g log at n = why_of g log (status_at g log at n)

-- why it is pending: it is looked for at the site at which it was submitted
abbrev pub why_pending : Input → Log → ℕ → Option Why
why_pending g log n = why_at g log (submitted_at log n) n

abbrev pub pending_as : TxnNo → Option Why → Option Pending
pending_as n why = option_map (λ w. record { txn = n; why = w }) why

-- the transaction that a record submits, where no record commits it
abbrev pub pending_in : Input → Log → ℕ × Rec → Option Pending
pending_in g log (event, Submit n) = if list_any (commits n.0) (history log) then None else pending_as n (why_pending g log n.0)
pending_in g log _ = None

-- all, in order of submission
abbrev pub pending_of : Input → Log → List Pending
pending_of g log = filter_map (pending_in g log) (history log)

-- transaction n is listed as pending
pub record IsListed (left : List Pending) (n : ℕ) : Type 0 where
  pub place : ℕ
  pub one : Pending
  pub there : slice_get left place ≡ Some one
  pub txn_is : one.txn.0 ≡ n
