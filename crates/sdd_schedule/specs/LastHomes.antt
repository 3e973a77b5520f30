-- What the code lists as pending: it looks for each transaction at the site of its class by the list in force at the
-- end. Not needed to read `pending_of`: both are the same where `AreAtLastHomes` holds, as at the end of a run.
use Rattle.std.specs.Prelude.{ℕ, ◌≡◌, false, if◌then◌else◌, List, filter_map, Option, None}
use Rattle.std.specs.BTreeSet.{BTreeSet, contains}
use Rattle.std.specs.List.{list_any}
use Rattle.std.specs.Ordering.{nat_cmp}
use Rattle.sdd_world.specs.needs.All.{History, Input, IsSubmitted, Log, Rec, Site, history, nth_era, redeclares, txn_at}
use Rattle.sdd_world.specs.needs.history.declared.record.Rec.TheVariants.{Submit}
use Rattle.sdd_world.specs.needs.logs.Due.{home_of}
use Rattle.sdd_report.specs.declared.pending.Pending.{Pending}
use Rattle.sdd_report.specs.declared.pending.Why.{Why}
use Rattle.sdd_schedule.specs.Pending.{commits, pending_as, submitted_at, why_at}

-- these are the numbers of the transactions that records commit
abbrev pub AreCommitted : BTreeSet ℕ → History → Type 0
AreCommitted numbers records = (n : ℕ) → contains nat_cmp numbers n ≡ list_any (commits n) records

-- the site of a transaction's class by the list in force at the end
abbrev pub last_home : Input → Log → ℕ → Site
last_home g log n = home_of (nth_era g (redeclares log)).catalogue (txn_at g n)

-- why it is pending, looked for there
abbrev pub why_at_last : Input → Log → ℕ → Option Why
why_at_last g log n = why_at g log (last_home g log n) n

-- the transaction that a record submits, where none of these records commits it
abbrev pub pending_at_last : Input → Log → History → ℕ × Rec → Option Pending
pending_at_last g log records (event, Submit n) =
    if list_any (commits n.0) records then None else pending_as n (why_at_last g log n.0)
pending_at_last g log records _ = None

abbrev pub all_at_last : Input → Log → List Pending
all_at_last g log = filter_map (pending_at_last g log (history log)) (history log)

-- each transaction that was submitted and isn't committed was submitted at the site of its class by the last list
pub record AreAtLastHomes (g : Input) (log : Log) : Type 0 where
  pub same : (n place : ℕ) → IsSubmitted (history log) n place → list_any (commits n) (history log) ≡ false
      → submitted_at log n ≡ last_home g log n
