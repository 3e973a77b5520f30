-- What happened at one event of a run, by the log before its mark and the log when all is done that it makes due.
use Rattle.std.specs.Prelude.{ℕ, ◌==◌, Bool, true, false, ◌&&◌, ◌||◌, if◌then◌else◌, List, [], ◌∷◌, ◌++◌, drop, filter, find, fold, length, map, Option, Some, None}
use Rattle.std.specs.Ordering.{int_cmp, is_eq}
use Rattle.std.specs.List.{flat_map, list_any}
use Rattle.sdd_inside.specs.declared.delta.Found.{Found}
use Rattle.sdd_inside.specs.declared.delta.Found.TheVariants as founds
use Rattle.sdd_inside.specs.declared.delta.RowDelta.{RowDelta}
use Rattle.sdd_inside.specs.declared.moment.Happened.{Happened}
use Rattle.sdd_inside.specs.declared.standing.SiteState.{SiteState}
use Rattle.sdd_moments.specs.obligations.base.Sites.{same_site, sites}
use Rattle.sdd_moments.specs.obligations.base.declared.change.Change.{Change}
use Rattle.sdd_moments.specs.obligations.base.declared.event.Event.{Event}
use Rattle.sdd_moments.specs.obligations.base.declared.event.Event.TheVariants.{Down, Redeclare, Submit, Tick, Up}
use Rattle.sdd_moments.specs.obligations.base.declared.number.DmNo.{DmNo}
use Rattle.sdd_moments.specs.obligations.base.declared.number.TxnNo.{TxnNo}
use Rattle.sdd_moments.specs.obligations.base.declared.site.Site.{Site}
use Rattle.sdd_moments.specs.obligations.base.declared.site.Site.TheVariants.{D, T}
use Rattle.sdd_moments.specs.obligations.copy.Contents.{Dated, latest, of_fragment}
use Rattle.sdd_moments.specs.obligations.dm.Copies.{dated}
use Rattle.sdd_moments.specs.obligations.history.Records.{History}
use Rattle.sdd_moments.specs.obligations.history.declared.record.Rec.{Rec}
use Rattle.sdd_moments.specs.obligations.history.declared.record.Rec.TheVariants.{Apply, Commit}
use Rattle.sdd_moments.specs.obligations.invariants.Steps.{changes_at}
use Rattle.sdd_moments.specs.obligations.lang.Database.{Row}
use Rattle.sdd_moments.specs.obligations.logs.Due.{home_of as class_site}
use Rattle.sdd_moments.specs.obligations.logs.Entries.{Input, Log, history, marks}
use Rattle.sdd_moments.specs.obligations.logs.Locals.{local_of, nth_era, redeclares, setting_of, txn_at}
use Rattle.sdd_moments.specs.schedule.Pending.{commits}
use Rattle.sdd_watch.specs.States.{state_of}
use Rattle.sdd_moments.specs.AtEvent.{found_by, is_reached, last_event}
-- where an event stands in the schedule
pub use Rattle.sdd_moments.specs.schedule.Places.{if_in_round, place_in, place_of_first, round_at, round_in, rounds, scheduled_at}

-- rows

-- the changes that a Commit has
abbrev pub committed_in : Option (ℕ × Rec) → List Change
committed_in (Some (event, Commit txn attempt reply changes values rows)) = changes
committed_in _ = []

-- of which transaction a record is a Commit
abbrev pub committed_by : ℕ × Rec → Option TxnNo
committed_by (event, Commit txn attempt reply changes values rows) = Some txn
committed_by _ = None

-- what transaction n changes, by its first Commit among these records
abbrev pub changes_of : ℕ → History → List Change
changes_of n records = committed_in (find (commits n) records)

-- which transaction a record applies, and at which data module
abbrev pub applied_in : ℕ × Rec → Option (TxnNo × DmNo)
applied_in (event, Apply txn class dm ts) = Some (txn, dm)
applied_in _ = None

-- of changes those of the fragments of which a data module has a copy
abbrev pub changes_applied : Input → DmNo → List Change → List (DmNo × Change)
changes_applied g dm changes = map (λ x. (dm, x)) (changes_at g.catalogue dm.0 changes)

-- by an Apply what its transaction changes there
abbrev pub applied_by : Input → History → ℕ × Rec → List (DmNo × Change)
applied_by g records (event, Apply txn class dm ts) = changes_applied g dm (changes_of txn.0 records)
applied_by g records _ = []

-- by the Applies that the event made, in their order
abbrev pub applied : Input → Log → Log → List (DmNo × Change)
applied g old new = flat_map (applied_by g (history new)) (drop (length (history old)) (history new))

-- the row that the data module's copy has of the item now

abbrev pub row_by : Option (ℕ × Change) → Option Row
row_by None = None
row_by (Some x) = x.1.row

abbrev pub row_left : Dated → Change → Option Row
row_left xs x = row_by (latest x.key (of_fragment x.frag.0 xs))

abbrev pub report_row : Input → Log → DmNo × Change → RowDelta
report_row g log x =
    record { dm = x.0; item = record x.1 { row = row_left (dated (setting_of g (D x.0)) (local_of g (D x.0) log)) x.1 } }

-- each item once, where it stands first

abbrev pub is_of_item : DmNo × Change → RowDelta → Bool
is_of_item x row = row.dm.0 == x.0.0 && (row.item.frag.0 == x.1.frag.0 && is_eq (int_cmp row.item.key x.1.key))

abbrev pub with_row : Input → Log → List RowDelta → DmNo × Change → List RowDelta
with_row g log rows x = if list_any (is_of_item x) rows then rows else rows ++ report_row g log x ∷ []

abbrev pub rows_of : Input → Log → Log → List RowDelta
rows_of g old new = fold (with_row g new) [] (applied g old new)

-- sites

abbrev pub is_something : Found → Bool
is_something founds.Nothing = false
is_something _ = true

-- the event itself is of the site: a submission is of the site of its class by the list in force, also where that is down; a
-- module that goes down or comes up takes part in that; and a class list that is put in force is of the transaction modules
abbrev pub concerns : Input → Log → Event → Found → Site → Bool
concerns g log (Submit n) found at = same_site (class_site (nth_era g (redeclares log)).catalogue (txn_at g n.0)) at
concerns g log (Tick t n) found at = same_site (T t) at
concerns g log (Down here) found at = is_something found && same_site here at
concerns g log (Up here) found at = is_something found && same_site here at
concerns g log Redeclare found (T t) = true
concerns g log _ found at = false

abbrev pub takes_part : Input → Log → Log → Site → Bool
takes_part g old new at = is_reached g old new at || concerns g new (last_event new) (found_by (last_event new) old new) at

abbrev pub states_of : Input → Log → Log → List SiteState
states_of g old new = map (state_of g new) (filter (takes_part g old new) (sites g.catalogue.tms g.catalogue.dms))

-- all of it
abbrev pub happened_at : Input → Log → Log → Happened
happened_at g old new =
    record {
      number = marks new;
      scheduled = scheduled_at g old;
      round = round_at g old;
      event = last_event new;
      found = found_by (last_event new) old new;
      rows = rows_of g old new;
      sites = states_of g old new;
    }
