-- A transaction is given to its module, and the module does what is due.
use Rattle.sdd_log.proofs.All.{Act, AreDue, Input, IsLawful, IsMarked, IsWithin, List, Log, Mark, None, Rests, Site, Some, Submit, Submits, Submitted, Txn, TxnNo, [], arith, base_of, calls_of, false, home_of, local_of, next_at, next_in, nth_era, puts_past, redeclares, refl, same_here, same_site, sends_of, site_due, sites, takes_part, true, txn_at, ℕ, ◌∷◌, ◌≡◌}
use Rattle.sdd_log.proofs.Steps.{AllNone, Settled, after_acts, all_none, has_site, idle_down, none_any_base, none_same, nothing_due, steps}
use Rattle.sdd_log.proofs.Acts.{handed_acts, takes_part_acts, within_acts}
use Rattle.sdd_log.proofs.Handing.{delivered_acts, no_mark_acts}
use Rattle.sdd_log.proofs.Marking.{mark_within, none_by_mark}

pub other_local : (g : Input) (b to : Site) (n : ℕ) (log : Log) → same_site b to ≡ false → local_of g b (Submitted to n ∷ log) ≡ local_of g b log
other_local g b to n log e = rw e refl

settled_by_submit : (g : Input) (to : Site) (n : ℕ) (log : Log) (xs : List Site) → AllNone (next_at g log) xs → Settled (next_at g (Submitted to n ∷ log)) to xs
settled_by_submit g to n log [] k = tt
settled_by_submit g to n log (x ∷ xs) k =
    ((λ e. none_same g log (Submitted to n ∷ log) x (λ part. part) (other_local g x to n log e) k.0), settled_by_submit g to n log xs k.1)

own_local : (g : Input) (at : Site) (n : ℕ) (txn : Txn) (log : Log) → txn_at g n ≡ Some txn
    → local_of g at (Submitted at n ∷ log) ≡ Submits n txn ∷ local_of g at log
own_local g at n txn log is = rw (same_here at, is) refl

-- the site of a transaction that is submitted after the log
abbrev pub home_in : Input → TxnNo → Log → Site
home_in g n log = home_of (nth_era g (redeclares log)).catalogue (txn_at g n.0)

abbrev pub submitted : Input → TxnNo → Log → Log
submitted g n log = Submitted (home_in g n log) n.0 ∷ Mark (Submit n) ∷ log

module _ (g : Input) (n : TxnNo) (log : Log) (k : IsMarked g log (Submit n)) where
  pub submitted_lawful : IsLawful g (submitted g n log)
  submitted_lawful = (refl, (k.next_is, k.rests.lawful))

  pub submitted_within : IsWithin (submitted g n log)
  submitted_within = (refl, (mark_within log (Submit n) k.few, k.rests.within))

  pub submitted_local : (txn : Txn) → txn_at g n.0 ≡ Some txn
      → local_of g (home_in g n log) (submitted g n log) ≡ Submits n.0 txn ∷ local_of g (home_in g n log) log
  submitted_local txn is = own_local g (home_in g n log) n.0 txn (Mark (Submit n) ∷ log) is

  -- what the module does then is lawful
  pub acts_lawful : (txn : Txn) (acts : List Act) → txn_at g n.0 ≡ Some txn → has_site (home_in g n log) (sites g.catalogue.tms g.catalogue.dms) ≡ true
      → takes_part (home_in g n log) log ≡ true
      → AreDue (next_in g (home_in g n log) (base_of g (submitted g n log))) (Submits n.0 txn ∷ local_of g (home_in g n log) log) acts
      → IsLawful g (after_acts (home_in g n log) acts (submitted g n log))
  acts_lawful txn acts is here part due =
      let at : Site = home_in g n log in
      let none : site_due g (Mark (Submit n) ∷ log) ≡ None = none_by_mark g log (Submit n) tt (λ x part. part) k.rests.no_site in
      (steps g at acts (submitted g n log) here refl part
      (settled_by_submit g at n.0 (Mark (Submit n) ∷ log) (sites g.catalogue.tms g.catalogue.dms)
      (all_none (next_at g (Mark (Submit n) ∷ log)) (sites g.catalogue.tms g.catalogue.dms) none)) (rw (submitted_local txn is) due) submitted_lawful).0

  -- what the module does then are the next entries, and after them nothing is due
  pub submits_and_acts : (txn : Txn) (acts : List Act) → txn_at g n.0 ≡ Some txn → has_site (home_in g n log) (sites g.catalogue.tms g.catalogue.dms) ≡ true
      → takes_part (home_in g n log) log ≡ true
      → AreDue (next_in g (home_in g n log) (base_of g (submitted g n log))) (Submits n.0 txn ∷ local_of g (home_in g n log) log) acts
      → puts_past (calls_of log) (home_in g n log) (sends_of acts) ≡ false → Rests g (after_acts (home_in g n log) acts (submitted g n log))
  submits_and_acts txn acts is here part due few =
      let at : Site = home_in g n log in
      let left : AreDue (next_in g at (base_of g (submitted g n log))) (local_of g at (submitted g n log)) acts = rw (submitted_local txn is) due in
      let none : site_due g (Mark (Submit n) ∷ log) ≡ None = none_by_mark g log (Submit n) tt (λ x part. part) k.rests.no_site in
      let done = steps g at acts (submitted g n log) here refl part
      (settled_by_submit g at n.0 (Mark (Submit n) ∷ log) (sites g.catalogue.tms g.catalogue.dms)
      (all_none (next_at g (Mark (Submit n) ∷ log)) (sites g.catalogue.tms g.catalogue.dms) none)) left submitted_lawful in
      record {
        lawful = done.0;
        within = within_acts at acts (submitted g n log) few submitted_within;
        no_mark = no_mark_acts g at acts (submitted g n log) refl;
        no_site = nothing_due (next_at g (after_acts at acts (submitted g n log))) at (sites g.catalogue.tms g.catalogue.dms) done.1 done.2;
        handed_all = grind (arith, handed_acts, submitted, takes_part_acts, delivered_acts);
      }

  -- a module that is down does nothing: the transaction waits
  pub submits_to_wait : takes_part (home_in g n log) log ≡ false → Rests g (submitted g n log)
  submits_to_wait down = record {
    lawful = submitted_lawful;
    within = submitted_within;
    no_mark = refl;
    no_site = nothing_due (next_at g (submitted g n log)) (home_in g n log) (sites g.catalogue.tms g.catalogue.dms)
        (settled_by_submit g (home_in g n log) n.0 (Mark (Submit n) ∷ log) (sites g.catalogue.tms g.catalogue.dms)
        (all_none (next_at g (Mark (Submit n) ∷ log)) (sites g.catalogue.tms g.catalogue.dms)
        (none_by_mark g log (Submit n) tt (λ x part. part) k.rests.no_site)))
        (idle_down g (submitted g n log) (home_in g n log) down);
    handed_all = λ a b part. k.rests.handed_all a b part;
  }
