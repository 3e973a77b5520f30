-- What is shown robust is robust.
use Rattle.sdd_robust_laws.proofs.All.{Access, Catalogue, Contains, Database, Effect, HasSessions, IsDatabase, IsOrderly, IsShownRobust, IsSnapshotRun, IsSoundCatalogue, IsWorkload, List, Log, ShownIsRobust, Txn, accesses, begin_of, end_of, ended, is_member, item_of, sym, times, ℕ, ◌<◌, ◌∙◌, ◌≡◌, ◌⊎◌}
use Rattle.sdd_robust_laws.proofs.Cycles.{Comes, IsKept, no_cycle}
use Rattle.sdd_robust_laws.proofs.FirstWins.{one_before}
use Rattle.sdd_robust_laws.proofs.Order.{order, runs}
use Rattle.sdd_robust_laws.proofs.Pivots.{dangerous, is_there}
use Rattle.sdd_robust_laws.proofs.Replays.{replayed}
use Rattle.sdd_robust_laws.proofs.Snapshots.{sessions}

-- the runs that ended keep the rule of the first committer
kept : (cat : Catalogue) (acc : ℕ → List Access) (effects : ℕ → Effect) (log : Log) (txns : ℕ → Txn) (first : Database)
    → IsSnapshotRun cat txns first effects log → IsKept (runs cat acc effects log)
kept cat acc effects log txns first run =
    let s : HasSessions (λ n. n) log = sessions log run.in_turn in
    record {
      forward = (times (λ z. z) log s).forward;
      first_wins = λ m n item a b apart c d.
          one_before cat effects log s run.first_wins m n (is_member (ended log) m a) (is_member (ended log) n b) apart
          (record { of_first = c.0; of_second = d.0; in_first = c.1; in_second = d.1; item = c.2 ∙ sym d.2 });
    }

pub shown_is_robust : (cat : Catalogue) → IsSoundCatalogue cat → ShownIsRobust cat
shown_is_robust cat sound work of first first_is shown txns in_work effects log run =
    let acc : ℕ → List Access = λ n. accesses cat work first (txns n) in
    let orderly : IsOrderly (Comes (runs cat acc effects log)) =
    no_cycle (runs cat acc effects log) (kept cat acc effects log txns first run)
    (λ p. shown (acc p.pivot) (is_there cat sound work of first first_is txns in_work effects log run p.pivot)
    (dangerous cat sound work of first first_is txns in_work effects log run p)) in
    (order cat acc effects log, replayed cat sound work of first first_is txns in_work effects log run orderly)
