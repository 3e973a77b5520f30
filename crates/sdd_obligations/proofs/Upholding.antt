-- What is next on a lawful log is what modules ask.
use Rattle.sdd_obligations.proofs.All.{Act, AllLinked, Bases, D, DmNo, Does, Hand, Input, IsLawful, IsRunnable, IsSiteOf, IsUpheldD, IsUpheldR, IsWithin, Log, Msg, Site, Some, Submitted, T, TmNo, Txn, U, allowed_act, class_for, contains, current_era, false, lawful_permitted, local_of, next, sends_of_act, setting_of, submits, txn_at, ℕ, ◌∷◌, ◌≡◌, ◌≢◌}
use Rattle.sdd_needs.proofs.OfNext.{of_next}
use Rattle.sdd_obligations.proofs.FitsAtD.{d_fits}
use Rattle.sdd_obligations.proofs.FitsAtT.{t_fits, u_fits}
use Rattle.sdd_obligations.proofs.Handing.{is_handed}
use Rattle.sdd_obligations.proofs.Linking.{act_linked}
use Rattle.sdd_obligations.proofs.Submitting.{declared_here, home_exists, is_new}
use Rattle.sdd_invariants.specs.dm.Fits as dm
use Rattle.sdd_invariants.specs.tm.Fits as tm
use Rattle.sdd_invariants.specs.umod.Fits as um

pub hand_d : (g : Input) (log : Log) (a : Site) (d : DmNo) (n : ℕ) (m : Msg) (bases : Bases) → IsRunnable g → IsLawful g log → IsWithin log
    → next g log ≡ Some (Hand a (D d) n m) → IsUpheldD (setting_of g (D d)) (local_of g (D d) log) a m
    → dm.fits (setting_of g (D d)) bases (local_of g (D d) log) a m
hand_d g log a d n m bases f l w e u = d_fits g log a d n m bases f.small l e (is_handed g log a (D d) n m f.small l w e) u

pub hand_t : (g : Input) (log : Log) (a : Site) (t : TmNo) (n : ℕ) (m : Msg) (bases : Bases) → IsRunnable g → IsLawful g log → IsWithin log
    → next g log ≡ Some (Hand a (T t) n m) → IsUpheldR (setting_of g (T t)) bases (local_of g (T t) log) a m
    → tm.fits_kind (setting_of g (T t)) bases (local_of g (T t) log) a m
hand_t g log a t n m bases f l w e u = t_fits g log a t n m bases f.small (is_handed g log a (T t) n m f.small l w e) u

pub hand_u : (g : Input) (log : Log) (a : Site) (n : ℕ) (m : Msg) (bases : Bases) → IsRunnable g → IsLawful g log → IsWithin log
    → next g log ≡ Some (Hand a U n m) → IsUpheldR (setting_of g U) bases (local_of g U log) a m → um.fits_kind (setting_of g U) bases (local_of g U log) a m
hand_u g log a n m bases f l w e u = u_fits g log a n m bases f.whole (is_handed g log a U n m f.small l w e) u

pub submit_new : (g : Input) (log : Log) (at : Site) (n : ℕ) (txn : Txn) → IsRunnable g → IsLawful g log → next g log ≡ Some (Submitted at n)
    → txn_at g n ≡ Some txn → contains (submits (local_of g at log)) n ≡ false
submit_new g log at n txn f l e p = is_new g log at n txn f.small l e p

pub submit_declared : (g : Input) (log : Log) (t : TmNo) (n : ℕ) (txn : Txn) → IsRunnable g → IsLawful g log → next g log ≡ Some (Submitted (T t) n)
    → txn_at g n ≡ Some txn → (T t ≡ T txn.tm) × (class_for (current_era (setting_of g (T t)) (local_of g (T t) log)).catalogue txn ≢ 0)
submit_declared g log t n txn f l e p = declared_here g log t n txn f.small l e p

pub submit_home : (g : Input) (log : Log) (at : Site) (n : ℕ) → IsRunnable g → IsLawful g log → next g log ≡ Some (Submitted at n) → IsSiteOf g at
submit_home g log at n f l e = home_exists g log at n f.small l e f.txns_fit

pub sends_linked : (g : Input) (log : Log) (at : Site) (act : Act) → IsRunnable g → IsLawful g log → next g log ≡ Some (Does at act)
    → AllLinked g at (sends_of_act act)
sends_linked g log at act f l e =
    let p = lawful_permitted g (Does at act ∷ log) f.small.once (e, l) in
    act_linked g log at act f.whole f.small.few_ticks l p.1 (of_next g log (Does at act) f.small.few_ticks l e) (allowed_act g log (Does at act) p.0)
