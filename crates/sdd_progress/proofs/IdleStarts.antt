-- Where nothing is due at a transaction module that takes part and isn't on hold, an idle class has no queue.
use Rattle.std.proofs.Common.{arith}
use Rattle.sdd_progress.proofs.AllWaits.{Bases, Input, IsClassOf, IsSoundCatalogue, None, Setting, Some, T, TmNo, [], active, at_map, base_of, class_at, exchange_due, false, first_some, head_of, held_due, home, local_of, neither_some, null_due, on_hold, queue, runs, setting_of, site_due, slice_get, start_due, start_of, subst, sym, tm_no, true, ℕ, ◌≡◌}
use Rattle.sdd_progress.proofs.EventOver.{none_at_txn}
use Rattle.sdd_progress.proofs.StuckHeads.{none_at}
use Rattle.sdd_progress.proofs.ClassSites.{class_served, home_of_class, in_runs}
use Rattle.sdd_obligations.specs.All.{takes_part}
use Rattle.sdd_obligations.specs.invariants.All.{class_view}
use Rattle.sdd_obligations.specs.site_module.SiteLog.{Log}
use Rattle.sdd_obligations.specs.tm.Due.{due}
use Rattle.sdd_obligations.specs.tm.Views.{View, view_of}
use Rattle.sdd_obligations.specs.logs.Entries as all

pub no_queue : (s : Setting) (bases : Bases) (log : Log) (c j : ℕ) → slice_get (runs s) j ≡ Some c
    → due s.catalogue bases (view_of s log) ≡ None → on_hold (view_of s log) ≡ false → active s c log ≡ None → queue s c log ≡ []
no_queue s bases log c j there e off idle =
    let v : View = view_of s log in
    let helds = (neither_some (first_some (null_due v) v.classes) _ ((neither_some (first_some (exchange_due s.catalogue bases) v.classes) _ e).1)).1 in
    let starts = (neither_some (held_due v) (first_some (start_due s.catalogue v) v.classes) helds).1 in
    let here : start_due s.catalogue v (class_view s log c) ≡ None = none_at (start_due s.catalogue v) v.classes j (class_view s log c) starts
    (at_map (class_view s log) (runs s) j c there) in
    let opened : start_of s.catalogue v c (head_of (queue s c log)) ≡ None = rw (off, idle) at here in
    (grind arith)

pub idle_starts : (g : Input) (i : ℕ) (log : all.Log) → IsSoundCatalogue g.catalogue → IsClassOf g.catalogue i → site_due g log ≡ None
    → takes_part (home g.catalogue i) log ≡ true
    → on_hold (view_of (setting_of g (home g.catalogue i)) (local_of g (home g.catalogue i) log)) ≡ false
    → active (setting_of g (home g.catalogue i)) i (local_of g (home g.catalogue i) log) ≡ None
    → queue (setting_of g (home g.catalogue i)) i (local_of g (home g.catalogue i) log) ≡ []
idle_starts g i log sound c none part off idle =
    let t : TmNo = tm_no (class_at g.catalogue i).tm.0 in
    let here : home g.catalogue i ≡ T t = home_of_class g.catalogue i c in
    let served = class_served g.catalogue i sound c in
    let j = in_runs g i c in
    subst (λ at. queue (setting_of g at) i (local_of g at log) ≡ []) (sym here)
    (no_queue (setting_of g (T t)) (base_of g log) (local_of g (T t) log) i j.0 j.1
    (none_at_txn g log t served.module_from served.module_to (subst (λ at. takes_part at log ≡ true) here part) none)
    (subst (λ at. on_hold (view_of (setting_of g at) (local_of g at log)) ≡ false) here off)
    (subst (λ at. active (setting_of g at) i (local_of g at log) ≡ None) here idle))
