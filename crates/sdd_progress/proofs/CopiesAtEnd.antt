-- Where nothing goes on and all is idle, each copy has what a serial run leaves.
use Rattle.sdd_progress.proofs.All.{AppliedBefore, AreAllApplied, Committed, D, HasSoundData, HasSoundLists, Input, IsClass, IsCommitted, IsIdle, IsModule, IsQuiet, IsSerial, IsSoundCatalogue, IsStill, List, Log, RelNo, Row, TxnNo, [], ap, applied_before, at_module, committed_in, contents, copies, copy_module, dated, dm_no, eras_of, false, has_copy, history, inr, is_down, items_of, length, local_of, pipe, refl, rows_in_fragment, run, setting_of, start_in, start_within, subst, sym, touches_some, true, ℕ, ◌∙◌, ◌≡◌}
use Rattle.sdd_progress.proofs.Applied.{all_applied}
use Rattle.sdd_progress.proofs.ErasOf.{are_eras_of}
use Rattle.sdd_progress.proofs.OwnCopies.{own_copy}
use Rattle.sdd_progress.proofs.Still.{module_up, still_of}
use Rattle.sdd_obligations.specs.links.Attempts.{changes}

-- what changes a fragment is applied at a copy whose module is up and has processed all of its class
pub applied_at : (g : Input) (log : Log) (t : Committed) (f d : ℕ) → IsSoundCatalogue g.catalogue → IsStill g log → HasSoundLists g log
    → IsCommitted (history log) t → changes t f ≡ true → has_copy g.catalogue d f ≡ true → is_down (D (dm_no d)) log ≡ false
    → ((within : IsClass g.catalogue t.start.class) → IsModule g.catalogue d → (pipe t.start.class (at_module g d log)).unprocessed ≡ [])
    → AppliedBefore (history log) t.start.txn d (length (history log))
applied_at g log t f d sound h lists c e copied up none =
    let m = copy_module g.catalogue sound d f copied in
    let x = committed_in g log t sound h.permitted c in
    let within = start_within g log (eras_of g log) t.start (are_eras_of g log lists) (start_in g log t.start sound h.permitted c.started) in
    let applied = all_applied g log t.start.class d x.later x.before x.bases x.running h sound within m up (none within m) x.is
    (inr (touches_some g log t x d (record { fragment = f; changed = e; copied = copied }))) in
    subst (λ n. AppliedBefore (history log) n d (length (history log))) x.txn_is
    (applied_before g log [] log (dm_no d) t.start.class x.running refl h.permitted applied)

-- what changes a fragment is applied at each copy
pub applied_at_copies : (g : Input) (log : Log) (f d : ℕ) → IsSoundCatalogue g.catalogue → IsQuiet g log → HasSoundLists g log → IsIdle g log
    → has_copy g.catalogue d f ≡ true → AreAllApplied (history log) f d (length (history log))
applied_at_copies g log f d sound h lists idle copied t c e =
    applied_at g log t f d sound (still_of g log h) lists c e copied (module_up g log d h (copy_module g.catalogue sound d f copied))
    (λ within m. idle.processed t.start.class d within m)

-- and each module has there what a serial run leaves
pub serial_copies : (g : Input) (rows : List (RelNo × Row)) (log : Log) (order : List TxnNo) (f d : ℕ)
    → IsSoundCatalogue g.catalogue → IsQuiet g log → HasSoundLists g log → IsIdle g log
    → HasSoundData g rows → IsSerial g.catalogue (history log) order → has_copy g.catalogue d f ≡ true
    → rows_in_fragment g.catalogue (run g.catalogue rows g.txns order).1 f ≡ items_of g.catalogue f
    (contents f (dated (setting_of g (D (dm_no d))) (local_of g (D (dm_no d)) log)))
serial_copies g rows log order f d sound h lists idle fine serial copied =
    copies g rows (eras_of g log) log order sound fine h.permitted (are_eras_of g log lists) serial f d (length (history log))
    (applied_at_copies g log f d sound h lists idle copied) ∙ ap (items_of g.catalogue f) (sym (own_copy g rows log f d sound h lists fine copied))
