-- The laws of answers and of free classes, of lawful logs at whose end an event is over.
use Rattle.sdd_progress.proofs.AllWaits.{Change, ClassNo, Cond, D, DmNo, EndsAnEvent, Hand, Input, IsAnsweredIn, IsAppliedIn, IsClassOf, IsFreeClass, IsPermitted, IsRejectedAfter, List, Log, None, Read, Site, Some, Ts, TxnNo, Use, Write, [], active, arith, false, head, home, is_met, lawful_permitted, length, list_all, local_of, pipe_at, queue, setting_of, spoiler, true, view_of, waits, ℕ, ◌++◌, ◌∷◌, ◌≡◌, ◌≤◌, ◌⊎◌}
use Rattle.sdd_progress.proofs.ClassSites.{small_homes}
use Rattle.sdd_progress.proofs.EventOver.{none_due}
use Rattle.sdd_obligations.specs.All.{takes_part}
use Rattle.sdd_obligations.specs.tm.Views as tm
use Rattle.sdd_progress.proofs.Answered as ready
use Rattle.sdd_progress.proofs.FreeClasses as free
use Rattle.sdd_progress.proofs.IdleStarts as starts
use Rattle.sdd_progress.proofs.Judged as judged

permitted_to : (g : Input) (log : Log) → EndsAnEvent g log → IsPermitted g log
permitted_to g log h = lawful_permitted g log h.once h.lawful

pub answered : (g : Input) (d : DmNo) (c : ℕ) (later log : Log) (ts : Ts) (of : ClassNo) (txn : TxnNo) (attempt : ℕ) (conds : List Cond) (uses : List Use)
    → EndsAnEvent g (later ++ log) → c ≤ length g.catalogue.classes → 1 ≤ d.0 → d.0 ≤ g.catalogue.dms
    → waits c (local_of g (D d) log) ≡ true → head (pipe_at g c d log) ≡ Some (Read ts of txn attempt conds uses)
    → list_all (is_met (view_of (setting_of g (D d)) (local_of g (D d) log))) conds ≡ true → IsAnsweredIn d c txn attempt later
answered g d c later log ts of txn attempt conds uses h l lo hi w e met =
    ready.answered g d c later log ts of txn attempt conds uses (permitted_to g (later ++ log) h) h.lawful (small_homes g h.sound) (omega arith) lo hi w e met
    (none_due g (later ++ log) h.over)

pub answered_or_rejected : (g : Input) (d : DmNo) (c : ℕ) (later log : Log) (ts : Ts) (of : ClassNo) (txn : TxnNo) (attempt : ℕ) (conds : List Cond)
    (uses : List Use)
    → EndsAnEvent g (later ++ log) → c ≤ length g.catalogue.classes → 1 ≤ d.0 → d.0 ≤ g.catalogue.dms
    → waits c (local_of g (D d) log) ≡ false → head (pipe_at g c d log) ≡ Some (Read ts of txn attempt conds uses)
    → list_all (is_met (view_of (setting_of g (D d)) (local_of g (D d) log))) conds ≡ true
    → spoiler (view_of (setting_of g (D d)) (local_of g (D d) log)) conds ≡ None
    → IsAnsweredIn d c txn attempt later ⊎ IsRejectedAfter g log d c txn attempt conds later
answered_or_rejected g d c later log ts of txn attempt conds uses h l lo hi w e met clean =
    judged.answered_or_rejected g d c later log ts of txn attempt conds uses (permitted_to g (later ++ log) h) h.lawful (small_homes g h.sound)
    (omega arith) lo hi w e met clean (none_due g (later ++ log) h.over)

pub answered_by_end : (g : Input) (i : ℕ) (d : DmNo) (from : Site) (n : ℕ) (later log : Log) (ts : Ts) (of : ClassNo)
    (txn : TxnNo) (attempt : ℕ) (conds : List Cond) (uses : List Use)
    → IsFreeClass g i → 1 ≤ d.0 → d.0 ≤ g.catalogue.dms → of.0 ≡ i
    → EndsAnEvent g (later ++ Hand from (D d) n (Read ts of txn attempt conds uses) ∷ log) → IsAnsweredIn d i txn attempt later
answered_by_end g i d from n later log ts of txn attempt conds uses f lo hi class h =
    let whole : Log = later ++ Hand from (D d) n (Read ts of txn attempt conds uses) ∷ log in
    free.answered_by_end g i d from n later log ts of txn attempt conds uses f h.sound lo hi class (permitted_to g whole h) h.lawful (none_due g whole h.over)

pub applied_by_end : (g : Input) (i : ℕ) (d : DmNo) (from : Site) (n : ℕ) (later log : Log) (ts : Ts) (of : ClassNo) (txn : TxnNo) (changes : List Change)
    → IsFreeClass g i → 1 ≤ d.0 → d.0 ≤ g.catalogue.dms → of.0 ≡ i
    → EndsAnEvent g (later ++ Hand from (D d) n (Write ts of txn changes) ∷ log) → IsAppliedIn d i txn ts later
applied_by_end g i d from n later log ts of txn changes f lo hi class h =
    let whole : Log = later ++ Hand from (D d) n (Write ts of txn changes) ∷ log in
    free.applied_by_end g i d from n later log ts of txn changes f h.sound lo hi class (permitted_to g whole h) h.lawful (none_due g whole h.over)

pub idle_starts : (g : Input) (i : ℕ) (log : Log) → EndsAnEvent g log → IsClassOf g.catalogue i → takes_part (home g.catalogue i) log ≡ true
    → tm.on_hold (tm.view_of (setting_of g (home g.catalogue i)) (local_of g (home g.catalogue i) log)) ≡ false
    → active (setting_of g (home g.catalogue i)) i (local_of g (home g.catalogue i) log) ≡ None
    → queue (setting_of g (home g.catalogue i)) i (local_of g (home g.catalogue i) log) ≡ []
idle_starts g i log h c part off idle = starts.idle_starts g i log h.sound c (none_due g log h.over) part off idle
