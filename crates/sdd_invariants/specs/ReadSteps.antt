-- What a data module does, of whatever rank, as the heads of its pipes allow it; and which record processes which
-- message.
use Rattle.std.specs.List.{list_all}
use Rattle.std.specs.Prelude.{ℕ, ◌&&◌, ◌++◌, ◌<◌, ◌==◌, ◌||◌, ◌∷◌, ◌≡◌, ◌⊎◌, Bool, List, None, Option, Some, [], false, filter, if◌then◌else◌, length, suc, true}
use Rattle.sdd_log.specs.All.{Act, Answer, Apply, Change, Cond, Did, Entry, Handed, IsDue, Msg, Null, Pass, Read, Rec, Records, Redeclared, Sends, Setting, Site, Submits, Ticked, Ts, View, Write, head, head_of, home_of, is_held, is_met, is_processing, is_wait, last_write_for, or_zero, pipe, spoils, view_of, waits}
use Rattle.sdd_log.specs.history.declared.record.Rec.TheVariants.{Reject as Rejected}
use Rattle.sdd_log.specs.site_module.SiteLog.{Log}

-- the condition that spoils a READ, if one does: the first of those that do
abbrev pub spoiler : View → List Cond → Option Cond
spoiler v conds = head_of (filter (spoils v) conds)

-- each act of the log is due
abbrev pub IsDueEach : Setting → Log → Entry → Type 0
IsDueEach s log (Did act) = IsDue (home_of s) (view_of s log) act
IsDueEach s log (Handed from m) = Unit {0}
IsDueEach s log (Ticked n) = Unit {0}
IsDueEach s log (Submits n txn) = Unit {0}
IsDueEach s log (Redeclared era t) = Unit {0}

-- A record that may process this message, by what the table says of a head: a READ is answered once all conditions are
-- met, where it waited or none spoils it, and rejected by its spoiler where it didn't wait.

abbrev pub MayRead : View → Bool → ℕ → ℕ → List Cond → Rec → Type 0
MayRead v waiting txn attempt conds (Answer t a dm) =
    (t.0 ≡ txn) × (a ≡ attempt) × (list_all (is_met v) conds ≡ true) × ((waiting ≡ true) ⊎ (spoiler v conds ≡ None))
MayRead v waiting txn attempt conds (Rejected t a dm by w) =
    (t.0 ≡ txn) × (a ≡ attempt) × (waiting ≡ false) × (d : Cond) × (spoiler v conds ≡ Some d) × (by ≡ d.class) × (w.0 ≡ or_zero (last_write_for v d))
MayRead v waiting txn attempt conds _ = ⊥

abbrev pub MayApply : View → ℕ → Ts → ℕ → ℕ → List Change → Rec → Type 0
MayApply v c ts k txn changes (Apply t j dm w) = (t.0 ≡ txn) × (w ≡ ts) × (j.0 ≡ k) × (is_held v c ts.0 changes ≡ false)
MayApply v c ts k txn changes _ = ⊥

abbrev pub MayPass : ℕ → ℕ → Rec → Type 0
MayPass k time (Pass j dm t) = (j.0 ≡ k) × (t.0 ≡ time)
MayPass k time _ = ⊥

abbrev pub May : View → ℕ → Bool → Msg → Rec → Type 0
May v c waiting (Read ts k txn attempt conds uses) r = MayRead v waiting txn.0 attempt conds r
May v c waiting (Write ts k txn changes) r = MayApply v c ts k.0 txn.0 changes r
May v c waiting (Null k time) r = MayPass k.0 time.0 r
May v c waiting _ r = ⊥

-- whether an act changes what a pipe's head is or whether it waits
abbrev pub is_moving : Act → Bool
is_moving (Records k r sends) = is_processing r || is_wait r
is_moving (Sends to m hand) = false

-- a READ with these conditions
abbrev pub IsReadWith : List Cond → Option Msg → Type 0
IsReadWith ds None = ⊥
IsReadWith ds (Some (Read ts k txn attempt conds uses)) = conds ≡ ds
IsReadWith ds (Some _) = ⊥

-- class 0 or a class of the catalogue
abbrev pub IsClassHere : Setting → ℕ → Type 0
IsClassHere s c = c < suc (length s.catalogue.classes)

-- an act of the table of D: one that leaves the pipes, a Wait of a READ that nothing spoils, or one that processes a head
pub data IsReadStep (s : Setting) (log : Log) (act : Act) : Type 0 where
  in_passing : is_moving act ≡ false → IsReadStep s log act
  by_wait : (c : ℕ) (conds : List Cond) (r : Rec) (sends : List (Site × Msg)) → IsClassHere s c → is_processing r ≡ false
      → is_wait r ≡ true → IsReadWith conds (head (pipe c log)) → spoiler (view_of s log) conds ≡ None → act ≡ Records c r sends
      → IsReadStep s log act
  by_record : (c : ℕ) (m : Msg) (r : Rec) (sends : List (Site × Msg)) → IsClassHere s c → is_processing r ≡ true
      → head (pipe c log) ≡ Some m → May (view_of s log) c (waits c log) m r → act ≡ Records c r sends → IsReadStep s log act

-- the records that processed a class's messages, oldest first
abbrev pub results : ℕ → Log → List Rec
results c [] = []
results c (Did (Records k r sends) ∷ log) = if (k == c) && is_processing r then results c log ++ r ∷ [] else results c log
results c (_ ∷ log) = results c log

-- the record of a processed message: of its transaction and attempt, or of its time

abbrev pub IsOfRead : ℕ → ℕ → Rec → Type 0
IsOfRead txn attempt (Answer t a dm) = (t.0 ≡ txn) × (a ≡ attempt)
IsOfRead txn attempt (Rejected t a dm by w) = (t.0 ≡ txn) × (a ≡ attempt)
IsOfRead txn attempt _ = ⊥

abbrev pub IsOfWrite : Ts → ℕ → ℕ → Rec → Type 0
IsOfWrite ts k txn (Apply t j dm w) = (t.0 ≡ txn) × (w ≡ ts) × (j.0 ≡ k)
IsOfWrite ts k txn _ = ⊥

abbrev pub IsOf : Rec → Msg → Type 0
IsOf r (Read ts k txn attempt conds uses) = IsOfRead txn.0 attempt r
IsOf r (Write ts k txn changes) = IsOfWrite ts k.0 txn.0 r
IsOf r (Null k time) = MayPass k.0 time.0 r
IsOf r _ = ⊥
