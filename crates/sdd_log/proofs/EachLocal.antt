-- What holds of each entry of a site's log, wherever it may come, holds of the log that a permitted log gives the site.
use Rattle.sdd_log.proofs.All.{Act, AreSubmittedOnce, Bool, Did, Does, Each, Entry, Era, Event, Hand, Handed, Input, IsAllowed, IsDueAt, IsLawful, IsPermitted, Log, Mark, Msg, None, Notes, Option, Redeclared, Redeclares, Site, Some, Submits, Submitted, T, Tick, Ticked, Txn, [], arith, beginning, due_by, false, if◌then◌else◌, local_of, mark_due, note_if, nth_era, redeclares, same_is, same_site, subst, suc, sym, true, txn_at, with_era, with_submit, ℕ, ◌∷◌, ◌≡◌}
use Rattle.sdd_log.proofs.NewMarks.{lawful_permitted}
use Rattle.sdd_rules.specs.site_module.SiteLog as site

-- a mark makes due only a Submit or a Nothing
abbrev is_note : Entry → Bool
is_note (Submitted at n) = true
is_note Notes = true
is_note _ = false

abbrev AreNotes : Option Entry → Type 0
AreNotes None = Unit {0}
AreNotes (Some x) = is_note x ≡ true

note_noted : (b : Bool) → AreNotes (note_if b)
note_noted b = grind arith

due_by_noted : (g : Input) (e : Event) (log : Log) → AreNotes (due_by g e log)
due_by_noted g e log = grind (arith, note_noted)

mark_noted : (g : Input) (log : Log) → AreNotes (mark_due g log)
mark_noted g log = grind (arith, due_by_noted)

is_noted : (o : Option Entry) (e : Entry) → AreNotes o → o ≡ Some e → is_note e ≡ true
is_noted o e h p = grind (arith, is_note)

-- an act that is allowed is due
abbrev IsDueEntry : Input → Log → Entry → Type 0
IsDueEntry g log (Does at act) = IsDueAt g log at act
IsDueEntry g log _ = Unit {0}

not_act : (g : Input) (log : Log) (e : Entry) → is_note e ≡ true → IsDueEntry g log e
not_act g log e h = grind arith

pub allowed_act : (g : Input) (log : Log) (e : Entry) → IsAllowed g log e → IsDueEntry g log e
allowed_act g log e h4 = grind (arith, not_act, is_noted, mark_noted)

-- What is to be shown of a statement on the log of a site and the entry after it: that it holds of each message that may
-- be handed to the site, of each tick, of each transaction that may be given to it, of each class list, and of
-- each act that is due, where it holds of all entries before.
pub record HoldsOfEach (g : Input) (at : Site) (P : site.Log → site.Entry → Type 0) : Type 0 where
  pub handed : (log : Log) → IsPermitted g log → (from : Site) (n : ℕ) (m : Msg) → IsAllowed g log (Hand from at n m) → Each P (local_of g at log)
      → P (local_of g at log) (Handed from m)
  pub ticked : (log : Log) → IsPermitted g log → (n : ℕ) → Each P (local_of g at log) → P (local_of g at log) (Ticked n)
  pub submits : (log : Log) → IsPermitted g log → (n : ℕ) (t : Txn) → IsAllowed g log (Submitted at n) → txn_at g n ≡ Some t
      → Each P (local_of g at log) → P (local_of g at log) (Submits n t)
  pub redeclared : (l : site.Log) (k t : ℕ) → Each P l → P l (Redeclared (nth_era g k) t)
  pub did : (log : Log) (act : Act) → IsPermitted g log → IsDueAt g log at act → Each P (local_of g at log) → P (local_of g at log) (Did act)

each_if : (P : site.Log → site.Entry → Type 0) (b : Bool) (k l : site.Log) → (b ≡ true → Each P k) → Each P l → Each P (if b then k else l)
each_if P b k l f h = grind arith

each_submit : (P : site.Log → site.Entry → Type 0) (n : ℕ) (o : Option Txn) (l : site.Log) → ((t : Txn) → o ≡ Some t → P l (Submits n t)) → Each P l
    → Each P (with_submit n o l)
each_submit P n o l f h = grind arith

each_beginning : (g : Input) (at : Site) (P : site.Log → site.Entry → Type 0)
    → ((l : site.Log) (k t : ℕ) → Each P l → P l (Redeclared (nth_era g k) t)) → Each P (beginning g at)
each_beginning g at P f = grind arith

every_era : (at : Site) (P : site.Log → site.Entry → Type 0) (era : Era) (t : ℕ) (l : site.Log) → P l (Redeclared era t) → Each P l
    → Each P (with_era at era t l)
every_era at P era t l f h = grind arith

pub each_local : (g : Input) (at : Site) (P : site.Log → site.Entry → Type 0) → HoldsOfEach g at P → (log : Log) → IsPermitted g log
    → Each P (local_of g at log)
each_local g at P c [] h = each_beginning g at P c.redeclared
each_local g at P c (Mark (Tick t n) ∷ log) h =
    let i = each_local g at P c log h.1 in
    each_if P (same_site at (T t)) (Ticked n ∷ local_of g at log) (local_of g at log) (λ e. (c.ticked log h.1 n i, i)) i
each_local g at P c (Redeclares t ∷ log) h =
    let i = each_local g at P c log h.1 in
    every_era at P (nth_era g (suc (redeclares log))) t (local_of g at log) (c.redeclared (local_of g at log) (suc (redeclares log)) t i) i
each_local g at P c (Submitted to n ∷ log) h =
    let i = each_local g at P c log h.1 in
    each_if P (same_site at to) (with_submit n (txn_at g n) (local_of g at log)) (local_of g at log)
    (grind (arith, each_submit, txn_at, local_of, same_is)) i
each_local g at P c (Hand from to n m ∷ log) h =
    let i = each_local g at P c log h.1 in
    each_if P (same_site at to) (Handed from m ∷ local_of g at log) (local_of g at log)
    (λ e. (c.handed log h.1 from n m (subst (λ x. IsAllowed g log (Hand from x n m)) (sym (same_is at to e)) h.0) i, i)) i
each_local g at P c (Does by act ∷ log) h =
    let i = each_local g at P c log h.1 in
    each_if P (same_site at by) (Did act ∷ local_of g at log) (local_of g at log)
    (λ e. (c.did log act h.1 (subst (λ s. IsDueAt g log s act) (sym (same_is at by e)) (allowed_act g log (Does by act) h.0)) i, i)) i
each_local g at P c (_ ∷ log) h = each_local g at P c log h.1

-- and so of the log that a lawful log gives the site
pub each_of_lawful : (g : Input) (at : Site) (P : site.Log → site.Entry → Type 0) → HoldsOfEach g at P → AreSubmittedOnce g.events → (log : Log)
    → IsLawful g log → Each P (local_of g at log)
each_of_lawful g at P c once log h = each_local g at P c log (lawful_permitted g log once h)
