-- From its `down` to its `up` nothing is handed to a module and it does nothing: the log of a data module stays as it is,
-- and what is submitted to a transaction module waits there.
use Rattle.sdd_progress.proofs.AllEnds.{Act, Bool, D, Does, Entry, Event, Hand, Input, IsLawful, List, Log, Mark, None, Notes, Option, Redeclare, Redeclares, Round, Settle, Site, Some, T, U, [], all_links, ap, arith, calls_of, delivered, does_at, false, found_at, hand_due, hand_on, handed, if◌then◌else◌, left, link_of, local_of, mark_due, mark_from, mark_of, next, next_at, next_mark_is, one_of, quiet, refl, round, same_here, same_is, same_site, site_due, sites, subst, suc, sym, true, ℕ, ◌++◌, ◌∙◌, ◌∷◌, ◌≡◌}
use Rattle.sdd_obligations.specs.All.{Catalogue, Deliver, DmNo, Down, Lose, Repeat, Resend, Submit, Submitted, Tick, TmNo, Txn, Up, due_by, greatest_bound, hand_number, is_down, next_number, note_if, nth_era, redeclares, takes_part, txn_at, with_submit}
use Rattle.sdd_obligations.specs.logs.Due.{home_of}
use Rattle.sdd_obligations.specs.logs.Traffic.{turned_by}
use Rattle.sdd_obligations.specs.site_module.SiteLog as site
use Rattle.sdd_obligations.proofs.logs.Steps.{idle_down}
use Rattle.sdd_progress.specs.Down.{brings_up, takes_part_by}
use Rattle.std.specs.List.{list_any}
use Rattle.std.proofs.lemmas.Bool.{or_parts as neither}

-- what a next entry shows: to whom messages are handed, that transactions are given to no data module, and that acts are due
abbrev Shows : Input → Log → Entry → Type 0
Shows g log (Hand a b n m) = takes_part b log ≡ true
Shows g log (Submitted at n) = (d : DmNo) → same_site (D d) at ≡ false
Shows g log (Does at act) = next_at g log at ≡ Some act
Shows g log _ = Unit {0}

no_data_home : (cat : Catalogue) (o : Option Txn) (d : DmNo) → same_site (D d) (home_of cat o) ≡ false
no_data_home cat None d = refl
no_data_home cat (Some txn) d = grind arith

note_shows : (g : Input) (log : Log) (b : Bool) (e : Entry) → note_if b ≡ Some e → Shows g log e
note_shows g log b e p = grind arith

due_shows : (g : Input) (log before : Log) (x : Event) (e : Entry) → due_by g x before ≡ Some e → Shows g log e
due_shows g log before (Submit n) e p =
    let s : Submitted (home_of (nth_era g (redeclares before)).catalogue (txn_at g n.0)) n.0 ≡ e = cc in
    subst (Shows g log) s (no_data_home (nth_era g (redeclares before)).catalogue (txn_at g n.0))
due_shows g log before (Deliver a b k) e p = note_shows g log _ e p
due_shows g log before (Lose a b k) e p = note_shows g log _ e p
due_shows g log before (Repeat a b k) e p = note_shows g log _ e p
due_shows g log before (Resend a b) e p = note_shows g log _ e p
due_shows g log before (Down m) e p = note_shows g log _ e p
due_shows g log before (Up m) e p = note_shows g log _ e p
due_shows g log before (_) e p = absurd cc

mark_due_shows : (g : Input) (log : Log) (e : Entry) → mark_due g log ≡ Some e → Shows g log e
mark_due_shows g (Mark x ∷ log) e p = due_shows g (Mark x ∷ log) log x e p
mark_due_shows g _ e p = absurd cc

site_shows : (g : Input) (log : Log) (at : Site) (o : Option Act) (e : Entry) → next_at g log at ≡ o → does_at at o ≡ Some e → Shows g log e
site_shows g log at o e p q = grind arith

hand_shows : (g : Input) (log : Log) (a b : Site) (c : Bool) (o : Option ℕ) (e : Entry) → takes_part b log ≡ c
    → (if c then hand_number log (a, b) o else None) ≡ Some e → Shows g log e
hand_shows g log a b c o e p q = grind arith

event_shows : (g : Input) (log : Log) (x : Event) (e : Entry) → Some (Mark x) ≡ Some e → Shows g log e
event_shows g log x e p = let s : Mark x ≡ e = cc in subst (Shows g log) s tt

from_shows : (g : Input) (log : Log) (q : Bool) (r ws : List Event) (e : Entry) → mark_from g log q r ws ≡ Some e → Shows g log e
from_shows g log q r [] e h = absurd cc
from_shows g log true r (Settle ∷ ws) e h = from_shows g log true r ws e h
from_shows g log true r (Redeclare ∷ ws) e h = let s : Redeclares (greatest_bound g log) ≡ e = cc in subst (Shows g log) s tt
from_shows g log q r (Submit n ∷ ws) e h = event_shows g log (Submit n) e h
from_shows g log q r (Deliver a b k ∷ ws) e h = event_shows g log (Deliver a b k) e h
from_shows g log q r (Lose a b k ∷ ws) e h = event_shows g log (Lose a b k) e h
from_shows g log q r (Repeat a b k ∷ ws) e h = event_shows g log (Repeat a b k) e h
from_shows g log q r (Resend a b ∷ ws) e h = event_shows g log (Resend a b) e h
from_shows g log q r (Tick t n ∷ ws) e h = event_shows g log (Tick t n) e h
from_shows g log q r (Down m ∷ ws) e h = event_shows g log (Down m) e h
from_shows g log q r (Up m ∷ ws) e h = event_shows g log (Up m) e h
from_shows g log false r (_ ∷ ws) e h = let s : Round r ≡ e = cc in subst (Shows g log) s tt

mark_shows : (g : Input) (log : Log) (s : List Event × List Event) (e : Entry) → mark_of g log s ≡ Some e → Shows g log e
mark_shows g log (ws, []) e h = from_shows g log (quiet (all_links g) (calls_of log)) (round (all_links g) (calls_of log)) ws e h
mark_shows g log (ws, x ∷ r) e h = event_shows g log x e h

next_shows : (g : Input) (log : Log) (e : Entry) → next g log ≡ Some e → Shows g log e
next_shows g log e h =
    one_of (Shows g log e) (mark_due g log) _ e (mark_due_shows g log e)
    (one_of (Shows g log e) (site_due g log) _ e
    (λ p. let r = found_at (λ at. does_at at (next_at g log at)) (sites g.catalogue.tms g.catalogue.dms) e p in
    site_shows g log r.1 (next_at g log r.1) e refl r.3)
    (one_of (Shows g log e) (hand_due g log) _ e
    (λ p. let r = found_at (hand_on log) (all_links g) e p in
    hand_shows g log r.1.0 r.1.1 (takes_part r.1.1 log)
    (next_number (handed r.1.0 r.1.1 log) (delivered (link_of r.1.0 r.1.1 log).there)) e refl r.3)
    (λ p. mark_shows g log (left g.events log) e (sym (next_mark_is g log) ∙ p)))) h

-- one entry after another

other_way : (P : site.Log → Type 0) (b : Bool) (x y : site.Log) → b ≡ false → P y → P (if b then x else y)
other_way P b x y e p = grind arith

turned : (at : Site) (e : Event) (log : Log) → brings_up at (Mark e) ≡ false → is_down at log ≡ true → turned_by at e (is_down at log) ≡ true
turned at (Down m) log n down = elim (same_site m at) as (λ c. (if c then true else is_down at log) ≡ true) [ true ↦ refl | false ↦ down ]
turned at (Up m) log n down = ap (λ c. if c then false else is_down at log) n ∙ down
turned at _ log n down = down

-- a module that is down stays so until it is brought up
down_on : (at : Site) (e : Entry) (log : Log) → brings_up at e ≡ false → is_down at log ≡ true → is_down at (e ∷ log) ≡ true
down_on at (Mark e) log n down = turned at e log n down
down_on at _ log n down = down

-- nothing is handed to it and it does nothing

module _ (g : Input) (at : Site) (not_u : same_site at U ≡ false) where
  no_part : (log : Log) → is_down at log ≡ true → takes_part at log ≡ false
  no_part log down = rw (not_u, down) refl

  to_other : (log : Log) (b : Site) → takes_part b log ≡ true → is_down at log ≡ true → same_site at b ≡ false
  to_other log b part down = elim (same_site at b) as (λ c. same_site at b ≡ c → c ≡ false) [
    | true ↦ λ e. let here : takes_part at log ≡ true = subst (λ x. takes_part x log ≡ true) (sym (same_is at b e)) part in sym here ∙ no_part log down
    | false ↦ λ e. refl
  ] refl

  by_other : (log : Log) (b : Site) (act : Act) → next_at g log b ≡ Some act → is_down at log ≡ true → same_site at b ≡ false
  by_other log b act due down = elim (same_site at b) as (λ c. same_site at b ≡ c → c ≡ false) [
    | true ↦ λ e. (let here : next_at g log at ≡ Some act = subst (λ x. next_at g log x ≡ Some act) (sym (same_is at b e)) due in
        let none = idle_down g log at (no_part log down) in cc)
    | false ↦ λ e. refl
  ] refl

-- so the log of a data module stays

pub still_by_entry : (g : Input) (d : DmNo) (e : Entry) (log : Log) → next g log ≡ Some e → brings_up (D d) e ≡ false → is_down (D d) log ≡ true
    → local_of g (D d) (e ∷ log) ≡ local_of g (D d) log
still_by_entry g d (Mark e) log due up down = grind arith
still_by_entry g d (Redeclares t) log due up down = refl
still_by_entry g d (Round es) log due up down = refl
still_by_entry g d Notes log due up down = refl
still_by_entry g d (Hand a b n m) log due up down =
    other_way (λ x. x ≡ local_of g (D d) log) (same_site (D d) b) _ _ (to_other g (D d) refl log b (next_shows g log (Hand a b n m) due) down) refl
still_by_entry g d (Submitted at n) log due up down =
    other_way (λ x. x ≡ local_of g (D d) log) (same_site (D d) at) _ _ (next_shows g log (Submitted at n) due d) refl
still_by_entry g d (Does at act) log due up down =
    other_way (λ x. x ≡ local_of g (D d) log) (same_site (D d) at) _ _ (by_other g (D d) refl log at act (next_shows g log (Does at act) due) down) refl

still_from : (g : Input) (d : DmNo) (later before : Log) → IsLawful g (later ++ before) → list_any (brings_up (D d)) later ≡ false → is_down (D d) before ≡ true
    → (local_of g (D d) (later ++ before) ≡ local_of g (D d) before) × (is_down (D d) (later ++ before) ≡ true)
still_from g d [] before lawful up down = (refl, down)
still_from g d (e ∷ later) before lawful up down =
    let n = neither (brings_up (D d) e) (list_any (brings_up (D d)) later) up in
    let i = still_from g d later before lawful.1 n.1 down in
    (still_by_entry g d e (later ++ before) lawful.0 n.0 i.1 ∙ i.0, down_on (D d) e (later ++ before) n.0 i.1)

goes_down : (at : Site) (before : Log) → is_down at (Mark (Down at) ∷ before) ≡ true
goes_down at before = rw (same_here at) refl

pub still_while_down : (g : Input) (d : DmNo) (later before : Log) → IsLawful g (later ++ Mark (Down (D d)) ∷ before) → list_any (brings_up (D d)) later ≡ false
    → local_of g (D d) (later ++ Mark (Down (D d)) ∷ before) ≡ local_of g (D d) before
still_while_down g d later before lawful up = (still_from g d later (Mark (Down (D d)) ∷ before) lawful up (goes_down (D d) before)).0

-- and that of a transaction module gets nothing but what is submitted, ticks and class lists

abbrev pub OnlyWaits : site.Log → site.Log → Type 0
OnlyWaits new old = (more : site.Log) × (new ≡ more ++ old) × (list_any takes_part_by more ≡ false)

waits_more : (x : site.Entry) (new old : site.Log) → takes_part_by x ≡ false → OnlyWaits new old → OnlyWaits (x ∷ new) old
waits_more x new old n h = (x ∷ h.0, ap (λ l. x ∷ l) h.1, rw n h.2)

waits_if : (b : Bool) (x : site.Entry) (new old : site.Log) → takes_part_by x ≡ false → OnlyWaits new old → OnlyWaits (if b then x ∷ new else new) old
waits_if true x new old n h = waits_more x new old n h
waits_if false x new old n h = h

submits_if : (b : Bool) (n : ℕ) (o : Option Txn) (new old : site.Log) → OnlyWaits new old → OnlyWaits (if b then with_submit n o new else new) old
submits_if true n (Some txn) new old h = waits_more (site.Submits n txn) new old refl h
submits_if true n None new old h = h
submits_if false n o new old h = h

module _ (g : Input) (t : TmNo) (old : site.Log) where
  waits_marked : (e : Event) (log : Log) → OnlyWaits (local_of g (T t) log) old → OnlyWaits (local_of g (T t) (Mark e ∷ log)) old
  waits_marked (Tick at n) log h = waits_if (same_site (T t) (T at)) (site.Ticked n) (local_of g (T t) log) old refl h
  waits_marked _ log h = h

  pub waits_by_entry : (e : Entry) (log : Log) → next g log ≡ Some e → is_down (T t) log ≡ true → OnlyWaits (local_of g (T t) log) old
      → OnlyWaits (local_of g (T t) (e ∷ log)) old
  waits_by_entry (Mark e) log due down h = waits_marked e log h
  waits_by_entry (Redeclares time) log due down h = waits_more (site.Redeclared (nth_era g (suc (redeclares log))) time) (local_of g (T t) log) old refl h
  waits_by_entry (Submitted at n) log due down h = submits_if (same_site (T t) at) n (txn_at g n) (local_of g (T t) log) old h
  waits_by_entry (Hand a b n m) log due down h =
      other_way (λ x. OnlyWaits x old) (same_site (T t) b) _ _ (to_other g (T t) refl log b (next_shows g log (Hand a b n m) due) down) h
  waits_by_entry (Does at act) log due down h =
      other_way (λ x. OnlyWaits x old) (same_site (T t) at) _ _ (by_other g (T t) refl log at act (next_shows g log (Does at act) due) down) h
  waits_by_entry _ log due down h = h

  waits_from : (later before : Log) → IsLawful g (later ++ before) → list_any (brings_up (T t)) later ≡ false → is_down (T t) before ≡ true
      → OnlyWaits (local_of g (T t) before) old → OnlyWaits (local_of g (T t) (later ++ before)) old × (is_down (T t) (later ++ before) ≡ true)
  waits_from [] before lawful up down h = (h, down)
  waits_from (e ∷ later) before lawful up down h =
      let n = neither (brings_up (T t) e) (list_any (brings_up (T t)) later) up in
      let i = waits_from later before lawful.1 n.1 down h in
      (waits_by_entry e (later ++ before) lawful.0 i.1 i.0, down_on (T t) e (later ++ before) n.0 i.1)

pub waits_while_down : (g : Input) (t : TmNo) (later before : Log) → IsLawful g (later ++ Mark (Down (T t)) ∷ before) → list_any (brings_up (T t)) later ≡ false
    → OnlyWaits (local_of g (T t) (later ++ Mark (Down (T t)) ∷ before)) (local_of g (T t) before)
waits_while_down g t later before lawful up =
    (waits_from g t (local_of g (T t) before) later (Mark (Down (T t)) ∷ before) lawful up (goes_down (T t) before) ([], refl, refl)).0
