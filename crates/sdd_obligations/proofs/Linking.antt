-- What an act sends goes along links of the network.
use Rattle.sdd_obligations.proofs.All.{Act, All, All-head, All-tail, AllFewTicks, AllLinked, Attempt, Bases, Bool, Change, Class, ClassView, Cond, D, DmNo, Does, Hand, Home, Input, IsDueAt, IsLawful, IsPermitted, IsServedClass, IsWhole, List, Log, Msg, None, Open, Option, Queued, Read, Sends, Setting, Site, Some, T, TmNo, U, View, Waits, WasAsked, [], active, are_linked, arith, attempt_due, base_of, both, commit_act, counts_tm, dm_no, effect, false, filter, first_send, first_there, head, head_of, home_of, if◌then◌else◌, in_filtered, in_mapped, in_range, is_asked_of, is_link, is_over, is_site, link_back, local_of, map, modules_asked, nat_le, numbers_to, opens, or_else, place_of_hand, queue, refl, sends_of_act, setting_of, sites, slice_get, slice_index_or, start_at, start_read, subst, suc, sym, t_fair, tm_no, true, u_fair, view_of, was_handed, write_to, zero, ℕ, ◌++◌, ◌∷◌, ◌≡◌}
use Rattle.sdd_obligations.proofs.SitesAndLinks.{d_of_sites, link_of_links, t_of_sites}
use Rattle.sdd_needs.proofs.OfNext.{IsThere, OfNext, of_next}
use Rattle.sdd_obligations.proofs.Going.{in_made, was_asked_of}
use Rattle.sdd_obligations.proofs.Near.{AllNear, HasNear, IsNear, SendsNear, active_near, modules_near}
use Rattle.sdd_obligations.proofs.Submitting.{le_true}
use Rattle.sdd_needs.specs.site_rules.declared.step.Step.{Step}
use Rattle.sdd_invariants.specs.dm.Due as dm
use Rattle.sdd_invariants.specs.tm.Due as tm
use Rattle.sdd_invariants.specs.tm.Views as tm_views
use Rattle.sdd_invariants.specs.umod.Due as um
use Rattle.sdd_invariants.specs.umod.Views as um_views
use Rattle.sdd_invariants.specs.site_module.SiteLog as site

-- the ends of links

abbrev Links : Input → Site → Site → Type 0
Links g a b = is_link g.catalogue.tms g.catalogue.dms a b ≡ true

abbrev Here : Input → Site → Type 0
Here g a = is_site g.catalogue.tms g.catalogue.dms a ≡ true

link_of : (g : Input) (a b : Site) → Here g a → Here g b → are_linked a b ≡ true → Links g a b
link_of g a b h i j = rw (h, i, j) refl

-- what all sends of an act are

all_linked : (g : Input) (at : Site) (ps : List (Site × Msg)) → ((k : ℕ) (p : Site × Msg) → slice_get ps k ≡ Some p → Links g at p.0) → AllLinked g at ps
all_linked g at [] f = tt
all_linked g at (p ∷ ps) f = (f 0 p refl, all_linked g at ps (λ k q e. f (suc k) q e))

abbrev ActLinked : Input → Site → Act → Type 0
ActLinked g at act = AllLinked g at (sends_of_act act)

linked_some : (g : Input) (at : Site) (x a : Act) → ActLinked g at x → Some x ≡ Some a → ActLinked g at a
linked_some g at x a h e = let p : x ≡ a = cc in subst (ActLinked g at) p h

one_linked : (g : Input) (at to : Site) (m : Msg) (hand : Option ℕ) → Links g at to → ActLinked g at (Sends to m hand)
one_linked g at to m hand l = (l, tt)

-- a site that a message was handed from is linked
pub lawful_part : (g : Input) (later log : Log) → IsLawful g (later ++ log) → IsLawful g log
lawful_part g [] log h = h
lawful_part g (e ∷ later) log h = lawful_part g later log h.1

asked_linked : (g : Input) (at : Site) (log : Log) (b : Site) (P : Msg → Type 0) → AllFewTicks g.events → IsLawful g log
    → WasAsked (local_of g at log) b P → Links g at b
asked_linked g at log b P f h w =
    let l = place_of_hand g at log w.later b w.asked w.before w.is in
    let p = lawful_part g l.later (Hand b at l.number w.asked ∷ l.rest) (subst (IsLawful g) l.is h) in
    let k = of_next g l.rest (Hand b at l.number w.asked) f p.1 p.0 in
    link_back g.catalogue.tms g.catalogue.dms b at (link_of_links g.catalogue.tms g.catalogue.dms b at k)

-- of a site that runs transactions

abbrev ToModules : Input → Site → Type 0
ToModules g at = (d : ℕ) → IsNear g.catalogue.dms d → Links g at (D (dm_no d))

near_at : (n : ℕ) (ds : List ℕ) (k d : ℕ) → AllNear n ds → slice_get ds k ≡ Some d → IsNear n d
near_at n [] k d h e = cc
near_at n (x ∷ ds) zero d h e = let p : x ≡ d = cc in subst (IsNear n) p h.0
near_at n (x ∷ ds) (suc k) d h e = near_at n ds k d h.1 e

start_linked : (g : Input) (at : Site) (c : ℕ) (log : site.Log) (q : Queued) → IsWhole g.catalogue → ToModules g at
    → ActLinked g at (start_at (setting_of g at) c log q)
start_linked g at c log q w f =
    all_linked g at (sends_of_act (start_at (setting_of g at) c log q)) (grind (arith, in_mapped, dm_no, start_read, setting_of, modules_asked, Links, near_at, modules_near))

commit_linked : (g : Input) (at : Site) (c : ℕ) (bases : Bases) (a : Attempt) → ToModules g at → ActLinked g at (commit_act g.catalogue bases c a)
commit_linked g at c bases a f =
    let xs : List Change = (effect g.catalogue (bases a.ts) a.text).changes in
    all_linked g at (sends_of_act (commit_act g.catalogue bases c a)) (grind (arith, in_made, write_to, numbers_to, in_range))

over_linked : (g : Input) (at : Site) (c : ℕ) (bases : Bases) (a : Attempt) (b : Bool) (act : Act) → ToModules g at
    → (if b then Some (commit_act g.catalogue bases c a) else None) ≡ Some act → ActLinked g at act
over_linked g at c bases a true act f e = linked_some g at (commit_act g.catalogue bases c a) act (commit_linked g at c bases a f) e
over_linked g at c bases a false act f e = cc

send_linked : (g : Input) (at : Site) (c : ℕ) (bases : Bases) (a : Attempt) (ms : List (ℕ × Msg)) (act : Act) → ToModules g at → SendsNear g.catalogue.dms ms
    → or_else (first_send ms) (if is_over a.exchange.phase then Some (commit_act g.catalogue bases c a) else None) ≡ Some act → ActLinked g at act
send_linked g at c bases a [] act f h e = over_linked g at c bases a (is_over a.exchange.phase) act f e
send_linked g at c bases a (m ∷ rest) act f h e = linked_some g at (Sends (D (dm_no m.0)) m.1 None) act (one_linked g at (D (dm_no m.0)) m.1 None (f m.0 h.0)) e

attempt_linked : (g : Input) (at : Site) (c : ℕ) (bases : Bases) (log : site.Log) (o : Option Attempt) (act : Act) → ToModules g at
    → HasNear g.catalogue.dms o → attempt_due g.catalogue bases c o ≡ Some act → ActLinked g at act
attempt_linked g at c bases log None act f h e = cc
attempt_linked g at c bases log (Some a) act f h e = send_linked g at c bases a a.exchange.to_send act f h.sends e

-- at a T

held_linked : (g : Input) (at : Site) (b : Bool) (m : Msg) (hand : Option ℕ) (act : Act) → Links g at U
    → (if b then Some (Sends U m hand) else None) ≡ Some act → ActLinked g at act
held_linked g at b m hand act l e = grind (arith, linked_some, one_linked)

begin_linked : (g : Input) (t : TmNo) (log : site.Log) (b : Bool) (c : ℕ) (o : Option Queued) (act : Act) → IsWhole g.catalogue → ToModules g (T t)
    → (if b then tm.start_of g.catalogue (tm_views.view_of (setting_of g (T t)) log) c o else None) ≡ Some act → ActLinked g (T t) act
begin_linked g t log true c (Some q) act w f e = linked_some g (T t) (start_at (setting_of g (T t)) c log q) act (start_linked g (T t) c log q w f) e
begin_linked g t log _ c _ act w f e = cc

t_linked : (g : Input) (t : TmNo) (log : Log) (bases : Bases) (act : Act) → IsWhole g.catalogue → AllFewTicks g.events → IsLawful g log
    → IsPermitted g log → Here g (T t) → tm.IsDue g.catalogue bases (tm_views.view_of (setting_of g (T t)) (local_of g (T t) log)) act → ActLinked g (T t) act
t_linked g t log bases act w f h p here (tm.by_exchange k c i e) =
    let s : Setting = setting_of g (T t) in let l : site.Log = local_of g (T t) log in
    let r = in_mapped (tm_views.class_view s l) (tm_views.runs s) k c i in
    attempt_linked g (T t) r.0 bases l (active s r.0 l) act (λ d n. link_of g (T t) (D (dm_no d)) here
    (both (nat_le 1 d) (nat_le d g.catalogue.dms) (le_true 1 d n.0) (le_true d g.catalogue.dms n.1)) refl)
    (active_near s r.0 l w (t_fair g t log p)) (subst (λ v. tm.exchange_due g.catalogue bases v ≡ Some act) (sym r.2) e)
t_linked g t log bases act w f h p here (tm.by_ask k n c q i r e) = grind (arith, linked_some, one_linked, asked_linked, was_asked_of)
t_linked g t log bases act w f h p here (tm.by_hold e) = held_linked g (T t) _ _ _ act (link_of g (T t) U here refl refl) e
t_linked g t log bases act w f h p here (tm.by_start k c i e) =
    begin_linked g t (local_of g (T t) log) _ c.class (head_of c.queue) act w
    (λ d n. link_of g (T t) (D (dm_no d)) here
    (both (nat_le 1 d) (nat_le d g.catalogue.dms) (le_true 1 d n.0) (le_true d g.catalogue.dms n.1)) refl) e

-- at U

tm_linked : (g : Input) (b : Bool) (t : ℕ) (m : Msg) (act : Act) → Links g U (T (tm_no t))
    → (if b then Some (Sends (T (tm_no t)) m None) else None) ≡ Some act → ActLinked g U act
tm_linked g b t m act l e = grind (arith, linked_some, one_linked)

u_start_linked : (g : Input) (log : site.Log) (b : Bool) (q : Queued) (act : Act) → IsWhole g.catalogue → ToModules g U
    → (if b then Some (start_at (setting_of g U) 0 log q) else None) ≡ Some act → ActLinked g U act
u_start_linked g log true q act w f e = linked_some g U (start_at (setting_of g U) 0 log q) act (start_linked g U 0 log q w f) e
u_start_linked g log false q act w f e = cc

u_begin_linked : (g : Input) (log : site.Log) (o : Option Queued) (act : Act) → IsWhole g.catalogue → ToModules g U
    → um.start_of g.catalogue (um_views.view_of (setting_of g U) log) o ≡ Some act → ActLinked g U act
u_begin_linked g log None act w f e = cc
u_begin_linked g log (Some q) act w f e = u_start_linked g log _ q act w f e

count_linked : (g : Input) (log : site.Log) (j : ℕ) (k : um_views.TmCounts)
    → slice_get (map (λ t. um_views.counts t log) (numbers_to g.catalogue.tms)) j ≡ Some k → Links g U (T (tm_no k.tm))
count_linked g log j k e = grind (arith, in_mapped, in_range, counts_tm, link_of, nat_le, le_true)

u_linked : (g : Input) (log : Log) (bases : Bases) (act : Act) → IsWhole g.catalogue → IsPermitted g log
    → um.IsDue g.catalogue bases (um_views.view_of (setting_of g U) (local_of g U log)) act → ActLinked g U act
u_linked g log bases act w p (um.by_exchange e) =
    attempt_linked g U 0 bases (local_of g U log) (active (setting_of g U) 0 (local_of g U log)) act
    (λ d n. link_of g U (D (dm_no d)) refl
    (both (nat_le 1 d) (nat_le d g.catalogue.dms) (le_true 1 d n.0) (le_true d g.catalogue.dms n.1)) refl)
    (active_near (setting_of g U) 0 (local_of g U log) w (u_fair g log p)) e
u_linked g log bases act w p (um.by_release j k i e) = tm_linked g _ k.tm _ act (count_linked g (local_of g U log) j k i) e
u_linked g log bases act w p (um.by_start e) = grind (arith, u_begin_linked, link_of, nat_le, le_true)
u_linked g log bases act w p (um.by_hold j k i e) = grind (arith, tm_linked, count_linked)

-- at a data module

class_source : (g : Input) (d : DmNo) (ks : List Class) (i : ℕ) → All (IsServedClass g.catalogue) ks → Here g (D d)
    → Links g (D d) (slice_index_or (map (λ k. T k.tm) ks) i U)
class_source g d [] i h here = link_of g (D d) U here refl refl
class_source g d (k ∷ ks) zero h here =
    let s = All-head (IsServedClass g.catalogue) k ks h in
    link_of g (D d) (T k.tm) here (both (nat_le 1 k.tm.0) (nat_le k.tm.0 g.catalogue.tms)
    (le_true 1 k.tm.0 s.module_from) (le_true k.tm.0 g.catalogue.tms s.module_to)) refl
class_source g d (k ∷ ks) (suc i) h here = class_source g d ks i (All-tail (IsServedClass g.catalogue) k ks h) here

answer_linked : (g : Input) (d : DmNo) (h : Home) (k : ClassView) (o : Open) (m : Msg) (act : Act) → Links g (D d) o.from
    → dm.answer_to h k o m ≡ Some act → ActLinked g (D d) act
answer_linked g d h k o m act l e = grind (arith, linked_some)

open_linked : (g : Input) (d : DmNo) (log : Log) (h : Home) (k : ClassView) (o : Option Open) (act : Act) → AllFewTicks g.events → IsLawful g log
    → head_of (filter (is_asked_of k.class) (opens (local_of g (D d) log))) ≡ o → dm.answer_of h k o ≡ Some act → ActLinked g (D d) act
open_linked g d log h k None act f l p e = cc
open_linked g d log h k (Some o) act f l p e =
    let i = in_filtered (is_asked_of k.class) (opens (local_of g (D d) log)) 0 o (first_there _ o p) in
    answer_linked g d h k o o.msg act (asked_linked g (D d) log o.from _ f l (was_handed (local_of g (D d) log) i.1 o i.2)) e

asks_linked : (g : Input) (d : DmNo) (ds : List Cond) → IsWhole g.catalogue → Here g (D d)
    → AllLinked g (D d) (map (dm.ask_for (home_of (setting_of g (D d)))) ds)
asks_linked g d [] w here = tt
asks_linked g d (q ∷ ds) w here = ((grind (arith, link_of, class_source)), asks_linked g d ds w here)

step_linked : (g : Input) (d : DmNo) (v : View) (c : ℕ) (m : Msg) (step : Step) → IsWhole g.catalogue → Here g (D d)
    → ActLinked g (D d) (dm.act_by (home_of (setting_of g (D d))) v c m step)
step_linked g d v c (Read ts class txn attempt conds uses) (Waits ds) w here = asks_linked g d ds w here
step_linked g d v c m step w here = grind (arith, class_source, link_of)

d_linked : (g : Input) (d : DmNo) (log : Log) (act : Act) → IsWhole g.catalogue → AllFewTicks g.events → IsLawful g log → Here g (D d)
    → dm.IsDue (home_of (setting_of g (D d))) (view_of (setting_of g (D d)) (local_of g (D d) log)) act → ActLinked g (D d) act
d_linked g d log act w f l here e = grind (arith, open_linked, opens, linked_some, step_linked, head)

-- of any site

site_here : (tms dms : ℕ) (at : Site) → IsThere (sites tms dms) at → is_site tms dms at ≡ true
site_here tms dms U k = refl
site_here tms dms (T t) k = let r = t_of_sites tms dms t k in both (nat_le 1 t.0) (nat_le t.0 tms) (le_true 1 t.0 r.0) (le_true t.0 tms r.1)
site_here tms dms (D d) k = let r = d_of_sites tms dms d k in both (nat_le 1 d.0) (nat_le d.0 dms) (le_true 1 d.0 r.0) (le_true d.0 dms r.1)

pub act_linked : (g : Input) (log : Log) (at : Site) (act : Act) → IsWhole g.catalogue → AllFewTicks g.events → IsLawful g log → IsPermitted g log
    → OfNext g log (Does at act) → IsDueAt g log at act → AllLinked g at (sends_of_act act)
act_linked g log U act w f l p o due = u_linked g log (base_of g log) act w p due
act_linked g log (T t) act w f l p o due = t_linked g t log (base_of g log) act w f l p (site_here g.catalogue.tms g.catalogue.dms (T t) o.0) due
act_linked g log (D d) act w f l p o due = d_linked g d log act w f l (site_here g.catalogue.tms g.catalogue.dms (D d) o.0) due
