-- What a Wait, an Arrive and a Pass of a data module are due to.
use Rattle.sdd_lawful.proofs.All.{Act, Arrive, Ask, Bases, Bool, Catalogue, ClassNo, ClassView, Cond, D, Did, DmNo, Handed, Home, Input, IsClassHere, IsDue, IsDueAt, IsReadStep, IsStep, List, May, Msg, None, Null, Open, Option, Pass, Queued, Read, Rec, Records, Running as Attempt, Sends, Setting, Site, SiteLog as Log, Some, T, Ts, TxnNo, U, Use, View, Wait, [], act_by, act_where, active, answer_of, ap, arith, asks_next, asks_rows, base_of, class_at_place, commit_act, commit_put_is, dm_no, false, filter, first_send, first_there, hands, head, head_of, home, home_of, if◌then◌else◌, in_either, in_filtered, in_mapped, in_none, in_one, inl, inr, is_asked_of, is_met, judged, list_all, local_of, nat_lt, not, not_both, opens, or_else, pipe, refl, sends_of_act, setting_of, slice_get, start_at, start_puts, step_on, step_way, subst, suc, sym, the_one, to_site, true, view_of, was_handed, ℕ, ◌++◌, ◌∙◌, ◌∷◌, ◌≡◌}
use Rattle.sdd_invariants.specs.site_module.SiteLog.{Entry}
use Rattle.sdd_invariants.specs.logs.Entries as log
use Rattle.sdd_invariants.specs.tm.Due as tm
use Rattle.sdd_invariants.specs.umod.Due as um
use Rattle.sdd_invariants.specs.umod.Views as um_views
use Rattle.sdd_invariants.specs.tm.Views as tm_views

-- a Wait is of the READ at the head, for some of its conditions
pub record IsWaiting (l : Log) (c : ℕ) (txn : TxnNo) (attempt : ℕ) (ds : List Cond) : Type 0 where
  pub ts : Ts
  pub class : ClassNo
  pub conds : List Cond
  pub uses : List Use
  pub head_is : head (pipe c l) ≡ Some (Read ts class txn attempt conds uses)
  pub among : (k : ℕ) (q : Cond) → slice_get ds k ≡ Some q → (j : ℕ) × (slice_get conds j ≡ Some q)

-- an Arrive is of a READ that was handed
pub record IsArriving (l : Log) (txn : TxnNo) (attempt : ℕ) : Type 0 where
  pub from : Site
  pub ts : Ts
  pub class : ClassNo
  pub conds : List Cond
  pub uses : List Use
  pub later : Log
  pub before : Log
  pub is : l ≡ later ++ Handed from (Read ts class txn attempt conds uses) ∷ before

abbrev DueTo : Log → Act → Type 0
DueTo l (Records c (Wait txn attempt dm ds) sends) = IsWaiting l c txn attempt ds
DueTo l (Records c (Arrive txn attempt dm) sends) = IsArriving l txn attempt
DueTo l act = Unit {0}

due_some : (l : Log) (x a : Act) → DueTo l x → Some x ≡ Some a → DueTo l a
due_some l x a h e = let p : x ≡ a = cc in subst (DueTo l) p h

asked : (l : Log) (h : Home) (k : ClassView) (x : Option Open) (a : Act) → head_of (filter (is_asked_of k.class) (opens l)) ≡ x
    → answer_of h k x ≡ Some a → DueTo l a
asked l h k None a p e = cc
asked l h k (Some o) a p e =
    let i = in_filtered (is_asked_of k.class) (opens l) 0 o (first_there (filter (is_asked_of k.class) (opens l)) o p) in
    let w = was_handed l i.1 o i.2 in
    (grind (arith, due_some))

by_judged : (l : Log) (h : Home) (v : View) (c : ℕ) (ts : Ts) (class : ClassNo) (txn : TxnNo) (attempt : ℕ)
    (conds : List Cond) (uses : List Use) (lacking : List Cond) (by : Option Cond) (a : Act)
    → head (pipe c l) ≡ Some (Read ts class txn attempt conds uses) → lacking ≡ filter (λ d. not (is_met v d)) conds
    → Some (act_by h v c (Read ts class txn attempt conds uses) (judged v lacking by)) ≡ Some a → DueTo l a
by_judged l h v c ts class txn attempt conds uses lacking (Some d) a top p e = due_some l _ a tt e
by_judged l h v c ts class txn attempt conds uses [] None a top p e = due_some l _ a tt e
by_judged l h v c ts class txn attempt conds uses (d ∷ ds) None a top p e =
    due_some l _ a (record {
      ts = ts;
      class = class;
      conds = conds;
      uses = uses;
      head_is = top;
      among = λ k q there. let i = in_filtered (λ d. not (is_met v d)) conds k q (subst (λ l. slice_get l k ≡ Some q) p there) in (i.1, i.2);
    }) e

by_step : (l : Log) (h : Home) (v : View) (c : ℕ) (w : Bool) (m : Msg) (a : Act) → head (pipe c l) ≡ Some m
    → act_where h v c (Some m) (step_on v c w (Some m)) ≡ Some a → DueTo l a
by_step l h v c w m a top e = grind (arith, due_some, DueTo, list_all, by_judged)

due_to : (s : Setting) (l : Log) (act : Act) → IsDue (home_of s) (view_of s l) act → DueTo l act
due_to s l act h4 = grind (arith, asked, class_at_place, by_step)

pub waiting : (s : Setting) (l : Log) (c : ℕ) (txn : TxnNo) (attempt : ℕ) (dm : DmNo) (ds : List Cond) (sends : List (Site × Msg))
    → IsDue (home_of s) (view_of s l) (Records c (Wait txn attempt dm ds) sends) → IsWaiting l c txn attempt ds
waiting s l c txn attempt dm ds sends h = due_to s l (Records c (Wait txn attempt dm ds) sends) h

pub arrives : (s : Setting) (l : Log) (c : ℕ) (txn : TxnNo) (attempt : ℕ) (dm : DmNo) (sends : List (Site × Msg))
    → IsDue (home_of s) (view_of s l) (Records c (Arrive txn attempt dm) sends) → IsArriving l txn attempt
arrives s l c txn attempt dm sends h = due_to s l (Records c (Arrive txn attempt dm) sends) h

-- a Pass is of a NULL at the head, of a class that is there

pub record IsPassing (s : Setting) (l : Log) (c : ℕ) (class : ClassNo) : Type 0 where
  pub no : ClassNo
  pub time : Ts
  pub head_is : head (pipe c l) ≡ Some (Null no time)
  pub here : IsClassHere s c
  pub no_is : class.0 ≡ no.0

pass_may : (s : Setting) (l : Log) (v : View) (k : ℕ) (w : Bool) (m : Msg) (r : Rec) (class : ClassNo) (dm : DmNo) (time : Ts) → head (pipe k l) ≡ Some m
    → IsClassHere s k → May v k w m r → r ≡ Pass class dm time → IsPassing s l k class
pass_may s l v k w m r class dm time top here h e = grind arith

pub passing : (s : Setting) (l : Log) (c : ℕ) (class : ClassNo) (dm : DmNo) (time : Ts) (sends : List (Site × Msg))
    → IsReadStep s l (Records c (Pass class dm time) sends) → IsPassing s l c class
passing s l c class dm time sends h8 = grind (arith, not_both, IsPassing, pass_may)

-- a NULL goes by itself, and to where an ASK came from

abbrev SendsNull : Act → Type 0
SendsNull act =
    (d : DmNo) (j : ℕ) (k : ClassNo) (t : Ts) → slice_get (to_site (D d) (sends_of_act act)) j ≡ Some (Null k t)
    → (hand : Option ℕ) × (act ≡ Sends (D d) (Null k t) hand)

abbrev is_null : Msg → Bool
is_null (Null k t) = true
is_null m = false

sent_alone : (to : Site) (m : Msg) (hand : Option ℕ) → SendsNull (Sends to m hand)
sent_alone to m hand d j k t e =
    let i = the_one (D d) to m j (Null k t) e in
    (hand, ap (λ x. Sends x m hand) (sym i.0) ∙ ap (λ x. Sends (D d) x hand) i.1)

start_none : (s : Setting) (c : ℕ) (l : Log) (q : Queued) → SendsNull (start_at s c l q)
start_none s c l q d j k t e = grind (arith, start_puts, in_none, in_one, is_null)

commit_none : (s : Setting) (c : ℕ) (bases : Bases) (a : Attempt) → SendsNull (commit_act s.catalogue bases c a)
commit_none s c bases a d j k t e = let r = (commit_put_is s c bases a d j (Null k t) e).0 in let z : true ≡ false = ap is_null r in cc

pub sends_null : (s : Setting) (l : Log) (act : Act) → IsStep s l act → SendsNull act
sends_null s l act i =
    step_way s l act SendsNull (λ c q at f e. start_none s c l q) (λ c bases a at f. commit_none s c bases a) (λ to m hand f. sent_alone to m hand) i

pub record WasAskedBy (l : Log) (from : Site) : Type 0 where
  pub class : ClassNo
  pub time : Ts
  pub later : Log
  pub before : Log
  pub is : l ≡ later ++ Handed from (Ask class time) ∷ before

asked_past : (e : Entry) (l : Log) (from : Site) → WasAskedBy l from → WasAskedBy (e ∷ l) from
asked_past e l from h = record { class = h.class; time = h.time; later = e ∷ h.later; before = h.before; is = ap (λ k. e ∷ k) h.is }

abbrev question : ℕ → Site → ClassNo → Ts → tm_views.Question
question n from class time = record { hand = n; from = from; class = class.0; time = time.0 }

asks_in : (n : ℕ) (from : Site) (m : Msg) (l : Log) (k : ℕ) (q : tm_views.Question) → ((j : ℕ) → slice_get (tm_views.asks l) j ≡ Some q → WasAskedBy l q.from)
    → slice_get (tm_views.asks_handed n from m (tm_views.asks l)) k ≡ Some q → WasAskedBy (Handed from m ∷ l) q.from
asks_in n from (Ask class time) l k q f e = elim (in_either (tm_views.asks l) (question n from class time ∷ []) k q e) [
  | inl i ↦ asked_past (Handed from (Ask class time)) l q.from (f k i)
  | inr i ↦ (let p : question n from class time ≡ q = in_one (question n from class time ∷ []) (question n from class time) i.0 q refl i.1 in
      record { class = class; time = time; later = []; before = l; is = ap (λ x. Handed x (Ask class time) ∷ l) (ap (λ (x : tm_views.Question). x.from) p) })
]
asks_in n from m l k q f e = asked_past (Handed from m) l q.from (f k e)

acted_asks : (act : Act) (qs : List tm_views.Question) (k : ℕ) (q : tm_views.Question) → slice_get (tm_views.asks_acted act qs) k ≡ Some q
    → (j : ℕ) × (slice_get qs j ≡ Some q)
acted_asks act qs k q e = grind (arith, in_filtered)

asked_from : (l : Log) (k : ℕ) (q : tm_views.Question) → slice_get (tm_views.asks l) k ≡ Some q → WasAskedBy l q.from
asked_from [] k q e = cc
asked_from (Handed from m ∷ l) k q e = asks_in (suc (hands l)) from m l k q (λ j i. asked_from l j q i) e
asked_from (Did act ∷ l) k q e = let i = acted_asks act (tm_views.asks l) k q e in asked_past (Did act) l q.from (asked_from l i.0 q i.1)
asked_from (x ∷ l) k q e = asked_past x l q.from (asked_from l k q e)

abbrev NullTo : Log → Act → Type 0
NullTo l (Sends to (Null k t) hand) = WasAskedBy l to
NullTo l act = Unit {0}

null_some : (l : Log) (x a : Act) → NullTo l x → Some x ≡ Some a → NullTo l a
null_some l x a h e = let p : x ≡ a = cc in subst (NullTo l) p h

not_null : (l : Log) (to : Site) (m : Msg) (hand : Option ℕ) (ts c : ℕ) → asks_rows ts c m ≡ true → NullTo l (Sends to m hand)
not_null l to m hand ts c e = grind arith

next_null : (s : Setting) (l : Log) (c : ℕ) (x : Attempt) (ps : List (ℕ × Msg)) (o : Option Act) (a : Act) → active s c l ≡ Some x → x.exchange.to_send ≡ ps
    → ((z : Act) → o ≡ Some z → NullTo l z) → or_else (first_send ps) o ≡ Some a → NullTo l a
next_null s l c x [] o a f p g e = g a e
next_null s l c x (m ∷ ps) o a f p g e = null_some l _ a (not_null l (D (dm_no m.0)) m.1 None x.ts c (asks_next s c l x m f (ap head_of p))) e

start_if : (l : Log) (cat : Catalogue) (v : tm_views.View) (c : ℕ) (b : Bool) (o : Option Queued) (a : Act)
    → (if b then tm.start_of cat v c o else None) ≡ Some a → NullTo l a
start_if l cat v c b o a e = grind (arith, null_some)

null_to : (s : Setting) (l : Log) (bases : Bases) (act : Act) → tm.IsDue s.catalogue bases (tm_views.view_of s l) act → NullTo l act
null_to s l bases act h5 = grind (arith, in_mapped, next_null, null_some, asked_from, list_all, nat_lt, start_if)

u_hold_null : (l : Log) (k : um_views.TmCounts) (o : Option Queued) (a : Act) → um.hold_to k o ≡ Some a → NullTo l a
u_hold_null l k o a e = grind (arith, null_some)

u_null_to : (s : Setting) (l : Log) (bases : Bases) (act : Act) → um.IsDue s.catalogue bases (um_views.view_of s l) act → NullTo l act
u_null_to s l bases act h5 = grind (arith, next_null, null_some, u_hold_null)

-- a site that runs attempts
abbrev pub IsRunner : Site → Type 0
IsRunner (D d) = ⊥
IsRunner at = Unit {0}

pub home_runs : (cat : Catalogue) (c : ℕ) → IsRunner (home cat c)
home_runs cat c = (grind arith)

pub null_asked : (g : Input) (l : log.Log) (at : Site) (d : DmNo) (k : ClassNo) (t : Ts) (hand : Option ℕ) → IsRunner at
    → IsDueAt g l at (Sends (D d) (Null k t) hand) → WasAskedBy (local_of g at l) (D d)
null_asked g l (D d2) d k t hand r h = absurd r
null_asked g l U d k t hand r h = u_null_to (setting_of g U) (local_of g U l) (base_of g l) (Sends (D d) (Null k t) hand) h
null_asked g l (T n) d k t hand r h = null_to (setting_of g (T n)) (local_of g (T n) l) (base_of g l) (Sends (D d) (Null k t) hand) h
