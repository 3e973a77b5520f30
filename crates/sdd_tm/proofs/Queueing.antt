-- A module that is down: transactions wait in it, and what is due is done once it is up again.
use Rattle.sdd_tm.proofs.All.{Bases, ClassState, Does, Era, FitsSite, FitsSubmit, IsAmid, IsCalm, IsEraOf, IsKept, IsTrue, Kept, List, Log, Msg, None, Notes, Queues, Rec, Redeclared, Represents, Setting, Site, Some, State, Submit, Submits, Ticked, Txn, TxnNo, [], active, all_noted, all_starts, ap, arith, bound_of, class_for, class_given, class_of, clock, current_era, false, get_map, get_within, held_of, if◌then◌else◌, is_idle, length, list_all, map, next, nothing_noted, of_map, own_step, pushed, refl, resting, rules, runs, slice_get, state_given, state_of, subst, sym, ticked, true, ℕ, ◌+◌, ◌<◌, ◌==◌, ◌^◌, ◌∙◌, ◌∷◌, ◌≡◌}
use Rattle.sdd_tm.proofs.Handing.{has_room}
use Rattle.sdd_tm.proofs.Taking.{few_kept, with_given}
use Rattle.sdd_tm.proofs.Dues.{none_parts, own_none}
use Rattle.sdd_tm.proofs.Giving.{sound_given, state_given_kept}
use Rattle.sdd_tm.proofs.HeldIsSentOnce.{held_ticked}
use Rattle.sdd_tm.proofs.Calls.{Called, call_does, given_to, kept_redeclared, kept_ticked, submitted}

-- a module of which nothing is due has, of course, nothing of its own due
pub represents_queues : (k : Kept State) (s : Setting) (log : Log) → Represents k s log → Queues k s log
represents_queues k s log st = record {
  live = st.live;
  setting = st.setting;
  sound = st.sound;
  state_is = st.state_is;
  only_starts = λ i c e. (none_parts k.value.on_hold c (st.settled i c e)).0;
  held_sent = st.held_sent;
}

pub queues_kept : (k : Kept State) (s : Setting) (log : Log) → Queues k s log → IsKept s log k.value
queues_kept k s log q = record { setting = q.setting; sound = q.sound; state_is = q.state_is }

pub few_queued : (k : Kept State) (s : Setting) (log : Log) → Queues k s log → length k.value.classes < 2 ^ 32
few_queued k s log q = few_kept s log k.value (queues_kept k s log q)

-- a transaction waits

-- its class by the list in force is that by what the module keeps
pub class_queued : (k : Kept State) (s : Setting) (log : Log) (txn : Txn) (class : ℕ) → Queues k s log
    → class ≡ class_for (current_era s log).catalogue txn → class ≡ class_for k.value.era.catalogue txn
class_queued k s log txn class q e = e ∙ ap (λ (x : State). class_for x.era.catalogue txn) q.state_is

own_given : (c n : ℕ) (txn : Txn) (x : ClassState) → own_step (class_given c n txn x) ≡ own_step x
own_given c n txn x =
    elim (x.line.class == c) as (λ b. own_step (if b then with_given n txn x else x) ≡ own_step x) [ true ↦ refl | false ↦ refl ]

idle_given : (c n : ℕ) (txn : Txn) (x : ClassState) → is_idle (class_given c n txn x) ≡ is_idle x
idle_given c n txn x =
    elim (x.line.class == c) as (λ b. is_idle (if b then with_given n txn x else x) ≡ is_idle x) [ true ↦ refl | false ↦ refl ]

all_idle_given : (c n : ℕ) (txn : Txn) (classes : List ClassState) → list_all is_idle (map (class_given c n txn) classes) ≡ list_all is_idle classes
all_idle_given c n txn [] = refl
all_idle_given c n txn (x ∷ classes) = rw (idle_given c n txn x, all_idle_given c n txn classes) refl

held_given : (c n : ℕ) (txn : Txn) (state : State) → held_of (state_given c n txn state) ≡ held_of state
held_given c n txn state = rw (all_idle_given c n txn state.classes) refl

own_steps_given : (c n : ℕ) (txn : Txn) (state : State)
    → ((i : ℕ) (x : ClassState) → slice_get state.classes i ≡ Some x → own_step x ≡ None)
    → (i : ℕ) (x : ClassState) → slice_get (state_given c n txn state).classes i ≡ Some x → own_step x ≡ None
own_steps_given c n txn state none i x e =
    let r = of_map (class_given c n txn) state.classes i x e in
    subst (λ y. own_step y ≡ None) r.2 (own_given c n txn r.0 ∙ none i r.0 r.1)

pub queued : (n : TxnNo) (txn : Txn) (old new : Kept State) → n.0 < 2 ^ 32 → IsTrue new.live → new.value ≡ given_to old n.0 txn
    → (s : Setting) (bases : Bases) (log : Log) → Queues old s log → FitsSubmit s bases log n.0 txn → Queues new s (Submits n.0 txn ∷ log)
queued n txn old new small live is s bases log q fit =
    let c : ℕ = class_for old.value.era.catalogue txn in
    let kept : state_of s (Submits n.0 txn ∷ log) ≡ given_to old n.0 txn =
    state_given_kept s log n.0 txn ∙ ap (λ (x : State). state_given (class_for x.era.catalogue txn) n.0 txn x) q.state_is in
    record {
      live = live;
      setting = record { valid = q.setting.valid; whole = q.setting.whole; era = q.setting.era };
      sound = sound_given s bases log n.0 txn small q.setting fit q.sound;
      state_is = kept ∙ sym is;
      only_starts = λ i x e. own_steps_given c n.0 txn old.value q.only_starts i x (subst (λ (st : State). slice_get st.classes i ≡ Some x) is e);
      held_sent = ap held_of is ∙ held_given c n.0 txn old.value ∙ q.held_sent;
    }

-- what a call that only queues it returns
pub queues_alone : (n : TxnNo) (txn : Txn) (old new : Kept State) (notes : Notes) (records : List Rec) (sends : List (Site × Msg))
    → n.0 < 2 ^ 32 → IsTrue new.live → new.value ≡ given_to old n.0 txn → notes ≡ submitted n → records ≡ notes.recs → sends ≡ notes.out
    → (s : Setting) (bases : Bases) (log : Log) → Queues old s log → FitsSubmit s bases log n.0 txn
    → (records ≡ Submit n ∷ []) × (sends ≡ []) × Queues new s (Submits n.0 txn ∷ log)
queues_alone n txn old new notes records sends small live is noted e f s bases log q fit =
    (e ∙ ap (λ (x : Notes). x.recs) noted, f ∙ ap (λ (x : Notes). x.out) noted, queued n txn old new small live is s bases log q fit)

-- the module comes up

pub calm_up : (k : Kept State) (s : Setting) (log : Log) → Queues k s log → IsCalm 0 (length k.value.classes) k.value
calm_up k s log q = record {
  own = λ j x e apart. q.only_starts j x e;
  before = λ j x e less. absurd (omega arith);
  behind = λ j x e more. absurd (let w = get_within k.value.classes j x e in omega arith);
}

pub amid_up : (k : Kept State) (s : Setting) (bases : Bases) (log : Log) → Queues k s log → FitsSite s bases log → IsAmid s bases k.value log
amid_up k s bases log q fit =
    let none = λ (i c : ℕ) (e : slice_get (runs s) i ≡ Some c). own_none (class_of s log c)
    (q.only_starts i (class_of s log c) (subst (λ (st : State). slice_get st.classes i ≡ Some (class_of s log c)) q.state_is
    (get_map (class_of s log) (runs s) i c e))) in
    record {
      setting = q.setting;
      sound = q.sound;
      state_is = q.state_is;
      databases = fit.databases;
      served = λ i c e. resting s.catalogue bases (active s c log) (none i c e).0;
      room = subst (λ (st : State). st.clock.ticks + all_starts st.classes + 1 < 2 ^ 57) q.state_is (has_room s log q.setting q.sound fit.time);
    }

pub resume_does : (old new : Kept State) (notes all : Notes) (records : List Rec) (sends : List (Site × Msg)) → IsTrue new.live
    → Called old.value new.value nothing_noted notes all → records ≡ all.recs → sends ≡ all.out → (s : Setting) (bases : Bases) (log : Log)
    → Queues old s log → FitsSite s bases log → Does (next s bases) log records sends (Represents new s)
resume_does old new notes all records sends live c e f s bases log q fit = search (rules, all_noted, call_does, amid_up)

-- time passes, and a class list is put in force

pub tick_queues : (old new : Kept State) (n : ℕ) → new ≡ record old { value = record old.value { clock = ticked old.value.clock n } }
    → (s : Setting) (log : Log) → Queues old s log → Queues new s (Ticked n ∷ log)
tick_queues old new n e s log q =
    let kept = kept_ticked s log old.value n (queues_kept old s log q) in
    rw e (record {
      live = q.live;
      setting = kept.setting;
      sound = kept.sound;
      state_is = kept.state_is;
      only_starts = q.only_starts;
      held_sent = held_ticked old.value (ticked old.value.clock n) q.held_sent;
    })

pub redeclared_queues : (old new : Kept State) (era : Era) (t : ℕ)
    → new ≡ record old { value = record old.value { era = era; clock = pushed old.value.clock t } }
    → (s : Setting) (log : Log) → Queues old s log → IsEraOf s.catalogue era.catalogue → Queues new s (Redeclared era t ∷ log)
redeclared_queues old new era t e s log q of_whole =
    let kept = kept_redeclared s log old.value era t (queues_kept old s log q) of_whole in
    rw e (record {
      live = q.live;
      setting = kept.setting;
      sound = kept.sound;
      state_is = kept.state_is;
      only_starts = q.only_starts;
      held_sent = held_ticked old.value (pushed old.value.clock t) q.held_sent;
    })

-- the bound of the clock
pub bound_is : (k : Kept State) (s : Setting) (log : Log) (n : ℕ) → n ≡ bound_of k.value.clock → Queues k s log → n ≡ bound_of (clock s.site log)
bound_is k s log n e q = e ∙ ap (λ (x : State). bound_of x.clock) (sym q.state_is)
