-- HELD: on hold, once no class is active, it is what is due, and once.
use Rattle.sdd_tm.proofs.All.{Act, AllByRecursion, AreSettled, Bases, Bool, Did, Held, IsAmid, List, Log, Msg, None, Notes, Question, Sends, Setting, Some, State, Ticking, U, [], active, after_held, and_parts, ap, arith, asks, asks_acted, asks_of, bound_of, class_of, class_view, clock, false, held_due, held_of, holds, if◌then◌else◌, is_idle, is_none, le-ltb, line_apart, list_all, ltb-true, map, map_same, nat_lt, ne_eqb, next, on_hold, open_did, queue, refl, runs, sent_apart, served_sent, stamped_did, state_of, suc, sym, time_at, true, view_of, with_act, with_due_act, ℕ, ◌&&◌, ◌<◌, ◌==◌, ◌∙◌, ◌∷◌, ◌≡◌, ◌≢◌}
use Rattle.sdd_tm.proofs.OpenAsks.{without_hand}
use Rattle.sdd_tm.proofs.Dues.{held_is_due}
use Rattle.sdd_asks.specs.rules.tm.Views as views

-- whether all classes are idle, of the log and of what is kept of it
idle_alike : (s : Setting) (log : Log) (cs : List ℕ) → list_all views.is_idle (map (class_view s log) cs) ≡ list_all is_idle (map (class_of s log) cs)
idle_alike s log [] = refl
idle_alike s log (c ∷ cs) = ap (λ b. is_none (active s c log) && b) (idle_alike s log cs)

-- an ASK isn't taken for a HOLD
asks_stay : (n : ℕ) (qs : List Question) → AllByRecursion (λ q. q.hand ≢ n) qs → without_hand n qs ≡ qs
asks_stay n [] h = refl
asks_stay n (q ∷ qs) h = let apart : (n == q.hand) ≡ false = ne_eqb n q.hand (λ e. h.0 (sym e)) in rw apart (ap (λ rest. q ∷ rest) (asks_stay n qs h.1))

-- the HELD of a log
abbrev held_act : Setting → Log → Act
held_act s log = Sends U (Held (time_at (bound_of (clock s.site log)))) (Some (holds log).last)

class_stays : (s : Setting) (log : Log) (c : ℕ) → AllByRecursion (λ (q : Question). q.hand ≢ (holds log).last)
    (asks log) → class_of s (Did (held_act s log) ∷ log) c ≡ class_of s log c
class_stays s log c apart =
    let t : ℕ = bound_of (clock s.site log) in
    ap (λ a. record {
      line = record { catalogue = s.catalogue; class = c; queue = queue s c log; active = a };
      asks = asks_of c (asks_acted (held_act s log) (asks log));
    }) (sent_apart c (Held (time_at t)) (active s c log) (record { reads = λ ts. refl; asks = λ ts. refl }))
    ∙ ap (λ qs. record (class_of s log c) { asks = asks_of c qs }) (asks_stay (holds log).last (asks log) apart)

-- once it is sent

amid_after_held : (s : Setting) (bases : Bases) (log : Log) → IsAmid s bases (state_of s log) log
    → (on_hold (view_of s log) && (list_all is_idle (state_of s log).classes && nat_lt (holds log).helds
    (holds log).holds)) ≡ true
    → IsAmid s bases (record (state_of s log) { owes_held = false }) (Did (held_act s log) ∷ log)
amid_after_held s bases log amid h =
    let act : Act = held_act s log in
    let t : ℕ = bound_of (clock s.site log) in
    let m : Msg = Held (time_at t) in
    let turns = amid.sound.turns in
    let released = turns.released in
    let one = turns.one in
    let owed : (holds log).helds < (holds log).holds =
    ltb-true (holds log).helds (holds log).holds (and_parts (list_all is_idle (state_of s log).classes)
    (nat_lt (holds log).helds (holds log).holds)
    (and_parts (on_hold (view_of s log)) (list_all is_idle (state_of s log).classes && nat_lt (holds log).helds (holds log).holds) h).1).1 in
    let classes : map (class_of s (Did act ∷ log)) (runs s) ≡ map (class_of s log) (runs s) =
    map_same (class_of s (Did act ∷ log)) (class_of s log) (runs s) (λ i c e. class_stays s log c amid.sound.unanswered.apart) in
    let paid : nat_lt (suc (holds log).helds) (holds log).holds ≡ false =
    le-ltb (suc (holds log).helds) (holds log).holds (omega arith) in
    record {
      setting = record { valid = amid.setting.valid; whole = amid.setting.whole; era = amid.setting.era };
      sound = record {
        lines = λ i c e. line_apart s c log U m (Some (holds log).last) (record { reads = λ ts. refl; asks = λ ts. refl }) (amid.sound.lines i c e);
        stamped = stamped_did s log act amid.sound.stamped (tt, tt);
        unanswered = open_did log act amid.sound.unanswered;
        turns = record { released = omega arith; answered = omega arith; one = one };
      };
      state_is = rw (classes, paid) refl;
      databases = amid.databases;
      served = λ i c e. served_sent s.catalogue bases c m (active s c log) (amid.served i c e);
      room = amid.room;
    }

-- what is due of the module: a HELD, or nothing
pub record Tells (s : Setting) (bases : Bases) (log : Log) (state : State) (act : Act) : Type 0 where
  pub hand : ℕ
  pub is_due : next s bases log ≡ Some (Sends U (Held (time_at (bound_of state.clock))) (Some hand))
  pub notes : (n : Notes) → with_due_act (Some act) n ≡ with_act (Sends U (Held (time_at (bound_of state.clock))) (Some hand)) n
  pub amid : IsAmid s bases (record state { owes_held = false }) (Did (Sends U (Held (time_at (bound_of state.clock))) (Some hand)) ∷ log)

held_if : (b : Bool) (x act : Act) → (if b then Some x else None) ≡ Some act → (b ≡ true) × (x ≡ act)
held_if b x act e = grind arith

-- as the log has it
held_same : (s : Setting) (log : Log) → held_due (view_of s log)
    ≡ (if on_hold (view_of s log) && (list_all is_idle (state_of s log).classes && nat_lt (holds log).helds
    (holds log).holds) then Some (held_act s log) else None)
held_same s log = ap (λ b. if on_hold (view_of s log) && (b && nat_lt (holds log).helds (holds log).holds) then Some
    (held_act s log) else None) (idle_alike s log (runs s))

tells_of : (s : Setting) (bases : Bases) (log : Log) (act : Act) → IsAmid s bases (state_of s log) log
    → AreSettled (state_of s log) → held_of (state_of s log) ≡ Some act → Tells s bases log (state_of s log) act
tells_of s bases log act amid settled e =
    let r = held_if (on_hold (view_of s log) && (list_all is_idle (state_of s log).classes && nat_lt
    (holds log).helds (holds log).holds)) (Sends U (Held (time_at (bound_of (clock s.site log)))) None) act e in
    let due : held_due (view_of s log) ≡ Some (held_act s log) =
    held_same s log ∙ ap (λ b. if b then Some (held_act s log) else None) r.0 in
    record {
      hand = (holds log).last;
      is_due = held_is_due s bases log settled ∙ due;
      notes = λ n. ap (λ a. with_act a n) (sym r.1);
      amid = amid_after_held s bases log amid r.0;
    }

pub tells : (s : Setting) (bases : Bases) (state : State) (log : Log) (act : Act) → IsAmid s bases state log
    → AreSettled state → held_of state ≡ Some act → Tells s bases log state act
tells s bases state log act amid settled e = grind (arith, tells_of)

pub nothing_due : (s : Setting) (bases : Bases) (state : State) (log : Log) → state_of s log ≡ state
    → AreSettled state → held_of state ≡ None → next s bases log ≡ None
nothing_due s bases state log is settled e = (grind (arith, held_is_due, held_same, is_idle, holds))

-- and then it isn't due again

pub held_is_sent_once : (state : State) → held_of (after_held state) ≡ None
held_is_sent_once state = (grind arith)

pub settled_after_held : (state : State) → AreSettled state → AreSettled (after_held state)
settled_after_held state settled = (grind arith)

-- a tick makes none due
pub held_ticked : (state : State) (clock : Ticking) → held_of state ≡ None → held_of (record state { clock = clock }) ≡ None
held_ticked state clock e = grind arith
