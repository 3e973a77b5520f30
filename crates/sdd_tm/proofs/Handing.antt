-- A message that is handed: the module keeps what follows from the log, and only what the message touches may have a step.
use Rattle.sdd_tm.proofs.All.{AreSettled, Ask, Asked, Attempt, Bases, ClassNo, ClassState, Exchange, FitsAnswer, Handed, HoldCounts, InTurn, IsAmid, IsAwaited, IsSettingOf, IsSoundLog, List, Log, Msg, None, Option, Question, Ready, Reduced, Reject, Rows, Setting, Site, Some, State, Values, [], active, active_handed, after_hand, all_starts, and_right, ap, arith, ask_handed, asked, asks_of, class_handed, class_named, class_of, clock, cond, false, fits, fits_kind, get_map, hands, hold_handed, holds, holds_handed, if◌then◌else◌, length, length_range, line_handed, line_step, map, map_map, map_same, nat_lt, ne_eqb, on_hold, open_handed, owed_handed, pushed_by, refl, rejects, resting, runs, served_handed, shorter, slice_get, stamped_still, state_handed, state_of, subst, suc, sym, true, view_of, ℕ, ◌&&◌, ◌++◌, ◌+◌, ◌<◌, ◌==◌, ◌^◌, ◌∙◌, ◌∷◌, ◌≡◌, ◌≢◌, ◌≤◌}
use Rattle.sdd_tm.proofs.Dues.{own_none, none_parts}
use Rattle.sdd_tm.proofs.Rooms.{few_starts}

-- a message changes the class that it names alone

abbrev pub Apart : Msg → ℕ → Type 0
Apart m c = (d : ClassNo) → class_named m ≡ Some d → d.0 ≢ c

test_apart : (t u k c : ℕ) → k ≢ c → ((t == u) && (k == c)) ≡ false
test_apart t u k c h = and_right (t == u) (k == c) (ne_eqb k c h)

exchange_other : (m : Msg) (ts c d : ℕ) (x : Exchange) → Apart m c → after_hand ts c d m x ≡ x
exchange_other (Ready t k counts) ts c d x h = rw (test_apart t.0 ts k.0 c (h k refl)) refl
exchange_other (Values t k u values) ts c d x h = rw (test_apart t.0 ts k.0 c (h k refl)) refl
exchange_other (Reduced t k u n) ts c d x h = rw (test_apart t.0 ts k.0 c (h k refl)) refl
exchange_other (Rows t k rows) ts c d x h = rw (test_apart t.0 ts k.0 c (h k refl)) refl
exchange_other _ ts c d x h = refl

rejects_other : (m : Msg) (ts c : ℕ) → Apart m c → rejects m ts c ≡ false
rejects_other (Reject t k by write) ts c h = test_apart t.0 ts k.0 c (h k refl)
rejects_other _ ts c h = refl

active_other : (c : ℕ) (from : Site) (m : Msg) (o : Option Attempt) → Apart m c → active_handed c from m o ≡ o
active_other c from m o h = grind (arith, rejects_other, exchange_other)

ask_other : (c : ℕ) (from : Site) (m : Msg) (qs : List Asked) → Apart m c → ask_handed c from m qs ≡ qs
ask_other c from (Ask k time) qs h = rw (ne_eqb k.0 c (h k refl)) refl
ask_other c from _ qs h = refl

pub handed_other : (from : Site) (m : Msg) (k : ClassState) → Apart m k.line.class → class_handed from m k ≡ k
handed_other from m k h = rw (active_other k.line.class from m k.line.active h, ask_other k.line.class from m k.asks h) refl

-- what is kept of the log

push_if : (qs : List Question) (q : Question) (c : ℕ) → asks_of c (qs ++ q ∷ []) ≡ (if q.class == c then asks_of c qs ++ asked q ∷ [] else asks_of c qs)
push_if [] q c = elim (q.class == c) as (λ b. map asked (cond b (q ∷ []) []) ≡ (if b then asked q ∷ [] else [])) [ true ↦ refl | false ↦ refl ]
push_if (x ∷ qs) q c = grind (arith, push_if qs q c)

hold_kept : (n : ℕ) (m : Msg) (h : HoldCounts) → InTurn h
    → nat_lt (holds_handed n m h).releases (holds_handed n m h).holds ≡ hold_handed m (nat_lt h.releases h.holds)
hold_kept n m h turns = grind arith

owed_kept : (n : ℕ) (m : Msg) (h : HoldCounts) → InTurn h
    → nat_lt (holds_handed n m h).helds (holds_handed n m h).holds ≡ owed_handed m (nat_lt h.helds h.holds)
owed_kept n m h turns = grind arith

pub state_kept : (s : Setting) (log : Log) (from : Site) (m : Msg) → InTurn (holds log)
    → state_of s (Handed from m ∷ log) ≡ state_handed from m (state_of s log)
state_kept s log from m turns =
    let classes : map (class_of s (Handed from m ∷ log)) (runs s) ≡ map (class_handed from m) (map (class_of s log) (runs s)) =
    map_same (class_of s (Handed from m ∷ log)) (λ c. class_handed from m (class_of s log c)) (runs s)
    (λ i c e. (ap (λ qs. record (class_handed from m (class_of s log c)) { asks = qs }) (grind (arith, push_if))))
    ∙ sym (map_map (class_handed from m) (class_of s log) (runs s)) in
    rw (classes, hold_kept (suc (hands log)) m (holds log) turns, owed_kept (suc (hands log)) m (holds log) turns) refl

-- what holds of the log

pub answer_fits : (s : Setting) (bases : Bases) (log : Log) (from : Site) (m : Msg) → fits_kind s bases log from m → FitsAnswer s bases log from m
answer_fits s bases log from m f = grind arith

pub sound_handed : (s : Setting) (bases : Bases) (log : Log) (from : Site) (m : Msg) → fits_kind s bases log from m
    → IsSoundLog s log → IsSoundLog s (Handed from m ∷ log)
sound_handed s bases log from m f sound = record {
  lines = λ i c e. line_handed s bases c log from m (answer_fits s bases log from m f) (sound.lines i c e);
  stamped = stamped_still s log (Handed from m) refl sound.stamped;
  unanswered = open_handed log from m sound.unanswered;
  turns = (grind arith);
}

pub settled_of : (s : Setting) (log : Log) → AreSettled (state_of s log) → (i c : ℕ) → slice_get (runs s) i ≡ Some c → line_step (active s c log) ≡ None
settled_of s log settled i c e =
    (own_none (class_of s log c) (none_parts (on_hold (view_of s log)) (class_of s log c)
    (settled i (class_of s log c) (get_map (class_of s log) (runs s) i c e))).0).0

-- the clock

pub early : (s : Setting) (bases : Bases) (log : Log) (from : Site) (m : Msg) → fits s bases log from m → (pushed_by m (clock s.site log)).ticks < 2 ^ 56
early s bases log from m f = grind arith

pub few_runs : (s : Setting) (log : Log) → IsSettingOf s log → length (runs s) ≤ 64
few_runs s log setting = grind (arith, shorter, length_range)

pub has_room : (s : Setting) (log : Log) → IsSettingOf s log → IsSoundLog s log → (clock s.site log).ticks < 2 ^ 56
    → (clock s.site log).ticks + all_starts (state_of s log).classes + 1 < 2 ^ 57
has_room s log setting sound low = grind (arith, few_starts, few_runs)

-- the module within the call

pub amid_handed : (s : Setting) (bases : Bases) (log : Log) (from : Site) (m : Msg) → IsSettingOf s log
    → IsSoundLog s log → AreSettled (state_of s log) → fits s bases log from m → IsAmid s bases (state_handed from m (state_of s log)) (Handed from m ∷ log)
amid_handed s bases log from m setting sound settled f =
    let now : IsSoundLog s (Handed from m ∷ log) = sound_handed s bases log from m f.1 sound in
    let is = state_kept s log from m sound.turns in
    record {
      setting = record { valid = setting.valid; whole = setting.whole; era = setting.era };
      sound = now;
      state_is = is;
      databases = f.0.databases;
      served = λ i c e. served_handed s bases log c from m (answer_fits s bases log from m f.1)
          (sound.lines i c e).asking (resting s.catalogue bases (active s c log) (settled_of s log settled i c e));
      room = subst (λ (st : State). st.clock.ticks + all_starts st.classes + 1 < 2 ^ 57) is
          (has_room s (Handed from m ∷ log) (record { valid = setting.valid; whole = setting.whole; era = setting.era }) now (early s bases log from m f));
    }

-- what the message touches

-- an answer is one that its class awaits
pub is_awaited : (s : Setting) (bases : Bases) (log : Log) (from : Site) (m : Msg) (c : ℕ) → fits_kind s bases log from m → IsAwaited c from m (active s c log)
is_awaited s bases log from m c f = grind arith
