-- An exchange in lockstep, by the turns of both sides; and what each side keeps of it.
use Rattle.sdd_obligations.proofs.All.{AllLe, Asks, Attempt, D, Each, Input, IsPermitted, IsStage, List, Log, Msg, Option, Some, Turn, [], active, all_of, and_left, answers, ap, arith, both, class_puts, d_fair, dec_le, dm_no, eqb-true, flight, goes_through, head_in, home, home_fair, if_way, in_class_order, in_left, in_pipe, is_a_read, is_exchanging, is_read, length, limit_of, local_of, map, never, number_of, pipe, pipe_at, place_within, processed_stays, puts_to, questions, same_number, same_or_not, setting_of, slice_get, subst, suc, sym, time_of, timed, times_are, times_in, true, turn_at, turn_with, uses_held, zero, ℕ, ◌<◌, ◌∷◌, ◌≡◌, ◌≤◌}
use Rattle.sdd_obligations.proofs.QuestionsComeInTurn.{in_turn}
use Rattle.sdd_obligations.proofs.HandedAnswersKeepTurns.{AtTurn, InTurn, IsTimely}
use Rattle.sdd_obligations.proofs.RowsStayHeld.{IsAlone, IsHeldAt}
use Rattle.sdd_obligations.proofs.Sources.{home_first, source_is_home}
use Rattle.sdd_obligations.proofs.AnswersComeInTurn.{IsHomeOf, head_through, has_turn}
use Rattle.sdd_obligations.proofs.Replying.{HasTurnAt, IsAskedInTurn}
use Rattle.sdd_invariants.specs.site_module.SiteLog as site

abbrev pub home_log : Input → ℕ → Log → site.Log
home_log g c log = local_of g (home g.catalogue c) log

abbrev pub data_log : Input → ℕ → Log → site.Log
data_log g d log = local_of g (D (dm_no d)) log

-- nothing of the class with a greater time was put to the module
abbrev pub IsLast : Input → ℕ → ℕ → ℕ → Log → Type 0
IsLast g ts c d log = AllLe ts (times_in c (puts_to (D (dm_no d)) (home_log g c log)))

abbrev pub StageAt : Input → ℕ → ℕ → ℕ → Log → Type 0
StageAt g ts c d log =
    IsStage (turn_at ts c d (home_log g c log)) (turn_with ts c (home g.catalogue c) (data_log g d log))
    (questions ts c (flight g (home g.catalogue c) (D (dm_no d)) log)) (answers ts c (flight g (D (dm_no d)) (home g.catalogue c) log))

pub record IsSpoken (g : Input) (c : ℕ) (log : Log) : Type 0 where
  pub stages : (ts d : ℕ) → StageAt g ts c d log
  pub timely_at : Each (IsTimely c) (home_log g c log)
  pub timely_with : (d : ℕ) → Each (IsAskedInTurn c (home g.catalogue c)) (data_log g d log)
  pub held : (ts d : ℕ) → IsLast g ts c d log → IsHeldAt (setting_of g (D (dm_no d))) ts c (home g.catalogue c) (data_log g d log)

-- each side's half

pub home_turns : (g : Input) (c : ℕ) (log : Log) → IsPermitted g log → IsSpoken g c log → InTurn (setting_of g (home g.catalogue c)) c (home_log g c log)
home_turns g c log h i = in_turn (setting_of g (home g.catalogue c)) c (home_log g c log) (home_fair g c log h) (home_first g c log h) i.timely_at

pub home_source : (g : Input) (c d : ℕ) → IsHomeOf (setting_of g (D (dm_no d))) c (home g.catalogue c)
home_source g c d = source_is_home (setting_of g (D (dm_no d))) c

pub data_turns : (g : Input) (ts c d : ℕ) (log : Log) → IsPermitted g log → IsSpoken g c log → HasTurnAt ts c (home g.catalogue c) (data_log g d log)
data_turns g ts c d log h i =
    has_turn (setting_of g (D (dm_no d))) ts c (home g.catalogue c) (data_log g d log) (home_source g c d) (d_fair g (dm_no d) log h) (i.timely_with d)

-- an attempt that exchanges rows is the active one

pub active_of : (ts d : ℕ) (o : Option Attempt) (v : Turn) → AtTurn ts d o v → is_exchanging v ≡ true → (a : Attempt) × (o ≡ Some a) × (a.ts ≡ ts)
active_of ts d o v h e = grind (arith, never, same_or_not)

pub exchanging_active : (g : Input) (ts c d : ℕ) (log : Log) → IsPermitted g log → IsSpoken g c log
    → is_exchanging (turn_with ts c (home g.catalogue c) (data_log g d log)) ≡ true
    → (a : Attempt) × (active (setting_of g (home g.catalogue c)) c (home_log g c log) ≡ Some a) × (a.ts ≡ ts)
exchanging_active g ts c d log h i e =
    active_of ts d (active (setting_of g (home g.catalogue c)) c (home_log g c log)) (turn_at ts c d (home_log g c log)) ((home_turns g c log h i).turns ts d)
    (grind (arith, never, Asks, if_way))

-- nothing of its class with a greater time is put
pub active_last : (g : Input) (c d : ℕ) (log : Log) (a : Attempt) → IsPermitted g log → number_of (home g.catalogue c) ≤ 63
    → active (setting_of g (home g.catalogue c)) c (home_log g c log) ≡ Some a → IsLast g a.ts c d log
active_last g c d log a h small e =
    subst (λ k. AllLe k (times_in c (puts_to (D (dm_no d)) (home_log g c log)))) (ap (limit_of _) e)
    (timed (setting_of g (home g.catalogue c)) c (D (dm_no d)) (home_log g c log) small (home_fair g c log h)).within

le_at : (k : ℕ) (ms : List Msg) (j : ℕ) (m : Msg) → AllLe k (map time_of ms) → slice_get ms j ≡ Some m → time_of m ≤ k
le_at k [] j m h e = cc
le_at k (x ∷ ms) zero m h e = let p : x ≡ m = cc in subst (λ y. time_of y ≤ k) p h.0
le_at k (x ∷ ms) (suc j) m h e = le_at k ms j m h.1 e

last_at : (g : Input) (ts c d : ℕ) (log : Log) (j : ℕ) (m : Msg) → IsLast g ts c d log → slice_get (class_puts g c (dm_no d) log) j ≡ Some m → time_of m ≤ ts
last_at g ts c d log j m h e = le_at ts (class_puts g c (dm_no d) log) j m (subst (AllLe ts) (times_are c (puts_to (D (dm_no d)) (home_log g c log))) h) e

pub read_time : (ts c : ℕ) (m : Msg) → is_read ts c m ≡ true → time_of m ≡ ts
read_time ts c m e = grind (arith, eqb-true, and_left)

-- a READ of an attempt for which rows are held was put
record WasPut (g : Input) (ts c d : ℕ) (log : Log) : Type 0 where
  place : ℕ
  read : Msg
  there : slice_get (class_puts g c (dm_no d) log) place ≡ Some read
  is : is_read ts c read ≡ true
  processed : place < length (pipe c (data_log g d log)).processed

was_put_for : (g : Input) (ts c d : ℕ) (log : Log) (ns : List ℕ) → IsPermitted g log → IsSpoken g c log
    → uses_held (turn_with ts c (home g.catalogue c) (data_log g d log)) ≡ Some ns → WasPut g ts c d log
was_put_for g ts c d log ns h i e =
    let r = (data_turns g ts c d log h i).was_read ns e in
    let p = in_pipe g c (dm_no d) log h in
    record {
      place = r.place;
      read = r.read;
      there = subst (λ l. slice_get l r.place ≡ Some r.read) (sym p.1) (processed_stays (pipe_at g c (dm_no d) log) p.0 r.place r.read r.there);
      is = r.is;
      processed = place_within (pipe c (data_log g d log)).processed r.place r.read r.there;
    }

held_if_exchanging : (v : Turn) → is_exchanging v ≡ true → (ns : List ℕ) × (uses_held v ≡ Some ns)
held_if_exchanging (Asks ns m) e = (ns, (grind arith))
held_if_exchanging _ e = cc

-- the READ of a class with this time, at the head of its pipe
is_read_at : (ts c : ℕ) (m : Msg) → is_a_read m ≡ true → goes_through c m ≡ true → time_of m ≡ ts → is_read ts c m ≡ true
is_read_at ts c m e f z = grind (arith, both, same_number)

pub alone : (g : Input) (ts c d : ℕ) (log : Log) → IsPermitted g log → number_of (home g.catalogue c) ≤ 63 → IsSpoken g c log
    → IsLast g ts c d log → IsAlone (setting_of g (D (dm_no d))) ts c (home g.catalogue c) (data_log g d log)
alone g ts c d log h small i last = record {
  has = λ t. data_turns g t c d log h i;
  only = λ ns e t x.
      (let a = exchanging_active g t c d log h i x in
      let own = was_put_for g ts c d log ns h i e in
      let o = held_if_exchanging (turn_with t c (home g.catalogue c) (data_log g d log)) x in
      let other = was_put_for g t c d log o.0 h i o.1 in
      let up = last_at g a.0.ts c d log own.place own.read (active_last g c d log a.0 h small a.1) own.there in
      let z2 = read_time t c other.read other.is in
      omega (arith, a.2, up, last_at g ts c d log other.place other.read last other.there, read_time ts c own.read own.is, z2));
  no_read = λ ns e m at_head r.
      (let own = was_put_for g ts c d log ns h i e in
      let p = in_pipe g c (dm_no d) log h in
      let here : slice_get (class_puts g c (dm_no d) log) (length (pipe c (data_log g d log)).processed) ≡ Some m =
      subst (λ l. slice_get l (length (pipe c (data_log g d log)).processed) ≡ Some m) (sym p.1)
      (in_left (all_of (pipe_at g c (dm_no d) log)) p.0 (length (pipe c (data_log g d log)).processed) m
      (head_in (pipe c (data_log g d log)) m at_head)) in
      let same : time_of m ≡ ts = elim (dec_le ts (time_of m)) [
        | yes l ↦ omega (arith, l, last_at g ts c d log (length (pipe c (data_log g d log)).processed) m last here)
        | no n ↦ (let lt = in_class_order g c (dm_no d) log (length (pipe c (data_log g d log)).processed)
            own.place m own.read h small here own.there (omega (arith, n, read_time ts c own.read own.is)) in
            let w = own.processed in absurd (omega (arith, lt, w)))
      ] in
      is_read_at ts c m r (head_through c (data_log g d log) m at_head) same);
}
