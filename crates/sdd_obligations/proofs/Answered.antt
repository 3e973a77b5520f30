-- An answer that is next to be handed over is awaited by its site.
use Rattle.sdd_obligations.proofs.All.{Asks, Attempt, AwaitsAt, AwaitsRows, Bool, ClassNo, D, DmNo, Hand, Input, IsAllowed, IsAwaited, IsPermitted, List, Msg, None, Option, Phase, Ready, Reduced, Reject, Replies, RepliesToRead, Row, Rows, Setting, Site, Some, Ts, Values, active, ap, arith, both, contains, dm_no, false, fetches_use, hand_was_put, handed, head_of, home, home_fair, is_a_read, is_answer, is_exchanging, is_shipping, list_any, local_of, not, number_of, numbers_of, reduces_use, refl, same_number, setting_of, subst, sym, true, turn_at, uses_at, uses_read, ℕ, ◌&&◌, ◌==◌, ◌∙◌, ◌∷◌, ◌≡◌, ◌≤◌}
use Rattle.sdd_obligations.proofs.HandedAnswersKeepTurns.{AtTurn, answers_asked, is_awaited}
use Rattle.sdd_obligations.proofs.AtTurn.{awaits}
use Rattle.sdd_obligations.proofs.ReadSent.{IsLastRead, last_read, numbers_are, reads_sent, was_answered, was_sent}
use Rattle.sdd_obligations.proofs.Sources.{answer_source, home_first}
use Rattle.sdd_obligations.proofs.ExchangesGoByTurns.{answer_in_turn, spoken}
use Rattle.sdd_obligations.proofs.Halves.{IsSpoken, active_of, home_log, home_turns}
use Rattle.sdd_invariants.specs.site_module.SiteLog.{Log}
use Rattle.sdd_invariants.specs.logs.Entries as all

-- the phase of an attempt whose question is so

record IsShipPhase (p : Phase) (ns : List ℕ) (rows : List (ℕ × Row)) : Type 0 where
  is : is_shipping p ≡ true
  named : list_any (λ (r : ℕ × Row). not (contains ns r.0)) rows ≡ false

ship_phase : (p : Phase) (q : Msg) (rows : List (ℕ × Row)) (ns : List ℕ) (t : Ts) (k : ClassNo) → awaits p q ≡ true
    → Replies ns q (Rows t k rows) → IsShipPhase p ns rows
ship_phase p q rows ns t k e h = grind (arith)

-- the active attempt of a class awaits the answer to a question of rows
record IsActive (g : Input) (ts c d : ℕ) (log : all.Log) (ns : List ℕ) (q : Msg) : Type 0 where
  attempt : Attempt
  active_is : active (setting_of g (home g.catalogue c)) c (home_log g c log) ≡ Some attempt
  ts_is : attempt.ts ≡ ts
  phase : awaits attempt.exchange.phase q ≡ true
  lacks : contains attempt.exchange.lacks d ≡ true
  uses : uses_at attempt.exchange.modules d ≡ ns

asked_active : (g : Input) (ts c d : ℕ) (log : all.Log) (ns : List ℕ) (q : Msg) → IsPermitted g log → IsSpoken g c log
    → turn_at ts c d (home_log g c log) ≡ Asks ns q → is_a_read q ≡ false → IsActive g ts c d log ns q
asked_active g ts c d log ns q h i e f =
    let s = home_turns g c log h i in
    let x : is_exchanging (turn_at ts c d (home_log g c log)) ≡ true = ap is_exchanging e ∙ ap not f in
    let a = active_of ts d (active (setting_of g (home g.catalogue c)) c (home_log g c log)) (turn_at ts c d (home_log g c log)) (s.turns ts d) x in
    let at : AtTurn ts d (Some a.0) (turn_at ts c d (home_log g c log)) = subst (λ o. AtTurn ts d o (turn_at ts c d (home_log g c log))) a.1 (s.turns ts d) in
    let w = is_awaited d a.0.exchange (turn_at ts c d (home_log g c log)) ns q (at.0 a.2) e in
    record { attempt = a.0; active_is = a.1; ts_is = a.2; phase = w.phase; lacks = w.lacks; uses = w.uses }

-- an answer that isn't a READY or REJECT answers no READ
abbrev is_of_rows : Msg → Bool
is_of_rows (Values t k u vs) = true
is_of_rows (Reduced t k u n) = true
is_of_rows (Rows t k rows) = true
is_of_rows _ = false

record IsAnswerTo (g : Input) (ts c d : ℕ) (log : all.Log) (x : Msg) : Type 0 where
  uses : List ℕ
  question : Msg
  replies : Replies uses question x
  active_now : IsActive g ts c d log uses question

rows_answered : (g : Input) (ts c d n : ℕ) (log : all.Log) (x : Msg) → IsPermitted g log → IsSpoken g c log
    → IsAllowed g log (Hand (D (dm_no d)) (home g.catalogue c) n x) → is_answer ts c x ≡ true → is_of_rows x ≡ true → IsAnswerTo g ts c d log x
rows_answered g ts c d n log x h i a e f =
    let by = answers_asked (turn_at ts c d (home_log g c log)) x (answer_in_turn g c log d n x ts i a e) in
    record {
      uses = by.uses;
      question = by.question;
      replies = by.replies;
      active_now = asked_active g ts c d log by.uses by.question h i by.is (grind (arith));
    }

pub own : (t : Ts) (k : ClassNo) → ((t.0 == t.0) && (k.0 == k.0)) ≡ true
own t k = both (t.0 == t.0) (k.0 == k.0) (same_number t.0) (same_number k.0)

-- READY and REJECT

record IsReadAnswer (ts c d : ℕ) (log : Log) (x : Msg) : Type 0 where
  read : Msg
  uses : List ℕ
  last : head_of (reads_sent ts c d log) ≡ Some (D (dm_no d), read)
  none_answered : was_answered ts c d log ≡ false
  uses_are : numbers_of read ≡ uses
  replies : RepliesToRead uses x

rows_no_read : (ns : List ℕ) (q x : Msg) → Replies ns q x → is_of_rows x ≡ false → is_a_read q ≡ true
rows_no_read ns q x h e = grind (arith)

read_answered : (g : Input) (ts c d n : ℕ) (log : all.Log) (x : Msg) → IsPermitted g log → IsSpoken g c log
    → IsAllowed g log (Hand (D (dm_no d)) (home g.catalogue c) n x) → is_answer ts c x ≡ true → is_of_rows x ≡ false → IsReadAnswer ts c d (home_log g c log) x
read_answered g ts c d n log x h i a e f =
    let by = answers_asked (turn_at ts c d (home_log g c log)) x (answer_in_turn g c log d n x ts i a e) in
    let r : is_a_read by.question ≡ true = rows_no_read by.uses by.question x by.replies f in
    let l = last_read (setting_of g (home g.catalogue c)) ts c d (home_log g c log) (home_fair g c log h) (home_first g c log h) i.timely_at in
    let now = subst (λ w. IsLastRead d w (reads_sent ts c d (home_log g c log)) (was_answered ts c d (home_log g c log))) by.is l r in
    record {
      read = by.question;
      uses = by.uses;
      last = now.0;
      none_answered = now.1;
      uses_are = sym (numbers_are by.question by.uses r) ∙ now.2;
      replies = (grind arith);
    }

awaited_by : (g : Input) (log : all.Log) (d n : ℕ) (m : Msg) → IsPermitted g log → ((c : ℕ) → number_of (home g.catalogue c) ≤ 63)
    → ((ts c : ℕ) → is_answer ts c m ≡ true → IsAllowed g log (Hand (D (dm_no d)) (home g.catalogue c) n m))
    → (b : Site) → ((ts c : ℕ) → is_answer ts c m ≡ true → home g.catalogue c ≡ b) → IsAwaited (setting_of g b) (local_of g b log) (D (dm_no d)) m
awaited_by g log d n (Ready t k counts) h few a b home_is =
    subst (λ x. IsAwaited (setting_of g x) (local_of g x log) (D (dm_no d)) (Ready t k counts)) (home_is t.0 k.0 (own t k))
    (let r = read_answered g t.0 k.0 d n log (Ready t k counts) h (spoken g k.0 log h (few k.0)) (a t.0 k.0 (own t k)) (own t k) refl in
    record {
      answers = (record { asked = was_sent t.0 k.0 d (home_log g k.0 log) r.read r.last; first = r.none_answered });
      counts_are = r.replies ∙ sym r.uses_are ∙ sym (ap uses_read r.last);
    })
awaited_by g log d n (Reject t k by write) h few a b home_is =
    subst (λ x. IsAwaited (setting_of g x) (local_of g x log) (D (dm_no d)) (Reject t k by write)) (home_is t.0 k.0 (own t k))
    (record {
      asked = was_sent t.0 k.0 d (home_log g k.0 log) (read_answered g t.0 k.0 d n log
          (Reject t k by write) h (spoken g k.0 log h (few k.0)) (a t.0 k.0 (own t k)) (own t k) refl).read (read_answered g t.0 k.0 d n log
          (Reject t k by write) h (spoken g k.0 log h (few k.0)) (a t.0 k.0 (own t k)) (own t k) refl).last;
      first = (read_answered g t.0 k.0 d n log
          (Reject t k by write) h (spoken g k.0 log h (few k.0)) (a t.0 k.0 (own t k)) (own t k) refl).none_answered;
    })
awaited_by g log d n (Values t k u vs) h few a b home_is =
    subst (λ x. IsAwaited (setting_of g x) (local_of g x log) (D (dm_no d)) (Values t k u vs)) (home_is t.0 k.0 (own t k))
    (let r = rows_answered g t.0 k.0 d n log (Values t k u vs) h (spoken g k.0 log h (few k.0)) (a t.0 k.0 (own t k)) (own t k) refl in
    let w = r.active_now in
    subst (λ o. AwaitsAt (fetches_use u) o (D (dm_no d)) t.0) (sym w.active_is) (grind (arith)))
awaited_by g log d n (Reduced t k u x) h few a b home_is =
    subst (λ y. IsAwaited (setting_of g y) (local_of g y log) (D (dm_no d)) (Reduced t k u x)) (home_is t.0 k.0 (own t k))
    (let r = rows_answered g t.0 k.0 d n log (Reduced t k u x) h (spoken g k.0 log h (few k.0)) (a t.0 k.0 (own t k)) (own t k) refl in
    let w = r.active_now in
    subst (λ o. AwaitsAt (reduces_use u) o (D (dm_no d)) t.0) (sym w.active_is) (record {
      same = w.ts_is;
      phase = (grind (arith));
      lacks = w.lacks;
    }))
awaited_by g log d n (Rows t k rows) h few a b home_is =
    subst (λ x. IsAwaited (setting_of g x) (local_of g x log) (D (dm_no d)) (Rows t k rows)) (home_is t.0 k.0 (own t k))
    (let r = rows_answered g t.0 k.0 d n log (Rows t k rows) h (spoken g k.0 log h (few k.0)) (a t.0 k.0 (own t k)) (own t k) refl in
    let w = r.active_now in
    let s = ship_phase w.attempt.exchange.phase r.question rows r.uses t k w.phase r.replies in
    subst (λ o. AwaitsRows o (D (dm_no d)) t.0 rows) (sym w.active_is)
    (record {
      awaited = record { same = w.ts_is; phase = s.is; lacks = w.lacks };
      named = subst (λ l. list_any (λ (y : ℕ × Row). not (contains l y.0)) rows ≡ false) (sym w.uses) s.named;
    }))
awaited_by g log d n m h few a b home_is = tt

-- whose answer a message is
abbrev answer_of : Msg → Option (ℕ × ℕ)
answer_of (Ready t k counts) = Some (t.0, k.0)
answer_of (Reject t k by write) = Some (t.0, k.0)
answer_of (Values t k u vs) = Some (t.0, k.0)
answer_of (Reduced t k u n) = Some (t.0, k.0)
answer_of (Rows t k rows) = Some (t.0, k.0)
answer_of _ = None

no_answer : (s : Setting) (log : Log) (from : Site) (m : Msg) → answer_of m ≡ None → IsAwaited s log from m
no_answer s log from m e = grind arith

awaited_from : (g : Input) (log : all.Log) (a b : Site) (d : DmNo) (n : ℕ) (m : Msg) → a ≡ D d
    → IsPermitted g log → ((c : ℕ) → number_of (home g.catalogue c) ≤ 63) → IsAllowed g log (Hand a b n m) → IsAwaited (setting_of g b) (local_of g b log) a m
awaited_from g log a b d n m e h few i =
    let home_is : (ts c : ℕ) → is_answer ts c m ≡ true → home g.catalogue c ≡ b =
    λ ts c f. (answer_source g a b log (handed a b log) m ts c h (hand_was_put g log a b n m i).1 f).2 in
    subst (λ x. IsAwaited (setting_of g b) (local_of g b log) x m) (sym e)
    (awaited_by g log d.0 n m h few (grind arith) b home_is)

awaited_case : (g : Input) (log : all.Log) (a b : Site) (n : ℕ) (m : Msg) (o : Option (ℕ × ℕ)) → answer_of m ≡ o → IsPermitted g log
    → ((c : ℕ) → number_of (home g.catalogue c) ≤ 63) → IsAllowed g log (Hand a b n m) → IsAwaited (setting_of g b) (local_of g b log) a m
awaited_case g log a b n m None e h few i = no_answer (setting_of g b) (local_of g b log) a m e
awaited_case g log a b n m (Some p) e h few i =
    let r = answer_source g a b log (handed a b log) m p.0 p.1 h (hand_was_put g log a b n m i).1 (grind (arith, own)) in
    awaited_from g log a b r.0 n m r.1 h few i

-- an answer that is next to be handed over is awaited
pub answers_are_awaited : (g : Input) (log : all.Log) (a b : Site) (n : ℕ) (m : Msg) → IsPermitted g (Hand a b n m ∷ log)
    → ((c : ℕ) → number_of (home g.catalogue c) ≤ 63) → IsAwaited (setting_of g b) (local_of g b log) a m
answers_are_awaited g log a b n m h few = awaited_case g log a b n m (answer_of m) refl h.1 few h.0
