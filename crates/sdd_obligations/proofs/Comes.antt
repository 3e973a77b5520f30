-- A question that is next to be handed over is for rows that its data module holds.
use Rattle.sdd_obligations.proofs.All.{AreFor, Asks, Bool, D, DmNo, Fetch, FitsShip, Frozen, Hand, Input, IsAllowed, IsOfUses, IsPermitted, IsServable, List, MayAsk, Msg, None, Option, Reduce, Replied, Replies, Ship, Site, Some, Turn, [], active, answers, ap, arith, asks_rows, false, flight, frozen, hand_was_put, handed, home, if◌then◌else◌, is_a_read, is_a_ship, is_answer, is_exchanging, is_question, local_of, never, not, number_of, questions, setting_of, subst, sym, true, turn_after_answer, turn_at, turn_with, uses_held, ℕ, ◌∙◌, ◌∷◌, ◌≡◌, ◌≤◌}
use Rattle.sdd_obligations.proofs.HandedAnswersKeepTurns.{answers_asked}
use Rattle.sdd_obligations.proofs.Flights.{first_in_flight}
use Rattle.sdd_obligations.proofs.Replying.{asks_question, asks_no_a_read as asks_no_read}
use Rattle.sdd_obligations.proofs.RowsStayHeld.{AreHeldFor}
use Rattle.sdd_obligations.proofs.Sources.{asked_here, question_home, source_is_home}
use Rattle.sdd_obligations.proofs.ExchangesGoByTurns.{first_of_kind, answer_in_turn, question_in_turn, spoken}
use Rattle.sdd_obligations.proofs.Halves.{IsLast, active_last, active_of, data_log, home_log, home_turns}
use Rattle.sdd_obligations.proofs.Stages.{answer_flies, question_flies}
use Rattle.sdd_obligations.proofs.Answered.{own}
use Rattle.sdd_invariants.specs.logs.Entries as all

-- questions

record IsRowsTurn (w : Turn) (m : Msg) : Type 0 where
  uses : List ℕ
  last : Msg
  is : w ≡ Replied uses last
  not_shipped : is_a_ship last ≡ false
  named : IsOfUses uses m

rows_turn : (w : Turn) (m : Msg) → MayAsk w m → is_a_read m ≡ false → IsRowsTurn w m
rows_turn w m h e = grind (arith, never)

held_for : (ts : ℕ) (ns : List ℕ) (f : Option Frozen) → AreHeldFor ts ns f → AreFor ts f
held_for ts ns f h = grind arith

record IsForHeld (g : Input) (log : all.Log) (a : Site) (d : DmNo) (ts c : ℕ) (m : Msg) : Type 0 where
  ship : FitsShip (setting_of g (D d)) (local_of g (D d) log) a c ts
  uses : List ℕ
  held : AreHeldFor ts uses (frozen (setting_of g (D d)) c (local_of g (D d) log))
  named : IsOfUses uses m

for_held : (g : Input) (log : all.Log) (a : Site) (d : DmNo) (n : ℕ) (m : Msg) (ts c : ℕ) → IsPermitted g log → ((c : ℕ) → number_of (home g.catalogue c) ≤ 63)
    → IsAllowed g log (Hand a (D d) n m) → asks_rows ts c m ≡ true → IsForHeld g log a d ts c m
for_held g log a d n m ts c h few i e =
    let q : is_question ts c m ≡ true = asks_question ts c m e in
    let put = (hand_was_put g log a (D d) n m i).1 in
    let from : home g.catalogue c ≡ a = question_home g a (D d) log (handed a (D d) log) m ts c h put q in
    let j : IsAllowed g log (Hand (home g.catalogue c) (D d) n m) = subst (λ s. IsAllowed g log (Hand s (D d) n m)) (sym from) i in
    let put_home = (hand_was_put g log (home g.catalogue c) (D d) n m j).1 in
    let l = asked_here g c (D d) log (handed (home g.catalogue c) (D d) log) m ts h put_home e in
    let k = spoken g c log h (few c) in
    let no_read : is_a_read m ≡ false = asks_no_read ts c m e in
    let w = rows_turn (turn_with ts c (home g.catalogue c) (data_log g d.0 log)) m (question_in_turn g c log d.0 n m ts k j q) no_read in
    let f = first_in_flight g log (home g.catalogue c) (D d) n m j in
    let goes = question_flies _ _ _ _ m (questions ts c f.0) (grind (arith, first_of_kind, is_question, flight, home)) (k.stages ts d.0) in
    let x = active_of ts d.0 (active (setting_of g (home g.catalogue c)) c (home_log g c log))
    (turn_at ts c d.0 (home_log g c log)) ((home_turns g c log h k).turns ts d.0) (ap is_exchanging goes ∙ ap not no_read) in
    let last : IsLast g ts c d.0 log = subst (λ t. IsLast g t c d.0 log) x.2 (active_last g c d.0 log x.0 h (few c) x.1) in
    let held = k.held ts d.0 last w.uses (ap uses_held w.is ∙ ap (λ (b : Bool). if b then None else Some w.uses) w.not_shipped) in
    record {
      ship = record {
        source = record { is_class = l; home = sym from ∙ sym (source_is_home (setting_of g (D d)) c (omega (arith, l))) };
        held = held_for ts w.uses (frozen (setting_of g (D d)) c (local_of g (D d) log)) held;
      };
      uses = w.uses;
      held = held;
      named = w.named;
    }

-- a FETCH, REDUCE or SHIP that is next to be handed over is for rows that its data module holds
pub questions_are_servable : (g : Input) (log : all.Log) (a : Site) (d : DmNo) (n : ℕ) (m : Msg) → IsPermitted g (Hand a (D d) n m ∷ log)
    → ((c : ℕ) → number_of (home g.catalogue c) ≤ 63) → IsServable (setting_of g (D d)) (local_of g (D d) log) a m
questions_are_servable g log a d n (Fetch t k u col) h few =
    let r = for_held g log a d n (Fetch t k u col) t.0 k.0 h.1 few h.0 (own t k) in
    record { asked = r.ship; named = (grind arith) }
questions_are_servable g log a d n (Reduce t k u col vs) h few =
    let r = for_held g log a d n (Reduce t k u col vs) t.0 k.0 h.1 few h.0 (own t k) in
    record { asked = r.ship; named = (grind arith) }
questions_are_servable g log a d n (Ship t k) h few = (for_held g log a d n (Ship t k) t.0 k.0 h.1 few h.0 (own t k)).ship
questions_are_servable g log a d n m h few = tt

-- a question that is next to be handed over is the one of its site's turn
pub next_question_is : (g : Input) (c : ℕ) (log : all.Log) (d : DmNo) (n : ℕ) (m : Msg) (ts : ℕ) → IsPermitted g log → number_of (home g.catalogue c) ≤ 63
    → IsAllowed g log (Hand (home g.catalogue c) (D d) n m) → is_question ts c m ≡ true → (ns : List ℕ) × (turn_at ts c d.0 (home_log g c log) ≡ Asks ns m)
next_question_is g c log d n m ts h few i q =
    let f = first_in_flight g log (home g.catalogue c) (D d) n m i in (
      _,
      question_flies _ _ _ _ m (questions ts c f.0) (grind (arith, first_of_kind, is_question, flight, home)) ((spoken g c log h few).stages ts d.0),
    )

-- an answer that is next to be handed over answers the question of its site's turn, and is the last of its module
pub record IsNextAnswer (g : Input) (c : ℕ) (log : all.Log) (d : DmNo) (x : Msg) (ts : ℕ) : Type 0 where
  pub uses : List ℕ
  pub question : Msg
  pub asks : turn_at ts c d.0 (home_log g c log) ≡ Asks uses question
  pub replies : Replies uses question x
  pub tells : turn_with ts c (home g.catalogue c) (data_log g d.0 log) ≡ turn_after_answer x (Asks uses question)
  pub alone : answers ts c (flight g (D d) (home g.catalogue c) log) ≡ x ∷ []

pub next_answer_is : (g : Input) (c : ℕ) (log : all.Log) (d : DmNo) (n : ℕ) (x : Msg) (ts : ℕ) → IsPermitted g log → number_of (home g.catalogue c) ≤ 63
    → IsAllowed g log (Hand (D d) (home g.catalogue c) n x) → is_answer ts c x ≡ true → IsNextAnswer g c log d x ts
next_answer_is g c log d n x ts h few i a =
    let k = spoken g c log h few in
    let by = answers_asked (turn_at ts c d.0 (home_log g c log)) x (answer_in_turn g c log d.0 n x ts k i a) in
    let f = first_in_flight g log (D d) (home g.catalogue c) n x i in
    let e = first_of_kind (is_answer ts c) (flight g (D d) (home g.catalogue c) log) x f.0 f.1 a in
    let o = answer_flies _ _ _ _ x (answers ts c f.0) e (k.stages ts d.0) in
    record { uses = by.uses; question = by.question; asks = by.is; replies = by.replies; tells = o.0 ∙ ap (turn_after_answer x) by.is; alone = e ∙ ap (λ l. x ∷ l) o.1 }
