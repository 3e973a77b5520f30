-- On a permitted log the exchanges of a class with the data modules go by turns.
use Rattle.sdd_obligations.proofs.All.{Act, AllLe, Bool, D, Did, Does, Each, Entry, Hand, Handed, Input, IsAllowed, IsDueEach, IsFair, IsPermitted, IsStage, IsStep, List, Log, MayAnswer, MayAsk, Msg, Option, Site, Some, Turn, [], answers, ap, arith, asked_by, cond, d_fair, dm_no, false, filter, flight, frozen, goes_through, hand_was_put, handed_by, home, home_fair, if◌then◌else◌, inl, inr, is_answer, is_exchanging, is_question, local_of, local_step, made, maker, number_of, own_act, put_by, puts_grow, questions, refl, same_site, sends_of_act, setting_of, site_is, site_self, subst, sym, time_of, times_in, to_site, true, turn_after_answers, turn_at, turn_with, uses_held, with_made, ℕ, ◌++◌, ◌∙◌, ◌∷◌, ◌≡◌, ◌≤◌}
use Rattle.sdd_obligations.proofs.QuestionsComeInTurn.{asks_in_turn}
use Rattle.sdd_obligations.proofs.HandedAnswersKeepTurns.{IsTimely}
use Rattle.sdd_obligations.proofs.DataSteps.{data_step}
use Rattle.sdd_obligations.proofs.FirstSends.{IsFirstEach, IsFirstSend}
use Rattle.sdd_obligations.proofs.Flights.{first_in_flight, handed_did, handed_hand, nothing_put, put_did, put_hand, questions_step, answers_step, quiet_made, silent_first, turn_at_step, turn_with_step}
use Rattle.sdd_obligations.proofs.RowsStayHeld.{AreHeldFor, IsHeldAt, held_act, held_hand, tells_in_turn}
use Rattle.sdd_obligations.proofs.Sources.{home_apart, home_first, question_home}
use Rattle.sdd_obligations.proofs.Stages.{IsMove, answer_comes, answer_got, answer_put, move_as, moved, question_comes, question_got, question_put, still}
use Rattle.sdd_obligations.proofs.Replying.{IsAskedInTurn}
use Rattle.sdd_obligations.proofs.Halves.{IsLast, IsSpoken, StageAt, active_last, alone, data_log, data_turns, exchanging_active, home_log, home_source, home_turns}
use Rattle.sdd_obligations.proofs.Spaces.{home_apart as apart_from_home}
use Rattle.sdd_invariants.specs.site_module.SiteLog as site

-- what an entry adds

abbrev IsFirstAt : Input → ℕ → Log → Act → Type 0
IsFirstAt g c log act = IsFirstSend (setting_of g (home g.catalogue c)) (home_log g c log) act

home_act : (g : Input) (c : ℕ) (log : Log) (act : Act) → IsPermitted g (Does (home g.catalogue c) act ∷ log)
    → IsStep (setting_of g (home g.catalogue c)) (home_log g c log) act × IsFirstAt g c log act
home_act g c log act h = (
  (subst (λ l. Each (IsFair (setting_of g (home g.catalogue c))) l) (own_act g (home g.catalogue c) act log)
      (home_fair g c (Does (home g.catalogue c) act ∷ log) h)).0,
  (subst (λ l. Each (IsFirstEach (setting_of g (home g.catalogue c))) l)
      (own_act g (home g.catalogue c) act log) (home_first g c (Does (home g.catalogue c) act ∷ log) h)).0,
)

data_act : (g : Input) (d : ℕ) (log : Log) (act : Act) → IsPermitted g (Does (D (dm_no d)) act ∷ log)
    → IsDueEach (setting_of g (D (dm_no d))) (data_log g d log) (Did act)
data_act g d log act h = grind (arith, own_act, d_fair)

abbrev MoveAt : Input → ℕ → ℕ → ℕ → Entry → Log → Type 0
MoveAt g ts c d e log =
    IsMove (turn_at ts c d (home_log g c log)) (turn_with ts c (home g.catalogue c) (data_log g d log))
    (questions ts c (put_by (D (dm_no d)) (made g (home g.catalogue c) log e))) (questions ts c (handed_by (home g.catalogue c) (made g (D (dm_no d)) log e)))
    (answers ts c (put_by (home g.catalogue c) (made g (D (dm_no d)) log e))) (answers ts c (handed_by (D (dm_no d)) (made g (home g.catalogue c) log e)))

held_exchanging : (g : Input) (ts c d : ℕ) (log : Log) → IsPermitted g log → number_of (home g.catalogue c) ≤ 63 → IsSpoken g c log
    → (ns : List ℕ) → is_exchanging (turn_with ts c (home g.catalogue c) (data_log g d log)) ≡ true
    → uses_held (turn_with ts c (home g.catalogue c) (data_log g d log)) ≡ Some ns → AreHeldFor ts ns (frozen (setting_of g (D (dm_no d))) c (data_log g d log))
held_exchanging g ts c d log h small i ns e f = grind (arith, exchanging_active, IsLast, active_last)

move_home : (g : Input) (ts c d : ℕ) (log : Log) (act : Act) → IsPermitted g (Does (home g.catalogue c) act ∷ log) → IsSpoken g c log
    → MoveAt g ts c d (Does (home g.catalogue c) act) log
move_home g ts c d log act h i =
    let at : Site = home g.catalogue c in
    let v : Turn = turn_at ts c d (home_log g c log) in
    let w : Turn = turn_with ts c at (data_log g d log) in
    let s = home_act g c log act h in
    let pq : put_by (D (dm_no d)) (made g at log (Does at act)) ≡ to_site (D (dm_no d)) (sends_of_act act) =
    put_did (same_site at at) (D (dm_no d)) act ∙ ap (λ (b : Bool). if b then to_site (D (dm_no d)) (sends_of_act act) else []) (site_self at) in
    let hq : handed_by at (made g (D (dm_no d)) log (Does at act)) ≡ [] = handed_did (same_site (D (dm_no d)) at) at act in
    let pa : put_by at (made g (D (dm_no d)) log (Does at act)) ≡ [] =
    put_did (same_site (D (dm_no d)) at) at act ∙ ap (λ (b : Bool). if b then to_site at (sends_of_act act) else []) (apart_from_home g.catalogue c d)
    in
    let ha : handed_by (D (dm_no d)) (made g at log (Does at act)) ≡ [] = handed_did (same_site at at) (D (dm_no d)) act in
    elim (asks_in_turn (setting_of g at) c (home_log g c log) act ts d s.0 s.1 (home_turns g c log h.1 i)) [
      | inl e ↦ move_as v w _ _ _ _ [] [] [] [] (ap (questions ts c) pq ∙ e) (ap (questions ts c) hq) (ap (answers ts c) pa) (ap (answers ts c) ha) still
      | inr p ↦ grind (arith, move_as, questions, answers, question_put)
    ]

move_data : (g : Input) (ts c d : ℕ) (log : Log) (act : Act) → IsPermitted g (Does (D (dm_no d)) act ∷ log) → number_of (home g.catalogue c) ≤ 63
    → IsSpoken g c log → MoveAt g ts c d (Does (D (dm_no d)) act) log
move_data g ts c d log act h small i =
    let at : Site = home g.catalogue c in
    let from : Site = D (dm_no d) in
    let v : Turn = turn_at ts c d (home_log g c log) in
    let w : Turn = turn_with ts c at (data_log g d log) in
    let pq : put_by from (made g at log (Does from act)) ≡ [] = put_did (same_site at from) from act
    ∙ ap (λ (b : Bool). if b then to_site from (sends_of_act act) else []) (home_apart g.catalogue c d) in
    let hq : handed_by at (made g from log (Does from act)) ≡ [] = handed_did (same_site from from) at act in
    let pa : put_by at (made g from log (Does from act)) ≡ to_site at (sends_of_act act) =
    put_did (same_site from from) at act ∙ ap (λ (b : Bool). if b then to_site at (sends_of_act act) else []) (site_self from) in
    let ha : handed_by from (made g at log (Does from act)) ≡ [] = handed_did (same_site at from) from act in
    elim (tells_in_turn (setting_of g from) ts c at (data_log g d log) act (home_source g c d)
    (data_step (setting_of g from) (data_log g d log) act (data_act g d log act h))
    (data_turns g ts c d log h.1 i) (held_exchanging g ts c d log h.1 small i)) [
      | inl e ↦ move_as v w _ _ _ _ [] [] [] [] (ap (questions ts c) pq) (ap (questions ts c) hq) (ap (answers ts c) pa ∙ e) (ap (answers ts c) ha) still
      | inr p ↦ grind (arith, move_as, questions, answers, answer_put)
    ]

move_act : (g : Input) (ts c d : ℕ) (log : Log) (by : Site) (act : Act) → IsPermitted g (Does by act ∷ log) → number_of (home g.catalogue c) ≤ 63
    → IsSpoken g c log → MoveAt g ts c d (Does by act) log
move_act g ts c d log by act h small i =
    elim (same_site (home g.catalogue c) by) as (λ b. same_site (home g.catalogue c) by ≡ b → MoveAt g ts c d (Does by act) log) [
      | true ↦ λ e. (let p : home g.catalogue c ≡ by = site_is (home g.catalogue c) by e in
          subst (λ x. MoveAt g ts c d (Does x act) log) p (move_home g ts c d log act (subst (λ x. IsPermitted g (Does x act ∷ log)) (sym p) h) i))
      | false ↦ λ e. elim (same_site (D (dm_no d)) by) as (λ b. same_site (D (dm_no d)) by ≡ b → MoveAt g ts c d (Does by act) log) [
        | true ↦ λ f. (let p : D (dm_no d) ≡ by = site_is (D (dm_no d)) by f in
            subst (λ x. MoveAt g ts c d (Does x act) log) p (move_data g ts c d log act (subst (λ x. IsPermitted g (Does x act ∷ log)) (sym p) h) small i))
        | false ↦ grind (arith, move_as, turn_at, home_log, turn_with, home, data_log, questions, put_did, same_site, dm_no, to_site, sends_of_act, handed_did, answers, still)
      ] refl
    ] refl

-- a hand

move_hand : (g : Input) (ts c d : ℕ) (log : Log) (from to : Site) (n : ℕ) (m : Msg) → MoveAt g ts c d (Hand from to n m) log
move_hand g ts c d log from to n m = grind (arith, home_log, data_log, put_hand, handed_hand, MoveAt, site_is, apart_from_home, move_as, still, answer_got, question_got)

move_at : (g : Input) (ts c d : ℕ) (log : Log) (e : Entry) → IsPermitted g (e ∷ log) → number_of (home g.catalogue c) ≤ 63
    → IsSpoken g c log → MoveAt g ts c d e log
move_at g ts c d log (Does by act) h small i = move_act g ts c d log by act h small i
move_at g ts c d log (Hand from to n m) h small i = move_hand g ts c d log from to n m
move_at g ts c d log e h small i = (grind (arith, quiet_made, move_as, home_log, data_log, still))

stage_step : (g : Input) (ts c d : ℕ) (log : Log) (e : Entry) → IsPermitted g (e ∷ log) → number_of (home g.catalogue c) ≤ 63
    → IsSpoken g c log → StageAt g ts c d (e ∷ log)
stage_step g ts c d log e h small i =
    let at : Site = home g.catalogue c in
    let m : Site = D (dm_no d) in
    let now = moved (turn_at ts c d (home_log g c log)) (turn_with ts c at (data_log g d log)) _ _ _ _ _ _
    (questions ts c (flight g at m (e ∷ log))) (answers ts c (flight g m at (e ∷ log)))
    (move_at g ts c d log e h small i) (questions_step g ts c at m e log h) (answers_step g ts c m at e log h) (i.stages ts d) in
    subst (λ v. IsStage v (turn_with ts c at (data_log g d (e ∷ log))) (questions ts c (flight g at m (e ∷ log))) (answers ts c (flight g m at (e ∷ log))))
    (sym (turn_at_step g ts c d at e log))
    (subst (λ w. IsStage (turn_after_answers (answers ts c (handed_by m (made g at log e)))
    (asked_by (questions ts c (put_by m (made g at log e))) (turn_at ts c d (home_log g c log)))) w
    (questions ts c (flight g at m (e ∷ log))) (answers ts c (flight g m at (e ∷ log)))) (sym (turn_with_step g ts c at m e log)) now)

-- what is handed over comes in turn

pub first_of_kind : (f : Msg → Bool) (ms : List Msg) (m : Msg) (rest : List Msg) → ms ≡ m ∷ rest → f m ≡ true → filter f ms ≡ m ∷ filter f rest
first_of_kind f ms m rest e p = ap (filter f) e ∙ ap (λ (b : Bool). cond b (m ∷ filter f rest) (filter f rest)) p

pub answer_in_turn : (g : Input) (c : ℕ) (log : Log) (d n : ℕ) (m : Msg) (ts : ℕ) → IsSpoken g c log
    → IsAllowed g log (Hand (D (dm_no d)) (home g.catalogue c) n m) → is_answer ts c m ≡ true → MayAnswer (turn_at ts c d (home_log g c log)) m
answer_in_turn g c log d n m ts i h e = grind (arith, first_in_flight, answer_comes, first_of_kind)

pub question_in_turn : (g : Input) (c : ℕ) (log : Log) (d n : ℕ) (m : Msg) (ts : ℕ) → IsSpoken g c log
    → IsAllowed g log (Hand (home g.catalogue c) (D (dm_no d)) n m) → is_question ts c m ≡ true
    → MayAsk (turn_with ts c (home g.catalogue c) (data_log g d log)) m
question_in_turn g c log d n m ts i h e = grind (arith, first_in_flight, question_comes, first_of_kind)

timely_made : (g : Input) (c : ℕ) (log : Log) (e : Entry) (x : site.Entry) → IsPermitted g (e ∷ log) → IsSpoken g c log
    → made g (home g.catalogue c) log e ≡ Some x → IsTimely c (home_log g c log) x
timely_made g c log e (Handed from m) h i p = λ ts d f q.
    (let k = maker g (home g.catalogue c) log e (Handed from m) p in
    answer_in_turn g c log d k.0 m ts i (subst (λ s. IsAllowed g log (Hand s (home g.catalogue c) k.0 m)) f (subst (IsAllowed g log) k.1 h.0)) q)
timely_made g c log e _ h i p = tt

asked_made : (g : Input) (c d : ℕ) (log : Log) (e : Entry) (x : site.Entry) → IsPermitted g (e ∷ log) → IsSpoken g c log
    → made g (D (dm_no d)) log e ≡ Some x → IsAskedInTurn c (home g.catalogue c) (data_log g d log) x
asked_made g c d log e x h i p = grind (arith, maker, question_home, hand_was_put, question_in_turn)

each_made : (P : site.Log → site.Entry → Type 0) (o : Option site.Entry) (l : site.Log) → ((x : site.Entry) → o ≡ Some x → P l x)
    → Each P l → Each P (with_made o l)
each_made P o l f h = grind arith

-- rows stay held

last_if : (c ts : ℕ) (b : Bool) (m : Msg) (xs ys : List ℕ) → (AllLe ts xs → AllLe ts ys) → AllLe ts (if b then time_of m ∷ xs else xs)
    → AllLe ts (if b then time_of m ∷ ys else ys)
last_if c ts b m xs ys f h = grind arith

last_left : (c ts : ℕ) (ms more : List Msg) → AllLe ts (times_in c (ms ++ more)) → AllLe ts (times_in c ms)
last_left c ts [] more h = tt
last_left c ts (m ∷ ms) more h = last_if c ts (goes_through c m) m (times_in c (ms ++ more)) (times_in c ms) (λ k. last_left c ts ms more k) h

last_before : (g : Input) (ts c d : ℕ) (e : Entry) (log : Log) → IsLast g ts c d (e ∷ log) → IsLast g ts c d log
last_before g ts c d e log h = grind (arith, last_left, home_log, puts_grow)

held_made : (g : Input) (ts c d : ℕ) (log : Log) (e : Entry) (o : Option site.Entry) → IsPermitted g (e ∷ log) → number_of (home g.catalogue c) ≤ 63
    → IsSpoken g c log → IsLast g ts c d log → made g (D (dm_no d)) log e ≡ o
    → IsHeldAt (setting_of g (D (dm_no d))) ts c (home g.catalogue c) (with_made o (data_log g d log))
held_made g ts c d log e (Some (Handed from m)) h small i last p =
    held_hand (setting_of g (D (dm_no d))) ts c (home g.catalogue c) (data_log g d log) from m
    (λ q. (asked_made g c d log e (Handed from m) h i p ts q).1) (i.held ts d last)
held_made g ts c d log e (Some (Did act)) h small i last p =
    let due = data_act g d log act (subst (λ x. IsPermitted g (x ∷ log)) (maker g (D (dm_no d)) log e (Did act) p) h) in
    held_act (setting_of g (D (dm_no d))) ts c (home g.catalogue c) (data_log g d log) act
    (home_source g c d) (data_step (setting_of g (D (dm_no d))) (data_log g d log) act due) (alone g ts c d log h.1 small i last) (i.held ts d last)
held_made g ts c d log e _ h small i last p = i.held ts d last

first_timely : (g : Input) (c : ℕ) (at : Site) → Each (IsTimely c) (local_of g at [])
first_timely g c at = grind arith

-- on every permitted log
pub spoken : (g : Input) (c : ℕ) (log : Log) → IsPermitted g log → number_of (home g.catalogue c) ≤ 63 → IsSpoken g c log
spoken g c [] h small = grind (arith, silent_first, nothing_put, first_timely)
spoken g c (e ∷ log) h small =
    let i = spoken g c log h.1 small in
    record {
      stages = λ ts d. stage_step g ts c d log e h small i;
      timely_at = subst (Each (IsTimely c)) (sym (local_step g (home g.catalogue c) e log))
          (each_made (IsTimely c) (made g (home g.catalogue c) log e) (home_log g c log) (λ x p. timely_made g c log e x h i p) i.timely_at);
      timely_with = λ d. subst (Each (IsAskedInTurn c (home g.catalogue c)))
          (sym (local_step g (D (dm_no d)) e log)) (each_made (IsAskedInTurn c (home g.catalogue c))
          (made g (D (dm_no d)) log e) (data_log g d log) (λ x p. asked_made g c d log e x h i p) (i.timely_with d));
      held = λ ts d l. subst (λ k. IsHeldAt (setting_of g (D (dm_no d))) ts c (home g.catalogue c) k) (sym (local_step g (D (dm_no d)) e log))
          (held_made g ts c d log e (made g (D (dm_no d)) log e) h small i (last_before g ts c d e log l)
          refl);
    }
