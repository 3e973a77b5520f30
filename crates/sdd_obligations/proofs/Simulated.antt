-- The exchange of an active attempt follows a run over what its modules keep, on every permitted log.
use Rattle.sdd_obligations.proofs.All.{Act, AllReadied, Asks, Attempt, Bases, Bool, Catalogue, CopyRows, D, Did, DmNo, Does, Each, Entry, Exchange, FitsInput, Frozen, Hand, Handed, Has, HasEras, Input, IsFair, IsPermitted, KeepsOnce, List, Log, Msg, None, Option, Queued, Reduce, Reject, Sends, Setting, Site, Some, Space, T, Tells, U, Value, [], active, active_handed, active_sent, after_hand, after_send, ap, arith, asked_at, asks_rows, beginning, begins, bound, class_at, class_no, clock, commit_act, contains, contents, current_era, dated, dm_no, false, filter_map, follows_reduce, follows_start, frozen_for, frozen_once, frozen_space, head, head_of, home, home_fair, honest, if_way, if◌then◌else◌, inl, inr, is_a_refusal, is_answer, is_question, is_shipped, kept, length, local_of, local_step, made, module_read, modules_asked, never, next_stamp, own_act, pipe, question, question_of, queue, readied, reduced, refl, rejects, same_number, same_or_not, same_site, sends_of_act, setting_of, site_is, site_self, start_at, start_modules, started, step_way, subst, suc, sym, time_at, tm_no, true, turn_at, with_made, ℕ, ◌==◌, ◌∙◌, ◌∷◌, ◌≡◌, ◌≢◌, ◌≤◌}
use Rattle.sdd_obligations.proofs.AtTurn.{hand_not}
use Rattle.sdd_obligations.proofs.HandedAnswersKeepTurns.{is_awaited}
use Rattle.sdd_obligations.proofs.Modules.{firsts}
use Rattle.sdd_obligations.proofs.ShippedAnswered.{answer_to, not_before, uses_at_head}
use Rattle.sdd_obligations.proofs.Covered.{attempt_covered, class_within}
use Rattle.sdd_obligations.proofs.MembersInOrder.{has_contains}
use Rattle.sdd_obligations.proofs.Places.{IsAnswerAt}
use Rattle.sdd_obligations.proofs.Exchanging.{IsReply, Serving, hand_serves, send_serves}
use Rattle.sdd_obligations.proofs.Kept.{IsFrozen, IsReduced, act_keeps, hand_keeps, kept_answered}
use Rattle.sdd_obligations.proofs.Once.{runs_once}
use Rattle.sdd_obligations.proofs.Spaces.{Agrees, IsStillEntry, agrees_before, home_apart, kept_apart, kept_at, kept_still, made_still, or_first, own, set, space_at, space_same, still_active}
use Rattle.sdd_obligations.proofs.InStep.{InStep, again, awaited_there, col_of, contains_has, none_read, reducing_is, use_of}
use Rattle.sdd_serving.specs.Freezing.{uses_at}
use Rattle.sdd_invariants.specs.site_module.SiteLog as site

module _ (g : Input) (good : FitsInput g) (eras : HasEras g) (c : ℕ) (in_step : (log : Log) → IsPermitted g log → (a : Attempt)
    → active (setting_of g (home g.catalogue c)) c (local_of g (home g.catalogue c) log) ≡ Some a
    → InStep g c log a) where
  abbrev cat : Catalogue
  cat = g.catalogue

  abbrev at : Site
  at = home g.catalogue c

  abbrev s : Setting
  s = setting_of g (home g.catalogue c)

  abbrev mine : Log → site.Log
  mine log = local_of g (home g.catalogue c) log

  abbrev pub asked_of : Attempt → List ℕ
  asked_of a = modules_asked s c a.text

  abbrev pub first_of : Attempt → (ℕ → CopyRows) → Space
  first_of a copies = frozen_space cat c a.text a.ts copies

  abbrev pub Serves : Attempt → (ℕ → CopyRows) → Space → Exchange → Type 0
  Serves a copies space x = Serving (asked_of a) (a.text).statements (asked_at cat c a.text) (first_of a copies) space x

  abbrev pub IsServed : Log → Attempt → (ℕ → CopyRows) → Type 0
  IsServed log a copies = Serves a copies (space_at g c a.ts (first_of a copies) log) a.exchange

  abbrev pub AllServed : Log → Option Attempt → Type 0
  AllServed log None = Unit {0}
  AllServed log (Some a) = (copies : ℕ → CopyRows) → Agrees g a.ts copies log → IsServed log a copies

  -- where the modules keep the same
  still_served : (e : Entry) (log : Log) (o : Option Attempt)
      → ((ts d : ℕ) → kept_at g c ts d (e ∷ log) ≡ kept_at g c ts d log) → AllServed log o → AllServed (e ∷ log) o
  still_served e log None k h = tt
  still_served e log (Some a) k h = λ copies agree.
      subst (λ space. Serves a copies space a.exchange) (sym (space_same g c a.ts (first_of a copies) e log (k a.ts)))
      (h copies (agrees_before g a.ts copies e log agree))

  -- rows of a use are kept once
  once_at : (log : Log) (a : Attempt) (copies : ℕ → CopyRows) → IsServed log a copies → (d : ℕ) → KeepsOnce (space_at g c a.ts (first_of a copies) log d)
  once_at log a copies h = runs_once (asked_of a) (a.text).statements (asked_at cat c a.text)
      (first_of a copies) (λ d. frozen_once cat c a.text a.ts copies d) (space_at g c a.ts (first_of a copies) log) _ h.follows.runs

  -- a hand to the site

  reply_of : (log : Log) (a : Attempt) (copies : ℕ → CopyRows) (d : DmNo) (n : ℕ) (m : Msg)
      → InStep g c log a → IsPermitted g (Hand (D d) at n m ∷ log) → is_answer a.ts c m ≡ true
      → IsReply a.ts c d.0 (space_at g c a.ts (first_of a copies) log) a.exchange m × (contains (firsts a.exchange.modules) d.0 ≡ true)
  reply_of log a copies d n m step h own =
      let r = step.answer d n m h own in
      let w = is_awaited d.0 a.exchange (turn_at a.ts c d.0 (mine log)) r.uses r.question (step.at_turn d.0) r.is in (
        record {
          uses = r.uses;
          question = r.question;
          phase = w.phase;
          replies = r.replies;
          content = λ e. step.asks.asked d.0 r.uses r.question r.is e;
          tells = λ e. (let t = r.tells e in subst (λ o. Tells r.question m (or_first o (first_of a copies d.0))) (sym t.1) t.2);
        },
        awaited_there d.0 a.exchange (turn_at a.ts c d.0 (mine log)) r.uses r.question (step.at_turn d.0) r.is,
      )

  not_refusal : (a : Attempt) (m : Msg) → is_answer a.ts c m ≡ true → rejects m a.ts c ≡ false → is_a_refusal m ≡ false
  not_refusal a (Reject t k b write) e f = never (is_answer a.ts c (Reject t k b write)) e f
  not_refusal a m e f = refl

  taken : (log : Log) (a : Attempt) (copies : ℕ → CopyRows) (d : DmNo) (n : ℕ) (m : Msg) → IsPermitted g log
      → active s c (mine log) ≡ Some a → IsPermitted g (Hand (D d) at n m ∷ log) → rejects m a.ts c ≡ false
      → (b : Bool) → is_answer a.ts c m ≡ b → IsServed log a copies
      → Serves a copies (space_at g c a.ts (first_of a copies) log) (after_hand a.ts c d.0 m a.exchange)
  taken log a copies d n m h e hand kind true own served =
      let r = reply_of log a copies d n m (in_step log h a e) hand own in
      let are = ((subst (AllReadied s c (mine log)) e (readied s c (mine log) (home_fair g c log h) (honest g at log h))).modules_are) in
      hand_serves (asked_of a) (a.text).statements (asked_at cat c a.text) (first_of a copies) a.ts c d.0 (space_at g c a.ts (first_of a copies) log)
      (contains_has (asked_of a) d.0 (subst (λ ms. contains ms d.0 ≡ true) are r.1))
      a.exchange m own (not_refusal a m own kind) r.0 (once_at log a copies served d.0)
      (λ k there. ap (λ ms. contains ms k) are ∙ has_contains (asked_of a) k there) served
  taken log a copies d n m h e hand kind false own served =
      subst (Serves a copies (space_at g c a.ts (first_of a copies) log)) (sym (hand_not a.ts c d.0 a.exchange m own)) served

  handed_from_d : (log : Log) (o : Option Attempt) (d : DmNo) (n : ℕ) (m : Msg) → IsPermitted g log
      → active s c (mine log) ≡ o → IsPermitted g (Hand (D d) at n m ∷ log) → AllServed log o → AllServed log (active_handed c (D d) m o)
  handed_from_d log None d n m h e hand served = tt
  handed_from_d log (Some a) d n m h e hand served =
      elim (rejects m a.ts c) as (λ b. rejects m a.ts c ≡ b
      → AllServed log (if b then None else Some (record a { exchange = after_hand a.ts c d.0 m a.exchange }))) [
        | true ↦ λ kind. tt
        | false ↦ λ kind copies agree. taken log a copies d n m h e hand kind (is_answer a.ts c m) refl (served copies agree)
      ] refl

  handed_home : (log : Log) (from : Site) (n : ℕ) (m : Msg) → IsPermitted g log → IsPermitted g (Hand from at n m ∷ log) → AllServed log (active s c (mine log))
      → AllServed log (active_handed c from m (active s c (mine log)))
  handed_home log (D d) n m h hand served = handed_from_d log (active s c (mine log)) d n m h refl hand served
  handed_home log _ n m h hand served = served

  -- an entry of the site itself leaves what modules keep
  home_hand : (log : Log) (from : Site) (n : ℕ) (m : Msg) (ts d : ℕ) → kept_at g c ts d (Hand from at n m ∷ log) ≡ kept_at g c ts d log
  home_hand log from n m ts d = kept_apart g c ts d (Hand from at n m) log (ap (λ b. if b then Some (Handed from m) else None) (home_apart cat c d))

  home_act : (log : Log) (act : Act) (ts d : ℕ) → kept_at g c ts d (Does at act ∷ log) ≡ kept_at g c ts d log
  home_act log act ts d = kept_apart g c ts d (Does at act) log (ap (λ b. if b then Some (Did act) else None) (home_apart cat c d))

  -- a hand to a data module

  -- what a REDUCE leaves
  reduced_space : (log : Log) (a : Attempt) (copies : ℕ → CopyRows) (from : Site) (d : DmNo) (n : ℕ)
      (m : Msg) → IsPermitted g log → active s c (mine log) ≡ Some a
      → IsPermitted g (Hand from (D d) n m ∷ log)
      → IsReduced (set g d.0) c a.ts from m (own g d.0 log) → ((k : ℕ) → (k == d.0) ≡ false
      → kept_at g c a.ts k (Hand from (D d) n m ∷ log) ≡ kept_at g c a.ts k log)
      → own g d.0 (Hand from (D d) n m ∷ log) ≡ Handed from m ∷ own g d.0 log → IsServed log a copies → IsServed (Hand from (D d) n m ∷ log) a copies
  reduced_space log a copies from d n m h e hand r others here served =
      let step = in_step log h a e in
      let q : Msg = Reduce r.t r.of r.number r.col r.values in
      let mine_is : is_question a.ts c q ≡ true = rw (ap (λ x. x == a.ts) r.ts_is ∙ same_number a.ts, ap (λ x. x == c) r.class_is ∙ same_number c) refl in
      let t = step.question from d n m hand (ap (is_question a.ts c) r.is ∙ mine_is) in
      let turn : turn_at a.ts c d.0 (mine log) ≡ Asks t.0 q = t.1 ∙ ap (Asks t.0) r.is in
      let w = is_awaited d.0 a.exchange (turn_at a.ts c d.0 (mine log)) t.0 q (step.at_turn d.0) turn in
      let v = reducing_is a.exchange.phase q w.phase refl in
      let same : q ≡ question_of a.ts c a.exchange = step.asks.asked d.0 t.0 q turn refl in
      let now : q ≡ Reduce (time_at a.ts) (class_no c) v.0.target.part v.0.target.column a.exchange.union =
      same ∙ ap (λ p. question a.ts c p a.exchange.union) v.1 in
      let number : r.number ≡ v.0.target.part = ap use_of now in
      let rest : (r.col, r.values) ≡ (v.0.target.column, a.exchange.union) = ap col_of now in
      let col : r.col ≡ v.0.target.column = ap (λ (z : ℕ × List Value). z.0) rest in
      let values : r.values ≡ a.exchange.union = ap (λ (z : ℕ × List Value). z.1) rest in
      let first : Space = first_of a copies in
      let old : Space = space_at g c a.ts first log in
      let new : Space = space_at g c a.ts first (Hand from (D d) n m ∷ log) in
      let was : old d.0 ≡ r.rows = ap (λ o. or_first o (first d.0)) r.before in
      let is : new d.0 ≡ reduced r.number r.col r.values r.rows = ap (λ o. or_first o (first d.0)) (ap (kept (set g d.0) c a.ts) here ∙ r.after) in
      let at_d : new d.0 ≡ reduced v.0.target.part v.0.target.column a.exchange.union (old d.0) =
      is ∙ ap (λ u. reduced u r.col r.values r.rows) number ∙ ap (λ k. reduced v.0.target.part k r.values r.rows) col
      ∙ ap (λ vs. reduced v.0.target.part v.0.target.column vs r.rows) values
      ∙ ap (reduced v.0.target.part v.0.target.column a.exchange.union) (sym was) in
      let elsewhere : (k : ℕ) → k ≢ d.0 → new k ≡ old k =
      λ k ne. elim (same_or_not k d.0) [
        | inl p ↦ absurd (ne p)
        | inr p ↦ ap (λ o. or_first o (first k)) (others k p)
      ] in
      let early : is_shipped a.exchange.phase ≡ false = ap is_shipped v.1 in
      record {
        follows = follows_reduce (asked_of a) (a.text).statements (asked_at cat c a.text) first old new a.exchange v.0 d.0 served.follows v.1 at_d elsewhere;
        none = served.none;
        of = λ x k. absurd (subst (λ xs. Has xs x) (served.none early) k);
        all = λ ships. never (is_shipped a.exchange.phase) ships early;
      }

  handed_module : (log : Log) (from : Site) (d : DmNo) (n : ℕ) (m : Msg) (o : Option Attempt)
      → IsPermitted g log → active s c (mine log) ≡ o → IsPermitted g (Hand from (D d) n m ∷ log) → AllServed log o → AllServed (Hand from (D d) n m ∷ log) o
  handed_module log from d n m None h e hand served = tt
  handed_module log from d n m (Some a) h e hand served =
      let entry : Entry = Hand from (D d) n m in
      let others : (k : ℕ) → (k == d.0) ≡ false → kept_at g c a.ts k (entry ∷ log) ≡ kept_at g c a.ts k
      log = λ k p. kept_apart g c a.ts k entry log (ap (λ b. if b then Some (Handed from m) else None) p)
      in
      let here : own g d.0 (entry ∷ log) ≡ Handed from m ∷ own g d.0 log = local_step g (D d) entry log
      ∙ ap (λ b. with_made (if b then Some (Handed from m) else None) (own g d.0 log)) (same_number d.0) in
      λ copies agree. elim (hand_keeps (set g d.0) c a.ts from m (own g d.0 log)) [
        | inl same ↦
            subst (λ space. Serves a copies space a.exchange)
            (sym (space_same g c a.ts (first_of a copies) entry log (λ k. elim (same_or_not k d.0) [
              | inl p ↦ subst (λ j. kept_at g c a.ts j (entry ∷ log) ≡ kept_at g c a.ts j log) (sym p) (ap (kept (set g d.0) c a.ts) here ∙ same)
              | inr p ↦ others k p
            ]))) (served copies (agrees_before g a.ts copies entry log agree))
        | inr r ↦ reduced_space log a copies from d n m h e hand r others here (served copies (agrees_before g a.ts copies entry log agree))
      ]

  -- an act of a data module

  frozen_same : (log : Log) (a : Attempt) (copies : ℕ → CopyRows) (d : DmNo) (act : Act)
      → IsPermitted g (Does (D d) act ∷ log) → active s c (mine (Does (D d) act ∷ log)) ≡ Some a
      → Agrees g a.ts copies (Does (D d) act ∷ log) → own g d.0 (Does (D d) act ∷ log) ≡ Did act ∷ own g d.0 log
      → (r : IsFrozen (set g d.0) c a.ts act (own g d.0 log)) → (o : Option Frozen) → kept_at g c a.ts d.0 log ≡ o
      → space_at g c a.ts (first_of a copies) (Does (D d) act ∷ log) d.0 ≡ or_first o (first_of a copies d.0)
  frozen_same log a copies d act h e agree here r (Some f) k =
      let older : IsAnswerAt a.ts (own g d.0 log) = kept_answered (set g d.0) c a.ts (own g d.0 log) f k in
      let x : IsAnswerAt a.ts (own g d.0 (Does (D d) act ∷ log)) = subst (IsAnswerAt a.ts) (sym here) r.answer in
      absurd (again g good c d act log a.ts h here r older)
  frozen_same log a copies d act h e agree here r None k =
      let P : site.Log → Type 0 = λ l. (y : IsAnswerAt a.ts l) × (y.before ≡ r.answer.before) × (y.class ≡ r.answer.class) in
      let x = subst P (sym here) (r.answer, refl, refl) in
      let to = answer_to g good.sound c (class_within cat c a.text (attempt_covered g eras c (Does (D d) act ∷ log) a h e))
      (Does (D d) act ∷ log) a d h e x.0 in
      let copied : copies d.0 ≡ (λ f. contents f (dated (set g d.0) r.answer.before)) = agree d.0 x.0 ∙ ap (λ l. λ f. contents f (dated (set g d.0) l)) x.1 in
      let uses : uses_at_head (head (pipe r.answer.class r.answer.before)) ≡ uses_at cat c a.text d.0 =
      ap (λ l. uses_at_head (head (pipe r.answer.class l))) (sym x.1) ∙ ap (λ j. uses_at_head (head (pipe j x.0.before))) (sym x.2) ∙ to.uses_are in
      let now : kept_at g c a.ts d.0 (Does (D d) act ∷ log) ≡ Some
      (frozen_for (λ f. contents f (dated (set g d.0) r.answer.before)) a.ts
      (uses_at_head (head (pipe r.answer.class r.answer.before)))) = ap (kept (set g d.0) c a.ts) here ∙ r.after in
      ap (λ o. or_first o (first_of a copies d.0)) now ∙ ap (λ cs. frozen_for cs a.ts (uses_at_head (head (pipe r.answer.class r.answer.before))))
      (sym copied) ∙ ap (frozen_for (copies d.0) a.ts) uses

  acted_module : (log : Log) (d : DmNo) (act : Act) (o : Option Attempt)
      → IsPermitted g (Does (D d) act ∷ log) → active s c (mine (Does (D d) act ∷ log)) ≡ o → AllServed log o → AllServed (Does (D d) act ∷ log) o
  acted_module log d act None h e served = tt
  acted_module log d act (Some a) h e served =
      let entry : Entry = Does (D d) act in
      let others : (k : ℕ) → (k == d.0) ≡ false → kept_at g c a.ts k (entry ∷ log) ≡ kept_at g c a.ts k
      log = λ k p. kept_apart g c a.ts k entry log (ap (λ b. if b then Some (Did act) else None) p) in
      let here : own g d.0 (entry ∷ log) ≡ Did act ∷ own g d.0 log = local_step g (D d) entry log
      ∙ ap (λ b. with_made (if b then Some (Did act) else None) (own g d.0 log)) (same_number d.0) in
      λ copies agree.
      let same : (k : ℕ) → space_at g c a.ts (first_of a copies) (entry ∷ log) k ≡ space_at g c a.ts (first_of a copies) log k = λ k. elim (same_or_not k d.0) [
        | inl p ↦ subst (λ j. space_at g c a.ts (first_of a copies) (entry ∷ log) j ≡ space_at g c a.ts (first_of a copies) log j) (sym p)
            (elim (act_keeps (set g d.0) c a.ts act (own g d.0 log)) [
              | inl still ↦ ap (λ o. or_first o (first_of a copies d.0)) (ap (kept (set g d.0) c a.ts) here ∙ still)
              | inr r ↦ frozen_same log a copies d act h e agree here r (kept_at g c a.ts d.0 log) refl
            ])
        | inr p ↦ ap (λ o. or_first o (first_of a copies k)) (others k p)
      ] in
      subst (λ space. Serves a copies space a.exchange) (λ i k. sym (same k) i) (served copies (agrees_before g a.ts copies entry log agree))

  -- an act of the site

  -- no module answered an attempt before it starts
  fresh_at : (log : Log) → IsPermitted g log → c ≤ length cat.classes → (d : ℕ) → kept_at g c (next_stamp s (mine log)) d log ≡ None
  fresh_at log h within d = elim (kept_at g c (next_stamp s (mine log)) d log) as (λ o. kept_at g c (next_stamp s (mine log)) d log ≡ o → o ≡ None) [
    | None ↦ λ e. refl
    | Some f ↦ λ e. absurd (not_before g good.sound c within log (dm_no d) h (kept_answered (set g d) c (next_stamp s (mine log)) (own g d log) f e))
  ] refl

  begun : (log : Log) (q : Queued) → IsPermitted g log → IsPermitted g (Does at (start_at s c (mine log) q) ∷ log) → head_of (queue s c (mine log)) ≡ Some q
      → AllServed (Does at (start_at s c (mine log) q) ∷ log)
      (active s c (Did (start_at s c (mine log) q) ∷ mine log))
  begun log q h hand e =
      let act : Act = start_at s c (mine log) q in
      let a : Attempt = record {
        txn = q.number;
        attempt = suc q.tries;
        ts = next_stamp s (mine log);
        text = q.text;
        exchange = begins q.text (sends_of_act act);
      } in
      let is : active s c (Did act ∷ mine log) ≡ Some a = rw (same_number c) (ap (started (next_stamp s (mine log)) (sends_of_act act)) e) in
      let now : active s c (mine (Does at act ∷ log)) ≡ Some a = ap (active s c) (own_act g at act log) ∙ is in
      let within : c ≤ length cat.classes = class_within cat c a.text (attempt_covered g eras c (Does at act ∷ log) a hand now) in
      let ms : List (ℕ × List ℕ) = filter_map module_read (sends_of_act act) in
      let are : firsts ms ≡ asked_of a = start_modules cat (current_era s (mine log)).table c (clock at (mine log)) q in
      subst (AllServed (Does at act ∷ log)) (sym is)
      (λ copies agree.
      let first : Space = first_of a copies in
      let same : (d : ℕ) → space_at g c a.ts first (Does at act ∷ log) d ≡ first d =
      λ d. ap (λ o. or_first o (first d)) (home_act log act a.ts d ∙ fresh_at log h within d) in
      subst (λ space. Serves a copies space a.exchange) (λ i d. sym (same d) i)
      (record {
        follows = follows_start cat (current_era s (mine log)).table c q (next_stamp s (mine log)) (bound s (mine log)) (asked_of a) first;
        none = λ x. refl;
        of = λ x k. absurd k;
        all = λ ships d k l x i. none_read ms (asked_of a) d are ships k;
      }))

  started_by : (log : Log) (k : ℕ) (q : Queued) → IsPermitted g log → head_of (queue s k (mine log)) ≡ Some q → AllServed log (active s c (mine log))
      → IsPermitted g (Does at (start_at s k (mine log) q) ∷ log)
      → AllServed (Does at (start_at s k (mine log) q) ∷ log) (active s c (Did (start_at s k (mine log) q) ∷ mine log))
  started_by log k q h e served = elim (same_or_not k c) [
    | inl p ↦ subst (λ j. head_of (queue s j (mine log)) ≡ Some q
        → IsPermitted g (Does at (start_at s j (mine log) q) ∷ log) → AllServed (Does at (start_at s j (mine log) q) ∷ log)
        (active s c (Did (start_at s j (mine log) q) ∷ mine log))) (sym p) (λ f hand. begun log q h hand f) e
    | inr p ↦ λ hand.
        subst (AllServed (Does at (start_at s k (mine log) q) ∷ log))
        (ap (λ b. if b then started (next_stamp s (mine log)) (sends_of_act (start_at s k (mine log) q))
        (head_of (queue s c (mine log))) else active s c (mine log)) (sym p))
        (still_served (Does at (start_at s k (mine log) q)) log (active s c (mine log)) (home_act log (start_at s k (mine log) q)) served)
  ]

  committed_by : (log : Log) (k : ℕ) (bases : Bases) (a : Attempt) → AllServed log (active s c (mine log))
      → AllServed (Does at (commit_act s.catalogue bases k a) ∷ log)
      (active s c (Did (commit_act s.catalogue bases k a) ∷ mine log))
  committed_by log k bases a served =
      elim (k == c) as (λ b. AllServed (Does at (commit_act s.catalogue bases k a) ∷ log) (if b then None else active s c (mine log))) [
        | true ↦ tt
        | false ↦ still_served (Does at (commit_act s.catalogue bases k a)) log (active s c (mine log)) (home_act log (commit_act s.catalogue bases k a)) served
      ]

  sent_by : (log : Log) (to : Site) (m : Msg) (hand : Option ℕ) (o : Option Attempt) → AllServed log o
      → AllServed (Does at (Sends to m hand) ∷ log) (active_sent c m o)
  sent_by log to m hand None served = tt
  sent_by log to m hand (Some a) served =
      elim (asks_rows a.ts c m) as (λ b. AllServed (Does at (Sends to m hand) ∷ log)
      (if b then Some (record a { exchange = after_send a.exchange }) else Some a)) [
        | true ↦ λ copies agree.
            subst (λ space. Serves a copies space (after_send a.exchange))
            (sym (space_same g c a.ts (first_of a copies) (Does at (Sends to m hand)) log (home_act log (Sends to m hand) a.ts)))
            (send_serves (asked_of a) (a.text).statements (asked_at cat c a.text) (first_of a copies)
            (space_at g c a.ts (first_of a copies) log) a.exchange (served copies (agrees_before g a.ts copies (Does at (Sends to m hand)) log agree)))
        | false ↦ still_served (Does at (Sends to m hand)) log (Some a) (home_act log (Sends to m hand)) served
      ]

  acted_home : (log : Log) (act : Act) → IsPermitted g log → IsPermitted g (Does at act ∷ log)
      → AllServed log (active s c (mine log)) → AllServed (Does at act ∷ log)
      (active s c (Did act ∷ mine log))
  acted_home log act h hand served =
      let step = (subst (λ l. Each (IsFair s) l) (own_act g at act log) (home_fair g c (Does at act ∷ log) hand)).0 in
      step_way s (mine log) act (λ x. IsPermitted g (Does at x ∷ log) → AllServed (Does at x ∷ log) (active s c (Did x ∷ mine log)))
      (λ k q here idle e. started_by log k q h e served) (λ k bases a here e. λ hand. committed_by log k bases a served)
      (λ to m hand i. λ p. sent_by log to m hand (active s c (mine log)) served) step hand

  -- all entries

  by_hand : (log : Log) (from to : Site) (n : ℕ) (m : Msg) → IsPermitted g log
      → AllServed log (active s c (mine log)) → IsPermitted g (Hand from to n m ∷ log) → (b : Bool)
      → same_site at to ≡ b → AllServed (Hand from to n m ∷ log) (active s c (mine (Hand from to n m ∷ log)))
  by_hand log from to n m h served hand true e =
      let P : Site → Type 0 = λ x. IsPermitted g (Hand from x n m ∷ log) → AllServed (Hand from x n m ∷ log) (active s c (mine (Hand from x n m ∷ log))) in
      let here : mine (Hand from at n m ∷ log) ≡ Handed from m ∷ mine log =
      local_step g at (Hand from at n m) log ∙ ap (λ b. with_made (if b then Some (Handed from m) else None) (mine log)) (site_self at) in
      subst P (site_is at to e)
      (λ own_hand.
      subst (λ l. AllServed (Hand from at n m ∷ log) (active s c l)) (sym here)
      (still_served (Hand from at n m) log (active_handed c from m (active s c (mine log)))
      (home_hand log from n m) (handed_home log from n m h own_hand served))) hand
  by_hand log from to n m h served hand false e = grind (arith, active, s, mine, local_step, with_made, AllServed, handed_module, still_served, kept_apart)

  by_act : (log : Log) (by : Site) (act : Act) → IsPermitted g log → AllServed log (active s c (mine log))
      → IsPermitted g (Does by act ∷ log) → (b : Bool) → same_site at by ≡ b → AllServed (Does by act ∷ log)
      (active s c (mine (Does by act ∷ log)))
  by_act log by act h served hand true e =
      let P : Site → Type 0 = λ x. IsPermitted g (Does x act ∷ log) → AllServed (Does x act ∷ log) (active s c (mine (Does x act ∷ log))) in
      subst P (site_is at by e) (λ own_hand. subst (λ l. AllServed (Does at act ∷ log) (active s c l))
      (sym (own_act g at act log)) (acted_home log act h own_hand served)) hand
  by_act log by act h served hand false e = grind (arith, active, s, mine, local_step, with_made, AllServed, acted_module, still_served, kept_apart)

  by_still : (log : Log) (e : Entry) → IsStillEntry e → AllServed log (active s c (mine log)) → AllServed (e ∷ log) (active s c (mine (e ∷ log)))
  by_still log e still served =
      let same : active s c (mine (e ∷ log)) ≡ active s c (mine log) =
      ap (active s c) (local_step g at e log) ∙ still_active s c (made g at log e) (mine log) (made_still g at log e still) in
      subst (AllServed (e ∷ log)) (sym same) (still_served e log (active s c (mine log)) (λ ts d. kept_still g c ts d e log still) served)

  pub served_all : (log : Log) → IsPermitted g log → AllServed log (active s c (mine log))
  served_all [] h = subst (AllServed []) (sym (if_way (λ x. active (setting_of g x) c (beginning g x) ≡ None) (c == 0) U (T (tm_no (class_at cat c).tm.0)) refl refl)) tt
  served_all (e ∷ log) h = grind (arith, by_hand, same_site, by_act, by_still, (served_all log h.1))
