-- The exchange of an active attempt and its modules go in step.
use Rattle.sdd_obligations.proofs.All.{Act, Asks, Attempt, Bases, Bool, D, Did, DmNo, Does, Each, Entry, Hand, Handed, Input, IsFair, IsPermitted, IsStage, List, Log, Msg, None, Option, Queued, Redeclared, Replied, Sends, Setting, Silent, Site, Some, Submits, T, Tells, Ticked, Turn, U, [], active, active_sent, allowed_act, answers, ap, arith, beginning, class_at, commit_act, dm_no, drop, false, filter-append, flight, handed, handed_way, head_of, home, home_fair, if_way, if◌then◌else◌, inl, inr, is_answer, is_question, kept, local_of, local_step, made, next_stamp, number_of, own_act, puts_to, queue, refl, same_number, same_or_not, same_site, sent_way, setting_of, site_is, site_self, stamp_below_next, start_at, step_way, subst, sym, take, take-append-drop, tm_no, true, turn_after_answer, turn_at, turn_with, with_made, ℕ, ◌++◌, ◌==◌, ◌∙◌, ◌∷◌, ◌≡◌, ◌≤◌}
use Rattle.sdd_obligations.proofs.Comes.{next_answer_is, next_question_is}
use Rattle.sdd_obligations.proofs.DataSteps.{data_step}
use Rattle.sdd_obligations.proofs.Halves.{active_last, data_turns, home_source, home_turns}
use Rattle.sdd_obligations.proofs.HandedAnswersKeepTurns.{AtTurn, turn_is_replied}
use Rattle.sdd_obligations.proofs.Replying.{IsAskedInTurn}
use Rattle.sdd_obligations.proofs.Sources.{home_first}
use Rattle.sdd_obligations.proofs.ExchangesGoByTurns.{spoken}
use Rattle.sdd_obligations.proofs.QuestionsOfPhase.{AllAskPhase, asks_phase}
use Rattle.sdd_obligations.proofs.Kept.{kept_same}
use Rattle.sdd_obligations.proofs.InStep.{InStep, IsAnswered}
use Rattle.sdd_obligations.proofs.Spaces.{IsStill, IsStillEntry, home_apart, made_still, own, set, still_active}
use Rattle.sdd_obligations.proofs.LastAnswerIsKept.{KeepsReply, reply_kept_by_act, reply_kept_by_hand, reply_kept_still}
use Rattle.sdd_invariants.specs.site_module.SiteLog as site

-- a module that nothing was said to said nothing

silent_with : (v w : Turn) (qs xs : List Msg) → IsStage v w qs xs → v ≡ Silent → w ≡ Silent
silent_with v w qs xs h5 z = grind arith

-- two lists with one message more are the same, so is that

no_end : {A B : Type 0} (xs : List A) (x : A) → [] ≡ xs ++ x ∷ [] → B
no_end [] x e = cc
no_end (y ∷ xs) x e = cc

last_same : {A : Type 0} (xs ys : List A) (x y : A) → xs ++ x ∷ [] ≡ ys ++ y ∷ [] → x ≡ y
last_same [] [] x y e = cc
last_same [] (z ∷ ys) x y e = let p : [] ≡ ys ++ y ∷ [] = cc in no_end ys y p
last_same (z ∷ xs) [] x y e = let p : [] ≡ xs ++ x ∷ [] = cc in no_end xs x p
last_same (u ∷ xs) (z ∷ ys) x y e = let p : xs ++ x ∷ [] ≡ ys ++ y ∷ [] = cc in last_same xs ys x y p

reply_kept_quiet : (s : Setting) (c ts : ℕ) (at : Site) (o : Option site.Entry) (l : site.Log) → IsStill o
    → KeepsReply s c ts at l → KeepsReply s c ts at (with_made o l)
reply_kept_quiet s c ts at None l h k = k
reply_kept_quiet s c ts at (Some (Ticked n)) l h k = reply_kept_still s c ts at l (Ticked n ∷ l) refl (kept_same s c ts (Ticked n) l refl) refl k
reply_kept_quiet s c ts at (Some (Submits n txn)) l h k = reply_kept_still s c ts at l (Submits n txn ∷ l) refl (kept_same s c ts (Submits n txn) l refl) refl k
reply_kept_quiet s c ts at (Some (Redeclared era t)) l h k =
    reply_kept_still s c ts at l (Redeclared era t ∷ l) refl (kept_same s c ts (Redeclared era t) l refl) refl
    k
reply_kept_quiet s c ts at (Some _) l h k = absurd h

module _ (g : Input) (c : ℕ) (small : number_of (home g.catalogue c) ≤ 63) where
  abbrev at : Site
  at = home g.catalogue c

  abbrev s : Setting
  s = setting_of g (home g.catalogue c)

  abbrev mine : Log → site.Log
  mine log = local_of g (home g.catalogue c) log

  abbrev Knows : ℕ → ℕ → Log → Type 0
  Knows ts d log = KeepsReply (set g d) c ts at (own g d log)

  abbrev KeepAllReplies : Log → Option Attempt → Type 0
  KeepAllReplies log None = Unit {0}
  KeepAllReplies log (Some a) = (d : ℕ) → Knows a.ts d log

  replies_kept_on : (e : Entry) (log : Log) (o : Option Attempt) → ((a : Attempt) → o ≡ Some a → (d : ℕ)
      → Knows a.ts d log → Knows a.ts d (e ∷ log)) → KeepAllReplies log o → KeepAllReplies (e ∷ log) o
  replies_kept_on e log None f h = tt
  replies_kept_on e log (Some a) f h = λ d. f a refl d (h d)

  apart : (e : Entry) (log : Log) (ts d : ℕ) → made g (D (dm_no d)) log e ≡ None → Knows ts d log → Knows ts d (e ∷ log)
  apart e log ts d m h = subst (KeepsReply (set g d) c ts at) (sym (local_step g (D (dm_no d)) e log ∙ ap (λ o. with_made o (own g d log)) m)) h

  home_act : (log : Log) (act : Act) (ts d : ℕ) → Knows ts d log → Knows ts d (Does at act ∷ log)
  home_act log act ts d h = apart (Does at act) log ts d (ap (λ b. if b then Some (Did act) else None) (home_apart g.catalogue c d)) h

  -- a hand to a module

  question_from : (log : Log) (from : Site) (d : DmNo) (n : ℕ) (m : Msg) (ts : ℕ)
      → IsPermitted g (Hand from (D d) n m ∷ log) → is_question ts c m ≡ true → from ≡ at
  question_from log from d n m ts h q =
      let entry : Entry = Hand from (D d) n m in
      let here : own g d.0 (entry ∷ log) ≡ Handed from m ∷ own g d.0 log = local_step g (D d) entry log
      ∙ ap (λ b. with_made (if b then Some (Handed from m) else None) (own g d.0 log)) (same_number d.0) in
      ((subst (Each (IsAskedInTurn c at)) here ((spoken g c (entry ∷ log) h small).timely_with d.0)).0 ts q).0

  module_hand : (log : Log) (from : Site) (d : DmNo) (n : ℕ) (m : Msg) (ts : ℕ)
      → IsPermitted g (Hand from (D d) n m ∷ log) → (k : ℕ) → Knows ts k log → Knows ts k (Hand from (D d) n m ∷ log)
  module_hand log from d n m ts h k knows = elim (same_or_not k d.0) [
    | inl p ↦ (let here : own g d.0 (Hand from (D d) n m ∷ log) ≡ Handed from m ∷ own g d.0 log =
        local_step g (D d) (Hand from (D d) n m) log ∙ ap (λ b. with_made (if b then Some (Handed from m) else None) (own g d.0 log)) (same_number d.0) in
        subst (λ j. Knows ts j log → Knows ts j (Hand from (D d) n m ∷ log)) (sym p)
        (λ i. subst (KeepsReply (set g d.0) c ts at) (sym here)
        (reply_kept_by_hand (set g d.0) c ts at (own g d.0 log) from m (λ q. question_from log from d n m ts h q)
        i)) knows)
    | inr p ↦ apart (Hand from (D d) n m) log ts k (ap (λ b. if b then Some (Handed from m) else None) p) knows
  ]

  -- an act of a module
  module_act : (log : Log) (d : DmNo) (act : Act) (a : Attempt) → IsPermitted g (Does (D d) act ∷ log)
      → active s c (mine log) ≡ Some a → (k : ℕ) → Knows a.ts k log → Knows a.ts k (Does (D d) act ∷ log)
  module_act log d act a h e k knows = elim (same_or_not k d.0) [
    | inl p ↦ (let here : own g d.0 (Does (D d) act ∷ log) ≡ Did act ∷ own g d.0 log =
        local_step g (D d) (Does (D d) act) log ∙ ap (λ b. with_made (if b then Some (Did act) else None) (own g d.0 log)) (same_number d.0) in
        let sp = spoken g c log h.1 small in
        subst (λ j. Knows a.ts j log → Knows a.ts j (Does (D d) act ∷ log)) (sym p)
        (λ i. subst (KeepsReply (set g d.0) c a.ts at) (sym here)
        (reply_kept_by_act (set g d.0) c a.ts at (own g d.0 log) act (home_source g c d.0)
        (data_step (set g d.0) (own g d.0 log) act (allowed_act g log (Does (D d) act) h.0))
        (data_turns g a.ts c d.0 log h.1 sp) (sp.held a.ts d.0 (active_last g c d.0 log a h.1 small e))
        i)) knows)
    | inr p ↦ apart (Does (D d) act) log a.ts k (ap (λ b. if b then Some (Did act) else None) p) knows
  ]

  -- an act of the site

  fresh : (log : Log) → IsPermitted g log → (d : ℕ) → Knows (next_stamp s (mine log)) d log
  fresh log h d ns q t r =
      let sp = spoken g c log h small in
      let silent = silent_with _ _ _ _ (sp.stages (next_stamp s (mine log)) d)
      ((home_turns g c log h sp).fresh (next_stamp s (mine log)) d (stamp_below_next s (mine log))) in
      let x : Silent ≡ Replied ns q = sym silent ∙ t in cc

  begun : (log : Log) (q : Queued) → IsPermitted g log → head_of (queue s c (mine log)) ≡ Some q
      → KeepAllReplies (Does at (start_at s c (mine log) q) ∷ log)
      (active s c (Did (start_at s c (mine log) q) ∷ mine log))
  begun log q h e = grind (arith, s, mine, same_number, KeepAllReplies, home_act, fresh)

  committed_by : (log : Log) (k : ℕ) (bases : Bases) (a : Attempt) → KeepAllReplies log (active s c (mine log))
      → KeepAllReplies (Does at (commit_act s.catalogue bases k a) ∷ log)
      (active s c (Did (commit_act s.catalogue bases k a) ∷ mine log))
  committed_by log k bases a turn_after_answer =
      elim (k == c) as (λ b. KeepAllReplies (Does at (commit_act s.catalogue bases k a) ∷ log)
      (if b then None else active s c (mine log))) [
        | true ↦ tt
        | false ↦ replies_kept_on (Does at (commit_act s.catalogue bases k a)) log (active s c (mine log))
            (λ b i d. home_act log (commit_act s.catalogue bases k a) b.ts d) turn_after_answer
      ]

  acted_home : (log : Log) (act : Act) → IsPermitted g (Does at act ∷ log)
      → KeepAllReplies log (active s c (mine log)) → KeepAllReplies (Does at act ∷ log) (active s c (Did act ∷ mine log))
  acted_home log act h turn_after_answer =
      let step = (subst (λ l. Each (IsFair s) l) (own_act g at act log) (home_fair g c (Does at act ∷ log) h)).0 in
      step_way s (mine log) act (λ x. KeepAllReplies (Does at x ∷ log) (active s c (Did x ∷ mine log)))
      (λ k q here idle e. (grind (arith, same_or_not, s, mine, KeepAllReplies, begun, replies_kept_on, home_act)))
      (λ k bases a here e. committed_by log k bases a turn_after_answer)
      (λ to m hand i. replies_kept_on (Does at (Sends to m hand)) log (active_sent c m (active s c (mine log))) (λ a e d. home_act log (Sends to m hand) a.ts d)
      (sent_way (KeepAllReplies log) c m (active s c (mine log)) (λ a x e. subst (KeepAllReplies log) e turn_after_answer) turn_after_answer)) step

  -- all entries

  by_hand : (log : Log) (from to : Site) (n : ℕ) (m : Msg) → KeepAllReplies log (active s c (mine log))
      → IsPermitted g (Hand from to n m ∷ log) → (b : Bool) → same_site at to ≡ b
      → KeepAllReplies (Hand from to n m ∷ log) (active s c (mine (Hand from to n m ∷ log)))
  by_hand log from (D d) n m turn_after_answer hand false e =
      subst (KeepAllReplies (Hand from (D d) n m ∷ log)) (sym (ap (active s c)
      (local_step g at (Hand from (D d) n m) log ∙ ap (λ o. with_made o (mine log)) (ap (λ b. if b then Some (Handed from m) else None) e))))
      (replies_kept_on (Hand from (D d) n m) log (active s c (mine log)) (λ a i k. module_hand log from d n m a.ts hand k) turn_after_answer)
  by_hand log from to n m turn_after_answer hand b e = grind
      (arith, mine, local_step, site_self, KeepAllReplies, s, site_is, replies_kept_on, home_apart, handed_way, with_made, active, apart, turn_after_answer)

  by_act : (log : Log) (by : Site) (act : Act) → KeepAllReplies log (active s c (mine log))
      → IsPermitted g (Does by act ∷ log) → (b : Bool) → same_site at by ≡ b → KeepAllReplies (Does by act ∷ log)
      (active s c (mine (Does by act ∷ log)))
  by_act log (D d) act turn_after_answer hand false e =
      subst (KeepAllReplies (Does (D d) act ∷ log))
      (sym (ap (active s c) (local_step g at (Does (D d) act) log ∙ ap (λ o. with_made o (mine log)) (ap (λ b. if b then Some (Did act) else None) e))))
      (replies_kept_on (Does (D d) act) log (active s c (mine log)) (λ a i k. module_act log d act a hand i k)
      turn_after_answer)
  by_act log by act turn_after_answer hand b e =
      grind (arith, KeepAllReplies, s, mine, site_is, own_act, acted_home, local_step, with_made, replies_kept_on, active, apart, turn_after_answer)

  by_still : (log : Log) (e : Entry) → IsStillEntry e → KeepAllReplies log (active s c (mine log)) → KeepAllReplies (e ∷ log) (active s c (mine (e ∷ log)))
  by_still log e still turn_after_answer =
      let same : active s c (mine (e ∷ log)) ≡ active s c (mine log) =
      ap (active s c) (local_step g at e log) ∙ still_active s c (made g at log e) (mine log) (made_still g at log e still) in
      subst (KeepAllReplies (e ∷ log)) (sym same)
      (replies_kept_on e log (active s c (mine log))
      (grind (arith, KeepsReply, set, local_step, dm_no, reply_kept_quiet, made, own, made_still)) turn_after_answer)

  all_replies_kept : (log : Log) → IsPermitted g log → KeepAllReplies log (active s c (mine log))
  all_replies_kept [] h = subst (KeepAllReplies [])
      (sym (if_way (λ x. active (setting_of g x) c (beginning g x) ≡ None) (c == 0) U (T (tm_no (class_at g.catalogue c).tm.0)) refl refl)) tt
  all_replies_kept (e ∷ log) h = grind (arith, by_hand, same_site, by_act, by_still, (all_replies_kept log h.1))

  -- the answers of a module that were put, and the one that is under way
  answers_put : (ts : ℕ) (d : DmNo) (log : Log) (m : Msg) → answers ts c (flight g (D d) at log) ≡ m ∷ []
      → answers ts c (puts_to at (own g d.0 log)) ≡ answers ts c
      (take (handed (D d) at log) (puts_to at (own g d.0 log))) ++ m ∷ []
  answers_put ts d log m e =
      let ms : List Msg = puts_to at (own g d.0 log) in
      ap (answers ts c) (sym (take-append-drop (handed (D d) at log) ms)) ∙ filter-append (is_answer ts c)
      (take (handed (D d) at log) ms) (drop (handed (D d) at log) ms) ∙ ap (λ l. answers ts c (take (handed (D d) at log) ms) ++ l) e

  answered : (log : Log) (a : Attempt) → IsPermitted g log → active s c (mine log) ≡ Some a
      → (d : DmNo) (n : ℕ) (m : Msg) → IsPermitted g (Hand (D d) at n m ∷ log) → is_answer a.ts c m ≡ true
      → IsAnswered (turn_at a.ts c d.0 (mine log)) (kept (set g d.0) c a.ts (own g d.0 log)) m
  answered log a h e d n m hand own_answer =
      let st = next_answer_is g c log d n m a.ts h small hand.0 own_answer in
      record {
        uses = st.uses;
        question = st.question;
        is = st.asks;
        replies = st.replies;
        tells = λ r.
            let turn : turn_with a.ts c at (own g d.0 log) ≡ Replied st.uses st.question =
            st.tells ∙ turn_is_replied (Asks st.uses st.question) st.uses st.question m refl (grind arith) in
            let k = subst (KeepAllReplies log) e (all_replies_kept log h) d.0 st.uses st.question turn r in
            let same : k.answer ≡ m = last_same k.front (answers a.ts c (take (handed (D d) at log) (puts_to at (own g d.0 log)))) k.answer m
            (sym k.last ∙ answers_put a.ts d log m st.alone) in
            (k.rows, k.kept_is, subst (λ x. Tells st.question x k.rows) same k.tells);
      }

  pub in_step : (log : Log) → IsPermitted g log → (a : Attempt) → active s c (mine log) ≡ Some a → InStep g c log a
  in_step log h a e =
      let sp = spoken g c log h small in
      record {
        at_turn = λ d. (subst (λ o. AtTurn a.ts d o (turn_at a.ts c d (mine log))) e ((home_turns g c log h sp).turns a.ts d)).0 refl;
        asks = subst (AllAskPhase c (mine log)) e (asks_phase s c (mine log) (home_fair g c log h) (home_first g c log h) sp.timely_at);
        question = grind (arith, next_question_is, question_from);
        answer = λ d n m hand own_answer. answered log a h e d n m hand own_answer;
      }
