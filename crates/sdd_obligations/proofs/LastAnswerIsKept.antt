-- What a data module answered last of an attempt's rows is what it keeps.
use Rattle.sdd_obligations.proofs.All.{Act, Answer, Apply, Arrive, ClassNo, Cond, Did, Done, Frozen, Handed, IsClassHere, List, Msg, None, Open, Option, Pass, Read, Ready, Records, Refused, Reject, Rejected, Replied, Sends, Setting, Site, Some, Tells, Ts, Turn, TxnNo, Use, Wait, [], and_no, and_right, answers, ap, append-nil, arith, ask_for, asks_rows, both, class_asked, cond, done_for, eqb-true, false, filter, filter-append, frozen, head, head_of, home_of, if◌then◌else◌, inl, inr, is_a_read, is_answer, is_asked_of, is_number, is_question, is_read, kept, map, never, opens, pipe, puts_to, refl, same_number, same_site, sends_of_act, site_self, source_of, subst, sym, to_site, true, turn_after_answer, turn_after_answers, turn_after_question, turn_with, uses_by, uses_held, uses_in, ℕ, ◌&&◌, ◌++◌, ◌==◌, ◌∙◌, ◌∷◌, ◌≡◌}
use Rattle.sdd_obligations.proofs.DataSteps.{IsDataStep, data_step_way, ready_counts, reply}
use Rattle.sdd_obligations.proofs.HandedAnswersKeepTurns.{turn_after_one, turn_is_replied}
use Rattle.sdd_obligations.proofs.RowsStayHeld.{AreHeldFor, IsHeldAt}
use Rattle.sdd_obligations.proofs.Replying.{HasTurnAt, asked_rows, asked_turn, asks_no_a_read, reply_answers, reply_no_refusal, turn_after_hand}
use Rattle.sdd_obligations.proofs.AnswersComeInTurn.{IsHomeOf, asks_no_answer, done_no_answer, head_through, read_next}
use Rattle.sdd_obligations.proofs.Kept.{hand_keeps, kept_now, other_answer_keeps, record_keeps, send_keeps}
use Rattle.sdd_invariants.specs.site_module.SiteLog.{Log}

-- the last answer that was put
pub record IsReplyKept (s : Setting) (c ts : ℕ) (at : Site) (log : Log) (q : Msg) : Type 0 where
  pub rows : Frozen
  pub kept_is : kept s c ts log ≡ Some rows
  pub answer : Msg
  pub front : List Msg
  pub last : answers ts c (puts_to at log) ≡ front ++ answer ∷ []
  pub tells : Tells q answer rows

abbrev pub KeepsReply : Setting → ℕ → ℕ → Site → Log → Type 0
KeepsReply s c ts at log = (ns : List ℕ) (q : Msg) → turn_with ts c at log ≡ Replied ns q → is_a_read q ≡ false → IsReplyKept s c ts at log q

-- what leaves the turn, the rows and the answers leaves that
pub reply_kept_still : (s : Setting) (c ts : ℕ) (at : Site) (log more : Log) → turn_with ts c at more ≡ turn_with ts c at log
    → kept s c ts more ≡ kept s c ts log
    → answers ts c (puts_to at more) ≡ answers ts c (puts_to at log) → KeepsReply s c ts at log → KeepsReply s c ts at more
reply_kept_still s c ts at log more t k p h ns q e r =
    let i = h ns q (sym t ∙ e) r in
    record { rows = i.rows; kept_is = k ∙ i.kept_is; answer = i.answer; front = i.front; last = p ∙ i.last; tells = i.tells }

module _ (s : Setting) (c ts : ℕ) (at : Site) (log : Log) where
  abbrev v : Turn
  v = turn_with ts c at log

  -- a hand

  pub reply_kept_by_hand : (from : Site) (m : Msg) → (is_question ts c m ≡ true → from ≡ at) → KeepsReply s c ts at log
      → KeepsReply s c ts at (Handed from m ∷ log)
  reply_kept_by_hand from m home h = elim (is_question ts c m) as (λ b. is_question ts c m ≡ b → KeepsReply s c ts at (Handed from m ∷ log)) [
    | true ↦ grind (arith, same_site, site_self, turn_with, turn_after_question, v, asked_turn, is_question, uses_by, uses_in)
    | false ↦ λ own.
        let now : turn_with ts c at (Handed from m ∷ log) ≡ v = asked_turn ts c at from m log
        ∙ ap (λ b. if same_site at from && b then turn_after_question m v else v) own ∙ ap (λ b. if b then turn_after_question m v else v) (and_no (same_site at from)) in
        let keeps : kept s c ts (Handed from m ∷ log) ≡ kept s c ts log = elim (hand_keeps s c ts from m log) [
          | inl same ↦ same
          | inr r ↦ never (is_question ts c m) (ap (is_question ts c) r.is ∙ both (r.t.0 == ts) (r.of.0 ==
              c) (ap (λ x. x == ts) r.ts_is ∙ same_number ts) (ap (λ x. x == c) r.class_is ∙ same_number c))
              own
        ] in
        reply_kept_still s c ts at log (Handed from m ∷ log) now keeps refl h
  ] refl

  -- an act

  quiet_act : (act : Act) → answers ts c (to_site at (sends_of_act act)) ≡ []
      → kept s c ts (Did act ∷ log) ≡ kept s c ts log → KeepsReply s c ts at log → KeepsReply s c ts at (Did act ∷ log)
  quiet_act act none keeps h =
      reply_kept_still s c ts at log (Did act ∷ log) (ap (λ l. turn_after_answers l v) none) keeps
      (grind (arith, filter-append, is_answer, to_site, sends_of_act, answers, puts_to, append-nil)) h

  one_sent : (to : Site) (m : Msg) → is_answer ts c m ≡ false → answers ts c (to_site at ((to, m) ∷ [])) ≡ []
  one_sent to m e = elim (same_site at to) as (λ b. answers ts c (if b then m ∷ [] else []) ≡ []) [ true ↦ ap (λ b. cond b (m ∷ []) []) e | false ↦ refl ]

  asked_class : (k : ℕ) (o : Option ℕ) (m : Msg) → is_number k o ≡ true → class_asked m ≡ o → asks_rows ts c m ≡ true → k ≡ c
  asked_class k o m n e a = grind (arith, eqb-true, and_right)

  held_rows : (ns : List ℕ) (o : Option Frozen) → AreHeldFor ts ns o → (f : Frozen) × (o ≡ Some f) × (f.ts ≡ ts)
  held_rows ns o h = grind arith

  first_asked : (k : ℕ) (os : List Open) (o : Open) → head_of (filter (is_asked_of k) os) ≡ Some o → is_asked_of k o ≡ true
  first_asked k [] o e = cc
  first_asked k (x ∷ os) o e = elim (is_asked_of k x) as (λ b. is_asked_of k x ≡ b
      → head_of (cond b (x ∷ filter (is_asked_of k) os) (filter (is_asked_of k) os)) ≡ Some o
      → is_asked_of k o ≡ true) [
        | true ↦ λ p q. (let same : x ≡ o = cc in subst (λ y. is_asked_of k y ≡ true) same p)
        | false ↦ λ p q. first_asked k os o q
      ] refl e

  same_replied : (ns ms : List ℕ) (q m : Msg) → Replied ns q ≡ Replied ms m → q ≡ m
  same_replied ns ms q m e = cc

  replied : (k : ℕ) (o : Open) (m : Msg) → HasTurnAt ts c at log → IsHeldAt s ts c at log
      → head_of (filter (is_asked_of k) (opens log)) ≡ Some o → reply (frozen s k log) o.msg ≡ Some m
      → KeepsReply s c ts at log → KeepsReply s c ts at (Did (Sends o.from m (Some o.hand)) ∷ log)
  replied k o m has held e r h = elim (is_answer ts c m) as (λ b. is_answer ts c m ≡ b → KeepsReply s c ts at (Did (Sends o.from m (Some o.hand)) ∷ log)) [
    | false ↦ λ other. quiet_act (Sends o.from m (Some o.hand)) (one_sent o.from m other) (send_keeps s c ts o.from m (Some o.hand) log) h
    | true ↦ λ own ns q t read.
        let asks : asks_rows ts c o.msg ≡ true = sym (reply_answers ts c (frozen s k log) o.msg m r) ∙ own in
        let a = asked_rows ts c at log v k o has e asks in
        let class : k ≡ c = asked_class k (class_asked o.msg) o.msg (first_asked k (opens log) o e) refl asks in
        let here : same_site at o.from ≡ true = ap (same_site at) a.from_is ∙ site_self at in
        let now : turn_with ts c at (Did (Sends o.from m (Some o.hand)) ∷ log) ≡ Replied a.uses o.msg =
        turn_after_hand ts c at o.from m (Some o.hand) log ∙ ap (λ b. if b then turn_after_answer m v else v)
        (both (same_site at o.from) (is_answer ts c m) here own) ∙ turn_is_replied v a.uses o.msg m a.is (reply_no_refusal (frozen s k log) o.msg m r) in
        let uses : uses_held v ≡ Some a.uses = ap uses_held a.is ∙ ap (λ b. if b then None else Some a.uses) (asks_no_a_read ts c o.msg asks) in
        let f = held_rows a.uses (frozen s c log) (held a.uses uses) in
        let is : reply (Some f.0) o.msg ≡ Some m = ap (λ z. reply z o.msg) (sym f.1) ∙ ap (λ j. reply (frozen s j log) o.msg) (sym class) ∙ r in
        record {
          rows = f.0;
          kept_is = send_keeps s c ts o.from m (Some o.hand) log ∙ kept_now s c ts log f.0 f.1 f.2;
          answer = m;
          front = answers ts c (puts_to at log);
          last = (filter-append (is_answer ts c) (puts_to at log) (to_site at (sends_of_act (Sends o.from m (Some o.hand))))) ∙ ap (λ l. answers ts c (puts_to at log) ++ l)
              (ap (λ b. answers ts c (if b then m ∷ [] else [])) here ∙ ap (λ b. cond b (m ∷ []) []) own);
          tells = subst (λ z. Tells z m f.0) (same_replied a.uses ns o.msg q (sym now ∙ t)) (grind arith);
        }
  ] refl

  read_answered : (k : ℕ) (t : Ts) (of : ClassNo) (txn : TxnNo) (attempt : ℕ) (conds : List Cond)
      (uses : List Use) → IsHomeOf s c at → HasTurnAt ts c at log → IsClassHere s k → head (pipe k log) ≡ Some
      (Read t of txn attempt conds uses)
      → KeepsReply s c ts at log → KeepsReply s c ts at
      (Did (Records k (Answer txn attempt (home_of s).dm) ((source_of (home_of s) k, Ready t of (ready_counts s log t.0 uses)) ∷ [])) ∷ log)
  read_answered k t of txn attempt conds uses home has here e h =
      let read : Msg = Read t of txn attempt conds uses in
      let m : Msg = Ready t of (ready_counts s log t.0 uses) in
      let act : Act = Records k (Answer txn attempt (home_of s).dm) ((source_of (home_of s) k, m) ∷ []) in
      elim (is_read ts c read) as (λ b. is_read ts c read ≡ b → KeepsReply s c ts at (Did act ∷ log)) [
        | true ↦ λ own ns q z r.
            let n = read_next ts c at log k v read has e (head_through k log read e) own in
            let to : source_of (home_of s) k ≡ at = ap (source_of (home_of s)) n.class_is ∙ home (subst (IsClassHere s) n.class_is here) in
            let now : turn_with ts c at (Did act ∷ log) ≡ Replied n.uses read =
            (turn_after_one ts c (same_site at (source_of (home_of s) k)) m v) ∙ ap (λ b. if b then turn_after_answer m v else v)
            (both (same_site at (source_of (home_of s) k)) (is_answer ts c m) (grind (arith, same_site, site_self)) own)
            ∙ turn_is_replied v n.uses read m n.is refl in
            never (is_a_read q) (ap is_a_read (sym (same_replied n.uses ns read q (sym now ∙ z)))) r
        | false ↦ λ other.
            quiet_act act (one_sent (source_of (home_of s) k) m other)
            (other_answer_keeps s c ts k txn attempt (home_of s).dm ((source_of (home_of s) k, m) ∷ []) log
            t of txn attempt conds uses e (λ own. elim (t.0 == ts) as (λ b. (t.0 == ts) ≡ b → b ≡ false) [
              | true ↦ λ mine. never (is_read ts c read) (both (t.0 == ts) (of.0 ==
                  c) mine (subst (λ j. (of.0 == j) ≡ true) own (head_through k log read e))) other
              | false ↦ λ mine. refl
            ] refl)) h
      ] refl

  read_refused : (k : ℕ) (t : Ts) (of : ClassNo) (txn : TxnNo) (attempt : ℕ) (conds : List Cond)
      (uses : List Use) (by : ClassNo) (write : Ts) → IsHomeOf s c at → HasTurnAt ts c at log
      → IsClassHere s k → head (pipe k log) ≡ Some (Read t of txn attempt conds uses) → KeepsReply s c ts at log → KeepsReply s c ts at
      (Did (Records k (Rejected txn attempt (home_of s).dm by write) ((source_of (home_of s) k, Reject t of by write) ∷ [])) ∷ log)
  read_refused k t of txn attempt conds uses by write home has here e h =
      let read : Msg = Read t of txn attempt conds uses in
      let m : Msg = Reject t of by write in
      let act : Act = Records k (Rejected txn attempt (home_of s).dm by write) ((source_of (home_of s) k, m) ∷ []) in
      elim (is_read ts c read) as (λ b. is_read ts c read ≡ b → KeepsReply s c ts at (Did act ∷ log)) [
        | true ↦ λ own ns q z r.
            let n = read_next ts c at log k v read has e (head_through k log read e) own in
            let to : source_of (home_of s) k ≡ at = ap (source_of (home_of s)) n.class_is ∙ home (subst (IsClassHere s) n.class_is here) in
            let now : turn_with ts c at (Did act ∷ log) ≡ Refused =
            (turn_after_one ts c (same_site at (source_of (home_of s) k)) m v) ∙ ap (λ b. if b then turn_after_answer m v else v)
            (both (same_site at (source_of (home_of s) k)) (is_answer ts c m) (ap (same_site at) to ∙ site_self at) own) ∙ ap (turn_after_answer m) n.is in
            (let x : Refused ≡ Replied ns q = sym now ∙ z in cc)
        | false ↦ λ other. quiet_act act (one_sent (source_of (home_of s) k) m other)
            (record_keeps s c ts k (Rejected txn attempt (home_of s).dm by write) ((source_of (home_of s) k, m) ∷ []) log refl) h
      ] refl

  pub reply_kept_by_act : (act : Act) → IsHomeOf s c at → IsDataStep s log act → HasTurnAt ts c at log
      → IsHeldAt s ts c at log → KeepsReply s c ts at log → KeepsReply s c ts at (Did act ∷ log)
  reply_kept_by_act act home step has held h = data_step_way s log act (λ x. KeepsReply s c ts at (Did x ∷ log))
      (λ k txn attempt. quiet_act (Records k (Arrive txn attempt (home_of s).dm) []) refl
      (record_keeps s c ts k (Arrive txn attempt (home_of s).dm) [] log refl) h) (λ k o m e r. replied k o m has held e r h)
      (λ k t of txn attempt conds uses here e. read_answered k t of txn attempt conds uses home has here e h)
      (λ k t of txn attempt conds uses by write here e. read_refused k t of txn attempt conds uses by write home has here e h)
      (λ k txn attempt ds. quiet_act (Records k (Wait txn attempt (home_of s).dm ds)
      (map (ask_for (home_of s)) ds)) (asks_no_answer ts c at (ask_for (home_of s)) ds (λ d. refl))
      (record_keeps s c ts k (Wait txn attempt (home_of s).dm ds) (map (ask_for (home_of s)) ds) log refl)
      h)
      (λ k t of txn changes e. quiet_act (Records k (Apply txn of (home_of s).dm t) (done_for k (Done t)))
      (done_no_answer ts c at k t) (record_keeps s c ts k (Apply txn of (home_of s).dm t) (done_for k (Done t)) log refl) h)
      (λ k of time e. quiet_act (Records k (Pass of (home_of s).dm time) []) refl (record_keeps s c ts k (Pass of (home_of s).dm time) [] log refl) h) step
