-- Along the log of the site of a class the questions of the active attempt are those of its phase.
use Rattle.sdd_obligations.proofs.All.{Act, AllByRecursion, AsksPhase, Attempt, Bases, D, Did, DmNo, Each, Handed, IsFair, IsStep, List, Msg, None, Option, Queued, Sends, Setting, Site, Some, Turn, [], active, active_handed, active_sent, after_hand, after_send, and_no, ap, arith, asked_by, asks_rows, commit_act, commit_puts, dm_no, false, head_of, if◌then◌else◌, inl, inr, is_a_read, is_answer, is_question, never, next_stamp, one_attempt as one_active, question_of, questions, queue, refl, rejects, same_number, same_or_not, same_site, sends_of_act, stamp_below_next, start_at, start_puts, start_read, started, step_way, subst, sym, tail_of, to_site, true, turn_after_answer, turn_after_question, turn_at, uses_by, uses_in, ℕ, ◌&&◌, ◌==◌, ◌∙◌, ◌∷◌, ◌≡◌, ◌⊎◌}
use Rattle.sdd_obligations.proofs.QuestionsComeInTurn.{in_turn, send_is_question, and_true}
use Rattle.sdd_obligations.proofs.AtTurn.{IsAtTurn, hand_not}
use Rattle.sdd_obligations.proofs.FirstSends.{IsFirstEach, IsFirstSend}
use Rattle.sdd_obligations.proofs.HandedAnswersKeepTurns.{AtTurn, InTurn, IsTimely, asked_one, turn_after_one}
use Rattle.sdd_obligations.proofs.Questions.{after_answer, hand_asks}
use Rattle.sdd_invariants.specs.site_module.SiteLog.{Log}

abbrev pub AllAskPhase : ℕ → Log → Option Attempt → Type 0
AllAskPhase c log None = Unit {0}
AllAskPhase c log (Some a) = AsksPhase a.ts c a.exchange (λ d. turn_at a.ts c d log)

same_turns : (c : ℕ) (log more : Log) (o : Option Attempt) → ((ts d : ℕ) → (a : Attempt) → o ≡ Some a
    → a.ts ≡ ts → turn_at ts c d more ≡ turn_at ts c d log) → AllAskPhase c log o → AllAskPhase c more o
same_turns c log more o e h = grind arith

-- a hand from a module

at_turn_of : (s : Setting) (c : ℕ) (log : Log) (a : Attempt) → InTurn s c log → active s c log ≡ Some a → (d : ℕ) → IsAtTurn d a.exchange (turn_at a.ts c d log)
at_turn_of s c log a h e d = (subst (λ o. AtTurn a.ts d o (turn_at a.ts c d log)) e (h.turns a.ts d)).0 refl

hand_phase : (s : Setting) (c : ℕ) (log : Log) (n : DmNo) (m : Msg) (o : Option Attempt)
    → active s c log ≡ o → InTurn s c log → IsTimely c log (Handed (D n) m) → AllAskPhase c log o
    → AllAskPhase c (Handed (D n) m ∷ log) (active_handed c (D n) m o)
hand_phase s c log n m None e turns timely h = tt
hand_phase s c log n m (Some a) e turns timely h =
    let v : ℕ → Turn = λ d. turn_at a.ts c d log in
    let w : ℕ → Turn = λ d. turn_at a.ts c d (Handed (D n) m ∷ log) in
    elim (rejects m a.ts c) as (λ b. rejects m a.ts c ≡ b → AllAskPhase c (Handed (D n) m ∷ log)
    (if b then None else Some (record a { exchange = after_hand a.ts c n.0 m a.exchange }))) [
      | true ↦ λ r. tt
      | false ↦ λ r. elim (is_answer a.ts c m) as (λ b. is_answer a.ts c m ≡ b → AsksPhase a.ts c (after_hand a.ts c n.0 m a.exchange) w) [
        | true ↦ λ own.
            let now : (d : ℕ) → w d ≡ after_answer n.0 m v d = λ d. turn_after_one a.ts c (d == n.0) m (v d)
            ∙ ap (λ b. if (d == n.0) && b then turn_after_answer m (v d) else v d) own ∙ and_true (d ==
            n.0) (turn_after_answer m (v d)) (v d) in
            subst (AsksPhase a.ts c (after_hand a.ts c n.0 m a.exchange)) (λ i d. sym (now d) i)
            (hand_asks a.ts c n.0 m v a.exchange own (grind (arith, never)) (at_turn_of s c log a turns e) (timely a.ts n.0 refl own) h)
        | false ↦ λ own.
            let now : (d : ℕ) → w d ≡ v d = λ d. turn_after_one a.ts c (d == n.0) m (v d)
            ∙ ap (λ b. if (d == n.0) && b then turn_after_answer m (v d) else v d) own
            ∙ ap (λ b. if b then turn_after_answer m (v d) else v d) (and_no (d == n.0)) in
            subst (AsksPhase a.ts c (after_hand a.ts c n.0 m a.exchange)) (λ i d. sym (now d) i)
            (subst (λ x. AsksPhase a.ts c x v) (sym (hand_not a.ts c n.0 a.exchange m own)) h)
      ] refl
    ] refl

-- a Start

asked_none : (ts c : ℕ) (ms : List Msg) (v : Turn) → questions ts c ms ≡ [] → asked_by (questions ts c ms) v ≡ v
asked_none ts c ms v e = ap (λ l. asked_by l v) e

abbrev AreReads : List Msg → Type 0
AreReads ms = (ms ≡ []) ⊎ ((m : Msg) × (ms ≡ m ∷ []) × (is_a_read m ≡ true))

start_own : (s : Setting) (c : ℕ) (log : Log) (q : Queued) → InTurn s c log
    → AllAskPhase c (Did (start_at s c log q) ∷ log)
    (started (next_stamp s log) (sends_of_act (start_at s c log q)) (Some q))
start_own s c log q turns = record {
  sends = tt;
  asked = λ d ns x e r. absurd (grind (arith, never, uses_by, uses_in, next_stamp, to_site, dm_no, sends_of_act, start_at, turn_at, start_puts, start_read, stamp_below_next));
}

other_reads : (s : Setting) (k c ts : ℕ) (log : Log) (q : Queued) (d : ℕ) → (k == c) ≡ false
    → questions ts c (to_site (D (dm_no d)) (sends_of_act (start_at s k log q))) ≡ []
other_reads s k c ts log q d e = grind (arith, start_puts, and_no)

start_phase : (s : Setting) (k c : ℕ) (log : Log) (q : Queued) → head_of (queue s k log) ≡ Some q
    → InTurn s c log → AllAskPhase c log (active s c log) → AllAskPhase c (Did (start_at s k log q) ∷ log)
    (active s c (Did (start_at s k log q) ∷ log))
start_phase s k c log q e turns h = elim (same_or_not k c) [
  | inl p ↦ subst (λ j. head_of (queue s j log) ≡ Some q → AllAskPhase c (Did (start_at s j log q) ∷ log) (active s c (Did (start_at s j log q) ∷ log))) (sym p)
      (λ f. subst (AllAskPhase c (Did (start_at s c log q) ∷ log)) (sym (now f)) (start_own s c log q turns)) e
  | inr p ↦ subst (AllAskPhase c (Did (start_at s k log q) ∷ log))
      (ap (λ b. if b then started (next_stamp s log) (sends_of_act (start_at s k log q)) (head_of (queue s c log)) else active s c log) (sym p))
      (same_turns c log (Did (start_at s k log q) ∷ log) (active s c log)
      (λ ts d a i t. asked_none ts c (to_site (D (dm_no d)) (sends_of_act (start_at s k log q))) (turn_at ts c d log) (other_reads s k c ts log q d p)) h)
]
  where
    now : head_of (queue s c log) ≡ Some q → active s c (Did (start_at s c log q) ∷ log) ≡ started
        (next_stamp s log) (sends_of_act (start_at s c log q)) (Some q)
    now f = rw (same_number c) (ap (started (next_stamp s log) (sends_of_act (start_at s c log q))) f)

-- a Commit

commit_phase : (s : Setting) (k c : ℕ) (bases : Bases) (a : Attempt) (log : Log)
    → AllAskPhase c log (active s c log) → AllAskPhase c (Did (commit_act s.catalogue bases k a) ∷ log)
    (active s c (Did (commit_act s.catalogue bases k a) ∷ log))
commit_phase s k c bases a log h = elim (k == c) as (λ b. AllAskPhase c (Did (commit_act s.catalogue bases k a) ∷ log) (if b then None else active s c log)) [
  | true ↦ tt
  | false ↦ same_turns c log (Did (commit_act s.catalogue bases k a) ∷ log) (active s c log)
      (λ ts d b i t. asked_none ts c (to_site (D (dm_no d)) (sends_of_act (commit_act s.catalogue bases k a)))
      (turn_at ts c d log) (elim (commit_puts s k bases (D (dm_no d)) a) [ inl e ↦ ap (questions ts c) e | inr p ↦ ap (questions ts c) p.1 ])) h
]

-- a send

sent_phase : (s : Setting) (c : ℕ) (log : Log) (to : Site) (m : Msg) (hand : Option ℕ) (o : Option Attempt)
    → active s c log ≡ o → IsFirstSend s log (Sends to m hand) → ((ts : ℕ) → is_question ts c m ≡ asks_rows ts c m) → AllAskPhase c log o
    → AllAskPhase c (Did (Sends to m hand) ∷ log) (active_sent c m o)
sent_phase s c log to m hand None e first same h = tt
sent_phase s c log to m hand (Some a) e first same h =
    let v : ℕ → Turn = λ d. turn_at a.ts c d log in
    let w : ℕ → Turn = λ d. turn_at a.ts c d (Did (Sends to m hand) ∷ log) in
    elim (asks_rows a.ts c m) as (λ b. asks_rows a.ts c m ≡ b → AllAskPhase c (Did (Sends to m hand) ∷ log)
    (if b then Some (record a { exchange = after_send a.exchange }) else Some a)) [
      | true ↦ λ q.
          let f = first a.ts c q in
          let one : f.attempt ≡ a = one_active s c log a f.attempt e f.active_is in
          let sends : a.exchange.to_send ≡ (f.module_no, m) ∷ f.rest = subst (λ (y : Attempt). y.exchange.to_send ≡ (f.module_no, m) ∷ f.rest) one f.first in
          let all : AllByRecursion (λ (p : ℕ × Msg). p.1 ≡ question_of a.ts c a.exchange) ((f.module_no, m) ∷ f.rest) = subst
          (AllByRecursion (λ (p : ℕ × Msg). p.1 ≡ question_of a.ts c a.exchange)) sends h.sends in
          record {
            sends = subst (AllByRecursion (λ (p : ℕ × Msg). p.1 ≡ question_of a.ts c a.exchange)) (sym (ap tail_of sends)) all.1;
            asked = grind (arith, same_site, dm_no, is_question, turn_after_question, question_of, uses_by, uses_in, asked_one, turn_at);
          }
      | false ↦ λ q.
          let now : (d : ℕ) → w d ≡ v d = λ d. (asked_one a.ts c (same_site (D (dm_no d)) to) m (turn_at a.ts c d log))
          ∙ ap (λ b. if same_site (D (dm_no d)) to && b then turn_after_question m (v d) else v d) (same a.ts ∙ q)
          ∙ ap (λ b. if b then turn_after_question m (v d) else v d) (and_no (same_site (D (dm_no d)) to)) in
          subst (AsksPhase a.ts c a.exchange) (λ i d. sym (now d) i) h
    ] refl

act_phase : (s : Setting) (c : ℕ) (log : Log) (act : Act) → IsStep s log act → IsFirstSend s log act
    → InTurn s c log → AllAskPhase c log (active s c log) → AllAskPhase c (Did act ∷ log)
    (active s c (Did act ∷ log))
act_phase s c log act step first turns h =
    step_way s log act (λ x. IsFirstSend s log x → AllAskPhase c (Did x ∷ log) (active s c (Did x ∷ log)))
    (λ k q here idle e f. start_phase s k c log q e turns h) (λ k bases a here e. λ f. commit_phase s k c bases a log h)
    (λ to m hand i. λ f. sent_phase s c log to m hand (active s c log) refl f (λ ts. send_is_question s log ts c m i) h) step first

pub asks_phase : (s : Setting) (c : ℕ) (log : Log) → Each (IsFair s) log → Each (IsFirstEach s) log → Each (IsTimely c) log → AllAskPhase c log (active s c log)
asks_phase s c [] fair first timely = tt
asks_phase s c (Handed (D n) m ∷ log) fair first timely = grind (arith, hand_phase, in_turn, (asks_phase s c log fair.1 first.1 timely.1))
asks_phase s c (Did act ∷ log) fair first timely =
    act_phase s c log act fair.0 first.0 (in_turn s c log fair.1 first.1 timely.1) (asks_phase s c log fair.1 first.1 timely.1)
asks_phase s c (x ∷ log) fair first timely =
    same_turns c log (x ∷ log) (active s c log) (λ ts d a i t. refl) (asks_phase s c log fair.1 first.1 timely.1)
