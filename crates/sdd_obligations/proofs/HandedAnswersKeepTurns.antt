-- An answer that is handed in turn to a site that makes attempts keeps its turns.
use Rattle.sdd_obligations.proofs.All.{Asks, Attempt, Bool, D, Exchange, Handed, IsStrict, List, MayAnswer, Msg, None, Option, Phase, Refused, Replied, Replies, Setting, Silent, Site, Some, Turn, [], active, active_handed, after_hand, and_no, answers, ap, arith, asked_by, cond, contains, dm_no, false, hand_goes, if_way, if◌then◌else◌, inl, inr, is_a_read, is_a_refusal, is_answer, is_exchanging, is_over, is_question, is_reading, last_stamp, never, questions, refl, rejects, same_number, same_or_not, stamp_rises, subst, sym, true, turn_after_answer, turn_after_answers, turn_after_question, turn_at, uses_at, ℕ, ◌&&◌, ◌<◌, ◌==◌, ◌∙◌, ◌∷◌, ◌≡◌}
use Rattle.sdd_obligations.proofs.AtTurn.{IsAtTurn, answered_last, apart, awaited, awaits, hand_at, hand_not, silent_not_asks, replied_not_asks, unsent, read_no_ship}
use Rattle.sdd_obligations.proofs.Modules.{firsts}
use Rattle.sdd_invariants.specs.site_module.SiteLog.{Entry, Log}

-- the turn of an attempt with timestamp ts at module d, where this is the active attempt of its class
abbrev pub AtTurn : ℕ → ℕ → Option Attempt → Turn → Type 0
AtTurn ts d None v = is_exchanging v ≡ false
AtTurn ts d (Some a) v = (a.ts ≡ ts → IsAtTurn d a.exchange v) × ((a.ts == ts) ≡ false → is_exchanging v ≡ false)

abbrev pub IsStrictOf : Option Attempt → Type 0
IsStrictOf None = Unit {0}
IsStrictOf (Some a) = IsStrict (firsts a.exchange.modules)

pub record InTurn (s : Setting) (c : ℕ) (log : Log) : Type 0 where
  pub turns : (ts d : ℕ) → AtTurn ts d (active s c log) (turn_at ts c d log)
  pub fresh : (ts d : ℕ) → last_stamp s log < ts → turn_at ts c d log ≡ Silent
  pub strict : IsStrictOf (active s c log)

-- an answer that is handed is one that may come next
abbrev pub IsTimely : ℕ → Log → Entry → Type 0
IsTimely c log (Handed from m) = (ts d : ℕ) → from ≡ D (dm_no d) → is_answer ts c m ≡ true → MayAnswer (turn_at ts c d log) m
IsTimely c log _ = Unit {0}

-- turns

pub turn_after_one : (ts c : ℕ) (b : Bool) (m : Msg) (v : Turn)
    → turn_after_answers (answers ts c (if b then m ∷ [] else [])) v ≡ (if b && is_answer ts c m then turn_after_answer m v else v)
turn_after_one ts c b m v = grind (arith, turn_after_answers, cond)

pub asked_one : (ts c : ℕ) (b : Bool) (m : Msg) (v : Turn)
    → asked_by (questions ts c (if b then m ∷ [] else [])) v ≡ (if b && is_question ts c m then turn_after_question m v else v)
asked_one ts c b m v = grind (arith, asked_by, cond)

-- an answer may come only to a question
pub record IsAskedBy (v : Turn) (m : Msg) : Type 0 where
  pub uses : List ℕ
  pub question : Msg
  pub is : v ≡ Asks uses question
  pub replies : Replies uses question m

pub answers_asked : (v : Turn) (m : Msg) → MayAnswer v m → IsAskedBy v m
answers_asked v m h = grind arith

pub turn_is_replied : (v : Turn) (ns : List ℕ) (q m : Msg) → v ≡ Asks ns q → is_a_refusal m ≡ false → turn_after_answer m v ≡ Replied ns q
turn_is_replied v ns q m e f = ap (turn_after_answer m) e ∙ ap (λ (b : Bool). if b then Refused else Replied ns q) f

pub quiet_after_answer : (m : Msg) (v : Turn) → is_exchanging v ≡ false → is_exchanging (turn_after_answer m v) ≡ false
quiet_after_answer m v e = grind (arith, Asks, if_way)

quiet_if : (b : Bool) (m : Msg) (v : Turn) → is_exchanging v ≡ false → is_exchanging (if b then turn_after_answer m v else v) ≡ false
quiet_if b m v e = if_way (λ w. is_exchanging w ≡ false) b (turn_after_answer m v) v (quiet_after_answer m v e) e

-- a rejection answers a READ

reading_awaits : (p : Phase) (q : Msg) → is_reading p ≡ true → awaits p q ≡ true → is_a_read q ≡ true
reading_awaits p q e f = grind arith

-- what is known of a module whose question has no answer
pub record IsAwaited (d : ℕ) (x : Exchange) (ns : List ℕ) (q : Msg) : Type 0 where
  pub phase : awaits x.phase q ≡ true
  pub lacks : contains x.lacks d ≡ true
  pub uses : uses_at x.modules d ≡ ns

pub is_awaited : (d : ℕ) (x : Exchange) (v : Turn) (ns : List ℕ) (q : Msg) → IsAtTurn d x v → v ≡ Asks ns q → IsAwaited d x ns q
is_awaited d x v ns q h6 z = grind (arith, unsent, replied_not_asks, awaited, awaits, answered_last, apart, silent_not_asks)

pub quiet_over : (d : ℕ) (x : Exchange) (v : Turn) → is_over x.phase ≡ true → IsAtTurn d x v → is_exchanging v ≡ false
quiet_over d x v r h5 = grind (arith, unsent, awaited, answered_last, apart)

-- a hand from a module

abbrev pub Turns : Type 0
Turns = ℕ → ℕ → Turn

abbrev pub AllAtTurn : Option Attempt → Turns → Type 0
AllAtTurn o v = (ts d : ℕ) → AtTurn ts d o (v ts d)

-- the turns after a message of module n
abbrev after_answer : ℕ → ℕ → Msg → Turns → Turns
after_answer c n m v ts d = if (d == n) && is_answer ts c m then turn_after_answer m (v ts d) else v ts d

refusal_is : (m : Msg) (ts c : ℕ) → rejects m ts c ≡ true → (is_answer ts c m ≡ true) × (is_a_refusal m ≡ true)
refusal_is m ts c e = grind arith

pub quiet_but : (a : Attempt) (v : Turns) (ts d : ℕ) → AllAtTurn (Some a) v → (IsAtTurn d a.exchange (v ts d) → is_exchanging (v ts d) ≡ false)
    → is_exchanging (v ts d) ≡ false
quiet_but a v ts d h f = elim (same_or_not a.ts ts) [ inl p ↦ f ((h ts d).0 p) | inr p ↦ (h ts d).1 p ]

rejected_turns : (c n : ℕ) (m : Msg) (a : Attempt) (v : Turns) → AllAtTurn (Some a) v → rejects m a.ts c ≡ true
    → (is_answer a.ts c m ≡ true → MayAnswer (v a.ts n) m) → AllAtTurn None (after_answer c n m v)
rejected_turns c n m a v h e timely ts d = grind (arith, refusal_is, answers_asked, is_awaited, never, read_no_ship, quiet_if, quiet_but, unsent, awaited, reading_awaits, answered_last, apart)

at_turn_on : (c n d : ℕ) (m : Msg) (a : Attempt) (v : Turns) → IsStrict (firsts a.exchange.modules) → AllAtTurn (Some a) v
    → rejects m a.ts c ≡ false → (is_answer a.ts c m ≡ true → MayAnswer (v a.ts n) m)
    → IsAtTurn d (after_hand a.ts c n m a.exchange) (after_answer c n m v a.ts d)
at_turn_on c n d m a v strict h e timely = elim (is_answer a.ts c m) as (λ b. is_answer a.ts c m ≡ b
    → IsAtTurn d (after_hand a.ts c n m a.exchange) (after_answer c n m v a.ts d)) [
      | true ↦ λ f.
          (let by = answers_asked (v a.ts n) m (timely f) in
          let g : is_a_refusal m ≡ false = (grind (arith, never)) in
          hand_at a.ts c n d a.exchange (v a.ts d) (after_answer c n m v a.ts d) m strict f g
          (grind (arith, same_or_not, same_number, turn_is_replied)) ((h a.ts d).0 refl))
      | false ↦ λ f. subst (λ x. IsAtTurn d x (after_answer c n m v a.ts d)) (sym (hand_not a.ts c n a.exchange m f))
          (subst (λ (w : Turn). IsAtTurn d a.exchange w)
          (grind (arith, turn_after_answer, and_no)) ((h a.ts d).0 refl))
    ] refl

handed_turns : (c n : ℕ) (m : Msg) (o : Option Attempt) (v : Turns) → IsStrictOf o → AllAtTurn o v → ((ts : ℕ) → is_answer ts c m ≡ true → MayAnswer (v ts n) m)
    → AllAtTurn (active_handed c (D (dm_no n)) m o) (after_answer c n m v)
handed_turns c n m None v strict h timely = λ ts d. quiet_if ((d == n) && is_answer ts c m) m (v ts d) (h ts d)
handed_turns c n m (Some a) v strict h timely =
    elim (rejects m a.ts c) as (λ b. rejects m a.ts c ≡ b
    → AllAtTurn (if b then None else Some (record a { exchange = after_hand a.ts c n m a.exchange }))
    (after_answer c n m v)) [
      | true ↦ λ e. rejected_turns c n m a v h e (timely a.ts)
      | false ↦ λ e ts d. (
        λ p. subst (λ t. IsAtTurn d (after_hand a.ts c n m a.exchange) (after_answer c n m v t d)) p (at_turn_on c n d m a v strict h e (timely a.ts)),
        λ p. quiet_if ((d == n) && is_answer ts c m) m (v ts d) ((h ts d).1 p),
      )
    ] refl

pub turns_now : (o : Option Attempt) (v w : Turns) → ((ts d : ℕ) → w ts d ≡ v ts d) → AllAtTurn o v → AllAtTurn o w
turns_now o v w e h ts d = subst (AtTurn ts d o) (sym (e ts d)) (h ts d)

pub in_turn_hand : (s : Setting) (c : ℕ) (log : Log) (from : Site) (m : Msg) → IsTimely c log (Handed from m) → InTurn s c log
    → InTurn s c (Handed from m ∷ log)
in_turn_hand s c log (D n) m timely h = record {
  turns = turns_now (active_handed c (D n) m (active s c log))
      (after_answer c n.0 m (λ ts d. turn_at ts c d log)) (λ ts d. turn_at ts c d (Handed (D n) m ∷ log))
      (λ ts d. turn_after_one ts c (d == n.0) m (turn_at ts c d log)) (handed_turns c n.0 m (active s c log)
      (λ ts d. turn_at ts c d log) h.strict h.turns (λ ts e. timely ts n.0 refl e));
  fresh = grind (arith, turn_after_one, turn_at, if_way, turn_after_answer, is_answer, stamp_rises);
  strict = (grind (arith, if_way, hand_goes));
}
in_turn_hand s c log x m timely h =
    record { turns = h.turns; fresh = λ ts d l. h.fresh ts d (let r = stamp_rises s (Handed x m) log in omega arith); strict = h.strict }
