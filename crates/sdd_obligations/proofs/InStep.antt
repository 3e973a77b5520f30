-- What it means that the exchange of an attempt goes in step with the modules that it reads at.
use Rattle.sdd_obligations.proofs.All.{Act, Answer, Asks, AsksPhase, Attempt, Bool, D, Did, DmNo, Does, Exchange, FitsInput, Frozen, Hand, Has, Input, IsPermitted, List, Log, Move, Msg, Option, Phase, Records, Reduce, Reducing, Replies, Site, Some, Tells, Turn, Value, [], ap, arith, contains, eqb-true, false, first_phase, home, inl, inr, is_a_read, is_answer, is_question, is_shipped, length, local_of, longer, refl, subst, sym, true, turn_at, ℕ, ◌==◌, ◌||◌, ◌∙◌, ◌∷◌, ◌≡◌}
use Rattle.sdd_obligations.proofs.AtTurn.{IsAtTurn, answered_last, apart, awaited, awaits, unsent}
use Rattle.sdd_obligations.proofs.Modules.{firsts}
use Rattle.sdd_obligations.proofs.Places.{IsAnswerAt, one_answer}
use Rattle.sdd_obligations.proofs.Snapped.{answer_more}
use Rattle.sdd_obligations.proofs.Kept.{IsFrozen}
use Rattle.sdd_obligations.proofs.Spaces.{kept_at, own, set}

pub contains_has : (xs : List ℕ) (n : ℕ) → contains xs n ≡ true → Has xs n
contains_has [] n e = cc
contains_has (x ∷ xs) n e = elim (x == n) as (λ b. (x == n) ≡ b → (b || contains xs n) ≡ true → Has (x ∷ xs) n) [
  | true ↦ λ p q. inl (eqb-true x n p)
  | false ↦ λ p q. inr (contains_has xs n q)
] refl e

-- the answer of a module to the question of its turn
pub record IsAnswered (turn : Turn) (rows : Option Frozen) (m : Msg) : Type 0 where
  pub uses : List ℕ
  pub question : Msg
  pub is : turn ≡ Asks uses question
  pub replies : Replies uses question m
  pub tells : is_a_read question ≡ false → (f : Frozen) × (rows ≡ Some f) × Tells question m f

-- how the exchange of an active attempt and its modules go in step
pub record InStep (g : Input) (c : ℕ) (log : Log) (a : Attempt) : Type 0 where
  pub at_turn : (d : ℕ) → IsAtTurn d a.exchange (turn_at a.ts c d (local_of g (home g.catalogue c) log))
  pub asks : AsksPhase a.ts c a.exchange (λ d. turn_at a.ts c d (local_of g (home g.catalogue c) log))
  pub question : (from : Site) (d : DmNo) (n : ℕ) (m : Msg) → IsPermitted g (Hand from (D d) n m ∷ log) → is_question a.ts c m ≡ true
      → (ns : List ℕ) × (turn_at a.ts c d.0 (local_of g (home g.catalogue c) log) ≡ Asks ns m)
  pub answer : (d : DmNo) (n : ℕ) (m : Msg) → IsPermitted g (Hand (D d) (home g.catalogue c) n m ∷ log) → is_answer a.ts c m ≡ true
      → IsAnswered (turn_at a.ts c d.0 (local_of g (home g.catalogue c) log)) (kept_at g c a.ts d.0 log) m

-- a module whose answer is awaited is one of the exchange's
pub awaited_there : (d : ℕ) (x : Exchange) (v : Turn) (ns : List ℕ) (q : Msg) → IsAtTurn d x v → v ≡ Asks ns q → contains (firsts x.modules) d ≡ true
awaited_there d x v ns q e z = grind (arith, unsent, awaited, answered_last, apart, Asks)

-- a REDUCE that is awaited is that of the phase
abbrev pub is_a_reduce : Msg → Bool
is_a_reduce (Reduce t k u col vs) = true
is_a_reduce _ = false

pub reducing_is : (p : Phase) (q : Msg) → awaits p q ≡ true → is_a_reduce q ≡ true → (v : Move) × (p ≡ Reducing v)
reducing_is p q a e = grind arith

abbrev pub col_of : Msg → ℕ × List Value
col_of (Reduce t k u col vs) = (col, vs)
col_of _ = (0, [])

abbrev pub use_of : Msg → ℕ
use_of (Reduce t k u col vs) = u
use_of _ = 0

-- an exchange that is over when it begins reads nothing
pub none_read : {A : Type 0} (ms : List (ℕ × List ℕ)) (dms : List ℕ) (d : ℕ) → firsts ms ≡ dms → is_shipped (first_phase ms) ≡ true → Has dms d → A
none_read ms dms d e ships k = grind arith

-- a READ isn't answered twice at a module
pub again : (g : Input) → FitsInput g → (c : ℕ) (d : DmNo) (act : Act) (log : Log) (ts : ℕ)
    → IsPermitted g (Does (D d) act ∷ log) → own g d.0 (Does (D d) act ∷ log) ≡ Did act ∷ own g d.0 log
    → IsFrozen (set g d.0) c ts act (own g d.0 log) → IsAnswerAt ts (own g d.0 log) → ⊥
again g good c d act log ts h here r older =
    let x = subst (λ l. (y : IsAnswerAt ts l) × (y.before ≡ r.answer.before)) (sym here) (r.answer, refl) in
    let y = subst (λ l. (y : IsAnswerAt ts l) × (y.before ≡ older.before)) (sym here) (answer_more ts (Did act) (own g d.0 log) older, refl) in
    let same : own g d.0 log ≡ older.before = sym r.before_is ∙ sym x.1 ∙ (one_answer g good.sound d (Does (D d) act ∷ log) ts h x.0 y.0).0 ∙ y.1 in
    let long = longer older.later (Did (Records older.class (Answer older.txn older.attempt older.dm) older.sends)) older.before in
    let size : length (own g d.0 log) ≡ length older.before = ap length same in
    omega (arith, ap length older.is)
