-- The cases of an event, and what its note says of the log before it.
use Rattle.sdd_control.proofs.All.{Act, All, Bool, Deliver, Dropped, Finish, FitsAct, GONE, Gone, Halt, Ignored, List, Log, Message, None, Note, Nothing, Nought, OK, Ok, Option, Send, Some, Stop, Tell, Unknown, VALUE, Val, Value, Write, [], all_answered, arith, arrival, cond, false, first_from, heir, is_above, is_finish, leads, link, nat_tests, not, note_of, noted, send, stopped, true, untold, unwritten, value, ℕ, ◌&&◌, ◌+◌, ◌-◌, ◌∷◌, ◌≡◌, ◌≤◌}
use Rattle.sdd_control.proofs.Lists.{and_left, and_right, not_true}

-- the event gives the note
pub data Case (backups writes : ℕ) (log : Log) : Act → Note → Type 0 where
  tells : (i j : ℕ) (v : Val) → i ≤ backups → stopped log i ≡ false → heir log i ≡ true
      → first_from (untold log i) (i + 1) (backups - i) ≡ Some j → value log i ≡ v → Case backups writes log (Send i) (Tell i j v)
  writes_one : (i k : ℕ) → i ≤ backups → stopped log i ≡ false → heir log i ≡ true
      → all_answered backups log i ≡ true → value log i ≡ All → unwritten writes log i ≡ Some k → Case backups writes log (Send i) (Write i k)
  finishes : (i : ℕ) (v : Val) → i ≤ backups → stopped log i ≡ false → heir log i ≡ true → all_answered backups log i ≡ true → value log i ≡ v
      → (v ≡ All → unwritten writes log i ≡ None) → Case backups writes log (Send i) (Finish i v)
  idle : (i : ℕ) → Case backups writes log (Send i) Nothing
  empty : (i j : ℕ) → link log i j ≡ [] → Case backups writes log (Deliver i j) Nothing
  dropped : (i j : ℕ) → stopped log j ≡ true → Case backups writes log (Deliver i j) Dropped
  learns : (i j : ℕ) (rest : List Message) → stopped log j ≡ false → link log i j ≡ GONE ∷ rest → Case backups writes log (Deliver i j) (Gone j i)
  hears : (i j : ℕ) (rest : List Message) → stopped log j ≡ false → link log i j ≡ OK ∷ rest → Case backups writes log (Deliver i j) (Ok j i)
  ignores : (i j : ℕ) (v : Val) (rest : List Message) → stopped log j ≡ false → link log i j ≡ VALUE v ∷ rest → noted (is_above j i) log ≡ true
      → Case backups writes log (Deliver i j) (Ignored j)
  takes : (i j : ℕ) (v : Val) (rest : List Message) → stopped log j ≡ false → link log i j ≡ VALUE v ∷ rest → noted (is_above j i) log ≡ false
      → Case backups writes log (Deliver i j) (Value j i v)
  again : (i : ℕ) → Case backups writes log (Halt i) Nothing
  stops : (i : ℕ) → stopped log i ≡ false → Case backups writes log (Halt i) (Stop i)

module _ (backups writes : ℕ) (log : Log) where
  case_sends : (i : ℕ) (b : Bool) (to : Option ℕ) (all : Bool) (v : Val) (left : Option ℕ) → i ≤ backups
      → (leads log i && not (noted (is_finish i) log)) ≡ b → first_from (untold log i) (i + 1)
      (backups - i) ≡ to → all_answered backups log i ≡ all → value log i ≡ v → unwritten writes log i ≡ left
      → Case backups writes log (Send i) (send i b to all v left)
  case_sends i true (Some j) all v left l e f g h k = let p = and_left (leads log i) (not (noted (is_finish i) log)) e in
      tells i j v l (not_true (stopped log i) (and_left (not (stopped log i)) (heir log i) p)) (and_right (not (stopped log i)) (heir log i) p) f h
  case_sends i true None true All (Some n) l e f g h k = let p = and_left (leads log i) (not (noted (is_finish i) log)) e in
      writes_one i n l (not_true (stopped log i) (and_left (not (stopped log i)) (heir log i) p))
      (and_right (not (stopped log i)) (heir log i) p) g h k
  case_sends i true None true All None l e f g h k = let p = and_left (leads log i) (not (noted (is_finish i) log)) e in
      finishes i All l (not_true (stopped log i) (and_left (not (stopped log i)) (heir log i) p)) (and_right (not (stopped log i)) (heir log i) p) g h
      (λ _. k)
  case_sends i true None true Unknown left l e f g h k = let p = and_left (leads log i) (not (noted (is_finish i) log)) e in
      finishes i Unknown l (not_true (stopped log i) (and_left (not (stopped log i)) (heir log i) p))
      (and_right (not (stopped log i)) (heir log i) p) g h (λ q. absurd (cc))
  case_sends i true None true Nought left l e f g h k = let p = and_left (leads log i) (not (noted (is_finish i) log)) e in
      finishes i Nought l (not_true (stopped log i) (and_left (not (stopped log i)) (heir log i) p))
      (and_right (not (stopped log i)) (heir log i) p) g h (λ q. absurd (cc))
  case_sends i _ _ _ v left l e f g h k = idle i

  case_delivered : (i j : ℕ) (b : Bool) (xs : List Message) (c : Bool) → stopped log j ≡ b
      → link log i j ≡ xs → noted (is_above j i) log ≡ c → Case backups writes log (Deliver i j) (arrival b xs c i j)
  case_delivered i j b [] c e f g = empty i j f
  case_delivered i j true (m ∷ rest) c e f g = dropped i j e
  case_delivered i j false (GONE ∷ rest) c e f g = learns i j rest e f
  case_delivered i j false (OK ∷ rest) c e f g = hears i j rest e f
  case_delivered i j false (VALUE v ∷ rest) true e f g = ignores i j v rest e f g
  case_delivered i j false (VALUE v ∷ rest) false e f g = takes i j v rest e f g

  case_halt : (i : ℕ) (b : Bool) → stopped log i ≡ b → Case backups writes log (Halt i) (cond b Nothing (Stop i))
  case_halt i true e = again i
  case_halt i false e = stops i e

  pub case_of : (a : Act) → FitsAct backups a → Case backups writes log a (note_of backups writes log a)
  case_of a f = grind (
    arith,
    nat_tests,
    case_sends,
    leads,
    noted,
    is_finish,
    first_from,
    untold,
    all_answered,
    value,
    unwritten,
    case_delivered,
    stopped,
    link,
    is_above,
    case_halt,
  )
