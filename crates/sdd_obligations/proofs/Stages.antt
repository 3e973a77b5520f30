-- Each entry keeps an exchange in lockstep.
use Rattle.sdd_obligations.proofs.All.{IsStage, List, MayAnswer, MayAsk, Msg, Turn, [], agreed, answer_goes, ap, append-nil, arith, asked_by, question_goes, subst, sym, turn_after_answer, turn_after_answers, turn_after_question, ◌++◌, ◌∙◌, ◌∷◌, ◌≡◌}

-- what one entry adds: questions that are put, questions that are handed over, answers that are put, answers that are
-- handed over
pub data IsMove (v w : Turn) : List Msg → List Msg → List Msg → List Msg → Type 0 where
  still : IsMove v w [] [] [] []
  question_put : (m : Msg) → MayAsk v m → IsMove v w (m ∷ []) [] [] []
  question_got : (m : Msg) → IsMove v w [] (m ∷ []) [] []
  answer_put : (x : Msg) → MayAnswer w x → IsMove v w [] [] (x ∷ []) []
  answer_got : (x : Msg) → IsMove v w [] [] [] (x ∷ [])

pub move_as : (v w : Turn) (a1 a2 a3 a4 b1 b2 b3 b4 : List Msg) → a1 ≡ b1 → a2 ≡ b2 → a3 ≡ b3 → a4 ≡ b4 → IsMove v w b1 b2 b3 b4 → IsMove v w a1 a2 a3 a4
move_as v w a1 a2 a3 a4 b1 b2 b3 b4 e1 e2 e3 e4 h = grind (arith, IsMove)

ask_or_answer : {A : Type 0} (v : Turn) (m x : Msg) → MayAsk v m → MayAnswer v x → A
ask_or_answer v m x h k = grind arith

pub nothing : {A : Type 0} (m : Msg) (ms : List Msg) → m ∷ ms ≡ [] → A
nothing m ms e = cc

one_only : (m n : Msg) (ms : List Msg) → m ∷ ms ≡ n ∷ [] → (m ≡ n) × (ms ≡ [])
one_only m n ms e = (cc, cc)

same_stage : (v w : Turn) (qs xs qs2 xs2 : List Msg) → qs2 ≡ qs → xs2 ≡ xs → IsStage v w qs xs → IsStage v w qs2 xs2
same_stage v w qs xs qs2 xs2 e f h = subst (λ q. IsStage v w q xs2) (sym e) (subst (IsStage v w qs) (sym f) h)

put_question : (v w : Turn) (qs xs qs2 xs2 : List Msg) (m : Msg) → MayAsk v m → qs2 ≡ qs ++ m ∷ [] → xs2 ≡ xs → IsStage v w qs xs
    → IsStage (turn_after_question m v) w qs2 xs2
put_question v w qs xs qs2 xs2 m h e f (agreed s q x) = question_goes m (e ∙ ap (λ l. l ++ m ∷ []) q) (f ∙ x) (ap (turn_after_question m) s) (subst (λ y. MayAsk y m) s h)
put_question v w qs xs qs2 xs2 m h e f (question_goes n q x s a) = absurd (subst (λ y. MayAsk y m) s h)
put_question v w qs xs qs2 xs2 m h e f (answer_goes y q x s a) = ask_or_answer v m y h a

get_question : (v w : Turn) (qs xs qs2 xs2 : List Msg) (m : Msg) → m ∷ qs2 ≡ qs → xs2 ≡ xs → IsStage v w qs xs → IsStage v (turn_after_question m w) qs2 xs2
get_question v w qs xs qs2 xs2 m e f h10 = grind (arith, nothing, one_only)

put_answer : (v w : Turn) (qs xs qs2 xs2 : List Msg) (y : Msg) → MayAnswer w y → qs2 ≡ qs → xs2 ≡ xs ++ y ∷ [] → IsStage v w qs xs
    → IsStage v (turn_after_answer y w) qs2 xs2
put_answer v w qs xs qs2 xs2 y h e f (agreed s q x) =
    answer_goes y (e ∙ q) (f ∙ ap (λ l. l ++ y ∷ []) x) (ap (turn_after_answer y) (sym s)) (subst (λ z. MayAnswer z y) (sym s) h)
put_answer v w qs xs qs2 xs2 y h e f (question_goes m q x s a) = ask_or_answer w m y a h
put_answer v w qs xs qs2 xs2 y h e f (answer_goes z q x s a) = (grind (arith))

-- each entry keeps the stage
pub moved : (v w : Turn) (pq hq pa ha qs xs qs2 xs2 : List Msg) → IsMove v w pq hq pa ha → hq ++ qs2 ≡ qs ++ pq → ha ++ xs2 ≡ xs ++ pa
    → IsStage v w qs xs → IsStage (turn_after_answers ha (asked_by pq v)) (turn_after_answers pa (asked_by hq w)) qs2 xs2
moved v w pq hq pa ha qs xs qs2 xs2 still e f h = same_stage v w qs xs qs2 xs2 (e ∙ append-nil _) (f ∙ append-nil _) h
moved v w pq hq pa ha qs xs qs2 xs2 (question_put m a) e f h = put_question v w qs xs qs2 xs2 m a e (f ∙ append-nil _) h
moved v w pq hq pa ha qs xs qs2 xs2 (question_got m) e f h = get_question v w qs xs qs2 xs2 m (e ∙ append-nil _) (f ∙ append-nil _) h
moved v w pq hq pa ha qs xs qs2 xs2 (answer_put y a) e f h = put_answer v w qs xs qs2 xs2 y a (e ∙ append-nil _) f h
moved v w pq hq pa ha qs xs qs2 xs2 (answer_got y) e f h = (grind (arith, nothing, one_only))

-- a question or an answer that is the first under way comes in turn

pub question_comes : (v w : Turn) (qs xs : List Msg) (m : Msg) (rest : List Msg) → qs ≡ m ∷ rest → IsStage v w qs xs → MayAsk w m
question_comes v w qs xs m rest e h8 = grind (arith, nothing, one_only)

pub answer_comes : (v w : Turn) (qs xs : List Msg) (y : Msg) (rest : List Msg) → xs ≡ y ∷ rest → IsStage v w qs xs → MayAnswer v y
answer_comes v w qs xs y rest e h8 = grind (arith, nothing, one_only)

-- the question or the answer under way, and the turns

pub question_flies : (v w : Turn) (qs xs : List Msg) (m : Msg) (rest : List Msg) → qs ≡ m ∷ rest → IsStage v w qs xs → v ≡ turn_after_question m w
question_flies v w qs xs m rest e h8 = grind (arith, nothing, one_only)

pub answer_flies : (v w : Turn) (qs xs : List Msg) (y : Msg) (rest : List Msg) → xs ≡ y ∷ rest → IsStage v w qs xs → (w ≡ turn_after_answer y v) × (rest ≡ [])
answer_flies v w qs xs y rest e h8 = grind (arith, nothing, one_only)
