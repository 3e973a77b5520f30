-- How sites stand, by what their modules keep of their logs.
-- For the contracts of the code: not needed to read `IsTextOf`.
use Rattle.std.specs.Prelude.{ℕ, List, map, option_map, Option, Some, None}
use Rattle.sdd_moments.specs.obligations.All.{ClassNo, ClassState, Cond, class_no}
use Rattle.sdd_moments.specs.obligations.attempt.Line.{Line}
use Rattle.sdd_moments.specs.schedule.world.attempts.Sound.{IsOfHead}
use Rattle.sdd_moments.specs.obligations.site_rules.declared.asked.Asked.{Asked}
use Rattle.sdd_inside.specs.declared.standing.Active.{Active}
use Rattle.sdd_inside.specs.declared.standing.Head.{Head}
use Rattle.sdd_inside.specs.declared.standing.Head.TheVariants as heads
use Rattle.sdd_inside.specs.declared.standing.Question as questions
use Rattle.sdd_watch.specs.States.{reported_active}

-- the attempt of a line, which is that of the first transaction in its queue

abbrev pub IsLineInOrder : Line → Type 0
IsLineInOrder l = IsOfHead l.queue l.active

abbrev pub active_in : Line → Option Active
active_in l = reported_active l.class l.active

-- the open ASKs of a class

abbrev pub question_by : ℕ → Asked → questions.Question
question_by c ask = record { class = class_no c; from = ask.from; time = ask.time }

abbrev pub questions_in : ClassState → List questions.Question
questions_in k = map (question_by k.line.class) k.asks

-- the attempt of a class
abbrev pub active_of : ClassState → Option Active
active_of k = active_in k.line

-- the head of the pipe of a class: a READ that waits, with its conditions that aren't met, or a WRITE, with the classes whose
-- READ waits and must not see it
abbrev pub head_in : ClassNo → Option (List Cond) → Option (List ClassNo) → Option Head
head_in c (Some conds) readers = Some (heads.Waits c conds)
head_in c None readers = option_map (λ ks. heads.Held c ks) readers
