-- What a data module keeps, and what a message and a step make of it.
use Rattle.std.specs.Prelude.{ℕ, ◌+◌, Bool, true, false, List, [], ◌∷◌, ◌++◌, map, fold, length, slice_index_or, Option, Some, None}
use Rattle.sdd_module.specs.All.{Act, Answer, Apply, Arrive, Done, Fetch, Kept, Msg, Notes, Null, Pass, Read, Ready, Records, Reduce, Reduced, Reject, Rows, Sends, Ship, Site, U, Use, Values, Wait, Write, with_act}
use Rattle.sdd_module.specs.history.declared.record.Rec.TheVariants.{Reject as Rejected}
use Rattle.sdd_copy.specs.Items.{dated}
use Rattle.sdd_copy.specs.Copies.{Held, rows_at, with_change}
use Rattle.sdd_copy.specs.Frozen.{Frozen, frozen_for, values_in, counts_of}
use Rattle.sdd_pipe.specs.Digest.{Digest, put_digest, take_digest}
use Rattle.sdd_pipe.specs.Pipes.{update}
use Rattle.sdd_rules.specs.declared.step.Step.{Step}
use Rattle.sdd_rules.specs.declared.step.Step.TheVariants.{Processes, Refuses, Waits}
use Rattle.sdd_rules.specs.dm.Copies.{reduced_at, rows_held, all_held}
use Rattle.sdd_rules.specs.dm.Views.{Home, source_of}
use Rattle.sdd_rules.specs.dm.Due.{ask_for, done_for}

-- its number with the site of each class, and by class from 0 on what is kept of the pipe, whether its head waits, and the
-- rows that are held; the copies; and whether the pipes are live
pub record State : Type 0 where
  pub home : Home
  pub pipes_live : Bool
  pub pipes : List Digest
  pub waits : List Bool
  pub copies : Kept Held
  pub frozen : List (Option Frozen)

abbrev pub frozen_of : List (Option Frozen) → ℕ → Option Frozen
frozen_of frozen c = slice_index_or frozen c None

-- a message is handed

-- the class of a READ, WRITE or NULL
abbrev pub class_of_pipe : Msg → Option ℕ
class_of_pipe (Read ts class txn attempt conds uses) = Some class.0
class_of_pipe (Write ts class txn changes) = Some class.0
class_of_pipe (Null class time) = Some class.0
class_of_pipe _ = None

-- a READ arrives
abbrev pub arrived : Msg → State → Notes → Notes
arrived (Read ts class txn attempt conds uses) st n = record n { recs = n.recs ++ Arrive txn attempt st.home.dm ∷ [] }
arrived _ st n = n

-- a FETCH, REDUCE or SHIP is answered
abbrev pub state_answered : Msg → State → State
state_answered (Reduce ts class u col values) st = record st { frozen = update class.0 (reduced_at ts.0 u col values) st.frozen }
state_answered (Ship ts class) st = record st { frozen = update class.0 (λ f. None) st.frozen }
state_answered _ st = st

abbrev pub with_out : Site → Msg → Notes → Notes
with_out to m n = record n { out = n.out ++ (to, m) ∷ [] }

abbrev pub with_answers : Site → Msg → State → Notes → Notes
with_answers from (Fetch ts class u col) st n = with_out from (Values ts class u (values_in (rows_held u (frozen_of st.frozen class.0)) col)) n
with_answers from (Reduce ts class u col values) st n =
    with_out from (Reduced ts class u (length (rows_held u (frozen_of (update class.0 (reduced_at ts.0 u col values) st.frozen) class.0)))) n
with_answers from (Ship ts class) st n = with_out from (Rows ts class (all_held (frozen_of st.frozen class.0))) n
with_answers from _ st n = n

abbrev pub state_by : Option ℕ → Msg → State → State
state_by (Some c) m st = record st { pipes = update c (put_digest m) st.pipes }
state_by None m st = state_answered m st

abbrev pub notes_by : Option ℕ → Site → Msg → State → Notes → Notes
notes_by (Some c) from m st n = n
notes_by None from m st n = with_answers from m st n

abbrev pub state_handed : Msg → State → State
state_handed m st = state_by (class_of_pipe m) m st

abbrev pub notes_handed : Site → Msg → State → Notes → Notes
notes_handed from m st n = notes_by (class_of_pipe m) from m st (arrived m st n)

-- the head of class c does a step

-- the rows that an Answer to a READ freezes
abbrev pub frozen_now : State → ℕ → List Use → Frozen
frozen_now st ts uses = frozen_for (rows_at st.copies.value) ts uses

abbrev pub act_in : State → ℕ → Msg → Step → Act
act_in st c (Null class time) step = Records c (Pass class st.home.dm time) []
act_in st c (Write ts class txn changes) step = Records c (Apply txn class st.home.dm ts) (done_for c (Done ts))
act_in st c (Read ts class txn attempt conds uses) Processes =
    Records c (Answer txn attempt st.home.dm) ((source_of st.home c, Ready ts class (counts_of (frozen_now st ts.0 uses))) ∷ [])
act_in st c (Read ts class txn attempt conds uses) (Refuses by write) =
    Records c (Rejected txn attempt st.home.dm by write) ((source_of st.home c, Reject ts class by write) ∷ [])
act_in st c (Read ts class txn attempt conds uses) (Waits ds) = Records c (Wait txn attempt st.home.dm ds) (map (ask_for st.home) ds)
act_in st c m step = Sends U m None

abbrev pub head_taken : ℕ → State → State
head_taken c st = record st { pipes = update c take_digest st.pipes; waits = update c (λ w. false) st.waits }

abbrev pub stepped : State → ℕ → Msg → Step → State
stepped st c (Null class time) step = head_taken c st
stepped st c (Write ts class txn changes) step =
    record (head_taken c st) { copies = record { live = true; value = fold with_change st.copies.value (dated ts.0 changes) } }
stepped st c (Read ts class txn attempt conds uses) Processes =
    record (head_taken c st) { frozen = update c (λ f. Some (frozen_now st ts.0 uses)) st.frozen }
stepped st c (Read ts class txn attempt conds uses) (Refuses by write) = head_taken c st
stepped st c (Read ts class txn attempt conds uses) (Waits ds) = record st { waits = update c (λ w. true) st.waits }
stepped st c m step = st

abbrev pub state_after : State → ℕ → Option Msg → Step → State
state_after st c None step = st
state_after st c (Some m) step = stepped st c m step

abbrev pub notes_after : State → ℕ → Option Msg → Step → Notes → Notes
notes_after st c None step n = n
notes_after st c (Some m) step n = with_act (act_in st c m step) n

-- the steps that are left, at most: each processes a message, or lets one wait

abbrev pub steps_in : Digest → Bool → ℕ
steps_in p true = length p.unprocessed + length p.unprocessed
steps_in p false = length p.unprocessed + length p.unprocessed + 1

abbrev pub steps_left : List Digest → List Bool → ℕ
steps_left [] waits = 0
steps_left (p ∷ pipes) [] = steps_in p false + steps_left pipes []
steps_left (p ∷ pipes) (w ∷ waits) = steps_in p w + steps_left pipes waits
