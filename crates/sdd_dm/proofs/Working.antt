-- Each step of a head is the act that is due next, and the state after it shows the log with that act.
use Rattle.sdd_dm.proofs.All.{Answer, Apply, Bases, Bool, ClassNo, Did, Done, Log, Msg, Notes, Null, Pass, Processes, Reached, Read, Ready, Records, Refuses, Setting, Shows, Site, Some, State, Step, Waits, Worked, Write, [], act_by, act_in, ap, arith, changes_in, counts_of, dated, dated_is, done_for, false, first_step, frozen_at, frozen_now, head, head_at, home_of, length, next, notes_after, pipe, reached_more, refl, rules, source_of, state_after, step_by, stepped, subst, sym, true, view_of, waits_at, ℕ, ◌∙◌, ◌∷◌, ◌≡◌, ◌≤◌}
use Rattle.sdd_dm.proofs.Shown.{head_shown}
use Rattle.sdd_dm.proofs.FirstDue.{IsFirst, first_is, next_act}
use Rattle.sdd_dm.proofs.Stepped.{frozen_is, passed_shown, applied_shown, answered_shown, waiting_shown}
use Rattle.sdd_copy.specs.Items as items

-- the act

act_is : (s : Setting) (st : State) (log : Log) (c : ℕ) (m : Msg) (step : Step) → Shows s st log → head (pipe c log) ≡ Some m
    → act_by (home_of s) (view_of s log) c m step ≡ act_in st c m step
act_is s st log c (Null class time) step shows e = ap (λ h. Records c (Pass class h.dm time) []) (sym shows.home)
act_is s st log c (Write ts class txn changes) step shows e = ap (λ h. Records c (Apply txn class h.dm ts) (done_for c (Done ts))) (sym shows.home)
act_is s st log c (Read ts class txn attempt conds uses) Processes shows e =
    let m : Msg = Read ts class txn attempt conds uses in
    grind (arith, ap (λ xs. frozen_at xs (Some m)) (dated_is s log) ∙ ap Some (sym (frozen_is s st log c ts class txn attempt conds uses shows e)))
act_is s st log c (Read ts class txn attempt conds uses) (Refuses by write) shows e = cc
act_is s st log c (Read ts class txn attempt conds uses) (Waits ds) shows e = cc
act_is s st log c m step shows e = refl

-- the state after it

step_shown : (s : Setting) (st : State) (log : Log) (c : ℕ) (w : Bool) (m : Msg) (step : Step) → Shows s st log → c ≤ length s.catalogue.classes
    → head (pipe c log) ≡ Some m
    → step_by st.pipes st.waits c w (Some m) ≡ Some step → Shows s (stepped st c m step) (Did (act_in st c m step) ∷ log)
step_shown s st log c w (Null class time) step shows l e f = passed_shown s st log c (Pass class st.home.dm time) [] shows l refl refl refl refl
step_shown s st log c w (Write ts class txn changes) step shows l e f =
    applied_shown s st log c (Apply txn class st.home.dm ts) (done_for c (Done ts)) (items.dated ts.0 changes) shows l refl refl refl refl (ap changes_in e)
step_shown s st log c w (Read ts class txn attempt conds uses) Processes shows l e f =
    answered_shown s st log c (Answer txn attempt st.home.dm) ((source_of st.home c, Ready ts class (counts_of (frozen_now st ts.0 uses))) ∷ [])
    (frozen_now st ts.0 uses) shows l refl refl refl refl
    (ap (frozen_at (dated s log)) e ∙ ap Some (sym (frozen_is s st log c ts class txn attempt conds uses shows e)))
step_shown s st log c w (Read ts class txn attempt conds uses) (Refuses by write) shows l e f = search (rules, passed_shown)
step_shown s st log c w (Read ts class txn attempt conds uses) (Waits ds) shows l e f = search (rules, waiting_shown)
step_shown s st log c true m step shows l e f = absurd cc
step_shown s st log c false m step shows l e f = absurd cc

-- one turn of the loop

one_step : (s : Setting) (bases : Bases) (st new : State) (p : ClassNo × Step) (log : Log) → first_step st.pipes st.waits ≡ Some p → (f : IsFirst st p)
    → new ≡ stepped st p.0.0 f.msg p.1
    → Shows s st log → (next s bases log ≡ Some (act_in st p.0.0 f.msg p.1)) × Shows s new (Did (act_in st p.0.0 f.msg p.1) ∷ log)
one_step s bases st new p log e f is shows =
    let few : p.0.0 ≤ length s.catalogue.classes = omega (arith, f.known, shows.pipes) in
    let there : head (pipe p.0.0 log) ≡ Some f.msg = sym (head_shown s st log p.0.0 shows few) ∙ f.head in (
      next_act (home_of s) s st log p shows e f ∙ ap Some (act_is s st log p.0.0 f.msg p.1 shows there),
      subst (λ x. Shows s x (Did (act_in st p.0.0 f.msg p.1) ∷ log)) (sym is)
          (step_shown s st log p.0.0 (waits_at st.waits p.0.0) f.msg p.1 shows few there
          (ap (step_by st.pipes st.waits p.0.0 (waits_at st.waits p.0.0)) (sym f.head) ∙ f.step)),
    )

step_reached : (s : Setting) (bases : Bases) (start : Log) (st new : State) (p : ClassNo × Step) (old notes more : Notes)
    → Reached (Shows s) (next s bases) ◌∷◌ start st old notes
    → first_step st.pipes st.waits ≡ Some p → new ≡ state_after st p.0.0 (head_at st.pipes p.0.0) p.1
    → more ≡ notes_after st p.0.0 (head_at st.pipes p.0.0) p.1 notes
    → Reached (Shows s) (next s bases) ◌∷◌ start new old more
step_reached s bases start st new p old notes more r e is note =
    let f = first_is st p e in
    reached_more (Shows s) (next s bases) ◌∷◌ start st new (act_in st p.0.0 f.msg p.1) old notes more r
    (λ log shows. one_step s bases st new p log e f (is ∙ (rw f.head refl)) shows)
    (note ∙ (rw f.head refl))

pub works_on : (from : Site) (m : Msg) (old st new : State) (p : ClassNo × Step) (notes more : Notes) → Worked from m old st notes
    → first_step st.pipes st.waits ≡ Some p → new ≡ state_after st p.0.0 (head_at st.pipes p.0.0) p.1
    → more ≡ notes_after st p.0.0 (head_at st.pipes p.0.0) p.1 notes → Worked from m old new more
works_on from m old st new p notes more work e is note = search (rules, step_reached)
