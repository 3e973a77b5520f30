-- The loop over the classes of a module: what each step asks for, and what it leaves.
use Rattle.sdd_tm.proofs.All.{Answer, AreTried, Bases, Bool, ClassState, Commit, IsAmid, IsCalm, IsDatabase, IsServed, List, Log, None, Notes, Send, ServesAt, Setting, Some, Start, State, Step, ToCommit, Works, act_of, ap, arith, class_of, class_step, clock, commits, length, line_step, of_map, refl, runs, slice_get, slice_set, state_done, step_at, subst, suc, sym, tries_are_kept, with_due_act, work, ℕ, ◌+◌, ◌<◌, ◌∙◌, ◌∷◌, ◌≡◌, ◌≤◌}
use Rattle.sdd_tm.proofs.ClassNumbers.{runs_class}
use Rattle.sdd_tm.proofs.Dues.{IsStep, starts, step_is}
use Rattle.sdd_tm.proofs.Acting.{may_start}
use Rattle.sdd_tm.proofs.Calm.{calm_done, calm_next}
use Rattle.sdd_tm.proofs.Working.{work_falls}
use Rattle.sdd_tm.proofs.Ending.{works_on}

-- the class that has the step
pub record HasStep (state : State) (place : ℕ) (step : Step) : Type 0 where
  pub class : ClassState
  pub there : slice_get state.classes place ≡ Some class
  pub steps : class_step state.on_hold class ≡ Some step

pub has_step : (state : State) (place : ℕ) (step : Step) → Some step ≡ step_at state.on_hold (slice_get state.classes place) → HasStep state place step
has_step state place step e = grind arith

pub none_there : (state : State) (place : ℕ) → None ≡ step_at state.on_hold (slice_get state.classes place)
    → (k : ClassState) → slice_get state.classes place ≡ Some k → class_step state.on_hold k ≡ None
none_there state place e k f = sym (ap (step_at state.on_hold) f) ∙ sym e

-- what a class has that is kept of a log

pub record OfLog (s : Setting) (log : Log) (state : State) (place : ℕ) (k : ClassState) : Type 0 where
  pub number : ℕ
  pub runs_it : slice_get (runs s) place ≡ Some number
  pub is : class_of s log number ≡ k

pub of_log : (s : Setting) (bases : Bases) (state : State) (log : Log) (place : ℕ) (k : ClassState)
    → IsAmid s bases state log → slice_get state.classes place ≡ Some k → OfLog s log state place k
of_log s bases state log place k amid e =
    let r = of_map (class_of s log) (runs s) place k (subst (λ (st : State). slice_get st.classes place ≡ Some k) (sym amid.state_is) e) in
    record { number = r.0; runs_it = r.1; is = r.2 }

pub declared_class : (s : Setting) (bases : Bases) (state : State) (log : Log) (place : ℕ) (k : ClassState)
    → IsAmid s bases state log → slice_get state.classes place ≡ Some k → 1 ≤ k.line.class
declared_class s bases state log place k amid e =
    let o = of_log s bases state log place k amid e in
    subst (λ (x : ClassState). 1 ≤ x.line.class) o.is (runs_class s place o.number o.runs_it).0

pub tried_class : (s : Setting) (bases : Bases) (state : State) (log : Log) (place : ℕ) (k : ClassState)
    → IsAmid s bases state log → slice_get state.classes place ≡ Some k → AreTried state.clock.ticks k.line.queue
tried_class s bases state log place k amid e =
    let o = of_log s bases state log place k amid e in
    subst (λ (st : State). AreTried st.clock.ticks k.line.queue) amid.state_is
    (subst (λ (x : ClassState). AreTried (clock s.site log).ticks x.line.queue) o.is (tries_are_kept s o.number log))

pub catalogue_class : (s : Setting) (bases : Bases) (state : State) (log : Log) (place : ℕ) (k : ClassState)
    → IsAmid s bases state log → slice_get state.classes place ≡ Some k → s.catalogue ≡ k.line.catalogue
catalogue_class s bases state log place k amid e = ap (λ (x : ClassState). x.line.catalogue) (of_log s bases state log place k amid e).is

pub idle_class : (state : State) (place : ℕ) (k : ClassState) (step : Step)
    → Some step ≡ step_at state.on_hold (slice_get state.classes place) → slice_get state.classes place ≡ Some k → step ≡ Start → k.line.active ≡ None
idle_class state place k step e f g =
    let steps : class_step state.on_hold k ≡ Some step = sym (ap (step_at state.on_hold) f) ∙ sym e in
    by step (step_is state.on_hold k step steps) g
  where
    by : (x : Step) → IsStep state.on_hold k x → x ≡ Start → k.line.active ≡ None
    by Start (starts a b may) h = (may_start state.on_hold k.line.active k.line.queue may).idle
    by Send i h = absurd cc
    by Commit i h = absurd cc
    by Answer i h = absurd cc

-- one that commits has the rows

commit_line : (on : Bool) (k : ClassState) (step : Step) → IsStep on k step → step ≡ Commit → line_step k.line.active ≡ Some ToCommit
commit_line on k step i h = grind arith

pub commit_served : (s : Setting) (bases : Bases) (state : State) (log : Log) (place : ℕ) (k : ClassState)
    (step : Step) → IsAmid s bases state log → slice_get state.classes place ≡ Some k
    → class_step state.on_hold k ≡ Some step → step ≡ Commit → ServesAt k.line.catalogue bases k.line.active
commit_served s bases state log place k step amid e steps is =
    let o = of_log s bases state log place k amid e in
    let line = commit_line state.on_hold k step (step_is state.on_hold k step steps) is in
    let c = commits k.line.active line in
    let served : IsServed s.catalogue bases k.line.active =
    subst (λ (x : ClassState). IsServed s.catalogue bases x.line.active) o.is (amid.served place o.number o.runs_it) in
    grind arith

-- the loop

pub record Going (before now : State) (place end : ℕ) (old notes : Notes) : Type 0 where
  pub few : length now.classes ≡ length before.classes
  pub works : Works before now old notes
  pub calm : IsCalm place end now

-- some log by which the module is within the call now
pub record Somewhere (now : State) : Type 0 where
  pub setting : Setting
  pub bases : Bases
  pub log : Log
  pub amid : IsAmid setting bases now log

pub still : (before now : State) (place end : ℕ) (old notes : Notes) → (s : Setting) (bases : Bases) (log : Log)
    → IsAmid s bases before log → Going before now place end old notes → Somewhere now
still before now place end old notes s bases log amid going = let r = going.works s bases log amid in
    record { setting = s; bases = bases; log = r.view; amid = r.shown }

-- what the class did, as its clauses say it

abbrev pub StateDone : State → ℕ → Step → State → Type 0
StateDone now place step after = (bases : Bases) (k : ClassState) → slice_get now.classes place ≡ Some k → after ≡ state_done bases place k step now

abbrev pub NotesDone : State → ℕ → Step → Notes → Notes → Type 0
NotesDone now place step notes new = (bases : Bases) (k : ClassState) → slice_get now.classes place ≡ Some k
    → ((ts : ℕ) → IsDatabase k.line.catalogue (bases ts)) → (step ≡ Commit → ServesAt k.line.catalogue bases k.line.active)
    → new ≡ with_due_act (act_of bases now.era.table now.clock k step) notes

length_set : {A : Type 0} (xs : List A) (i : ℕ) (x : A) → length (slice_set xs i x) ≡ length xs
length_set (y ∷ xs) (suc i) x = ap suc (length_set xs i x)
length_set _ _ x = refl

pub goes_on : (before now after : State) (place end : ℕ) (step : Step) (old notes new : Notes) → Bases
    → Going before now place end old notes → place < end → Some step ≡ step_at now.on_hold (slice_get now.classes place)
    → StateDone now place step after → NotesDone now place step notes new → Going before after place end old new
goes_on before now after place end step old notes new bases going less e state draft =
    let h = has_step now place step e in
    let k : ClassState = h.class in
    record {
      few = ap (λ (st : State). length st.classes) (state bases k h.there) ∙ length_set now.classes place _ ∙ going.few;
      works = works_on before now place end k step after old notes new going.works going.calm h.there h.steps (λ b. state b k h.there)
          (λ s b log amid. draft b k h.there
          (λ ts. subst (λ cat. IsDatabase cat (b ts)) (catalogue_class s b now log place k amid h.there)
          (amid.databases ts)) (commit_served s b now log place k step amid h.there h.steps));
      calm = subst (IsCalm place end) (sym (state bases k h.there)) (calm_done bases now place end k step less going.calm);
    }

pub less_work : (now after : State) (place : ℕ) (step : Step) → Somewhere now
    → Some step ≡ step_at now.on_hold (slice_get now.classes place) → StateDone now place step after → work after.classes < work now.classes
less_work now after place step at e state =
    let h = has_step now place step e in
    let same = ap (λ (st : State). work st.classes) (state at.bases h.class h.there) in
    let falls = work_falls at.setting at.bases now at.log place h.class step at.amid h.there h.steps in
    omega arith

pub goes_past : (before now : State) (place end : ℕ) (old notes : Notes) → Going before now place end old notes
    → place < end → None ≡ step_at now.on_hold (slice_get now.classes place) → Going before now (place + 1) end old notes
goes_past before now place end old notes going less e =
    record { few = going.few; works = going.works; calm = calm_next now place end less going.calm (none_there now place e) }
