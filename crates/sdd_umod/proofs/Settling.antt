-- The loop of a call: what each step asks for, and what it leaves.
use Rattle.sdd_umod.proofs.All.{AreTried, Bases, Commit, Did, HaveRoom, IsAmid, IsDatabase, Log, None, Notes, ServesAt, Setting, Some, Start, State, Step, Works, act_of, after, ap, arith, clock, commits, made_more, made_nothing, next, refl, served_of, state_done, step_of, subst, sym, tries_are_kept, with_act, with_due_act, work, ℕ, ◌+◌, ◌<◌, ◌^◌, ◌∙◌, ◌∷◌, ◌≡◌}
use Rattle.sdd_umod.proofs.Dues.{step_is}
use Rattle.sdd_umod.proofs.Acting.{makes}
use Rattle.sdd_umod.proofs.Handing.{counts_room}
use Rattle.sdd_umod.proofs.Working.{work_falls}

-- some log by which the module is within the call now
pub record Somewhere (now : State) : Type 0 where
  pub setting : Setting
  pub bases : Bases
  pub log : Log
  pub amid : IsAmid setting bases now log

pub still : (before now : State) (old notes : Notes) → (s : Setting) (bases : Bases) (log : Log) → IsAmid s bases before log
    → Works before now old notes → Somewhere now
still before now old notes s bases log amid works = let r = works s bases log amid in record { setting = s; bases = bases; log = r.view; amid = r.shown }

-- what a step asks for

pub of_class : (now : State) → Somewhere now → now.line.class ≡ 0
of_class now at = sym (ap (λ (st : State). st.line.class) at.amid.state_is)

pub are_tried : (now : State) → Somewhere now → AreTried now.clock.ticks now.line.queue
are_tried now at = subst (λ (st : State). AreTried st.clock.ticks st.line.queue) at.amid.state_is (tries_are_kept at.setting 0 at.log)

pub commits_few : (now : State) → Somewhere now → now.served.commits + 1 < 2 ^ 60
commits_few now at = grind (arith, at.amid.sound.started.few, at.amid.state_is)

pub have_room : (now : State) → Somewhere now → HaveRoom now.counts
have_room now at = grind (arith, counts_room, at.amid.state_is)

-- one that commits has the rows

commit_served : (s : Setting) (bases : Bases) (state : State) (log : Log) (step : Step) → IsAmid s bases state log
    → step_of state ≡ Some step → step ≡ Commit → ServesAt state.line.catalogue bases state.line.active
commit_served s bases state log step amid steps is = grind (arith, step_is, commits, served_of)

-- what the step did, as its clauses say it

abbrev pub StateDone : State → Step → State → Type 0
StateDone now step after = (bases : Bases) → after ≡ state_done bases step now

abbrev pub NotesDone : State → Step → Notes → Notes → Type 0
NotesDone now step notes new = (bases : Bases) → ((ts : ℕ) → IsDatabase now.line.catalogue (bases ts))
    → (step ≡ Commit → ServesAt now.line.catalogue bases now.line.active) → new ≡ with_due_act (act_of bases now step) notes

-- the loop

pub works_none : (state : State) (notes : Notes) → Works state state notes notes
works_none state notes s bases log amid = record { view = log; shown = amid; made = made_nothing (next s bases) (λ e l. e ∷ l) log log notes notes refl refl }

pub works_on : (before now after : State) (step : Step) (old notes new : Notes) → Works before now old notes
    → step_of now ≡ Some step → (step ≡ Start → now.line.active ≡ None) → StateDone now step after → NotesDone now step notes new → Works before after old new
works_on before now after step old notes new works steps idle state draft s bases log amid =
    let r = works s bases log amid in
    let m = makes s bases now r.view step r.shown steps idle in
    let noted_is : new ≡ with_act m.act notes =
    draft bases (λ ts. subst (λ cat. IsDatabase cat (bases ts)) (ap (λ (st : State). st.line.catalogue) r.shown.state_is) (r.shown.databases ts))
    (commit_served s bases now r.view step r.shown steps) ∙ m.notes notes in
    record {
      view = Did m.act ∷ r.view;
      shown = subst (λ st. IsAmid s bases st (Did m.act ∷ r.view)) (sym (state bases)) m.amid;
      made = made_more (next s bases) (λ e l. e ∷ l) log r.view (Did m.act ∷ r.view) m.act old notes new r.made m.is_due refl noted_is;
    }

pub less_work : (now after : State) (step : Step) → Somewhere now → step_of now ≡ Some step
    → (step ≡ Start → now.line.active ≡ None) → StateDone now step after → work after < work now
less_work now after step at steps idle state =
    omega (arith, ap work (state at.bases), work_falls at.setting at.bases now at.log step at.amid steps idle)
