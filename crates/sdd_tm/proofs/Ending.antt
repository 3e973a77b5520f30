-- A call makes the acts that the log has next, until none is due.
use Rattle.sdd_tm.proofs.All.{Act, AreSettled, Bases, ClassState, Did, IsAmid, IsCalm, Log, None, Notes, Option, Setting, Some, State, Step, Works, act_of, after_held, after_held_act, class_step, false, held_of, made_more, made_nothing, next, refl, slice_get, state_done, subst, sym, with_act, with_due_act, ℕ, ◌∙◌, ◌∷◌, ◌≡◌}
use Rattle.sdd_tm.proofs.Acting.{makes}
use Rattle.sdd_tm.proofs.HeldIsSentOnce.{tells}

-- the loop

works_none : (state : State) (notes : Notes) → Works state state notes notes
works_none state notes s bases log amid = record { view = log; shown = amid; made = made_nothing (next s bases) (λ e l. e ∷ l) log log notes notes refl refl }

-- one act more, which each log makes due
works_more : (before now after : State) (old notes new : Notes) → Works before now old notes
    → ((s : Setting) (bases : Bases) (log : Log) → IsAmid s bases now log
    → (act : Act) × (next s bases log ≡ Some act) × (new ≡ with_act act notes) × IsAmid s bases after
    (Did act ∷ log)) → Works before after old new
works_more before now after old notes new works step s bases log amid =
    let r = works s bases log amid in
    let a = step s bases r.view r.shown in
    record {
      view = Did a.0 ∷ r.view;
      shown = a.3;
      made = made_more (next s bases) (λ e l. e ∷ l) log r.view (Did a.0 ∷ r.view) a.0 old notes new r.made a.1 refl a.2;
    }

pub works_begin : (state : State) (notes : Notes) → Works state state notes notes
works_begin = works_none

-- a class makes its step
pub works_on : (before now : State) (place end : ℕ) (k : ClassState) (step : Step) (after : State)
    (old notes new : Notes) → Works before now old notes → IsCalm place end now
    → slice_get now.classes place ≡ Some k → class_step now.on_hold k ≡ Some step → ((bases : Bases) → after ≡ state_done bases place k step now)
    → ((s : Setting) (bases : Bases) (log : Log) → IsAmid s bases now log
    → new ≡ with_due_act (act_of bases now.era.table now.clock k step) notes) → Works before after old new
works_on before now place end k step after old notes new works calm here steps is noted_is =
    works_more before now after old notes new works
    (λ s bases log amid.
    let m = makes s bases now log place end k step amid calm here steps in (
      m.act,
      m.is_due,
      noted_is s bases log amid ∙ m.notes notes,
      subst (λ st. IsAmid s bases st (Did m.act ∷ log)) (sym (is bases)) m.amid,
    ))

-- HELD
works_with_held_act : (before now : State) (old notes : Notes) (o : Option Act) → Works before now old notes
    → AreSettled now → held_of now ≡ o → Works before (after_held_act now o) old (with_due_act o notes)
works_with_held_act before now old notes None works settled e = works
works_with_held_act before now old notes (Some act) works settled e =
    works_more before now (record now { owes_held = false }) old notes (with_due_act (Some act) notes) works
    (λ s bases log amid. let t = tells s bases now log act amid settled e in (_, t.is_due, t.notes notes, t.amid))

pub works_with_held : (before now : State) (old notes : Notes) → Works before now old notes → AreSettled now
    → Works before (after_held now) old (with_due_act (held_of now) notes)
works_with_held before now old notes works settled = works_with_held_act before now old notes (held_of now) works settled refl
