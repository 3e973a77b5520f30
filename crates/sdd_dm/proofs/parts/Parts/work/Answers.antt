use Rattle.sdd_dm.proofs.All.{State, Worked, refl, steps_left, subst, sym, ◌<◌, ◌∙◌}
use Rattle.sdd_dm.proofs.AnsweredFromHeldRows.{hand_worked}
use Rattle.sdd_dm.proofs.FirstDue.{first_is}
use Rattle.sdd_dm.proofs.Left.{IsWhole, steps_fall, whole_on, whole_handed}
use Rattle.sdd_dm.proofs.Working.{works_on}
use Rattle.sdd_dm.proofs.parts.Parts.work.Goals as goal

pub loop-draft-init : goal.loop-draft-init
loop-draft-init c = record {
  worked = hand_worked c.args.from c.args.msg c.args.self.now c.args.self.now c.hand.new.self c.new-draft.result c.hand.new.draft refl
      c.in_ok-hand.ensures.state c.new-draft.ensures c.in_ok-hand.ensures.notes;
  whole = whole_handed c.args.msg c.args.self.now c.hand.new.self c.in_ok-hand.ensures.state
      (record { live = c.requires.live; pipes_live = c.requires.pipes_live; flags = c.requires.flags });
}

pub loop-draft-smaller : goal.loop-draft-smaller
loop-draft-smaller c =
    let same = c.in_ok-class.ensures.same in
    let whole : IsWhole c.first_step.new.self = subst IsWhole (sym same) c.loop-draft.invariant.whole in
    subst (λ (st : State). steps_left c.perform.new.self.pipes c.perform.new.self.waits < steps_left st.pipes st.waits) same
    (steps_fall c.first_step.new.self c.perform.new.self (c.in-Some.class, c.in-Some.step) (sym c.in_ok-class.ensures.step ∙ c.in-Some.is) whole.flags
    c.in_ok-perform.ensures.state)

pub loop-draft-preserved : goal.loop-draft-preserved
loop-draft-preserved c =
    let same = c.in_ok-class.ensures.same in
    record {
      worked = works_on c.args.from c.args.msg c.args.self.now c.first_step.new.self c.perform.new.self (c.in-Some.class, c.in-Some.step) c.loop-draft.draft
          c.perform.new.draft
          (subst (λ st. Worked c.args.from c.args.msg c.args.self.now st c.loop-draft.draft) (sym same) c.loop-draft.invariant.worked)
          (sym c.in_ok-class.ensures.step ∙ c.in-Some.is) c.in_ok-perform.ensures.state c.in_ok-perform.ensures.notes;
      whole = whole_on c.first_step.new.self c.perform.new.self (c.in-Some.class, c.in-Some.step) c.in_ok-perform.ensures.state
          (subst IsWhole (sym same) c.loop-draft.invariant.whole);
    }

pub perform-requires-clause-live : goal.perform-requires-clause-live
perform-requires-clause-live c = (subst IsWhole (sym c.in_ok-class.ensures.same) c.loop-draft.invariant.whole).live

pub perform-requires-clause-pipes_live : goal.perform-requires-clause-pipes_live
perform-requires-clause-pipes_live c = (subst IsWhole (sym c.in_ok-class.ensures.same) c.loop-draft.invariant.whole).pipes_live

pub perform-requires-clause-known : goal.perform-requires-clause-known
perform-requires-clause-known c = (first_is c.first_step.new.self (c.in-Some.class, c.in-Some.step) (sym c.in_ok-class.ensures.step ∙ c.in-Some.is)).known

pub perform-requires-clause-step : goal.perform-requires-clause-step
perform-requires-clause-step c = (first_is c.first_step.new.self (c.in-Some.class, c.in-Some.step) (sym c.in_ok-class.ensures.step ∙ c.in-Some.is)).step

pub returns-clause-worked : goal.returns-clause-worked
returns-clause-worked c =
    subst (λ st. Worked c.args.from c.args.msg c.args.self.now st c.loop-draft.draft) (sym c.in_ok-class.ensures.same) c.loop-draft.invariant.worked
