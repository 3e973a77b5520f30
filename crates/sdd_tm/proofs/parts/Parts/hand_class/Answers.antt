-- The message changes the class that it names alone.
use Rattle.sdd_tm.proofs.All.{State, ap, slice_index_or, slice_set, subst, ◌∙◌, ◌≡◌}
use Rattle.sdd_tm.proofs.Taking.{handed_nowhere, handed_somewhere}
use Rattle.sdd_tm.proofs.parts.Parts.hand_class.Goals as goal

pub returns-in-None-clause-state : goal.returns-in-None-clause-state
returns-in-None-clause-state c = handed_nowhere c.args.self.now c.args.from c.args.msg c.args.class c.requires.named c.in-None.ensures

pub returns-in_ok-hand-in-Some-clause-state : goal.returns-in_ok-hand-in-Some-clause-state
returns-in_ok-hand-in-Some-clause-state c =
    ap (λ (st : State). record st { classes = slice_set st.classes c.in-Some.place c.hand.new.self }) c.self.view_is
    ∙ handed_somewhere c.args.self.now c.args.from c.args.msg c.args.class c.in-Some.place
    c.index_mut-run.result.now c.hand.new.self c.requires.named c.in-Some.ensures c.requires.apart
    (subst (λ (st : State). c.index_mut-run.result.now ≡ slice_index_or st.classes c.in-Some.place
    c.index_mut-run.result.now) c.self.view_is c.index_mut-run.ensures.value)
    c.in_ok-hand-in-Some.ensures
