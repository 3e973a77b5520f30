-- A message is taken, and then each act is made that is due.
use Rattle.sdd_umod.proofs.All.{Handed, Kept, State, Works, ap, refl, state_handed, subst, true, ◌∙◌, ◌∷◌}
use Rattle.sdd_umod.proofs.Calls.{amid_for, take_does}
use Rattle.sdd_umod.proofs.umodule.UModuleModule.take.Goals as goal

pub settle-requires : goal.settle-requires
settle-requires c =
    let r = c.requires.represents in
    let from = c.args.from in
    let m = c.args.msg in
    let taken = c.in_ok-hand.ensures ∙ ap (λ (k : Kept State). state_handed from m k.value) c.self.view_is in
    (r.0, r.1, Handed from m ∷ r.2, amid_for c.args.self.now r.0 r.1 r.2 from m c.hand.new.self r.3 r.4 taken)

pub returns-clause-law : goal.returns-clause-law
returns-clause-law c =
    let from = c.args.from in
    let m = c.args.msg in
    let taken = c.in_ok-hand.ensures ∙ ap (λ (k : Kept State). state_handed from m k.value) c.self.view_is in
    let works = subst (λ notes. Works c.hand.new.self c.settle.new.self notes c.settle.new.draft) c.draft-draft.ensures
    c.in_ok-settle.ensures.works in
    take_does from m c.args.self.now (record { live = true; value = c.settle.new.self }) c.hand.new.self c.settle.new.draft
    c.finish.result.recs c.finish.result.out refl taken works c.in_ok-settle.ensures.settled c.finish.ensures.recs c.finish.ensures.out
