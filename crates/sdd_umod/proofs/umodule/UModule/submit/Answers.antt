-- A transaction is taken, and then each act is made that is due.
use Rattle.sdd_umod.proofs.All.{Kept, Notes, State, Submit, Submits, Works, [], ap, arith, refl, state_given, subst, true, ◌++◌, ◌∙◌, ◌∷◌}
use Rattle.sdd_umod.proofs.Calls.{amid_after, submit_does}
use Rattle.sdd_umod.proofs.umodule.UModule.submit.Goals as goal

pub settle-requires : goal.settle-requires
settle-requires c =
    let r = c.requires.represents in
    let number = c.args.number.0 in
    let txn = c.args.txn.now in
    let taken = c.in_ok-submit.ensures ∙ ap (λ (k : Kept State). state_given number txn k.value) c.self.view_is in
    (r.0, r.1, Submits number txn ∷ r.2, amid_after c.args.self.now r.0 r.1 r.2 number txn c.submit.new.self (omega arith) r.3 r.4 taken)

pub returns-clause-law : goal.returns-clause-law
returns-clause-law c =
    let number = c.args.number in
    let txn = c.args.txn.now in
    let taken = c.in_ok-submit.ensures ∙ ap (λ (k : Kept State). state_given number.0 txn k.value) c.self.view_is in
    let begun = c.in_ok-record.ensures ∙ ap (λ (n : Notes). record n { recs = n.recs ++ Submit number ∷ [] }) c.draft-draft.ensures in
    let works = subst (λ notes. Works c.submit.new.self c.settle.new.self notes c.settle.new.draft) begun c.in_ok-settle.ensures.works in
    submit_does number txn c.args.self.now (record { live = true; value = c.settle.new.self }) c.submit.new.self
    c.settle.new.draft c.finish.result.recs c.finish.result.out (omega arith) refl taken works c.in_ok-settle.ensures.settled
    c.finish.ensures.recs c.finish.ensures.out
