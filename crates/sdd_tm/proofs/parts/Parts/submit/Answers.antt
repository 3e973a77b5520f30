-- The transaction goes to its class alone, where the module runs it.
use Rattle.sdd_tm.proofs.All.{State, ap, arith, one_place, slice_index_or, slice_set, subst, ◌∙◌, ◌≡◌}
use Rattle.sdd_tm.proofs.Taking.{few_kept, apart_kept, given_nowhere, given_somewhere, given_fits, given_there}
use Rattle.sdd_tm.proofs.parts.Parts.submit.Goals as goal

pub place_of-requires : goal.place_of-requires
place_of-requires c = let r = c.requires in few_kept r.0 r.2 c.args.self.now r.3

pub submit-requires-clause-fits : goal.submit-requires-clause-fits
submit-requires-clause-fits c =
    let r = c.requires in
    (given_fits r.0 r.1 r.2 c.args.self.now c.args.class.0 c.args.number.0 c.args.txn.now c.in-Some.place
    c.index_mut-run.result.now r.3 r.4 c.in-Some.ensures
    (subst (λ (st : State). c.index_mut-run.result.now ≡ slice_index_or st.classes c.in-Some.place
    c.index_mut-run.result.now) c.self.view_is c.index_mut-run.ensures.value)).0

pub submit-requires-clause-fresh : goal.submit-requires-clause-fresh
submit-requires-clause-fresh c =
    let r = c.requires in
    (given_fits r.0 r.1 r.2 c.args.self.now c.args.class.0 c.args.number.0 c.args.txn.now c.in-Some.place
    c.index_mut-run.result.now r.3 r.4 c.in-Some.ensures
    (subst (λ (st : State). c.index_mut-run.result.now ≡ slice_index_or st.classes c.in-Some.place
    c.index_mut-run.result.now) c.self.view_is c.index_mut-run.ensures.value)).1

pub overflow_add-result : goal.overflow_add-result
overflow_add-result c =
    let r = c.requires in
    let few = few_kept r.0 r.2 c.args.self.now r.3 in
    let there = given_there c.args.self.now c.args.class.0 c.in-Some.place c.in-Some.ensures in
    omega arith

pub returns-in-None-clause-state : goal.returns-in-None-clause-state
returns-in-None-clause-state c = given_nowhere c.args.self.now c.args.class.0 c.args.number.0 c.args.txn.now c.in-None.ensures

pub returns-in-None-clause-places : goal.returns-in-None-clause-places
returns-in-None-clause-places c = ap one_place c.in-None.ensures

pub returns-in_ok-submit-in-Some-clause-state : goal.returns-in_ok-submit-in-Some-clause-state
returns-in_ok-submit-in-Some-clause-state c =
    let r = c.requires in
    let now = c.args.self.now in
    let run = c.index_mut-run.result.now in
    let lent = subst (λ (st : State). run ≡ slice_index_or st.classes c.in-Some.place run) c.self.view_is
    c.index_mut-run.ensures.value in
    ap (λ (st : State). record st { classes = slice_set st.classes c.in-Some.place c.submit.new.self }) c.self.view_is
    ∙ given_somewhere now c.args.class.0 c.args.number.0 c.args.txn.now c.in-Some.place run c.submit.new.self
    c.in-Some.ensures (apart_kept r.0 r.2 now r.3) lent c.in_ok-submit-in-Some.ensures

pub returns-in_ok-submit-in-Some-clause-places : goal.returns-in_ok-submit-in-Some-clause-places
returns-in_ok-submit-in-Some-clause-places c = ap one_place c.in-Some.ensures
