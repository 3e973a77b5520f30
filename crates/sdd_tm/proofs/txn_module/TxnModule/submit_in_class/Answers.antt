-- A transaction is taken, and then each act is made that is due.
use Rattle.sdd_tm.proofs.All.{Kept, Notes, State, Submit, Submits, Works, [], ap, arith, one_place, place_of, refl, state_given, subst, true, ◌++◌, ◌∙◌, ◌∷◌, ◌≡◌}
use Rattle.sdd_tm.proofs.Calls.{class_here, given_to, few_given, calm_after, amid_after, submit_does}
use Rattle.sdd_tm.proofs.txn_module.TxnModule.submit_in_class.Goals as goal

taken_is : (c : goal.After-draft-2-1) → c.submit.new.self ≡ given_to c.args.self.now c.args.number.0 c.args.txn.now
taken_is c =
    let r = c.requires.represents in
    let now = c.args.self.now in
    let class = class_here now r.0 r.2 c.args.txn.now c.args.class.0 r.3 r.5 in
    c.in_ok-places.ensures.state ∙ ap (λ (k : Kept State). state_given c.args.class.0 c.args.number.0 c.args.txn.now k.value) c.self.view_is
    ∙ ap (λ k. state_given k c.args.number.0 c.args.txn.now now.value) class

pub settle-requires-clause-few : goal.settle-requires-clause-few
settle-requires-clause-few c =
    let r = c.requires.represents in
    few_given c.args.self.now r.0 r.2 c.args.number.0 c.args.txn.now c.submit.new.self r.3 (taken_is c)

pub settle-requires-clause-calm : goal.settle-requires-clause-calm
settle-requires-clause-calm c =
    let r = c.requires.represents in
    let now = c.args.self.now in
    let class = class_here now r.0 r.2 c.args.txn.now c.args.class.0 r.3 r.5 in
    calm_after now r.0 r.2 c.args.number.0 c.args.txn.now c.submit.new.self c.in_ok-places.places r.3 (taken_is c)
    (c.in_ok-places.ensures.places
    ∙ ap (λ (k : Kept State). one_place (place_of k.value.classes c.args.class.0)) c.self.view_is
    ∙ ap (λ k. one_place (place_of now.value.classes k)) class)

pub settle-requires-clause-amid : goal.settle-requires-clause-amid
settle-requires-clause-amid c =
    let r = c.requires.represents in (
      r.0,
      r.1,
      Submits c.args.number.0 c.args.txn.now ∷ r.2,
      amid_after c.args.self.now r.0 r.1 r.2 c.args.number.0 c.args.txn.now c.submit.new.self (omega arith) r.3 r.4 (taken_is c),
    )

pub returns-clause-law : goal.returns-clause-law
returns-clause-law c =
    let r = c.requires.represents in
    let number = c.args.number in
    let txn = c.args.txn.now in
    let old = c.args.self.now in
    let class = class_here old r.0 r.2 txn c.args.class.0 r.3 r.5 in
    let taken = c.in_ok-places.ensures.state ∙ ap (λ (k : Kept State). state_given c.args.class.0 number.0 txn k.value) c.self.view_is
    ∙ ap (λ k. state_given k number.0 txn old.value) class in
    let begun = c.in_ok-record.ensures ∙ ap (λ (n : Notes). record n { recs = n.recs ++ Submit number ∷ [] })
    c.draft-draft.ensures in
    let works = subst (λ notes. Works c.submit.new.self c.settle.new.self notes c.settle.new.draft) begun
    c.in_ok-settle.ensures.works in
    submit_does number txn old (record { live = true; value = c.tell_held.new.self }) c.submit.new.self
    c.settle.new.draft c.tell_held.new.draft c.finish.result.recs c.finish.result.out (omega arith) refl taken
    (record {
      settled_state = c.settle.new.self;
      works = works;
      settled = c.in_ok-settle.ensures.settled;
      held_is_sent = c.in_ok-tell_held.ensures.state;
      noted_is = c.in_ok-tell_held.ensures.draft;
    }) c.finish.ensures.recs c.finish.ensures.out
