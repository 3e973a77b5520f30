-- A message is taken, and then each act is made that is due.
use Rattle.sdd_tm.proofs.All.{Handed, Kept, State, Works, ap, refl, state_handed, subst, touched, true, ◌∙◌, ◌∷◌, ◌≡◌}
use Rattle.sdd_tm.proofs.Calls.{few_handed, calm_for, amid_for, take_does}
use Rattle.sdd_tm.proofs.txn_module.TxnModuleModule.take.Goals as goal

taken_is : (c : goal.After-draft-1) → c.hand.new.self ≡ state_handed c.args.from c.args.msg c.args.self.now.value
taken_is c = c.in_ok-places.ensures.state ∙ ap (λ (k : Kept State). state_handed c.args.from c.args.msg k.value) c.self.view_is

pub settle-requires-clause-few : goal.settle-requires-clause-few
settle-requires-clause-few c =
    let r = c.requires.represents in
    few_handed c.args.self.now r.0 r.2 c.args.from c.args.msg c.hand.new.self r.3 (taken_is c)

pub settle-requires-clause-calm : goal.settle-requires-clause-calm
settle-requires-clause-calm c =
    let r = c.requires.represents in
    calm_for c.args.self.now r.0 r.2 c.args.from c.args.msg c.hand.new.self c.in_ok-places.places r.3 (taken_is c)
    (c.in_ok-places.ensures.places ∙ ap (λ (k : Kept State). touched k.value.classes c.args.msg) c.self.view_is)

pub settle-requires-clause-amid : goal.settle-requires-clause-amid
settle-requires-clause-amid c =
    let r = c.requires.represents in (
      r.0,
      r.1,
      Handed c.args.from c.args.msg ∷ r.2,
      amid_for c.args.self.now r.0 r.1 r.2 c.args.from c.args.msg c.hand.new.self r.3 r.4 (taken_is c),
    )

pub returns-clause-law : goal.returns-clause-law
returns-clause-law c =
    let from = c.args.from in
    let m = c.args.msg in
    let old = c.args.self.now in
    let taken = c.in_ok-places.ensures.state ∙ ap (λ (k : Kept State). state_handed from m k.value) c.self.view_is in
    let works = subst (λ notes. Works c.hand.new.self c.settle.new.self notes c.settle.new.draft)
    c.draft-draft.ensures c.in_ok-settle.ensures.works in
    take_does from m old (record { live = true; value = c.tell_held.new.self }) c.hand.new.self c.settle.new.draft
    c.tell_held.new.draft c.finish.result.recs c.finish.result.out refl taken
    (record {
      settled_state = c.settle.new.self;
      works = works;
      settled = c.in_ok-settle.ensures.settled;
      held_is_sent = c.in_ok-tell_held.ensures.state;
      noted_is = c.in_ok-tell_held.ensures.draft;
    }) c.finish.ensures.recs c.finish.ensures.out
