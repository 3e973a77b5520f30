use Rattle.sdd_exec.proofs.All.{both, new_there, old_there, sym, values_of, ◌∙◌}
use Rattle.sdd_exec.proofs.Kept.{answer_there, kept_told}
use Rattle.sdd_exec.proofs.exploring.tell.Goals as goal

pub returns-then-contains-clause-told : goal.returns-then-contains-clause-told
returns-then-contains-clause-told c = λ there met. c.requires.known _ (rw c.in_ok-row.ensures at (sym c.contains.ensures ∙ c.if-contains.true))

pub returns-then-len-room-clause-kept : goal.returns-then-len-room-clause-kept
returns-then-len-room-clause-kept c =
    let met = both _ _ (sym c.in_ok-is_met.ensures ∙ c.if-not-branch.false) in
    kept_told c.args.parts.now c.args.conds.now c.args.out.now c.args.nodes.now c.args.state.now c.add_told.new.state _ c.requires c.in_ok-add_told.ensures.found
    c.in_ok-add_told.ensures.told c.add_told.ensures.seen c.add_told.ensures.dead (answer_there c.args.parts.now c.args.conds.now c.args.out.now c.args.choice.now met.0 met.1)

pub returns-then-len-room-clause-still : goal.returns-then-len-room-clause-still
returns-then-len-room-clause-still c =
    λ row has. rw c.in_ok-add_told.ensures.found (old_there c.args.state.now.found (values_of c.args.parts.now c.args.out.now c.args.choice.now) row has)

pub returns-then-len-room-clause-told : goal.returns-then-len-room-clause-told
returns-then-len-room-clause-told c =
    λ there met. rw c.in_ok-add_told.ensures.found (new_there c.args.state.now.found (values_of c.args.parts.now c.args.out.now c.args.choice.now))

pub returns-clause-kept : goal.returns-clause-kept
returns-clause-kept c =
    let met = both _ _ (sym c.in_ok-is_met.ensures ∙ c.if-not-branch.false) in
    kept_told c.args.parts.now c.args.conds.now c.args.out.now c.args.nodes.now c.args.state.now c.add_told.new.state _ c.requires c.in_ok-add_told.ensures.found
    c.in_ok-add_told.ensures.told c.add_told.ensures.seen c.add_told.ensures.dead (answer_there c.args.parts.now c.args.conds.now c.args.out.now c.args.choice.now met.0 met.1)

pub returns-clause-still : goal.returns-clause-still
returns-clause-still c =
    λ row has. rw c.in_ok-add_told.ensures.found (old_there c.args.state.now.found (values_of c.args.parts.now c.args.out.now c.args.choice.now) row has)

pub returns-clause-told : goal.returns-clause-told
returns-clause-told c =
    λ there met. rw c.in_ok-add_told.ensures.found (new_there c.args.state.now.found (values_of c.args.parts.now c.args.out.now c.args.choice.now))
