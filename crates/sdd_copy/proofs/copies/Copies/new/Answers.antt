use Rattle.std.proofs.Common.{arith}
use Rattle.std.proofs.lemmas.Grind.{common_steps}
use Rattle.sdd_copy.proofs.All.{All, IsLive, ap, map, subst, sym, take_all, ◌∙◌}
use Rattle.sdd_copy.proofs.Represented.{made, live_made, made_whole, represent_made, here_made}
use Rattle.sdd_copy.proofs.copies.Copies.new.Goals as goal

pub invariant_of-result : goal.invariant_of-result
invariant_of-result c = λ live.
    let whole = c.loop-key.invariant ∙ ap (map made) (take_all c.loop-key.key-index c.args.keys.now c.loop-key-test.false) in
    subst (All IsLive) (sym whole) (live_made c.args.keys.now)

pub returns-clause-empty : goal.returns-clause-empty
returns-clause-empty c =
    let whole = c.loop-key.invariant ∙ ap (map made) (take_all c.loop-key.key-index c.args.keys.now c.loop-key-test.false) in
    made_whole c.loop-key.copies.items c.args.keys.now whole

pub returns-clause-represent : goal.returns-clause-represent
returns-clause-represent c =
    let whole = c.loop-key.invariant ∙ ap (map made) (take_all c.loop-key.key-index c.args.keys.now c.loop-key-test.false) in
    represent_made c.loop-key.copies.items c.args.keys.now whole

pub returns-clause-here : goal.returns-clause-here
returns-clause-here c =
    let whole = c.loop-key.invariant ∙ ap (map made) (take_all c.loop-key.key-index c.args.keys.now c.loop-key-test.false) in
    here_made c.loop-key.copies.items c.args.keys.now whole

pub loop-key-preserved : goal.loop-key-preserved
loop-key-preserved c = grind (arith, common_steps)
