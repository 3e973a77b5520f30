use Rattle.std.proofs.lemmas.Grind.{common_steps}
use Rattle.sdd_exec.proofs.All.{List, [], arith, key_for, length, map, option_map_or, picked, placed, refl, same_row, ℕ}
use Rattle.sdd_exec.proofs.Steps.{flat_map_next}
use Rattle.std.specs.HashMap as hash
use Rattle.sdd_exec.proofs.joins.extend_all.Goals as goal

pub loop-choice-preserved : goal.loop-choice-preserved
loop-choice-preserved c =
    let found = λ (choice : List ℕ). option_map_or (λ v. v.items)
    (hash.get same_row c.args.index.now (key_for c.args.ties.now (picked c.args.parts.now choice))) [] in
    let f = λ (choice : List ℕ). map (placed (length c.args.parts.now) choice c.args.part) (found choice) in
    flat_map_next f c.args.kept.now c.loop-choice.choice-index c.choice-item.result c.loop-choice.made.items c.extend.new.kept.items (f c.choice-item.result)
    c.loop-choice-test.true c.choice-item.is refl
    (rw (c.as_slice-in-loop-choice.ensures, c.places_of-places.ensures, c.in_ok-key.ensures, c.as_slice.ensures, c.count.ensures) at c.in_ok-extend.ensures) c.loop-choice.invariant

pub returns : goal.returns
returns c = grind (arith, common_steps)
