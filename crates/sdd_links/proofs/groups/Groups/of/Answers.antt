use Rattle.std.proofs.Common.{arith}
use Rattle.std.proofs.lemmas.Grind.{common_steps}
use Rattle.sdd_links.proofs.All.{List, groups, subst, sym, take, ℕ, ◌+◌, ◌∙◌, ◌≡◌}
use Rattle.sdd_links.proofs.Grouped.{groups_next, groups_past}
use Rattle.sdd_links.proofs.groups.Groups.of.Goals.{then-key-count+in_ok-add, else-key-count}
use Rattle.sdd_links.proofs.groups.Groups.of.Goals as goal

pub loop-key-preserved : goal.loop-key-preserved
loop-key-preserved c =
    let pairs = c.args.pairs.now in
    let count = c.args.count in
    let i = c.loop-key.key-index in
    let Now : List (List ℕ) → Type 0 = λ m. m ≡ groups (take (i + 1) pairs) count in
    elim c.if-key-count.branch [
      | then-key-count+in_ok-add w ↦
          subst Now (sym w.made-is)
          (groups_next pairs count i c.loop-key.made w.add.new.self (0, 0) c.loop-key-test.true w.if-key-count.true c.loop-key.invariant
          (w.in_ok-add.ensures))
      | else-key-count w ↦
          subst Now (sym w.made-is) (c.loop-key.invariant ∙ groups_past pairs count i (0, 0) c.loop-key-test.true w.if-key-count.false)
    ]

pub returns : goal.returns
returns c = grind (arith, common_steps)
