use Rattle.sdd_exec.proofs.All.{sym, ◌∙◌}
use Rattle.sdd_exec.proofs.Sieves.{offered_apart}
use Rattle.sdd_exec.proofs.sifting.offer_choice.Goals as goal

pub returns-then-branch : goal.returns-then-branch
returns-then-branch c =
    offered_apart c.args.parts.now c.args.mesh.now c.args.sieve.now c.args.choice.now c.args.part c.args.places.now c.requires
    (sym c.is_apart.ensures ∙ c.if-not-is_apart.false) (c.in_ok-is_full_for.ensures c.if-branch.true)
