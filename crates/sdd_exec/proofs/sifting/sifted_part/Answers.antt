use Rattle.sdd_exec.proofs.All.{[], choices_of_part, ◌∷◌}
use Rattle.sdd_exec.proofs.Sieves.{sifted_by}
use Rattle.sdd_exec.proofs.sifting.sifted_part.Goals as goal

pub returns : goal.returns
returns c =
    sifted_by c.args.parts.now c.args.conds.now c.args.out.now c.args.room
    (c.args.part ∷ []) c.in_ok-mesh.mesh c.no_choices-sieve.result c.offer_each.new.sieve
    (choices_of_part c.args.parts.now c.args.conds.now c.args.part)
    (rw (c.deref.ensures.value, c.in_ok-group.ensures) at c.in_ok-mesh.ensures.links)
    (rw (c.deref.ensures.value, c.in_ok-group.ensures) at c.in_ok-mesh.ensures.outs) c.in_ok-mesh.ensures.room
    c.no_choices-sieve.ensures.kept (rw (c.deref-2.ensures.value, c.in_ok-places.ensures, c.rows.ensures) at c.in_ok-offer_each.ensures)
