use Rattle.sdd_exec.proofs.All.{[], ◌++◌, ◌∷◌}
use Rattle.sdd_exec.proofs.Enough.{sifted_next}
use Rattle.sdd_exec.proofs.Sieves.{sifted_by}
use Rattle.sdd_exec.proofs.sifting.sifted_with.Goals as goal

pub returns-clause-sound : goal.returns-clause-sound
returns-clause-sound c =
    (sifted_next c.args.parts.now c.args.conds.now c.args.out.now c.args.room c.args.taken.now c.args.kept.now c.args.part c.requires.part c.requires.new
    c.in_ok-thin.thin.items c.offer_all.new.sieve.kept.items c.requires.sound c.requires.enough c.in_ok-thin.ensures
    (sifted_by c.args.parts.now c.args.conds.now c.args.out.now c.args.room
    (c.args.taken.now ++ c.args.part ∷ []) c.in_ok-mesh.mesh c.no_choices-sieve.result c.offer_all.new.sieve _
    (rw (c.deref-3.ensures.value, c.in_ok-group.ensures) at c.in_ok-mesh.ensures.links)
    (rw (c.deref-3.ensures.value, c.in_ok-group.ensures) at c.in_ok-mesh.ensures.outs) c.in_ok-mesh.ensures.room
    c.no_choices-sieve.ensures.kept
    (rw (c.deref-4.ensures.value, c.in_ok-pairs.ensures, c.deref.ensures.value, c.deref-2.ensures.value, c.in_ok-ties.ensures) at c.in_ok-offer_all.ensures))).0

pub returns-clause-enough : goal.returns-clause-enough
returns-clause-enough c =
    (sifted_next c.args.parts.now c.args.conds.now c.args.out.now c.args.room c.args.taken.now c.args.kept.now c.args.part c.requires.part c.requires.new
    c.in_ok-thin.thin.items c.offer_all.new.sieve.kept.items c.requires.sound c.requires.enough c.in_ok-thin.ensures
    (sifted_by c.args.parts.now c.args.conds.now c.args.out.now c.args.room
    (c.args.taken.now ++ c.args.part ∷ []) c.in_ok-mesh.mesh c.no_choices-sieve.result c.offer_all.new.sieve _
    (rw (c.deref-3.ensures.value, c.in_ok-group.ensures) at c.in_ok-mesh.ensures.links)
    (rw (c.deref-3.ensures.value, c.in_ok-group.ensures) at c.in_ok-mesh.ensures.outs) c.in_ok-mesh.ensures.room
    c.no_choices-sieve.ensures.kept
    (rw (c.deref-4.ensures.value, c.in_ok-pairs.ensures, c.deref.ensures.value, c.deref-2.ensures.value, c.in_ok-ties.ensures) at c.in_ok-offer_all.ensures))).1
