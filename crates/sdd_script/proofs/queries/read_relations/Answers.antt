use Rattle.sdd_script.proofs.All.{MAX_USES, along, arith, few, part_in, refl}
use Rattle.sdd_script.proofs.FewRead.{done_few_at, ends_few_at, goes_few_at}
use Rattle.sdd_script.proofs.queries.read_relations.Goals as goal

pub parts-preserved : goal.parts-preserved
parts-preserved c =
    let went = goes_few_at MAX_USES (λ i p. part_in p) (λ i x le. refl) c.parts.rels.items c.keep_few.new.kept.items c.args.parts.now _
    c.parts.part-index c.in_ok-rel.rel
    (few MAX_USES (along (λ i p. part_in p) 0 c.args.parts.now)) (omega arith) c.parts.invariant.within c.in_ok-keep_few.ensures c.in_ok-rel.ensures
    c.parts.invariant.same in
    record { within = went.0; same = went.1 }

pub returns-in_err-rel : goal.returns-in_err-rel
returns-in_err-rel c =
    let found =
    ends_few_at MAX_USES (λ i p. part_in p) c.parts.rels.items c.args.parts.now _ c.parts.part-index c.in_err-rel.field-0.0
    (few MAX_USES (along (λ i p. part_in p) 0 c.args.parts.now)) (omega arith) c.in_err-rel.ensures c.parts.invariant.same in
    grind (arith, found)

pub returns : goal.returns
returns c =
    done_few_at MAX_USES (λ i p. part_in p) c.parts.rels.items c.args.parts.now c.parts.part-index
    (few MAX_USES (along (λ i p. part_in p) 0 c.args.parts.now)) (omega arith) c.parts.invariant.within c.parts.invariant.same
