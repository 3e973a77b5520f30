use Rattle.sdd_catalog.proofs.FragmentOf.{indexed_as}
use Rattle.sdd_catalog.proofs.catalogue.resolve.Goals as goal

pub invariant_of-result : goal.invariant_of-result
invariant_of-result c =
    let relations = rw c.as_slice-relations.ensures at c.in_ok-resolve_relations.ensures.value in
    let fragments = rw (c.as_slice-relations.ensures, c.as_slice-fragments.ensures) at c.in_ok-resolve_fragments.ensures.value in
    let classes = c.in_ok-resolve_classes.ensures.value in
    let table = rw (c.as_slice-relations.ensures, c.as_slice-fragments.ensures) at c.in_ok-range_table.ensures in
    indexed_as c.args.parts.now c.in_ok-resolve_relations.field-0 c.in_ok-resolve_fragments.field-0
    c.in_ok-resolve_classes.field-0 c.in_ok-range_table.field-0 c.requires relations fragments classes table
    (record { relations = c.in_ok-resolve_relations.ensures.named; fragments = c.in_ok-resolve_fragments.ensures.named; classes = c.in_ok-resolve_classes.ensures.named })
