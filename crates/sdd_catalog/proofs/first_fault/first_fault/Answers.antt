use Rattle.sdd_catalog.proofs.All.{None, Some, refl, sym, ◌∙◌}
use Rattle.sdd_catalog.proofs.FirstFault.{first_of_all}
use Rattle.sdd_catalog.proofs.first_fault.first_fault.Goals as goal

pub returns-in-Some : goal.returns-in-Some
returns-in-Some c = first_of_all c.args.parts.now (Some c.in-Some.fault) _ _ _ _ c.in-Some.ensures refl refl refl refl

pub returns-in-Some-relation_fault : goal.returns-in-Some-relation_fault
returns-in-Some-relation_fault c =
    first_of_all c.args.parts.now None (Some c.in-Some-relation_fault.fault) _ _ _ c.in_default.ensures
    (rw c.as_slice-relations.ensures at c.in-Some-relation_fault.ensures) refl refl refl

pub returns-in-Some-fragment_fault : goal.returns-in-Some-fragment_fault
returns-in-Some-fragment_fault c =
    first_of_all c.args.parts.now None None (Some c.in-Some-fragment_fault.fault) _ _ c.in_default.ensures
    (rw c.as_slice-relations.ensures at c.in_default-relation_fault.ensures) (rw c.as_slice-fragments.ensures at c.in-Some-fragment_fault.ensures) refl refl

pub returns-in-Some-2 : goal.returns-in-Some-2
returns-in-Some-2 c =
    first_of_all c.args.parts.now None None None (Some c.in-Some-2.fault) _ c.in_default.ensures
    (rw c.as_slice-relations.ensures at c.in_default-relation_fault.ensures) (rw c.as_slice-fragments.ensures at c.in_default-fragment_fault.ensures)
    (rw (c.as_slice-relations.ensures, c.as_slice-fragments.ensures) at (sym c.in-Some-2.is ∙ c.in_ok-fault.ensures)) refl

pub returns : goal.returns
returns c =
    first_of_all c.args.parts.now None None None None c.in_ok-class_fault.field-0 c.in_default.ensures
    (rw c.as_slice-relations.ensures at c.in_default-relation_fault.ensures) (rw c.as_slice-fragments.ensures at c.in_default-fragment_fault.ensures)
    (rw (c.as_slice-relations.ensures, c.as_slice-fragments.ensures) at (sym c.in_default-2.is ∙ c.in_ok-fault.ensures)) c.in_ok-class_fault.ensures
