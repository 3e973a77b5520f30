use Rattle.sdd_catalog.proofs.Sound.{nameable}
use Rattle.sdd_catalog.proofs.catalogue.Catalogue.parts.Goals as goal

pub name_relations-requires : goal.name_relations-requires
name_relations-requires c = rw c.as_slice-relations.ensures (nameable _ c.self.invariant.sound).relations_named

pub name_fragments-requires : goal.name_fragments-requires
name_fragments-requires c = rw (c.as_slice-relations.ensures, c.as_slice-fragments.ensures) (nameable _ c.self.invariant.sound).fragments_named

pub name_classes-requires : goal.name_classes-requires
name_classes-requires c = rw (c.as_slice-fragments.ensures, c.as_slice.ensures) (nameable _ c.self.invariant.sound).classes_named
