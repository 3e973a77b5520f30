-- In every catalogue the names are spelled as names.
use Rattle.std.specs.List.{All}
use Rattle.sdd_base.specs.Name.{IsName}
use Rattle.sdd_catalog.specs.Catalogue.{Catalogue}
use Rattle.sdd_catalog.specs.declared.resolved.Relation.{Relation}

-- the names of a relation and of its columns
pub record IsNamed (r : Relation) : Type 0 where
  pub name : IsName r.name
  pub columns : All (λ c. IsName c.name) r.columns

-- all names of a catalogue
pub record AreNamed (cat : Catalogue) : Type 0 where
  pub relations : All IsNamed cat.relations
  pub fragments : All (λ f. IsName f.name) cat.fragments
  pub classes : All (λ c. IsName c.name) cat.classes
