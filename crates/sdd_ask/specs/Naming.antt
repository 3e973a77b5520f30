-- Names of the parts of a catalogue, by their numbers.
use Rattle.std.specs.Prelude.{ℕ, List}
use Rattle.sdd_base.specs.declared.number.ClassNo.{ClassNo}
use Rattle.sdd_base.specs.declared.number.FragNo.{FragNo}
use Rattle.sdd_catalog.specs.Catalogue.{Catalogue, class_at, fragment_at}

abbrev pub class_name : Catalogue → ClassNo → List ℕ
class_name cat class = (class_at cat class.0).name

abbrev pub fragment_name : Catalogue → FragNo → List ℕ
fragment_name cat frag = (fragment_at cat frag.0).name
