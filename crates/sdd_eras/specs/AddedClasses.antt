-- Classes that are added to a catalogue, after those that are there.
use Rattle.std.specs.Prelude.{List, map}
use Rattle.sdd_lang.specs.All.{CatFault, Catalogue, ClassPart, Parts, class_of, extended, faults_of_class, found_from, parts_of}

-- the parts with other classes
abbrev pub with_classes : List ClassPart → Parts → Parts
with_classes classes parts = record parts { classes = classes }

-- the faults of classes that are added: the rules on classes, continued after those that are there
abbrev pub faults_of_added_classes : Catalogue → List ClassPart → List CatFault
faults_of_added_classes cat classes = found_from (faults_of_class (parts_of cat)) (parts_of cat).classes classes

-- the catalogue with classes that are added, which name its fragments
abbrev pub with_added_classes : List ClassPart → Catalogue → Catalogue
with_added_classes classes cat = extended (map (class_of (map (λ f. f.name) cat.fragments)) classes) cat
