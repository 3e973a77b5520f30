-- The worked catalogues are valid.
use Rattle.sdd_history_examples.proofs.All.{All-from_recursion, AreSound, Catalogue, IsSoundCatalogue, arith, both_classes, bridge, crossing, one_class, one_era, one_reader, one_writer, refl, second_class_list, two_eras, ℕ}
use Rattle.sdd_laws.specs.catalog.Rules.{faults_of}

-- one class list
one_sound : (cat : Catalogue) → IsSoundCatalogue cat → AreSound cat (one_era cat)
one_sound cat s = record { whole = s; each = All-from_recursion (λ (e : ℕ × Catalogue). IsSoundCatalogue e.1) (one_era cat) (s, tt) }

bridge_is : IsSoundCatalogue bridge
unfolding faults_of
bridge_is = record { valid = refl; same = refl }

one_reader_is : IsSoundCatalogue one_reader
unfolding faults_of
one_reader_is = record { valid = refl; same = refl }

crossing_is : IsSoundCatalogue crossing
unfolding faults_of
crossing_is = record { valid = refl; same = refl }

one_class_is : IsSoundCatalogue one_class
unfolding faults_of
one_class_is = record { valid = refl; same = refl }

one_writer_is : IsSoundCatalogue one_writer
unfolding faults_of
one_writer_is = record { valid = refl; same = refl }

both_classes_are : IsSoundCatalogue both_classes
unfolding faults_of
both_classes_are = record { valid = refl; same = refl }

second_class_list_is : IsSoundCatalogue second_class_list
unfolding faults_of
second_class_list_is = record { valid = refl; same = refl }

pub sound_bridge : AreSound bridge (one_era bridge)
sound_bridge = one_sound bridge bridge_is

pub sound_one_reader : AreSound one_reader (one_era one_reader)
sound_one_reader = one_sound one_reader one_reader_is

pub sound_crossing : AreSound crossing (one_era crossing)
sound_crossing = one_sound crossing crossing_is

pub sound_one_class : AreSound one_class (one_era one_class)
sound_one_class = one_sound one_class one_class_is

pub sound_one_writer : AreSound one_writer (one_era one_writer)
sound_one_writer = one_sound one_writer one_writer_is

pub sound_both_classes : AreSound both_classes two_eras
sound_both_classes = grind (arith, both_classes_are, one_class_is, second_class_list_is)
