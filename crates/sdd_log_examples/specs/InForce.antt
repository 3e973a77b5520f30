-- The catalogues in force of the workload with a further class list: each list retires those before it, and the
-- catalogue of the whole workload has the classes of all lists.
use Rattle.std.specs.Prelude.{◌≡◌, [], ◌∷◌, map, refl}
use Rattle.sdd_log.specs.All.{Class, dm_no, eras, frag_no, tm_no, whole}
use Rattle.sdd_log_examples.specs.Classes.{catalogue_of_second_class_list, classes_of_second_class_list_0, input_of_second_class_list}

abbrev audit : Class
audit = record { name = []; tm = tm_no 1; reads = record { fragment = frag_no 1; at = dm_no 1 } ∷ []; writes = [] }

pub eras_follow_example : map (λ f. f.catalogue) input_of_second_class_list.eras ≡ eras classes_of_second_class_list_0 ((audit ∷ []) ∷ [])
eras_follow_example = refl

pub with_all : whole classes_of_second_class_list_0 ((audit ∷ []) ∷ []) ≡ catalogue_of_second_class_list
with_all = refl
