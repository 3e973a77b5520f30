-- The names of std, of the crates below and of this crate's definitions that its proofs cite. Declares nothing.
pub use Rattle.sdd_eras.proofs.Extended.{extended_is, further_are_all}
pub use Rattle.sdd_eras.proofs.Retired.{both_are_empty as two_empty}
pub use Rattle.sdd_eras.specs.AddedClasses.{faults_of_added_classes, with_added_classes, with_classes}
pub use Rattle.sdd_lists.specs.InForce.{classes_in, numbered, whole_in}
pub use Rattle.sdd_script.proofs.Fragments.{kept_at, some_there}
pub use Rattle.sdd_script.proofs.NamePlaces.{any_none, apart_before, differ_again, if_false}
pub use Rattle.std.proofs.lemmas.Simd.{map-map}
pub use Rattle.sdd_script.proofs.catalog.NameLemmas.{any_of_find, has_name_of_items, list_any-map}
pub use Rattle.sdd_script.proofs.catalog.RoundTrip.{parts_back}
pub use Rattle.sdd_script.proofs.lang.ReadSetDecides.{each_both as all_before}
pub use Rattle.sdd_script.specs.All.{AreNamed, AreValidLists, CatRule, Catalogue, Class, ClassPart, DuplicateName, FitsTxn, Fragment, FragmentPart, IsFragment, IsFrom1To, IsName, IsNamed, IsSoundCatalogue, IsValid, IsValidClass, IsValidRead, MAX_CLASSES, MAX_READS, Parts, ReadPart, Text, TooMany, Txn, UnknownName, catalogue_of, class_of, class_part, class_rules, contains, copies_in, copies_of, emptied, eras, extended, faults_of_class, found_from, found_in, fragment_at, fragment_named, fragment_names, fragment_part, has_name, is_from_1_to, is_kept_at, joined, part_names, parts_of, read_names, read_rules, rel_no, repeats, retired, when, whole, write_rules}
pub use Rattle.sdd_script.specs.declared.workload.Workload.{Workload}
pub use Rattle.std.proofs.Common.{All, Bool, List, Option, Some, [], ap, append_assoc, arith, bytes_eq, cond, drop, false, find, length, length-append, map, map-id, nat_le, nat_lt, not, option_map, pos, refl, slice_index_or, subst, suc, sym, take, take-append-drop, true, zero, ℕ, ◌++◌, ◌+◌, ◌<◌, ◌==◌, ◌∙◌, ◌∷◌, ◌≡◌, ◌≤◌}
pub use Rattle.std.proofs.lemmas.Bool.{or_parts as or_false}
pub use Rattle.std.proofs.lemmas.Bool.Decides.{nat_tests}
pub use Rattle.std.proofs.lemmas.List.{drop_more, get_or_default, length-map, map-append}
pub use Rattle.std.proofs.lemmas.List.Elements.{All-from_recursion, recursion_from_All}
pub use Rattle.std.proofs.lemmas.Slice.Eq.{bytes_eq-Decides}
pub use Rattle.std.specs.List.{AllByRecursion, list_any, range_with_len}
