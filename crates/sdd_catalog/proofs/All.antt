-- The names of std, of the crates below and of this crate's definitions that its proofs cite. Declares nothing.
pub use Rattle.sdd_base.specs.Name.{IsName}
pub use Rattle.sdd_base.specs.Numbers.{dm_no, frag_no}
pub use Rattle.sdd_base.specs.Words.{contains, head_of, or_else}
pub use Rattle.sdd_base.specs.declared.number.DmNo.{DmNo}
pub use Rattle.sdd_base.specs.declared.number.FragNo.{FragNo}
pub use Rattle.sdd_catalog.specs.Catalogue.{Catalogue, HoldsKey, IsOf, catalogue_of, class_at, class_of, class_part, column_of, column_part, fragment_at, fragment_from, fragment_names, fragment_of, fragment_part, holds_key, lowest_copy, numbers_to, parts_of, read_of, read_part, reads_at, relation_names, relation_of, relation_part}
pub use Rattle.sdd_catalog.specs.Cover.{Cover, IsIndexed, IsNumberFor, no_relation, range_table, ranges_for}
pub use Rattle.sdd_catalog.specs.Marks.{AreMarked}
pub use Rattle.sdd_catalog.specs.Names.{Text, is_at, name_at, number_of, place_of}
pub use Rattle.sdd_catalog.specs.Naming.{AreNamed, IsNamed}
pub use Rattle.sdd_catalog.specs.Numbers.{HasKey, IsPlaced, IsServed, IsServedClass, IsWhole, NamesFragments, NamesRelation}
pub use Rattle.sdd_catalog.specs.Resolving.{HaveNumbers, IsAtModules, IsModule, RunsAtModules}
pub use Rattle.sdd_catalog.specs.Rules.{IsSoundCatalogue, IsValid, class_faults, class_rules, column_named, copies_in, copies_of, copy_rules, count_faults, count_rules, cover_faults, faults_after, faults_at, faults_of_class, faults_of_fragment, faults_of_ranges, faults_of_relation, found_from, found_in, fragment_faults, fragment_rules, greatest_key, has_name, is_from_1_to, key_rules, least_key, next_rules, range_faults, range_of, ranges_of, read_rules, relation_faults, relation_rules, sorted, sorted_from, when, with_range, write_rules}
pub use Rattle.sdd_catalog.specs.declared.fault.CatFault.{CatFault}
pub use Rattle.sdd_catalog.specs.declared.fault.CatRule.{CatRule}
pub use Rattle.sdd_catalog.specs.declared.fault.CatRule.TheVariants.{DuplicateName, RangeGap, UnknownName}
pub use Rattle.sdd_catalog.specs.declared.parts.ClassPart.{ClassPart}
pub use Rattle.sdd_catalog.specs.declared.parts.ColumnPart.{ColumnPart}
pub use Rattle.sdd_catalog.specs.declared.parts.FragmentPart.{FragmentPart}
pub use Rattle.sdd_catalog.specs.declared.parts.Kind.TheVariants.{Int}
pub use Rattle.sdd_catalog.specs.declared.parts.Parts.{Parts}
pub use Rattle.sdd_catalog.specs.declared.parts.ReadPart.{ReadPart}
pub use Rattle.sdd_catalog.specs.declared.parts.RelationPart.{RelationPart}
pub use Rattle.sdd_catalog.specs.declared.ranges.KeyRange.{KeyRange}
pub use Rattle.sdd_catalog.specs.declared.resolved.Class.{Class}
pub use Rattle.sdd_catalog.specs.declared.resolved.Column.{Column}
pub use Rattle.sdd_catalog.specs.declared.resolved.Fragment.{Fragment}
pub use Rattle.sdd_catalog.specs.declared.resolved.Read.{Read}
pub use Rattle.sdd_catalog.specs.declared.resolved.Relation.{Relation}
pub use Rattle.std.proofs.Common.{All, Bool, IfSome, List, None, Option, Some, [], ap, append-nil, append_assoc, arith, bytes_eq, cond, drop, false, find, get_or-set_other, get_or-set_same, inl, inr, insert, int_le, int_lt, is_some, length, length-append, length-set, length-take-le, map, map-id, nat_le, not, option_map, pos, refl, replicate, rules, slice_index_or as get_or, slice_set as set, subst, suc, sym, take, take_all, tests, to_z-of_z, true, unwrap_or, zero, ℕ, ℤ, ◌++◌, ◌+ℤ◌, ◌+◌, ◌-◌, ◌<ℤ◌, ◌<◌, ◌==◌, ◌^◌, ◌||◌, ◌∙◌, ◌∷◌, ◌≡◌, ◌≢◌, ◌≤ℤ◌, ◌≤◌, ◌⊎◌}
pub use Rattle.std.proofs.Math.Bool.{or-true}
pub use Rattle.std.proofs.lemmas.Bool.{cases_Bool, cases_lt}
pub use Rattle.std.proofs.lemmas.Bool.Decides.{Decides-eqb, nat_tests}
pub use Rattle.std.proofs.lemmas.Cmp.{nat_list_eq_equiv}
pub use Rattle.std.proofs.lemmas.Grind.{common_steps}
pub use Rattle.std.proofs.lemmas.Int.{ints}
pub use Rattle.std.proofs.lemmas.List.{drop_all, drop_more, get_or-map, get_or-replicate, get_or_default, length-map, length-replicate, take_more}
pub use Rattle.std.proofs.lemmas.List.Elements.{All-from_recursion, All-map, All-push, All-same, All-weaker}
pub use Rattle.std.proofs.lemmas.List.Folds.{list_any-append, map_fixed}
pub use Rattle.std.proofs.lemmas.List.Sorted.{IsPartitionPoint-from_clause}
pub use Rattle.std.proofs.lemmas.Option.{same_Some}
pub use Rattle.std.proofs.lemmas.Simd.{map-map}
pub use Rattle.std.proofs.lemmas.Slice.Eq.{bytes_eq-Decides}
pub use Rattle.std.specs.HashMap.{get}
pub use Rattle.std.specs.List.{AllByRecursion, list_any, position_from, range_with_len}
pub use Rattle.std.specs.List.Sorted.{IsPartitionPoint, IsPartitionedBy}
