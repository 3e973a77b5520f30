-- The names of std, of the crates below and of this crate's definitions that its proofs cite. Declares nothing.
pub use Rattle.sdd_eras.specs.EraOf.{HasSets, IsEraOf}
pub use Rattle.sdd_eras.specs.AddedClasses.{faults_of_added_classes, with_added_classes, with_classes}
pub use Rattle.sdd_eras.specs.Retired.{emptied_part, retired_parts}
pub use Rattle.sdd_graph.specs.Edges.{IsClassOf}
pub use Rattle.sdd_lang.proofs.ReadSetDecides.{ascending_back}
pub use Rattle.sdd_lang.proofs.catalog.Found.{both_empty, empty_of_map}
pub use Rattle.std.proofs.lemmas.Simd.{map-map}
pub use Rattle.sdd_lang.proofs.catalog.Sound.{each_in_range}
pub use Rattle.sdd_lang.proofs.catalog.Validity.{no_faults}
pub use Rattle.sdd_lang.specs.All.{CatRule, Catalogue, Class, ClassPart, DuplicateName, FitsStatement, FitsTxn, IsSoundCatalogue, IsValid, MAX_CLASSES, MAX_READS, Parts, RelNo, TellsFirst, Text, TooMany, UnknownName, ascending, catalogue_of, class_at, class_for, class_of, class_rules, contains, covers, emptied, eras, extended, faults_at, faults_of, faults_of_class, found_from, found_in, fragments_in, has_name, head_of, is_from_1_to, part_uses, parts_of, read_rules, read_set, reads_at, retired, statement_uses, uses_from, uses_of, when, whole, write_rules, write_set, writes, written_by}
pub use Rattle.sdd_lang.specs.declared.condition.Condition.{Condition}
pub use Rattle.sdd_lang.specs.declared.statement.Stmt.{Stmt}
pub use Rattle.sdd_lang.specs.declared.transaction.Txn.{Txn}
pub use Rattle.std.proofs.Common.{Bool, List, Some, [], ap, append-nil, append_assoc, arith, cond, drop, eqb-true, false, filter, flat_map, inl, inr, is_some, length, length-append, map, nat_le, nat_lt, ne_eqb, not, option_map, refl, slice_get, slice_index_or, subst, suc, sym, take, true, unwrap_or, zero, ℕ, ◌&&◌, ◌++◌, ◌+◌, ◌-◌, ◌<◌, ◌==◌, ◌||◌, ◌∙◌, ◌∷◌, ◌≡◌, ◌≤◌}
pub use Rattle.std.proofs.lemmas.Bool.{and_parts, cases_Bool}
pub use Rattle.std.proofs.lemmas.List.{length-map, map-append}
pub use Rattle.std.proofs.lemmas.Result.{IfErr-weaker, IfOk-weaker}
pub use Rattle.std.specs.List.{AllByRecursion, list_all, list_any}
