-- The names of std, of the crates below and of this crate's definitions that its proofs cite. Declares nothing.
pub use Rattle.sdd_changed.specs.Conditions.{has_key, on_first_part, own_conditions}
pub use Rattle.sdd_changed.specs.Matching.{entered, lent_changes, with_matching}
pub use Rattle.sdd_lang.proofs.ReadSetDecides.{rows_picked}
pub use Rattle.sdd_lang.proofs.SortedEntries.{filtered_sorted, inserted_sorted, item_cmp_exact, item_cmp_total, removed_sorted}
pub use Rattle.sdd_lang.proofs.catalog.RoundTrip.{each_more as each_weaker}
pub use Rattle.sdd_lang.specs.All.{Catalogue, Change, Database, Interval, Item, RelNo, Restriction, Row, after_changes, changed_by, chosen, entries_of, fragment_at, item_cmp, item_of, may_join, meets_all, restrictions_of, rows_lent, rows_of, set_to, with_row, without_row}
pub use Rattle.sdd_lang.specs.All.{meets as meets_one}
pub use Rattle.sdd_lang.specs.declared.condition.Condition.{Condition}
pub use Rattle.sdd_lang.specs.declared.source.Entry.{Entry}
pub use Rattle.sdd_plain.specs.Lent.{as_of}
pub use Rattle.sdd_plain.specs.Parts.{standing}
pub use Rattle.std.proofs.Common.{Bool, append-nil, Equal, Greater, Less, List, None, Option, Ordering, Some, [], ap, arith, cond, drop, eq-eqb, eqb-true, false, filter, fold, is_eq, length, map, refl, subst, sym, take, true, zero, suc, ℕ, ℤ, ◌&&◌, ◌++◌, ◌+◌, ◌<◌, ◌==◌, ◌∙◌, ◌∷◌, ◌≡◌, ◌≤◌}
pub use Rattle.std.proofs.lemmas.Map.Keys.{sorted_head, sorted_tail}
pub use Rattle.std.proofs.lemmas.Map.Lookups.{CmpEqualImpliesEq}
pub use Rattle.std.proofs.lemmas.Map.Views.{tells_apart}
pub use Rattle.std.specs.BTreeMap.{insert_entry, is_at}
pub use Rattle.std.specs.Cmp.{IsTotalOrder}
pub use Rattle.std.specs.List.{AllByRecursion, list_all}
pub use Rattle.std.specs.List.Sorted.{IsStrictlySortedBy}
pub use Rattle.std.specs.Map.{keys_of, remove_entry}
pub use Rattle.std.specs.Ordering.{match_ordering, ordering_reverse}
pub use Rattle.sdd_lang.specs.Source.{found_in, within}
pub use Rattle.std.proofs.Common.{append_assoc, rules, to_z-of_z, w64, SFits as FitsSigned}
pub use Rattle.std.proofs.lemmas.List.{nil_from_length}
pub use Rattle.std.proofs.lemmas.Result.{IfOk-weaker}
pub use Rattle.std.specs.Prelude.{IfOk}
