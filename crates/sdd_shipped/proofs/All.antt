-- The names of std, of the crates below and of this crate's definitions that its proofs cite. Declares nothing.
pub use Rattle.sdd_lang.proofs.EffectChanges.{not_below_itself as not_less_itself}
pub use Rattle.sdd_lang.proofs.Pushdown.{and_parts as both, parts_meet}
pub use Rattle.sdd_lang.proofs.SortedEntries.{filtered_sorted, inserted_sorted, item_cmp_exact, item_cmp_total, same_entries, sorted_nil}
pub use Rattle.sdd_lang.proofs.Sources.{effect_over_agreeing, effect_over_database, length-statement_uses}
pub use Rattle.sdd_lang.proofs.catalog.Members.{IsIn}
pub use Rattle.sdd_lang.specs.All.{AgreeAlong, AgreeAt, Catalogue, Database, IsDatabase, IsEntry, Item, RelNo, Row, Tuple, answer, chosen, chosen_in, distinct, effect, effect_over, item_cmp, key_in, lists_decide, meets_all, part_uses, product, projection, restrictions_of, row_cmp, rows_of, selection, statement_uses, use_of, uses_from, uses_in, value_at, value_cmp, value_cmp_total, value_decides, with_row}
pub use Rattle.sdd_lang.specs.Source.{found_in}
pub use Rattle.sdd_lang.specs.declared.condition.Condition.{Condition}
pub use Rattle.sdd_lang.specs.declared.condition.Ref.{Ref}
pub use Rattle.sdd_lang.specs.declared.statement.Stmt.{Stmt}
pub use Rattle.sdd_lang.specs.declared.statement.Stmt.TheVariants.{Query}
pub use Rattle.sdd_lang.specs.declared.transaction.Txn.{Txn}
pub use Rattle.sdd_shipped.specs.Members.{Has}
pub use Rattle.sdd_shipped.specs.Serves.{AreEnough, AreEnoughAlong, AreHeld, IsRowOf, Serves}
pub use Rattle.sdd_shipped.specs.Snapshots.{Shipped, chosen_for, found_for, rows_for}
pub use Rattle.std.proofs.Common.{Bool, Equal, Greater, Less, List, None, Option, Ordering, Some, [], ap, arith, cond, eq-eqb, eqb-true, false, filter, filter_map, flat_map, fold, inl, inr, is_eq, length, map, refl, slice_index_or, subst, suc, sym, true, zero, ℕ, ℤ, ⊎_elim, ◌&&◌, ◌++◌, ◌+◌, ◌-◌, ◌<◌, ◌==◌, ◌||◌, ◌∙◌, ◌∷◌, ◌≡◌, ◌⊎◌}
pub use Rattle.std.proofs.lemmas.Bool.{cases_Bool}
pub use Rattle.std.proofs.lemmas.List.Elements.{recursion_from_All}
pub use Rattle.std.proofs.lemmas.Map.Keys.{sorted_head, sorted_tail}
pub use Rattle.std.specs.BTreeSet.{insert_key}
pub use Rattle.std.specs.Cmp.{IsTotalOrder}
pub use Rattle.std.specs.Cmp.Lexicographic.{lists_ties, lists_total}
pub use Rattle.std.specs.List.{AllByRecursion, cons_option, range_with_len}
pub use Rattle.std.specs.List.Sorted.{IsStrictlySortedBy}
pub use Rattle.std.specs.Map.{keys_of}
pub use Rattle.std.specs.Ordering.{eq_by_cmp, match_ordering, ordering_reverse}
