-- The names of std, of the crates below and of this crate's definitions that its proofs cite. Declares nothing.
pub use Rattle.sdd_base.specs.Numbers.{frag_no}
pub use Rattle.sdd_base.specs.Order.{admits, column, meets, number_in}
pub use Rattle.sdd_base.specs.Words.{ascending, contains, head_of}
pub use Rattle.sdd_base.specs.declared.change.Change.{Change}
pub use Rattle.sdd_base.specs.declared.limits.TheConstants.{MAX_REPLY_ROWS}
pub use Rattle.sdd_base.specs.declared.number.FragNo.{FragNo}
pub use Rattle.sdd_base.specs.declared.number.RelNo.{RelNo}
pub use Rattle.sdd_base.specs.declared.reply.Reply.TheVariants.{Overflow, TooMany}
pub use Rattle.sdd_base.specs.declared.restriction.Op.{Op}
pub use Rattle.sdd_base.specs.declared.restriction.Restriction.{Restriction}
pub use Rattle.sdd_base.specs.declared.usage.Use.{Use}
pub use Rattle.sdd_base.specs.declared.value.Value.{Value}
pub use Rattle.sdd_base.specs.declared.value.Value.TheVariants.{Int}
pub use Rattle.sdd_catalog.proofs.Covering.{not_at_most as not_most}
pub use Rattle.sdd_catalog.proofs.Found.{each_unfound, empty_of_map}
pub use Rattle.sdd_catalog.proofs.FragmentOf.{le_true, one_holder, table_cover}
pub use Rattle.sdd_catalog.proofs.Members.{IsIn, at_in}
pub use Rattle.sdd_catalog.proofs.NameLemmas.{numbered}
pub use Rattle.sdd_catalog.proofs.RoundTrip.{each_more as each_weaker}
pub use Rattle.sdd_catalog.proofs.Sound.{at_number, each_image, each_in_range, no_column, sound_relations}
pub use Rattle.sdd_catalog.proofs.Validity.{fine_relation, no_faults, not_false, unbroken}
pub use Rattle.sdd_catalog.specs.Catalogue.{Catalogue, HoldsKey, IsOf, column_of, fragment_at, fragment_of, key_column, kind_at, numbers_to, parts_of, reads_at, relation_at, relation_of, writes}
pub use Rattle.sdd_catalog.specs.Cover.{Cover, IsNumberFor, ranges_for}
pub use Rattle.sdd_catalog.specs.Names.{number_of}
pub use Rattle.sdd_catalog.specs.Rules.{IsSoundCatalogue, greatest_key, least_key, relation_rules}
pub use Rattle.sdd_catalog.specs.declared.parts.ColumnPart.{ColumnPart}
pub use Rattle.sdd_catalog.specs.declared.parts.Kind.{Kind}
pub use Rattle.sdd_catalog.specs.declared.parts.RelationPart.{RelationPart}
pub use Rattle.sdd_catalog.specs.declared.ranges.KeyRange.{KeyRange}
pub use Rattle.sdd_catalog.specs.declared.resolved.Column.{Column}
pub use Rattle.sdd_catalog.specs.declared.resolved.Relation.{Relation}
pub use Rattle.sdd_lang.specs.Agree.{ReadSetDecides, rows_in_fragment}
pub use Rattle.sdd_lang.specs.Changes.{ArePlaced, ChangesItems, HasRow, IsChange, LieIn, OneAnItem}
pub use Rattle.sdd_lang.specs.Classes.{class_for, covers, fragments_in, read_set, write_set, written_by}
pub use Rattle.sdd_lang.specs.Condition.{Tuple, meets_all, part_of, value_at}
pub use Rattle.sdd_lang.specs.Database.{Database, Item, Row, database_of, item_cmp, key_in, rows_of, with_row, without_row}
pub use Rattle.sdd_lang.specs.Effect.{Changed, change_of, effect, effect_from, failed_effect, rows_in, with_change, with_deletes, with_updates}
pub use Rattle.sdd_lang.specs.Fits.{FitsAssign, FitsCondition, FitsRow, FitsStart, FitsStatement, FitsTxn, IsRelation, kind_of, rel_of}
pub use Rattle.sdd_lang.specs.FragSets.{has, members, put_all}
pub use Rattle.sdd_lang.specs.Narrowing.{keys_left}
pub use Rattle.sdd_lang.specs.Query.{answer, distinct, product, projection, selection}
pub use Rattle.sdd_lang.specs.Rising.{by_item, changed_item, put_each, to_last_item}
pub use Rattle.sdd_lang.specs.Run.{effect_after}
pub use Rattle.sdd_lang.specs.Serial.{after_changes, changed_by, item_of, set_to}
pub use Rattle.sdd_lang.specs.Sound.{IsDatabase, IsEntry, IsHeld, PutsHeld}
pub use Rattle.sdd_lang.specs.Source.{AgreeAlong, Chosen, Found, chosen_in, effect_by, effect_over, entries_of, found_in, uses_in}
pub use Rattle.sdd_lang.specs.Tuples.{may_join, rows_lent}
pub use Rattle.sdd_lang.specs.Update.{assigned, assigned_all, chosen, in_range, replaced}
pub use Rattle.sdd_lang.specs.Uses.{Interval, IsOfKeys, IsWithin, all_keys, allowed_keys, common, fragments_for, holds_some, keys_for, meets_keys, part_uses, restriction_of, restrictions_of, statement_uses, uses_from, uses_of}
pub use Rattle.sdd_lang.specs.declared.assign.Assign.{Assign}
pub use Rattle.sdd_lang.specs.declared.assign.Assign.TheVariants.{Add, To}
pub use Rattle.sdd_lang.specs.declared.condition.Condition.{Condition}
pub use Rattle.sdd_lang.specs.declared.condition.Condition.TheVariants.{Const, Same}
pub use Rattle.sdd_lang.specs.declared.condition.Ref.{Ref}
pub use Rattle.sdd_lang.specs.declared.effect.Effect.{Effect}
pub use Rattle.sdd_lang.specs.declared.statement.Stmt.{Stmt}
pub use Rattle.sdd_lang.specs.declared.statement.Stmt.TheVariants.{Delete, Put, Query, Update}
pub use Rattle.sdd_lang.specs.declared.transaction.Txn.{Txn}
pub use Rattle.std.proofs.Common.{All, Bool, Greater, Less, List, None, Option, Ordering, SFits as FitsSigned, Some, [], add-zero, ap, append-nil, append_assoc, arith, cond, drop, false, filter, flat_map, fold, get_or-set_other, get_or-set_same, if◌then◌else◌, inl, inr, int_cmp, int_le, is_some, length, length-append, map, nat_cmp, nat_lt, not, pos, refl, replicate, rules, slice_get, slice_index_or as get_or, slice_set, subst, suc, sym, take, take_all, to_z-of_z, true, unwrap_or, w64, zero, ℕ, ℤ, ◌&&◌, ◌*◌, ◌++◌, ◌+◌, ◌-◌, ◌<ℤ◌, ◌<◌, ◌==◌, ◌||◌, ◌∙◌, ◌∷◌, ◌≡◌, ◌≤ℤ◌, ◌≤◌}
pub use Rattle.std.proofs.lemmas.Bool.{and_from as and_both, cases_lt, or_right as or_holds}
pub use Rattle.std.proofs.lemmas.Bool.Decides.{Decides-eqb, nat_tests}
pub use Rattle.std.proofs.lemmas.Cmp.{int_cmp_total, int_ranked, nat_cmp_total, on_total, then_total, tied_itself}
pub use Rattle.std.proofs.lemmas.Grind.{common_steps}
pub use Rattle.std.proofs.lemmas.Int.{ints}
pub use Rattle.std.proofs.lemmas.List.{at_drop_more, get_or-map, get_or-replicate, get_or_default, get_or_past, length-map, length-replicate, map-append, nil_from_length, take_more}
pub use Rattle.std.proofs.lemmas.List.Concat.{flat_map-append}
pub use Rattle.std.proofs.lemmas.List.Elements.{All-from_recursion, All-more, All-nil, filter-append, filter_map-append, recursion_from_All}
pub use Rattle.std.proofs.lemmas.List.Sums.{fold-append}
pub use Rattle.std.proofs.lemmas.Map.Keys.{sorted_head, sorted_tail}
pub use Rattle.std.proofs.lemmas.Map.Lookups.{CmpEqualImpliesEq, exact_pairs, exact_signed, exact_unsigned}
pub use Rattle.std.proofs.lemmas.Map.Views.{All-insert_key}
pub use Rattle.std.proofs.lemmas.Option.{slice_get-get_or}
pub use Rattle.std.specs.BTreeMap.{insert_entry, is_at}
pub use Rattle.std.specs.BTreeSet.{insert_key}
pub use Rattle.std.specs.Cmp.{IsTotalOrder, nat_cmp_is}
pub use Rattle.std.specs.List.{AllByRecursion, cons_option, list_all, range_with_len}
pub use Rattle.std.specs.List.Sorted.{IsStrictlySortedBy}
pub use Rattle.std.specs.Map.{keys_of, remove_entry}
pub use Rattle.std.specs.Ordering.{MatchOrdering, match_ordering, ordering_reverse}
