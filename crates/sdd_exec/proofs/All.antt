-- The names of std, of the crates below and of this crate's definitions that its proofs cite. Declares nothing.
pub use Rattle.sdd_exec.specs.Choices.{Choice, HasAll, IsComplete, NoRepeats, extended, extensions, is_taken, is_there, key_for, key_of, keyed, passes, passes_one, picked, placed, places, row_from, row_of_tuple, same_row, tie_of, ties_of, with_found}
pub use Rattle.sdd_exec.specs.Exploring.{AreMade, AreNexts, AreNodes, IsDead, IsDone, IsExplored, IsExploredAt, IsExploredBy, IsKept, IsLed, IsMade, IsNext, IsNode, IsSoundAt, NoneComes, NoneComesAt, NoneComesBy, StillHas, are_taken, is_dead, is_seen, marks_of, places_made, places_with}
pub use Rattle.sdd_exec.specs.Rising.{by_keys, keyed_rows, to_last, to_last_key}
pub use Rattle.sdd_exec.specs.Sifting.{AreEnough, HasLike, IsAnswered, IsCovered, IsSieve, IsSifted, Offered, TellsAnswer, TooMany, all_rows, choices_of_part, extended_by, found_with, is_apart, joined, link_between, links_of, outs_of, pair_of, pairs_of, values_of}
pub use Rattle.sdd_exec.specs.Splicing.{Agrees, AllAlike, AllInside, Answers, AreSound, IsOutside, IsThereIn, LinksAlike, MeetsInside, OutsAlike, spliced}
pub use Rattle.sdd_exec.specs.declared.known.Explored.{Explored}
pub use Rattle.sdd_exec.specs.declared.plan.Made.{Made}
pub use Rattle.sdd_exec.specs.declared.plan.Next.{Next}
pub use Rattle.sdd_exec.specs.declared.plan.Node.{Node}
pub use Rattle.sdd_exec.specs.declared.sieve.Mesh.{Mesh}
pub use Rattle.sdd_exec.specs.declared.sieve.Sieve.{Sieve}
pub use Rattle.sdd_exec.specs.declared.tie.Tie.{Tie}
pub use Rattle.sdd_lang.proofs.EffectChanges.{not_below_itself as not_less_itself}
pub use Rattle.sdd_lang.proofs.Pushdown.{and_parts as both, parts_meet}
pub use Rattle.sdd_lang.proofs.SortedEntries.{filtered_sorted, inserted_sorted, item_cmp_exact, item_cmp_total, same_entries, sorted_nil}
pub use Rattle.sdd_lang.proofs.Sources.{effect_over_agreeing, effect_over_database, length-statement_uses}
pub use Rattle.sdd_lang.proofs.catalog.Members.{IsIn}
pub use Rattle.sdd_lang.specs.All.{AgreeAlong, AgreeAt, Catalogue, Database, Int, IsDatabase, IsEntry, Item, RelNo, Row, Tuple, Value, answer, chosen, chosen_in, column, distinct, effect, effect_over, entries_of, item_cmp, key_in, lists_decide, meets_all, part_uses, product, projection, restrictions_of, row_cmp, rows_lent, rows_of, selection, statement_uses, use_of, uses_from, uses_in, value_at, value_cmp, value_cmp_total, value_decides, with_row, within}
pub use Rattle.sdd_lang.specs.Condition.{meets}
pub use Rattle.sdd_lang.specs.Source.{found_in}
pub use Rattle.sdd_lang.specs.declared.condition.Condition.TheVariants.{Const, Same}
pub use Rattle.sdd_lang.specs.declared.condition.Condition.{Condition}
pub use Rattle.sdd_lang.specs.declared.condition.Ref.{Ref}
pub use Rattle.sdd_lang.specs.declared.effect.Effect.{Effect}
pub use Rattle.sdd_lang.specs.declared.source.Entry.{Entry}
pub use Rattle.sdd_lang.specs.declared.statement.Stmt.TheVariants.{Query}
pub use Rattle.sdd_lang.specs.declared.statement.Stmt.{Stmt}
pub use Rattle.sdd_lang.specs.declared.transaction.Txn.{Txn}
pub use Rattle.sdd_shipped.proofs.Ascending.{distinct_same, new_or_old, new_there, old_there}
pub use Rattle.sdd_shipped.proofs.Members.{Has-append, Has-filter, Has-filter_from, Has-filter_map, Has-filter_map_from, Has-flat_map, Has-flat_map_from, Has-get_or, Has-left, Has-map, Has-map_from, Has-right, place_of}
pub use Rattle.sdd_shipped.proofs.Serving.{one_effect, served_effect}
pub use Rattle.sdd_shipped.specs.Members.{Has}
pub use Rattle.sdd_shipped.specs.Serves.{AreEnoughAlong, AreHeld, IsRowOf, Serves}
pub use Rattle.sdd_shipped.specs.Snapshots.{Shipped, chosen_for, found_for, of_relation, parts_for, rows_for, with_chosen}
pub use Rattle.std.proofs.Common.{Bool, Bor, Equal, Greater, IfOk, IfSome, Less, List, None, Option, Ordering, Some, [], add-one, ap, append-nil, append_assoc, arith, cond, drop, eq-eqb, eqb-true, false, filter, filter_map, flat_map, fold, get_or-drop, inl, inr, int_cmp, is_eq, le-ltb, length, lt-ltb, ltb-false, ltb-true, map, nat_cmp, nat_lt, not, pos, refl, slice_get, slice_index, slice_index_or, subst, suc, sym, take, take-append-drop, take_all, true, zero, ℕ, ℤ, ⊎_elim, ◌&&◌, ◌++◌, ◌+◌, ◌-◌, ◌<◌, ◌==◌, ◌||◌, ◌∙◌, ◌∷◌, ◌≡◌, ◌≤◌, ◌⊎◌}
pub use Rattle.std.proofs.lemmas.Bool.{cases_Bool, cases_lt, eqb-false}
pub use Rattle.std.proofs.lemmas.Cmp.{int_cmp_total, nat_cmp_total, tied_itself}
pub use Rattle.std.proofs.lemmas.List.Concat.{flat_map-append}
pub use Rattle.std.proofs.lemmas.List.Elements.{filter-append, filter_map-append, recursion_from_All}
pub use Rattle.std.proofs.lemmas.List.Folds.{list_all-append, list_any-append}
pub use Rattle.std.proofs.lemmas.List.FromFn.{get_or-map-range_with_len, map-range_with_len_more}
pub use Rattle.std.proofs.lemmas.List.Sums.{fold-append}
pub use Rattle.std.proofs.lemmas.List.{at_drop_more, get_or-map, get_or_past, length-map, map-append, nil_from_length, take_more}
pub use Rattle.std.proofs.lemmas.Map.Keys.{sorted_head, sorted_tail}
pub use Rattle.std.proofs.lemmas.Option.{slice_get-get_or}
pub use Rattle.std.proofs.lemmas.Result.{IfOk-weaker}
pub use Rattle.std.specs.BTreeMap.{insert_entry}
pub use Rattle.std.specs.BTreeSet.{insert_key}
pub use Rattle.std.specs.Cmp.Lexicographic.{lists_ties, lists_total}
pub use Rattle.std.specs.Cmp.{IsTotalOrder}
pub use Rattle.std.specs.HashSet.{contains}
pub use Rattle.std.specs.List.Sorted.{IsStrictlySortedBy}
pub use Rattle.std.specs.List.{AllByRecursion, cons_option, range_with_len}
pub use Rattle.std.specs.Map.{keys_of}
pub use Rattle.std.specs.Option.{option_map_or}
pub use Rattle.std.specs.Ordering.{eq_by_cmp, match_ordering, ordering_reverse}
