-- The names of std, of the crates below and of this crate's definitions that its proofs cite. Declares nothing.
pub use Rattle.sdd_lang.proofs.EffectChanges.{changes_items, effect_once, entry_placed}
pub use Rattle.sdd_lang.proofs.KeyKinds.{key_is_int, key_is_there, restrictions_fit}
pub use Rattle.sdd_lang.proofs.KeyRanges.{allowed_key, at_most, key_in_range, some_within, whole_number}
pub use Rattle.sdd_lang.proofs.Pushdown.{kept, meets_restrictions, parts_meet, restrictions_pushdown}
pub use Rattle.sdd_lang.proofs.ReadSetDecides.{ascending_back, rows_picked}
pub use Rattle.sdd_lang.proofs.SortedEntries.{each_inserted, filtered_sorted, item_cmp_exact, item_cmp_total}
pub use Rattle.sdd_lang.proofs.Sources.{effect_over_agreeing, effect_over_database}
pub use Rattle.sdd_lang.proofs.StaysDatabase.{changes_stay, key_held}
pub use Rattle.sdd_lang.proofs.base.Membership.{Contains-cases, Contains-here, Contains-later, Contains-nil}
pub use Rattle.sdd_lang.proofs.catalog.Covering.{not_at_most as not_most}
pub use Rattle.sdd_lang.proofs.catalog.FragmentOf.{le_true}
pub use Rattle.sdd_lang.proofs.catalog.Members.{IsIn}
pub use Rattle.sdd_lang.proofs.catalog.Sound.{each_image}
pub use Rattle.sdd_lang.specs.All.{Catalogue, Change, Database, FitsAssign, FitsCondition, FitsRef, FitsStatement, FitsTxn, Int, IsDatabase, IsEntry, IsOfKeys, IsRelation, IsSoundCatalogue, Item, Op, Overflow, PutsHeld, RelNo, Reply, Restriction, Row, Rows, Value, after_changes, after_reply, all_keys, answer, ascending, contains, distinct, effect, fragment_at, fragment_of, holds_some, item_cmp, item_of, key_column, key_in, kind_at, kind_of, product, projection, rel_of, restrictions_of, rows_of, selection, serial}
pub use Rattle.sdd_lang.specs.Changes.{ChangesItems}
pub use Rattle.sdd_lang.specs.Condition.{Tuple, meets_all, part_of, value_at}
pub use Rattle.sdd_lang.specs.Effect.{Changed, change_of, effect_from, failed_effect, rows_in, with_change, with_deletes, with_updates}
pub use Rattle.sdd_lang.specs.Source.{AgreeAlong, AgreeAt, chosen_in, found_in, uses_in}
pub use Rattle.sdd_lang.specs.Update.{added, assigned, assigned_all, chosen, in_range, replaced}
pub use Rattle.sdd_lang.specs.Uses.{Interval, IsWithin, common, keys_for, larger, smaller}
pub use Rattle.sdd_lang.specs.base.Order.{admits, column, meets as meets_one, number_in, value_cmp}
pub use Rattle.sdd_lang.specs.base.declared.limits.TheConstants.{MAX_REPLY_ROWS}
pub use Rattle.sdd_lang.specs.base.declared.reply.Reply.TheVariants.{TooMany}
pub use Rattle.sdd_lang.specs.base.declared.restriction.Op.TheVariants.{Eq, Ge, Gt, Le, Lt, Ne}
pub use Rattle.sdd_lang.specs.declared.assign.Assign.{Assign}
pub use Rattle.sdd_lang.specs.declared.assign.Assign.TheVariants.{Add, To}
pub use Rattle.sdd_lang.specs.declared.condition.Condition.{Condition}
pub use Rattle.sdd_lang.specs.declared.condition.Condition.TheVariants.{Const, Same}
pub use Rattle.sdd_lang.specs.declared.condition.Ref.{Ref}
pub use Rattle.sdd_lang.specs.declared.effect.Effect.{Effect}
pub use Rattle.sdd_lang.specs.declared.statement.Stmt.{Stmt}
pub use Rattle.sdd_lang.specs.declared.statement.Stmt.TheVariants.{Delete, Put, Query, Update}
pub use Rattle.sdd_lang.specs.declared.transaction.Txn.{Txn}
pub use Rattle.sdd_laws.proofs.Changes.{Untouched, changed_at, some_change, untouched_at}
pub use Rattle.sdd_laws.proofs.LookUps.{at_entry, entry_at, put_in, same_key, same_members, test_own}
pub use Rattle.sdd_laws.proofs.Members.{Contains-filter, Contains-flat_map, Contains-from_filter, Contains-from_flat_map, Contains-from_map, Contains-map, all_have, each_has, is_in}
pub use Rattle.sdd_laws.proofs.links.Members.{member_passes, passes_member}
pub use Rattle.sdd_laws.proofs.links.Paths.{path_join}
pub use Rattle.sdd_laws.proofs.links.Ready.{ready_for}
pub use Rattle.sdd_laws.proofs.links.Taken.{IsAlongBy, taken_along, taken_is, taken_whole}
pub use Rattle.sdd_laws.specs.Values.{row_at}
pub use Rattle.sdd_laws.specs.links.Paths.{IsOrderly, IsPath}
pub use Rattle.sdd_laws.specs.links.Taken.{taken}
pub use Rattle.sdd_robust_laws.specs.Accesses.{accesses, are_apart, are_of_one_row, assigned_column, changes_for, changes_with, column_of_part, columns_meet, columns_read, condition_columns, conflict, is_equality, is_key_equality, is_one_key, keys_of_part, may_delete, meets, named_columns, over_keys, part_accesses, read_part, reads_from, rows_meet, statement_accesses, stays, updates_one_row}
pub use Rattle.sdd_robust_laws.specs.Runs.{FirstWins, InTurn, IsCounterexample, IsSnapshotRun, change_one_item, ended_since, succeeds}
pub use Rattle.sdd_robust_laws.specs.Shown.{AreLinked, IsBeside, IsDangerous, IsShownRobust}
pub use Rattle.sdd_robust_laws.specs.Theorems.{IsWorkload, ShownIsRobust}
pub use Rattle.sdd_robust_laws.specs.declared.access.Access.{Access}
pub use Rattle.sdd_snapshot_replay.proofs.Begun.{Before, Rises, before_of, ends_rise}
pub use Rattle.sdd_snapshot_replay.proofs.Listed.{is_member, member_is}
pub use Rattle.sdd_snapshot_replay.proofs.Sessions.{differ, other_time, times, with_head}
pub use Rattle.sdd_snapshot_replay.specs.Logs.{HasSessions, Log, SeesSnapshots, begin_of, begun, database, end_of, ended}
pub use Rattle.sdd_snapshot_replay.specs.Logs.Step.{begins, ends}
pub use Rattle.sdd_snapshot_replay.specs.Replays.{EachOnce, IsReplay}
pub use Rattle.std.proofs.Common.{All, Bool, Contains, List, None, Option, Some, [], ap, arith, cond, eq-eqb, eqb-true, false, filter, flat_map, fold, get_or-set_other, if◌then◌else◌, inl, inr, int_cmp, is_eq, is_some, length, lt-ltb, ltb-false, ltb-true, map, nat_lt, ne_eqb, not, pos, refl, slice_index_or as get_or, slice_set, subst, suc, sym, true, zero, ℕ, ℤ, ◌&&◌, ◌++◌, ◌+◌, ◌-◌, ◌<◌, ◌==◌, ◌||◌, ◌∙◌, ◌∷◌, ◌≡◌, ◌≢◌, ◌≤ℤ◌, ◌≤◌, ◌⊎◌}
pub use Rattle.std.proofs.lemmas.Bool.{and_from, and_parts, cases_Bool, cases_lt, eqb-false, false≢true, not-true, or_cases, or_left, or_right}
pub use Rattle.std.proofs.lemmas.Cmp.{int_cmp_total, tied_itself}
pub use Rattle.std.proofs.lemmas.Int.{ints}
pub use Rattle.std.proofs.lemmas.List.{get_or_default, length-append}
pub use Rattle.std.proofs.lemmas.List.Elements.{All-contains, Contains-append_cases, Contains-append_left, Contains-append_right, recursion_from_All}
pub use Rattle.std.specs.BTreeMap.{is_at}
pub use Rattle.std.specs.List.{AllByRecursion, cons_option, list_all, list_any}
pub use Rattle.std.specs.List.Sorted.{IsStrictlySortedBy}
pub use Rattle.std.specs.Map.{keys_of, lookup}
pub use Rattle.std.specs.Prelude.{int_le}
