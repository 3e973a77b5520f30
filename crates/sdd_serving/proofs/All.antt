-- The names of std, of the crates below and of this crate's definitions that its proofs cite. Declares nothing.
pub use Rattle.sdd_rules.proofs.shipped.Members.{Has-append, Has-filter, Has-filter_from, Has-filter_map, Has-filter_map_from, Has-flat_map, Has-flat_map_from, Has-left, Has-map, Has-map_from, Has-right}
pub use Rattle.sdd_rules.proofs.shipped.Serving.{served_effect}
pub use Rattle.sdd_rules.specs.All.{AreEnough, AreEnoughAlong, Asking, Catalogue, Condition, Database, Delete, Exchange, Fetching, FitsCondition, FitsStatement, FitsTxn, FragNo, Has, IsDatabase, IsEntry, IsRelation, IsRowOf, IsSoundCatalogue, Item, Join, Move, Msg, Over, Phase, Put, Query, Queued, Reading, Ready, Reduced, Reducing as Cutting, RelNo, Row, Rows, Serves, Shipped, Shipping, Site, Step, Stmt, Tuple, Txn, Update, Use, Values, after_hand, after_send, answered, asking_of, askings, better, chosen_for, contains, counted, counts_for, fetches, fetches_from, fewest, first_phase, first_some, found_for, fragment_at, fragment_of, fragments_for, goes_on, is_candidate, joins_from, module_read, move_at, moves, moves_by, next_move, numbers_to, on_answer, or_else, part_of, phase_ends, product, read_to, reads_at, rel_of, restrictions_of, rows_at, statement_uses, use_at, use_there, uses_from, uses_in, uses_of, with_frags, with_use, without}
pub use Rattle.sdd_laws.proofs.CopyEntries.{entries_ascend, lies_there}
pub use Rattle.sdd_laws.proofs.Gathered.{gathered_from, gathered_there}
pub use Rattle.sdd_laws.proofs.LookUps.{one_entry, sorted_cons}
pub use Rattle.sdd_laws.proofs.Members.{Contains-filter, Contains-from_filter, Contains-from_map, Contains-map}
pub use Rattle.sdd_laws.proofs.Together.{has_copy, together}
pub use Rattle.sdd_laws.proofs.base.Membership.{Contains-cases, Contains-here, Contains-later, Contains-nil}
pub use Rattle.sdd_laws.proofs.lang.Pushdown.{and_parts, parts_meet}
pub use Rattle.sdd_laws.proofs.lang.ReadSetDecides.{lies_in_use}
pub use Rattle.sdd_laws.proofs.lang.SortedEntries.{item_cmp_exact, item_cmp_total, sorted_nil}
pub use Rattle.sdd_laws.proofs.lang.Sources.{length-statement_uses}
pub use Rattle.sdd_laws.specs.All.{ArePlaced, Const, CopyRows, Dated, Frozen, Int, Ref, Same, Value, accounts, all_rows, allowed_keys, chosen, column, contents, effect, effect_over, entries_of, frag_no, is_among, is_read_at, item_cmp, key_column, meets, meets_all, meets_keys, or_nothing, part_uses, reduced, ref, rel, rows_for, rows_in_fragment, rows_of, two, txn, use_of, value_at, value_cmp, value_cmp_total, value_decides, values_in, with_keyed, with_values}
pub use Rattle.sdd_laws.specs.lang.Fits.{IsFrom1To}
pub use Rattle.sdd_serving.specs.Following.{AwaitsNoValues, Follows, Suits, stage_with}
pub use Rattle.sdd_serving.specs.Freezing.{HasCopies, asked_at, frozen_space, names_use, uses_at}
pub use Rattle.sdd_serving.specs.Reducing.{IsHeldAt, IsMoveAlong, IsMoveOf, Space, TellsAll, all_held, move_by}
pub use Rattle.sdd_serving.specs.Runs.{Runs, Stage, may_reduce}
pub use Rattle.sdd_serving.specs.Runs.Runs.{asks, begins, reduces, rests, sends, tells}
pub use Rattle.sdd_serving.specs.Runs.Stage.{Reducing, Resting, Telling}
pub use Rattle.std.proofs.Common.{Bool, Contains, Equal, Greater, Less, List, None, Option, Ordering, Some, [], ap, arith, cond, false, filter, filter_map, flat_map, fold, if◌then◌else◌, inl, inr, int_cmp, is_eq, length, map, nat_lt, pos, refl, slice_index_or, subst, suc, sym, true, zero, ℕ, ℤ, ◌&&◌, ◌++◌, ◌+◌, ◌-◌, ◌<◌, ◌==◌, ◌||◌, ◌∙◌, ◌∷◌, ◌≡◌, ◌≢◌, ◌≤◌, ◌⊎◌}
pub use Rattle.std.proofs.lemmas.Bool.{cases_Bool, or_right as either}
pub use Rattle.std.proofs.lemmas.Bool.Decides.{Decides-eqb, nat_tests}
pub use Rattle.std.proofs.lemmas.Cmp.{int_cmp_total, tied_itself}
pub use Rattle.std.proofs.lemmas.List.{get_or_default}
pub use Rattle.std.proofs.lemmas.List.Elements.{All-contains, recursion_from_All}
pub use Rattle.std.proofs.lemmas.Map.Lookups.{exact_signed}
pub use Rattle.std.specs.BTreeSet.{insert_key}
pub use Rattle.std.specs.List.{AllByRecursion, list_all}
pub use Rattle.std.specs.List.Sorted.{IsStrictlySortedBy}
pub use Rattle.std.specs.Map.{keys_of}
pub use Rattle.std.specs.Option.{option_eq}
pub use Rattle.std.specs.Ordering.{match_ordering, ordering_reverse}
