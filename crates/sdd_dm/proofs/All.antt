-- The names of std, of the crates below and of this crate's definitions that its proofs cite. Declares nothing.
pub use Rattle.sdd_conditions.specs.Conditions.{is_at_least, is_met_in, spoiler, spoils_in, unmet}
pub use Rattle.sdd_copy.proofs.Contents.{is_own}
pub use Rattle.sdd_copy.proofs.Represented.{here_all, here_applied, here_more, represent_all, represent_applied, represent_same}
pub use Rattle.sdd_copy.proofs.Uses.{frozen_is_held, held_for}
pub use Rattle.sdd_copy.specs.Contents.{Dated, contents}
pub use Rattle.sdd_copy.specs.Copies.{AreHere, Held, Represent, changed_at, is_here, rows_at, with_change}
pub use Rattle.sdd_copy.specs.Frozen.{Frozen, counts_of, frozen_for, values_in}
pub use Rattle.sdd_copy.specs.Items.{Items}
pub use Rattle.sdd_copy.specs.Sets.{AreSame, DatesDiffer}
pub use Rattle.sdd_dm.specs.Heads.{first_step, head_at, holds_in, judge_in, judged_in, of_class, step_at, step_by, waits_at}
pub use Rattle.sdd_dm.specs.Ranks.{IsLowest, rank_of_act}
pub use Rattle.sdd_dm.specs.Represents.{EachHanded, HasCopies, Represents, Shows, ShowsClass, Worked, all_dated, written}
pub use Rattle.sdd_dm.specs.Starts.{lent, own_rows, with_own}
pub use Rattle.sdd_dm.specs.State.{State, act_in, class_of_pipe, frozen_now, frozen_of, head_taken, notes_after, notes_handed, state_after, state_handed, stepped, steps_in, steps_left, with_out}
pub use Rattle.sdd_dm.specs.Waiting.{first_unmet, waiting_in}
pub use Rattle.sdd_module.proofs.Does.{all_noted, does_reached, reached_more}
pub use Rattle.sdd_module.proofs.Finding.{flat_map-map, found_at, map_twice, one_of}
pub use Rattle.sdd_module.proofs.Making.{made_nothing, made_one}
pub use Rattle.sdd_module.proofs.base.Membership.{Contains-cases, Contains-here, Contains-later, Contains-nil}
pub use Rattle.sdd_module.proofs.catalog.Covering.{not_at_most}
pub use Rattle.sdd_module.proofs.catalog.FragmentOf.{IsHolder, holder_of_key, one_holder, table_cover}
pub use Rattle.sdd_module.proofs.lang.KeyRanges.{fragment_holds, key_in_range, at_most}
pub use Rattle.sdd_module.proofs.lang.SortedEntries.{inserted_sorted, item_cmp_exact, item_cmp_total, sorted_nil}
pub use Rattle.sdd_module.specs.All.{Act, Answer, Apply, Arrive, Bases, Catalogue, Change, ClassNo, Cond, D, Database, Did, DmNo, Does, Done, Entry, Fetch, FragNo, Handed, IsDatabase, IsEntry, IsSoundCatalogue, Item, Kept, Log, Msg, Notes, Null, Pass, Reached, Read, Ready, Rec, Records, Reduce, Reduced, RelNo, Row, Rows, Sends, Setting, Ship, Site, T, Ts, TxnNo, U, Use, Value, Values, Write, contains, database_of, first_some, fragment_at, fragment_of, goes_through, hands, has_copy, head_of, item_cmp, key_in, nothing_noted, or_else, with_row, with_sends}
pub use Rattle.sdd_module.specs.catalog.Catalogue.{HoldsKey, IsOf, holds_key, parts_of}
pub use Rattle.sdd_module.specs.catalog.Cover.{Cover, IsNumberFor, ranges_for}
pub use Rattle.sdd_module.specs.catalog.Rules.{greatest_key, least_key}
pub use Rattle.sdd_module.specs.catalog.declared.ranges.KeyRange.{KeyRange}
pub use Rattle.sdd_module.specs.lang.Uses.{IsWithin, all_keys}
pub use Rattle.sdd_pipe.proofs.Digests.{is_empty_digest, is_put, is_taken, last_write_is, passed_is}
pub use Rattle.sdd_pipe.proofs.Updates.{length-update, set_is_update, update_past}
pub use Rattle.sdd_pipe.specs.Digest.{Digest, IsDigest, empty_digest, put_digest, take_digest}
pub use Rattle.sdd_pipe.specs.Pipe.{empty_pipe, head}
pub use Rattle.sdd_pipe.specs.Pipes.{pipe_at, update}
pub use Rattle.sdd_rules.proofs.dm.ByClass.{any_class, any_map, any_range, at_classes, at_other, at_own, by_class, filter_same, first_map, first_none, first_range, found_first, number_is, only_class, other_number, past, past_range, same_number}
pub use Rattle.sdd_rules.proofs.dm.Prefix.{all_handed, all_there}
pub use Rattle.sdd_rules.proofs.dm.ViewSteps.{dated_is}
pub use Rattle.sdd_rules.specs.declared.step.Step.TheVariants.{Processes, Refuses, Waits}
pub use Rattle.sdd_rules.specs.declared.step.Step.{Step}
pub use Rattle.sdd_rules.specs.dm.Copies.{all_held, applied, changes_in, classes_of, dated, first_row, first_rows, frozen, frozen_at, frozen_handed, given_up, is_answer, is_apply, reduced_at, rows_held}
pub use Rattle.sdd_rules.specs.dm.Due.{IsDue, act_by, act_where, answer_of, answer_to, ask_for, by_head, by_open, done_for, due, head_due, head_step, is_met, judge, judged, next, open_due, spoils}
pub use Rattle.sdd_rules.specs.dm.Fits.{Ascend, IsHere, fits, with_time, write_time_of, write_times}
pub use Rattle.sdd_rules.specs.dm.Opens.{Open, is_asked_of, opens}
pub use Rattle.sdd_rules.specs.dm.Pipes.{is_processing, is_wait, pipe, waits}
pub use Rattle.sdd_rules.specs.dm.Views.{ClassView, Home, View, after, at_class, class_after, class_view, dated_in, home_of, source_of, view_of}
pub use Rattle.sdd_rules.specs.dm.Waiting.{IsAwaited, conds_of}
pub use Rattle.std.proofs.Common.{All, Bool, Bor, Contains, Equal, Greater, IsTrue, Less, List, None, OnOk, Option, Ordering, Result, SFits as FitsSigned, Some, [], ap, append-nil, append_assoc, arith, cond, drop, false, filter, find, flat_map, fold, if◌then◌else◌, inl, inr, int_cmp, is_eq, is_some, length, map, nat_cmp, not, option_map, refl, replicate, rules, slice_get, slice_index_or, subst, suc, sym, take, take_all, to_z-of_z, true, w64, zero, ℕ, ℤ, ◌&&◌, ◌++◌, ◌+◌, ◌-◌, ◌<◌, ◌==◌, ◌||◌, ◌∙◌, ◌∷◌, ◌≡◌, ◌≢◌, ◌≤◌, ◌⊎◌, IfSome, int_le, pos, ◌≤ℤ◌}
pub use Rattle.std.proofs.lemmas.Bool.Decides.{nat_tests}
pub use Rattle.std.proofs.lemmas.Bool.{cases_lt}
pub use Rattle.std.proofs.lemmas.Int.{ints}
pub use Rattle.std.proofs.lemmas.List.Elements.{All-contains, All-filter, All-head, All-tail, Contains-append_cases, Contains-append_left, Contains-append_right}
pub use Rattle.std.proofs.lemmas.List.{get_or_default, length-replicate}
pub use Rattle.std.proofs.lemmas.Map.Keys.{IsDistinct-from_sorted, IsDistinct-head, IsDistinct-tail, sorted_head, sorted_tail}
pub use Rattle.std.proofs.lemmas.Map.Lookups.{CmpEqualImpliesEq}
pub use Rattle.std.specs.BTreeMap.{insert_entry}
pub use Rattle.std.specs.Cmp.{IsTotalOrder}
pub use Rattle.std.specs.List.Sorted.{IsStrictlySortedBy}
pub use Rattle.std.specs.List.{AllByRecursion, IsDistinct, list_all, list_any, range_with_len}
pub use Rattle.std.specs.Map.{keys_of}
pub use Rattle.std.specs.Ordering.{eq_by_cmp, match_ordering, ordering_then}
