-- The names of std, of the crates below and of this crate's definitions that its proofs cite. Declares nothing.
pub use Rattle.sdd_blocks.proofs.Bridges.{cycle_joined_ends}
pub use Rattle.sdd_blocks.proofs.Linked.{linked_second as linked_on}
pub use Rattle.sdd_blocks.specs.Blocks.{AreBlocks, OnACycle}
pub use Rattle.sdd_blocks.specs.Blocks.Linked.{last}
pub use Rattle.sdd_blocks.specs.Graph.{Has, IsSimpleCycle, IsWalk, Step, edges_of}
pub use Rattle.sdd_history_examples.specs.Catalogues.{both_classes, bridge, crossing, named, one_class, one_era, one_reader, one_writer, second_class_list, two_eras}
pub use Rattle.sdd_history_examples.specs.Histories.{one_after_other, redeclares, runs_alone}
pub use Rattle.sdd_history_examples.specs.Keeping.{AreSound, BreaksConditions, KeepsAll, KeepsOthers}
pub use Rattle.sdd_history_examples.specs.Tables.{table_of_bridge, table_of_crossing, table_of_one, table_of_one_reader, table_of_two}
pub use Rattle.sdd_history_examples.specs.Texts.{all_rows, given_to, put_and_query, put_row, put_then_query, query_and_put, rows_of_two, two_of_both, two_of_one_class, two_puts_and_query, undeclared_between, values_by}
pub use Rattle.sdd_laws.proofs.Applied.{applied_before, before_applied, passes_before}
pub use Rattle.sdd_laws.proofs.Members.{each_has}
pub use Rattle.sdd_laws.proofs.NumberedStarts.{one_start}
pub use Rattle.sdd_laws.proofs.Precedes.{changes_member}
pub use Rattle.sdd_laws.proofs.base.Membership.{Contains-cases, Contains-here, Contains-nil}
pub use Rattle.sdd_laws.proofs.class_eras.EraSets.{era_of_itself}
pub use Rattle.sdd_laws.proofs.class_eras.Lists.{at_member, each_passes}
pub use Rattle.sdd_laws.proofs.links.Before.{is_answered, or_cases}
pub use Rattle.sdd_laws.proofs.links.Found.{at_place, from_attempts, from_committed, in_attempts, in_committed}
pub use Rattle.sdd_laws.proofs.links.Members.{Contains-filter_map, Contains-range, member_passes, passes_member}
pub use Rattle.sdd_laws.proofs.links.Places.{commit_of}
pub use Rattle.sdd_laws.proofs.protocol.Laws.{one_table}
pub use Rattle.sdd_laws.specs.All.{Answer, AnsweredBefore, AppliedBefore, Apply, AreEras, AreFragments, Arrive, Asks, Attempt, Catalogue, Change, ChangeExists, Class, Commit, Committed, CommittedBefore, Cond, CondExists, DmNo, Entry, Eras, ExistsIn, FitTogether, FitsStart, FitsStatement, FitsTxn, FragNo, Ge, GoesTo, HasCommit, HasSets, History, IsAgain, IsAnswered, IsApplied, IsAttempt, IsBound, IsCommitted, IsConditionOf, IsEarlier, IsEraOf, IsOfCommit, IsOfEarlierEra, IsOfSubmit, IsRecordAt, IsSoundCatalogue, IsSubmitted, IsTable, IsWhollyAfter, IsWhollyBefore, KeepsAnswers, KeepsApplies, KeepsConditions, KeepsEras, KeepsRejections, KeepsStarts, KeepsUndeclared, Le, NamesOneOf, Nothing, Op, Pass, Rec, Reject, RelNo, Row, Rows, Start, StartedBefore, Stmt, Submit, Touches, TouchesOne, Ts, Txn, Use, UseExists, Wait, attempts, base_of, catalogue_at, class_at, class_for, class_no, committed, conditions_of, contains, dm_no, effect, eras_begun, event_at, frag_no, fragment_at, fragments_in, has_copy, high_keys, is_answer, is_applied, is_from_1_to, low_keys, misses_both, numbers_to, p2_time, placed, protocol_in, put, reads_at, reads_before, rel_no, row_of, starts_again, starts_before, time_at, txn_at, txn_no, waits_at_two, waits_for_other, with_classes}
pub use Rattle.sdd_laws.specs.Deeds.Asks.{by_use}
pub use Rattle.sdd_laws.specs.Deeds.GoesTo.{by_change, by_no_class}
pub use Rattle.sdd_laws.specs.lang.Fits.{IsFrom1To}
pub use Rattle.std.proofs.Common.{All, Bool, Contains, List, None, Option, Some, [], ap, arith, cond, eq-eqb, eqb-true, false, filter_map, inl, inr, is_some, le-leb, leb-true, length, lit<, lit≤, lt-ltb, ltb-true, map, nat_le, nat_lt, ne_eqb, not, option_map, refl, slice_get, subst, suc, sym, take, true, unwrap_or, zero, ℕ, ◌%◌, ◌&&◌, ◌<◌, ◌==◌, ◌||◌, ◌∙◌, ◌∷◌, ◌≡◌, ◌≢◌, ◌≤◌, ◌⊎◌}
pub use Rattle.std.proofs.lemmas.Bool.{and_from, and_parts, cases_lt, false≢true, not-true, or_left, or_right}
pub use Rattle.std.proofs.lemmas.List.Elements.{All-from_recursion}
pub use Rattle.std.proofs.lemmas.Option.{same_Some, some_pair_parts}
pub use Rattle.std.specs.List.{AllByRecursion, list_all, list_any}
