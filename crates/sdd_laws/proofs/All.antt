-- The names of std, of the crates below and of this crate's definitions that its proofs cite. Declares nothing.
pub use Rattle.sdd_acyclic.proofs.Apart.{orderly_in_eras}
pub use Rattle.sdd_acyclic.proofs.Deeds.{answer_at, facts}
pub use Rattle.sdd_acyclic.specs.Deeds.{Applies, Deeds, ErasApart, IsSeen, Starts, ZeroAlone, system}
pub use Rattle.sdd_acyclic.specs.Eras.{of_era}
pub use Rattle.sdd_acyclic.specs.Fits.{IsFragmentOf, Meets}
pub use Rattle.sdd_acyclic.specs.System.Precedes.{by_class, by_seen, by_unseen, by_writes}
pub use Rattle.sdd_acyclic.specs.Undeclared.{Declared, declared}
pub use Rattle.sdd_copy.proofs.Contents.{Above, Ascends, Keeps, items_keep, items_tell, shown}
pub use Rattle.sdd_copy.proofs.Order.{Answers, IsLatest, latest_answers, order_tells_nothing}
pub use Rattle.sdd_copy.proofs.Ranges.{both_ways as not_itself}
pub use Rattle.sdd_copy.specs.Contents.{Dated, contents, latest, of_fragment, rows_left}
pub use Rattle.sdd_copy.specs.Items.{Items, dated, entries_in}
pub use Rattle.sdd_copy.specs.Sets.{AreSame, DatesDiffer}
pub use Rattle.sdd_eras.proofs.EraSets.{IsCovered, covered, read_in_era, uses_in_era, write_set_in_era}
pub use Rattle.sdd_eras.proofs.Lists.{at_member}
pub use Rattle.sdd_eras.specs.EraOf.{IsEraOf}
pub use Rattle.sdd_graph.specs.Graph.{classes_of, fragments_of}
pub use Rattle.sdd_history.specs.Records.{History}
pub use Rattle.sdd_history.specs.declared.record.Rec.{Rec}
pub use Rattle.sdd_history.specs.declared.record.Rec.TheVariants.{Answer, Apply, Commit, Start}
pub use Rattle.sdd_lang.proofs.EffectChanges.{change_is, effect_once, effect_placed, entry_placed, lie_in_write_set}
pub use Rattle.sdd_lang.proofs.ReadSetDecides.{ascending_back, read_set_decides}
pub use Rattle.sdd_lang.proofs.Sets.{All-ascending, IsThere, read_set_there}
pub use Rattle.sdd_lang.proofs.SortedEntries.{filtered_sorted, inserted_sorted, item_cmp_exact, item_cmp_total, removed_sorted, same_entries, sorted_nil}
pub use Rattle.sdd_lang.proofs.StatementSets.{numbers_back}
pub use Rattle.sdd_lang.proofs.StaysDatabase.{no_database, stays_database, with_row_stays}
pub use Rattle.sdd_lang.proofs.base.Membership.{Contains-cases, Contains-here, Contains-later, Contains-nil}
pub use Rattle.sdd_lang.proofs.catalog.Found.{each_unfound}
pub use Rattle.sdd_lang.proofs.catalog.Members.{IsIn, at_in}
pub use Rattle.sdd_lang.proofs.catalog.RoundTrip.{each_more}
pub use Rattle.sdd_lang.proofs.catalog.Sound.{at_number, each_image, served_read, sound_fragments}
pub use Rattle.sdd_lang.proofs.catalog.Validity.{no_faults}
pub use Rattle.sdd_lang.specs.All.{Catalogue, Change, Cond, Database, DmNo, FitsTxn, FragNo, Fragment, FragmentPart, HasRow, IsChange, IsDatabase, IsEntry, IsSoundCatalogue, Item, Parts, PutsHeld, RelNo, Row, Ts, TxnNo, accounts, after_changes, ascending, changed_by, class_no, contains, database_of, dm_no, effect, frag_no, fragment_at, fragment_from, fragment_of, fragments_in, get_all, has_copy, item_cmp, item_of, lowest_copy, numbers_to, parts_of, read_set, reads_at, rel, relation_names, rows_in_fragment, serial, set_to, time_at, tm_no, two, txn, txn_no, uses_of, write_set}
pub use Rattle.sdd_lang.specs.declared.effect.Effect.{Effect}
pub use Rattle.sdd_lang.specs.declared.statement.Stmt.{Stmt}
pub use Rattle.sdd_lang.specs.declared.statement.Stmt.TheVariants.{Put}
pub use Rattle.sdd_lang.specs.declared.transaction.Txn.{Txn}
pub use Rattle.sdd_laws.specs.Agreeing.{AgreeOnFragment}
pub use Rattle.sdd_laws.specs.Answers.{KeepsAnswers}
pub use Rattle.sdd_laws.specs.Applies.{IsEarlier, KeepsApplies}
pub use Rattle.sdd_laws.specs.Committed.{Writers, all_dated, changes_of, copy_of, counts, entries_of, first_row, puts, taken}
pub use Rattle.sdd_laws.specs.Conditions.{KeepsConditions, conditions_of}
pub use Rattle.sdd_laws.specs.Copied.{AreAppliedAlike}
pub use Rattle.sdd_laws.specs.Deeds.{AppliedBefore, Asks, IsAnswered, IsApplied, IsSubmitted, Touches, TouchesOne, txn_at}
pub use Rattle.sdd_laws.specs.Deeds.Asks.{by_no_class as at_each, by_use}
pub use Rattle.sdd_laws.specs.Deeds.GoesTo.{by_change, by_no_class}
pub use Rattle.sdd_laws.specs.Eras.{AreEras, Eras, catalogue_at, eras_begun}
pub use Rattle.sdd_laws.specs.Few.{AreFew, commits_of_others, is_commit_of_other, starts_of}
pub use Rattle.sdd_laws.specs.Kept.{FitTogether, KeepsLaws}
pub use Rattle.sdd_laws.specs.Ledger.{Ledger, Reads, gathered, snapshot, with_item, writers}
pub use Rattle.sdd_laws.specs.Order.{IsAlong, IsOrder, MayComeFirst, may_come_first}
pub use Rattle.sdd_laws.specs.Order.Meets.{both_write, reads_write, writes_read}
pub use Rattle.sdd_laws.specs.Recorded.{ArePieces, AreRecorded}
pub use Rattle.sdd_laws.specs.Redeclares.{IsOfEarlierEra, KeepsEras}
pub use Rattle.sdd_laws.specs.Rejections.{IsAgain, KeepsRejections}
pub use Rattle.sdd_laws.specs.Replay.{AreAllApplied, IsReplyOf, run, texts_of}
pub use Rattle.sdd_laws.specs.Replayed.{ChangesOf, GivesResults, HasValues, IsReplayed}
pub use Rattle.sdd_laws.specs.Snapshots.{answer_place, base_of, copy_at, first_rows, is_applied, items_of}
pub use Rattle.sdd_laws.specs.Starts.{IsOfSubmit, KeepsStarts, is_start_of, starts_before}
pub use Rattle.sdd_laws.specs.Undeclared.{KeepsUndeclared}
pub use Rattle.sdd_laws.specs.Values.{ArePlaced, AreWriters, IsPlaced, IsValue, LeaveOneRow, row_at}
pub use Rattle.sdd_laws.specs.Values.IsValue.{untouched, written}
pub use Rattle.sdd_laws.specs.declared.meeting.Meeting.{Meeting}
pub use Rattle.sdd_laws.specs.declared.meeting.Meeting.TheVariants.{ReadWrite, WriteRead, Writes}
pub use Rattle.sdd_links.proofs.Before.{answer_passes, any_from, apply_passes, comes_from, in_turn, is_answered, or_cases}
pub use Rattle.sdd_links.proofs.Found.{from_committed, in_committed}
pub use Rattle.sdd_links.proofs.Members.{Contains-from_filter_map, Contains-from_map, Contains-range, member_passes, passes_member}
pub use Rattle.sdd_links.proofs.Places.{commit_of, one_of_txn, one_submitted, same_commit, same_start}
pub use Rattle.sdd_links.specs.Attempts.{Attempt, Committed, IsAttempt, IsCommitted, changes, committed, p2_time, reads}
pub use Rattle.sdd_links.specs.Numbers.{ChangeExists, ExistsIn, IsClass, IsFragment, IsModule, NumbersExist}
pub use Rattle.sdd_links.specs.Orderable.{IsOrderable}
pub use Rattle.sdd_links.specs.Paths.{IsOrderly, IsPath}
pub use Rattle.sdd_links.specs.Places.{IsRecordAt, comes_before, event_at}
pub use Rattle.sdd_links.specs.Precedence.{HasNoCycle, Precedes, is_answer, is_apply, is_earlier, is_overwritten, is_read_by, misses, module_of, precedes, was_seen}
pub use Rattle.sdd_order.specs.Orders.{IsSerial}
pub use Rattle.sdd_protocol.proofs.ConditionOn.{condition_time as asked_time}
pub use Rattle.sdd_protocol.proofs.Tables.{all_at}
pub use Rattle.sdd_protocol.specs.Conditions.{cond_of, condition_on, conditions, is_asked, undeclared_conditions}
pub use Rattle.sdd_protocol.specs.Protocols.{IsTable}
pub use Rattle.sdd_protocol.specs.declared.entry.Entry.{Entry}
pub use Rattle.std.proofs.Common.{All, Bool, Contains, Less, List, None, Option, Ordering, Some, [], ap, arith, cond, eq-eqb, eqb-true, false, filter, filter_map, find, flat_map, fold, inl, inr, int_cmp, is_eq, is_some, length, ltb-true, map, nat_eq as eqb, nat_lt, ne_eqb, not, option_map, pos, refl, rules, slice_index_or, subst, suc, sym, take, true, unwrap_or, zero, ℕ, ℤ, ◌&&◌, ◌*◌, ◌++◌, ◌+◌, ◌-◌, ◌<◌, ◌==◌, ◌||◌, ◌↔◌, ◌∙◌, ◌∷◌, ◌≡◌, ◌≢◌, ◌≤◌, ◌⊎◌}
pub use Rattle.std.proofs.lemmas.Bool.{and_from as and_of, and_parts, cases_Bool, cases_lt, eqb-false, false≢true, not-true, or_left, or_right}
pub use Rattle.std.proofs.lemmas.Bool.Decides.{Decides-eqb, nat_tests}
pub use Rattle.std.proofs.lemmas.Cmp.{eq_by_cmp_equiv, int_cmp_total, tied_itself}
pub use Rattle.std.proofs.lemmas.List.{length-map}
pub use Rattle.std.proofs.lemmas.List.Elements.{All-contains, All-from_recursion, All-nil, Contains-append_cases, Contains-append_left, Contains-append_right, recursion_from_All}
pub use Rattle.std.proofs.lemmas.Map.{lookup-remove_entry}
pub use Rattle.std.proofs.lemmas.Map.Keys.{IsDistinct-cons, IsDistinct-from_sorted, sorted_head, sorted_tail}
pub use Rattle.std.proofs.lemmas.Map.Lookups.{CmpEqualImpliesEq, exact_signed}
pub use Rattle.std.proofs.lemmas.Map.Made.{length-le_from_is_member}
pub use Rattle.std.proofs.lemmas.Map.Views.{Contains-from_lookup, lookup-from_Contains, tells_apart}
pub use Rattle.std.proofs.lemmas.Option.{same_Some, slice_get-get_or, slice_get_within}
pub use Rattle.std.specs.BTreeMap.{insert_entry, is_at}
pub use Rattle.std.specs.Cmp.{IsTotalOrder, nat_eq_equiv}
pub use Rattle.std.specs.List.{AllByRecursion, AllZip, cons_option, list_any, position_or_len}
pub use Rattle.std.specs.List.Sorted.{IsStrictlySortedBy}
pub use Rattle.std.specs.Map.{keys_of, lookup, remove_entry}
