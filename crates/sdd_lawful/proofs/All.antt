-- The names of std, of the crates below and of this crate's definitions that its proofs cite. Declares nothing.
pub use Rattle.sdd_invariants.proofs.Active.{step_way}
pub use Rattle.sdd_invariants.proofs.Again.{again, first_of_filter, is_spoilt}
pub use Rattle.sdd_invariants.proofs.Answered.{put_in_by_d}
pub use Rattle.sdd_invariants.proofs.Apart.{low_or_high}
pub use Rattle.sdd_invariants.proofs.Applied.{in_class, own_made, split_applied}
pub use Rattle.sdd_invariants.proofs.AreReadSteps.{class_at_place, d_step}
pub use Rattle.sdd_invariants.proofs.Bools.{and_left, and_right, differ, if_way, lower_same_higher, not_both, only_right, same_number, same_or_not, true_or_false}
pub use Rattle.sdd_invariants.proofs.Clocks.{stamps_differ}
pub use Rattle.sdd_invariants.proofs.Dones.{all_applied}
pub use Rattle.sdd_invariants.proofs.Exchanges.{asks_next}
pub use Rattle.sdd_invariants.proofs.Fair.{all_new, allowed_mark, d_fair, home_fair, t_fair, tail_marked, u_fair}
pub use Rattle.sdd_invariants.proofs.InOrder.{hand_was_put}
pub use Rattle.sdd_invariants.proofs.InPipe.{in_pipe, put_at_home}
pub use Rattle.sdd_invariants.proofs.Installed.{applied_below, apply_follows, apply_of_head, around_applied, class_number, commit_put_is, head_put, origin}
pub use Rattle.sdd_invariants.proofs.Lists.{any_at, at_seam, in_either, in_filtered, in_none, in_one, in_range, in_right}
pub use Rattle.sdd_invariants.proofs.Made.{local_at, own_act, permitted_before, place_of_act, place_of_hand, place_of_submit}
pub use Rattle.sdd_invariants.proofs.Once.{answered_once}
pub use Rattle.sdd_invariants.proofs.Places.{compare}
pub use Rattle.sdd_invariants.proofs.Processed.{matched, zip_at}
pub use Rattle.sdd_invariants.proofs.PutBy.{first_there, was_handed}
pub use Rattle.sdd_invariants.proofs.ReadsPut.{start_puts}
pub use Rattle.sdd_invariants.proofs.Recorded.{head_left, recorded, start_of_active, was_submitted}
pub use Rattle.sdd_invariants.proofs.Sites.{site_self, the_one}
pub use Rattle.sdd_invariants.proofs.Split.{processed_stays}
pub use Rattle.sdd_invariants.proofs.Starting.{commit_answered, one_active, says_at, t_commit, u_commit}
pub use Rattle.sdd_invariants.proofs.Undeclared.{commit_t, has_number as contains_at, zero_applied, zero_pair}
pub use Rattle.sdd_invariants.proofs.WritesPut.{goes_write}
pub use Rattle.sdd_invariants.proofs.base.Membership.{Contains-nil}
pub use Rattle.sdd_invariants.proofs.catalog.Sound.{at_number, each_in_range, found_has, served_read, sound_classes, sound_fragments, sound_whole}
pub use Rattle.sdd_invariants.proofs.lang.EffectChanges.{AreMade, effect_made, entry_placed}
pub use Rattle.sdd_invariants.proofs.lang.KeyRanges.{fragment_holds, key_in_range}
pub use Rattle.sdd_invariants.proofs.lang.Sets.{IsThere, fragments_there}
pub use Rattle.sdd_invariants.proofs.lang.SortedEntries.{each_inserted, item_cmp_exact, item_cmp_total, sorted_nil}
pub use Rattle.sdd_invariants.proofs.lang.StaysDatabase.{effect_changes, rows_make_database}
pub use Rattle.sdd_invariants.proofs.logs.EachLocal.{allowed_act}
pub use Rattle.sdd_invariants.proofs.logs.NewMarks.{lawful_permitted, left_is}
pub use Rattle.sdd_invariants.proofs.wire.Texts.{contains-true as number_member}
pub use Rattle.sdd_invariants.proofs.dm.Acted.{acted_more as applied_if}
pub use Rattle.sdd_invariants.proofs.logs.net.Lists.{get-append as in_left}
pub use Rattle.sdd_invariants.proofs.logs.tm.Lists.{get_within as place_within, of_map as in_mapped}
pub use Rattle.sdd_invariants.proofs.protocol.ConditionOn.{condition_class, condition_is}
pub use Rattle.sdd_invariants.proofs.protocol.Laws.{one_table}
pub use Rattle.sdd_invariants.specs.All.{Act, AllCommitted, AllLe, AllLt, Answer, Apply, Arrive, Ask, Attempt as Running, Bases, Catalogue, Change, Class, ClassNo, ClassView, Commit, Cond, Condition, D, Database, Delete, Did, DmNo, Does, Done, Each, Effect, Entry, Era, FitsStatement, FitsTxn, FragNo, Fragment, Hand, Handed, HasApply, History, Home, Input, IsAnswerWith, IsApplied, IsApplyOf, IsAskBy, IsBased, IsChange, IsClassHere, IsCommitRecord, IsDatabase, IsDue, IsDueAt, IsEntry, IsEra, IsFair, IsLawful, IsOf, IsOfWrite, IsPermitted, IsPlaced, IsPutAt, IsRead, IsReadStep, IsRelation, IsServedClass, IsSoundCatalogue, IsStartOf, IsStartRecord, IsStep, IsTable, IsWrite, Item, Log, Mark, May, Msg, Nothing, Null, Open, P2, P3, Pass, Protocol, Put, PutsHeld, Query, Queued, Read, Rec, Records, Redeclares, RelNo, Reply, Restriction, Row, Sends, Setting, Site, Start, Stmt, Submits, Submitted, T, Tick, TmNo, Ts, Txn, TxnNo, U, Update, Use, View, Wait, Write, act_by, act_where, active, answer_of, applied, ascending, asked_by, asked_in, asks_rows, base_of, bound, by_record, by_wait, change_of, changes_at, changes_in, changes_to, class_at, class_for, class_no, class_puts, classes_of, clock, commit_act, commit_more, cond_of, condition_on, conditions, conditions_at, contains, covers, current_era, database_of, dated, dm_no, effect, first_row, first_rows, first_send, frag_no, fragment_at, fragment_of, fragments_for, fragments_in, fragments_of, frags_asked, given_to, handed, hands, has_copy, head, head_of, history, home, home_of, in_passing, is_apply, is_asked, is_asked_of, is_at, is_committed, is_for, is_met, is_processing, is_read_at, item_cmp, items_of, judged, last_write_for, local_of, mark_due, marks, modules_asked, modules_of, next_stamp, nth_era, number_of, numbers_to, opens, or_else, or_zero, p2_of, part_uses, pipe, pipe_at, promises, puts_to, queue, reads_at, redeclares, restrictions_of, results, rows_in_fragment, rows_of, same_protocol, same_site, sends_of_act, setting_of, snapshots, snapshots_at, spoiler, spoils, stamps, start_at, start_more, start_read, start_u, starts_of, statement_uses, step_on, submits_by, submits_in, submits_of, time_at, time_of, tm_no, to_site, touches, txn_at, txn_no, u_stamp, use_of, use_there, uses_from, uses_of, view_of, waits, was_marked, with_era, with_item, write_to}
pub use Rattle.sdd_invariants.specs.logs.Permitted.{one_if}
pub use Rattle.sdd_invariants.specs.site_module.SiteLog.{Log as SiteLog}
pub use Rattle.sdd_lawful.specs.Made.{IsBefore, IsMadeAt, record_of}
pub use Rattle.sdd_lawful.specs.SoundInput.{AreErasOf, AreNumbered, HasSoundData, SubmitGiven, one_era}
pub use Rattle.sdd_laws.proofs.Acyclic.{acyclic, orderable}
pub use Rattle.sdd_laws.proofs.Applied.{applied_before as applied_till, before_applied}
pub use Rattle.sdd_laws.proofs.CatalogueAt.{era_is}
pub use Rattle.sdd_laws.proofs.CopyEntries.{entries_ascend, held_by, lies_there}
pub use Rattle.sdd_laws.proofs.Few.{are_few}
pub use Rattle.sdd_laws.proofs.Fitting.{in_ascending}
pub use Rattle.sdd_laws.proofs.Gathered.{gathered_from, gathered_sorted, gathered_there}
pub use Rattle.sdd_laws.proofs.LookUps.{one_entry, same_members}
pub use Rattle.sdd_laws.proofs.Members.{Contains-filter, Contains-flat_map, Contains-from_filter, Contains-from_flat_map, Contains-from_map, Contains-map, all_have, each_has}
pub use Rattle.sdd_laws.proofs.NumberedStarts.{one_start}
pub use Rattle.sdd_laws.proofs.Reading.{reads_there}
pub use Rattle.sdd_laws.proofs.Recorded.{from_ascending}
pub use Rattle.sdd_laws.proofs.Replayed.{gives_replies, leaves_copies}
pub use Rattle.sdd_laws.proofs.class_eras.EraSets.{covered, era_of_itself}
pub use Rattle.sdd_laws.proofs.class_eras.Lists.{first_passes}
pub use Rattle.sdd_laws.proofs.copy.Order.{order_tells_nothing}
pub use Rattle.sdd_laws.proofs.lang.Sets.{each_append as all_join, each_filtered as all_filtered, numbered as all_numbers}
pub use Rattle.sdd_laws.proofs.links.Before.{answer_passes, is_answered}
pub use Rattle.sdd_laws.proofs.links.Found.{from_committed, in_committed}
pub use Rattle.sdd_laws.proofs.links.Members.{place_of as member_at}
pub use Rattle.sdd_laws.proofs.links.Places.{commit_of, one_attempt, one_of_txn, same_start}
pub use Rattle.sdd_laws.specs.All.{AnsweredBefore, AppliedBefore, AreAllApplied, AreEras, AreFew, ArePlaced, Asks, Attempt, ChangeExists, ChangesOne, Committed, CommittedBefore, CondExists, Dated, DatesDiffer, Eras, ExistsIn, GoesTo, HasCommit, HasNoCycle, IsAgain, IsAnswered, IsAttempt, IsBound, IsClass, IsCommitted, IsConditionOf, IsEarlier, IsEraOf, IsFragment, IsFrom1To, IsModule, IsOfCommit, IsOfSubmit, IsOrderable, IsRecordAt, IsReplyOf, IsSerial, IsSubmitted, IsWhollyAfter, IsWhollyBefore, KeepsAnswers, KeepsApplies, KeepsConditions, KeepsEras, KeepsLaws, KeepsRejections, KeepsStarts, KeepsUndeclared, NamesOneOf, NumbersExist, Reject as Rejected, StartedBefore, Submit, Touches, TouchesOne, TxnsExist, UseExists, by_change, by_no_class, by_use, catalogue_at, changes, committed, conditions_of, contents, copy_at, event_at, is_answer, is_start_of, module_of, of_fragment, p2_time, reads, record_at, rows_left, run, starts_before}
pub use Rattle.std.proofs.Common.{All, Bool, Contains, List, None, Option, Some, [], ap, append-nil, append_assoc, arith, cond, eq-eqb, eqb-true, false, filter, filter_map, flat_map, fold, if◌then◌else◌, inl, inr, is_some, length, length-append, map, nat_le, nat_lt, not, option_map, refl, slice_get, slice_index_or, subst, suc, sym, take, true, unwrap_or, zero, ℕ, ℤ, ◌%◌, ◌&&◌, ◌++◌, ◌+◌, ◌-◌, ◌<◌, ◌==◌, ◌||◌, ◌∙◌, ◌∷◌, ◌≡◌, ◌≢◌, ◌≤◌, ◌⊎◌}
pub use Rattle.std.proofs.Math.Decide.{dec_le}
pub use Rattle.std.proofs.Math.Nat.{mul-add-mod_self_right}
pub use Rattle.std.proofs.Math.Seq.{take-append_seam}
pub use Rattle.std.proofs.lemmas.Bool.{or_left, or_right}
pub use Rattle.std.proofs.lemmas.List.{get_or_past}
pub use Rattle.std.proofs.lemmas.List.Elements.{All-from_recursion, Contains-append_cases, Contains-append_left, Contains-append_right, filter-append, recursion_from_All}
pub use Rattle.std.proofs.lemmas.Option.{get_or_from_slice_get}
pub use Rattle.std.specs.List.{AllByRecursion, AllZip, cons_option, list_all, list_any, position_or_len, range_with_len}
pub use Rattle.std.specs.List.Sorted.{IsStrictlySortedBy}
pub use Rattle.std.specs.Map.{keys_of}
pub use Rattle.std.specs.Option.{option_eq}
