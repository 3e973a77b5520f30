-- The names of std, of the crates below and of this crate's definitions that its proofs cite. Declares nothing.
pub use Rattle.sdd_history_examples.proofs.Sound.{sound_crossing}
pub use Rattle.sdd_history_examples.proofs.Texts.{one_fits, put_fits, values_fit}
pub use Rattle.sdd_history_examples.proofs.WorkedTables.{is_crossing}
pub use Rattle.sdd_history_examples.specs.Catalogues.{crossing}
pub use Rattle.sdd_lawful.proofs.Answered.{read_of_some}
pub use Rattle.sdd_lawful.proofs.Applied.{HasResult, IsDataIn, applied_before, data_in, result_in}
pub use Rattle.sdd_lawful.proofs.Applies.{keeps_applies}
pub use Rattle.sdd_lawful.proofs.Asks.{contains_either}
pub use Rattle.sdd_lawful.proofs.Classes.{further_back, home_by, home_setting, submit_local}
pub use Rattle.sdd_lawful.proofs.Commits.{CommitContent, commit_rec}
pub use Rattle.sdd_lawful.proofs.Committed.{commit_of_log, committed_in, one_place}
pub use Rattle.sdd_lawful.proofs.Effects.{keeps_answers}
pub use Rattle.sdd_lawful.proofs.Homes.{home_small, positive, served}
pub use Rattle.sdd_lawful.proofs.Locals.{commit_act_in, committed_here, committed_later, submitted_in}
pub use Rattle.sdd_lawful.proofs.Named.{numbers_exist, txns_exist}
pub use Rattle.sdd_lawful.proofs.Numbered.{lawful_numbered}
pub use Rattle.sdd_lawful.proofs.OneEra.{of_one_era}
pub use Rattle.sdd_lawful.proofs.Places.{event_there, history_grows, recorded_there}
pub use Rattle.sdd_lawful.proofs.Rejected.{rejecting, spoilt_by, touched_one}
pub use Rattle.sdd_lawful.proofs.Rejections.{keeps_rejections, read_condition}
pub use Rattle.sdd_lawful.proofs.SameCopies.{same_copy}
pub use Rattle.sdd_lawful.proofs.Started.{act_local, one_start_class, start_act_of, start_in}
pub use Rattle.sdd_lawful.proofs.Starts.{covers_home, for_class, keeps_starts, start_within}
pub use Rattle.sdd_lawful.proofs.Submissions.{IsSubmitIn, given_at, submit_in}
pub use Rattle.sdd_lawful.proofs.Together.{copies, few, has_order, keeps_laws, no_cycle, undeclared}
pub use Rattle.sdd_lawful.proofs.Touched.{copy_module, goes_module, goes_some, touches_some}
pub use Rattle.sdd_lawful.specs.Made.{IsMadeAt, record_of}
pub use Rattle.sdd_lawful.specs.SoundInput.{AreErasOf, AreNumbered, HasSoundData, IsSoundInput, SubmitGiven, one_era}
pub use Rattle.sdd_obligations.proofs.AtTurn.{IsAtTurn, answered_last, apart, awaited, awaits, unsent}
pub use Rattle.sdd_obligations.proofs.DataSteps.{IsDataStep, answers_read, applies, arrives, data_step, passes, refuses_read, replies, waits_for}
pub use Rattle.sdd_obligations.proofs.DonesFit.{done_fits}
pub use Rattle.sdd_obligations.proofs.ExchangesGoByTurns.{spoken}
pub use Rattle.sdd_obligations.proofs.FirstSends.{IsFirstEach}
pub use Rattle.sdd_obligations.proofs.Halves.{data_turns, home_turns, read_time}
pub use Rattle.sdd_obligations.proofs.HandedAnswersKeepTurns.{AtTurn, InTurn, IsTimely, answers_asked, is_awaited}
pub use Rattle.sdd_obligations.proofs.HoldsFit.{at_place, chain_at}
pub use Rattle.sdd_obligations.proofs.Linking.{lawful_part as lawful_end}
pub use Rattle.sdd_obligations.proofs.Modules.{firsts, sent_to_each, to_module}
pub use Rattle.sdd_obligations.proofs.Near.{AllNear, HasNear, IsNear, IsNearBy, active_near, modules_near}
pub use Rattle.sdd_obligations.proofs.NoRejects.{u_not_rejected}
pub use Rattle.sdd_obligations.proofs.QuestionsComeInTurn.{in_turn, strict_asked}
pub use Rattle.sdd_obligations.proofs.Replying.{HasTurn, asker, asks_open, from_site}
pub use Rattle.sdd_obligations.proofs.SitesAndLinks.{site_there}
pub use Rattle.sdd_obligations.proofs.Sources.{home_first, source_is_home}
pub use Rattle.sdd_obligations.proofs.Starts.{small_home}
pub use Rattle.sdd_obligations.proofs.Sums.{range_at}
pub use Rattle.sdd_obligations.proofs.Texts.{active_so, submitted_fit}
pub use Rattle.sdd_obligations.proofs.attempt.Work.{chosen_by as chosen}
pub use Rattle.sdd_obligations.proofs.base.Membership.{Contains-here}
pub use Rattle.sdd_obligations.proofs.catalog.Sound.{sound_whole}
pub use Rattle.sdd_obligations.proofs.class_eras.EraSets.{covered}
pub use Rattle.sdd_obligations.proofs.graph.Known.{edges_known}
pub use Rattle.sdd_obligations.proofs.graph.Tables.{each_to}
pub use Rattle.sdd_obligations.proofs.invariants.Active.{each_at}
pub use Rattle.sdd_obligations.proofs.invariants.Again.{first_of_filter, stamp_ticks}
pub use Rattle.sdd_obligations.proofs.invariants.Answered.{from_a_d, put_in_by_d, read_of}
pub use Rattle.sdd_obligations.proofs.invariants.Apart.{low_or_high}
pub use Rattle.sdd_obligations.proofs.invariants.Applied.{in_class, one_of_key, own_made, reads_strict}
pub use Rattle.sdd_obligations.proofs.invariants.AreReadSteps.{class_at_place, class_in_view, d_step}
pub use Rattle.sdd_obligations.proofs.invariants.Bools.{and_left, and_right, differ, if_way, none_not_some, not_both, not_zero, same_number, same_or_not, true_or_false}
pub use Rattle.sdd_obligations.proofs.invariants.ClassOrder.{class_rises, ge_at as least_at, head_place}
pub use Rattle.sdd_obligations.proofs.invariants.Clocks.{bound_below_next, bound_rises, clock_grows, clock_rises, limit_le}
pub use Rattle.sdd_obligations.proofs.invariants.Dones.{all_applied, dones_few}
pub use Rattle.sdd_obligations.proofs.invariants.Exchanges.{asks_next, never}
pub use Rattle.sdd_obligations.proofs.invariants.Fair.{all_new, d_fair, home_fair, u_fair}
pub use Rattle.sdd_obligations.proofs.invariants.HoldChain.{from_u, handed_helds, handed_holds, t_table, u_table}
pub use Rattle.sdd_obligations.proofs.invariants.Holding.{t_helds}
pub use Rattle.sdd_obligations.proofs.invariants.InOrder.{hand_was_put, in_order}
pub use Rattle.sdd_obligations.proofs.invariants.InPipe.{in_pipe_later, pipe_is}
pub use Rattle.sdd_obligations.proofs.invariants.Installed.{class_number, commit_put, head_put, write_origin}
pub use Rattle.sdd_obligations.proofs.invariants.Lists.{all_at, any_at, at_seam, in_either, in_filtered, in_none, in_one, in_range, in_right, member_there}
pub use Rattle.sdd_obligations.proofs.invariants.Made.{local_at, local_grows, permitted_before, place_of_act, place_of_hand}
pub use Rattle.sdd_obligations.proofs.invariants.Once.{answered_there, processed_grows}
pub use Rattle.sdd_obligations.proofs.invariants.Origins.{is_put}
pub use Rattle.sdd_obligations.proofs.invariants.Processed.{matched, zip_at}
pub use Rattle.sdd_obligations.proofs.invariants.Queues.{queue_is}
pub use Rattle.sdd_obligations.proofs.invariants.Recorded.{start_of_active}
pub use Rattle.sdd_obligations.proofs.invariants.Releases.{one_if_le, served_by as hand_ts}
pub use Rattle.sdd_obligations.proofs.invariants.Retried.{was_rejected}
pub use Rattle.sdd_obligations.proofs.invariants.Sent.{sent_is}
pub use Rattle.sdd_obligations.proofs.invariants.Serving.{chain, hand_counts, is_tried, u_due, u_way, zero_head}
pub use Rattle.sdd_obligations.proofs.invariants.Sites.{site_is, site_self}
pub use Rattle.sdd_obligations.proofs.invariants.Split.{le_is, processed_stays}
pub use Rattle.sdd_obligations.proofs.invariants.Turns.{balance, tally_append}
pub use Rattle.sdd_obligations.proofs.invariants.Undeclared.{Part, answered_before, commit_t, has_cond, part_join, part_of, permitted_part, read_classes}
pub use Rattle.sdd_obligations.proofs.invariants.logs.Rounding.{cons_empty as cons_none}
pub use Rattle.sdd_obligations.proofs.invariants.logs.Steps.{none_does as does_none, none_in}
pub use Rattle.sdd_obligations.proofs.invariants.logs.net.Lists.{get-append as in_left}
pub use Rattle.sdd_obligations.proofs.invariants.logs.tm.Lists.{get_map as at_map, get_within as place_within, of_map as in_mapped}
pub use Rattle.sdd_obligations.proofs.invariants.logs.umod.Lists.{or_nothing as or_none}
pub use Rattle.sdd_obligations.proofs.lang.SortedEntries.{sorted_nil}
pub use Rattle.sdd_obligations.proofs.laws.NumberedStarts.{one_start, start_counts}
pub use Rattle.sdd_obligations.proofs.laws.Times.{condition_time}
pub use Rattle.sdd_obligations.proofs.links.Members.{Contains-from_filter_map, Contains-from_map, Contains-map}
pub use Rattle.sdd_obligations.proofs.links.Places.{same_commit, same_start}
pub use Rattle.sdd_obligations.proofs.logs.AsLists.{next_mark_is}
pub use Rattle.sdd_obligations.proofs.logs.Completing.{complete_parts}
pub use Rattle.sdd_obligations.proofs.logs.EachLocal.{allowed_act, each_local}
pub use Rattle.sdd_obligations.proofs.logs.FirstHand.{none_to_hand, one_on}
pub use Rattle.sdd_obligations.proofs.logs.NewMarks.{lawful_permitted}
pub use Rattle.sdd_obligations.proofs.needs.Done.{AreDone, count_join, done, down_join, listed_first, settles_turn}
pub use Rattle.sdd_obligations.proofs.needs.OfNext.{IsThere}
pub use Rattle.sdd_obligations.proofs.net.Directions.{link_parts}
pub use Rattle.sdd_obligations.proofs.net.Sound.{sound}
pub use Rattle.sdd_obligations.proofs.protocol.ConditionOn.{condition_class, condition_is}
pub use Rattle.sdd_obligations.proofs.site_module.Finding.{found_at}
pub use Rattle.sdd_obligations.proofs.tm.OpenAsks.{open_did, open_handed}
pub use Rattle.sdd_obligations.proofs.umod.Counts.{commits_same as hand_commits}
pub use Rattle.sdd_obligations.specs.All.{Act, AllFewTicks, AllZero, Answer, AppliedBefore, Apply, AreAllApplied, AreFew, AreOpen, AreSubmittedOnce, Ask, Asking, Asks, Attempt, Bases, Catalogue, Change, ClassNo, ClassView, Commit, Committed, Cond, Condition, Const, D, Diagonal, Did, DmNo, Does, Done, Each, Edge, Entry, Eras, Event, Exchange, Fetching, FitsCondition, FitsInput, FitsQuery, FitsStatement, FitsText, FragNo, GoesTo, Hand, Handed, HasAnswer, HasCommit, HasNoCycle, Held, History, Hold, Input, IsAgain, IsApplied, IsAttempt, IsChain, IsClass, IsCommitT, IsCommitted, IsConditionOf, IsDueEach, IsEdgeOf, IsEraOf, IsFair, IsFairT, IsFairU, IsHigh, IsLawful, IsModule, IsModuleOf, IsOf, IsOfEarlierEra, IsOfWrite, IsOrderable, IsPermitted, IsPutAt, IsRecordAt, IsRejectBy, IsRising, IsSerial, IsSoundCatalogue, IsStepU, IsSubmitted, IsTable, IsWhole, KeepsApplies, KeepsEras, KeepsLaws, KeepsRejections, KeepsStarts, KeepsUndeclared, Log, MAX_TXNS, Mark, Move, Msg, NamesOneOf, Notes, Nothing, Null, Open, Over, P2, P3, Phase, Protocol, Query, Question, Queued, Read, Ready, Rec, Records, Redeclare, Redeclared, Redeclares, Reduced, Reject, RelNo, Release, Replies, Reply, Rests, Rise, Row, Rows, Same, Sends, Setting, Settle, Shipping, Site, Start, StartedBefore, StartedHead, Step, Stmt, Submit as Submitting, Submits, Submitted, T, Ticked, TmNo, Ts, Turn, Txn, TxnNo, TxnsExist, U, Up, Use, Values, View, Write, active, active_after, active_handed, active_sent, after_hand, all_links, all_of, answered, answers_hand, are_linked, ascending, ask_for, asked_by, asked_in, askings, asks, asks_handed, asks_rows, attempt_due, attempt_of, attempts, base_of, bound, bound_at, bound_of, by_ask, by_event, by_mark, calls_of, changes_to, class_at, class_for, class_in, class_no, class_puts, clock, commit_act, commits_of_others, cond_of, condition_on, conditions, conditions_of, conflict_graph, contains, contents, count_of, counted, counts, counts_for, dated, dm_no, dones_of, eras_begun, event_at, fetches, fetches_from, fewest, first_send, first_some, flight, frag_no, fragments_in, fragments_of, goes_on, goes_through, greatest_bound, hand_due, hand_on, handed, hands, hands_from, has_copy, head, head_of, history, holds, holds_back, home, home_of, is_a_held, is_a_hold, is_a_release, is_answer, is_asked, is_asked_of, is_candidate, is_commit_of_other, is_committed, is_done_of, is_down, is_down_after, is_empty, is_link, is_met, is_over, is_question, is_quiet_link, is_read, is_site, is_start_of, item_cmp, items_of, joins_from, last_served, left, limit_of, link, link_of, links, local_of, mark_due, mark_from, mark_of, marks, modules_asked, move_at, moves_by, next, next_at, next_in, next_mark, next_move, note_if, nth_era, null_at, null_due, null_time, null_to, number_of, numbers_to, on_answer, open_due, opens, or_else, p2_time, passed, phase_ends, pipe, pipe_at, placed, puts_to, queue, queued, quiet, read_at, reads_asked, redeclares, redeclares_in, reduces, rejects, results, round, row_of, rows_asked, rows_at, rows_in_fragment, run, runs, same_site, sends_of_act, sent, setting_of, ships, site_due, sites, source_of, spoils, start_at, start_of, start_read, starts, starts_before, starts_of, submits_by, submits_in, submits_of, takes_part, tally, time_at, time_of, tm_no, to_site, touches, tried, ts_of, turn_at, turn_with, txn_no, u_stamp, undeclared_conditions, uses_at, uses_in, uses_of, view_of, waits, with_event, with_use, with_values}
pub use Rattle.sdd_obligations.specs.dm.Copies.{classes_of}
pub use Rattle.sdd_obligations.specs.dm.Views.{class_view}
pub use Rattle.sdd_obligations.specs.history.declared.record.Rec.TheVariants.{Submit}
pub use Rattle.sdd_obligations.specs.invariants.Turns.{one_if}
pub use Rattle.sdd_obligations.specs.laws.Eras.{catalogue_at}
pub use Rattle.sdd_obligations.specs.tm.Due.{IsDue, by_exchange, by_hold, by_start}
pub use Rattle.sdd_outage.specs.Needs.Needs.{attempts as attempts_need, holds as held_needs, queues as queued_needs, reads_at as read_needs, runs_at as home_needs, waits as waits_need}
pub use Rattle.sdd_outage.specs.Needs.{Needs}
pub use Rattle.sdd_outage.specs.Tasks.{attempt as attempt_task, passing as passing_task}
pub use Rattle.sdd_outage.specs.Waiting.{asks as asks_by, is_wait, waits_for as waits_by}
pub use Rattle.sdd_progress.proofs.Descent.{none_waits}
pub use Rattle.sdd_progress.proofs.FewClasses.{member_is}
pub use Rattle.sdd_progress.proofs.FromTable.{conditions_at_put}
pub use Rattle.sdd_progress.proofs.ListedDiagonals.{diagonals_listed}
pub use Rattle.sdd_progress.proofs.Marked.{next_is_of_events}
pub use Rattle.sdd_progress.proofs.Passing.{head_below, passed_lasts, reached_is_passed}
pub use Rattle.sdd_progress.proofs.QuietAfter.{quiet_at_last}
pub use Rattle.sdd_progress.proofs.StuckHeads.{head_stuck}
pub use Rattle.sdd_progress.proofs.TableFits.{table_fits}
pub use Rattle.sdd_progress.proofs.WaitExamples.{later_permitted, query_is_next, writer_is_sound}
pub use Rattle.sdd_progress.proofs.Waited.{since}
pub use Rattle.sdd_progress.proofs.WorkedLogs.{made_lawful as extended_lawful}
pub use Rattle.sdd_progress.specs.AwaitedModules.{IsUnanswered}
pub use Rattle.sdd_progress.specs.Committed.{AllCommitted, IsNotLeft, WasCommitted}
pub use Rattle.sdd_progress.specs.Conditions.{AreConditionsOf, IsDiagonalIn, IsFromTable}
pub use Rattle.sdd_progress.specs.Eras.{eras_of}
pub use Rattle.sdd_progress.specs.Examples.{all_lost, crossing_with, given_all_lost, given_late_query, late_query, log_of_all_lost, log_of_late_query}
pub use Rattle.sdd_progress.specs.Few.{AreFewRejected, is_reject_of, is_rejected, is_rejected_start, rejected_of}
pub use Rattle.sdd_progress.specs.Finished.{IsFinished, IsIdle}
pub use Rattle.sdd_progress.specs.Going.{AllAskParts, AllHaveParts, CountsRead, IsCounted, IsGoing, IsRead, ReducesRead, readers}
pub use Rattle.sdd_progress.specs.Heads.{IsStuck}
pub use Rattle.sdd_progress.specs.Outage.{CostsNoMore, IsSubmittedIn, NeedsAreUp, UndeclaredAreDone, table_in_force}
pub use Rattle.sdd_progress.specs.Premises.{HasOneTable, HasSoundLists, IsIdleAtRedeclares, IsSoundList, IsUpAtRedeclares}
pub use Rattle.sdd_progress.specs.Quiet.{IsQuiet, IsStill, at_home, at_module}
pub use Rattle.sdd_progress.specs.Rejects.{KeepsRejects}
pub use Rattle.sdd_progress.specs.Settled.{IsAtEnd, IsSettled}
pub use Rattle.sdd_progress.specs.Timely.{AreTimely}
pub use Rattle.sdd_progress.specs.WaitExamples.{conds_of_query, given_put_later, put_handed}
pub use Rattle.sdd_progress.specs.WaitGraph.{WaitGraph}
pub use Rattle.sdd_progress.specs.WaitGraphs.{HasDiagonal, wait_graph, wait_protocol}
pub use Rattle.sdd_progress.specs.Waiting.{IsBelow, IsEarlierReader, IsHolder, IsReader}
pub use Rattle.sdd_progress.specs.WaitingReads.{IsStamped, IsTimestamp, WaitingRead, WaitsOn, holder, reader, wait_time}
pub use Rattle.std.proofs.Common.{Bool, Contains, List, None, Option, Some, [], ap, append-nil, append_assoc, arith, cond, drop, eq-eqb, eqb-true, false, filter, filter_map, flat_map, fold, if◌then◌else◌, inl, inr, is_none, le-leb, le-ltb, leb-false, leb-true, length, length-append, lt-ltb, ltb-true, map, max, nat_eq as eqb, nat_le, ne_eqb, not, option_map, refl, slice_get, slice_index_or, subst, suc, sym, take, take_all, true, unwrap_or, zero, ℕ, ◌&&◌, ◌*◌, ◌++◌, ◌+◌, ◌-◌, ◌/◌, ◌<◌, ◌==◌, ◌^◌, ◌||◌, ◌∙◌, ◌∷◌, ◌≡◌, ◌≢◌, ◌≤◌, ◌⊎◌}
pub use Rattle.std.proofs.Math.Decide.{dec_le}
pub use Rattle.std.proofs.Math.Nat.{suc-mul}
pub use Rattle.std.proofs.lemmas.Bool.Decides.{nat_tests}
pub use Rattle.std.proofs.lemmas.Bool.{and_from as both, and_parts, cases_Bool, cases_eq, cases_lt, eqb-false, or_left, or_right}
pub use Rattle.std.proofs.lemmas.List.Elements.{All-contains, All-head, All-tail, recursion_from_All}
pub use Rattle.std.proofs.lemmas.Map.Keys.{IsDistinct-cons}
pub use Rattle.std.proofs.lemmas.Map.Made.{length-le_from_is_member}
pub use Rattle.std.proofs.lemmas.Map.Steps.{length-le_from_distinct_below}
pub use Rattle.std.proofs.lemmas.Nat.{mul-le}
pub use Rattle.std.proofs.lemmas.Option.{same_Some}
pub use Rattle.std.specs.Cmp.{nat_eq_equiv}
pub use Rattle.std.specs.List.{AllByRecursion, IsDistinct, cons_option, list_all, list_any, range_with_len}
