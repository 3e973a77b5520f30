-- The names of std, of the crates below and of this crate's definitions that its proofs cite. Declares nothing.
pub use Rattle.sdd_lists.proofs.WholeSound.{whole_sound}
pub use Rattle.sdd_lists.specs.InForce.{classes_in, eras_in, whole_in}
pub use Rattle.sdd_make.specs.Summary.{summary_of, summary_text}
pub use Rattle.sdd_make.specs.declared.summary.Summary.{Summary}
pub use Rattle.sdd_progress.proofs.obligations.AtTurn.{answered_last, apart, awaited, unsent}
pub use Rattle.sdd_progress.proofs.obligations.needs.Done.{count_join}
pub use Rattle.sdd_progress.proofs.obligations.Halves.{home_turns}
pub use Rattle.sdd_progress.proofs.obligations.HandedAnswersKeepTurns.{AtTurn}
pub use Rattle.sdd_progress.proofs.obligations.HoldsFit.{chain_at}
pub use Rattle.sdd_progress.proofs.obligations.Linking.{lawful_part as lawful_end}
pub use Rattle.sdd_progress.proofs.obligations.LowClocks.{clock_low}
pub use Rattle.sdd_progress.proofs.obligations.Near.{HasNear, IsNearBy, active_near}
pub use Rattle.sdd_progress.proofs.obligations.SitesAndLinks.{site_there}
pub use Rattle.sdd_progress.proofs.obligations.ExchangesGoByTurns.{spoken}
pub use Rattle.sdd_progress.proofs.obligations.Starts.{small_home}
pub use Rattle.sdd_progress.proofs.obligations.base.Membership.{Contains-cases, Contains-here, Contains-later, Contains-nil}
pub use Rattle.std.proofs.lemmas.Simd.{map-map}
pub use Rattle.sdd_progress.proofs.obligations.catalog.Sound.{sound_whole}
pub use Rattle.sdd_progress.proofs.obligations.class_eras.EraOfWhole.{era_of_whole}
pub use Rattle.sdd_progress.proofs.obligations.class_eras.EraSets.{era_of_itself}
pub use Rattle.sdd_progress.proofs.obligations.invariants.Bools.{and_left, and_right, differ, not_both, not_zero, same_number, same_or_not, true_or_false}
pub use Rattle.sdd_progress.proofs.obligations.invariants.Fair.{home_fair}
pub use Rattle.sdd_progress.proofs.obligations.invariants.Holding.{none_of as no_active}
pub use Rattle.sdd_progress.proofs.obligations.invariants.Lists.{at_seam, in_filtered, in_range}
pub use Rattle.sdd_progress.proofs.obligations.invariants.Made.{permitted_before}
pub use Rattle.sdd_progress.proofs.obligations.invariants.Serving.{zero_head}
pub use Rattle.sdd_progress.proofs.obligations.invariants.logs.Marking.{no_redeclare, part_redeclared as same_part}
pub use Rattle.sdd_progress.proofs.obligations.invariants.logs.Steps.{none_does as no_act}
pub use Rattle.sdd_progress.proofs.obligations.invariants.logs.tm.Lists.{of_map as in_mapped}
pub use Rattle.sdd_progress.proofs.obligations.invariants.logs.umod.Lists.{or_nothing as or_none}
pub use Rattle.sdd_progress.proofs.obligations.umod.Counts.{counts_tm}
pub use Rattle.sdd_progress.proofs.obligations.lang.StaysDatabase.{no_database, rows_make_database}
pub use Rattle.sdd_progress.proofs.obligations.laws.Members.{Contains-from_filter, Contains-from_filter_map, Contains-from_flat_map, Contains-from_map}
pub use Rattle.sdd_progress.proofs.obligations.laws.SameCopies.{equal_copies}
pub use Rattle.sdd_progress.proofs.obligations.logs.Completing.{OnlyMarksAreDue, complete_parts, none_left}
pub use Rattle.sdd_progress.proofs.obligations.logs.EachLocal.{allowed_act}
pub use Rattle.sdd_progress.proofs.obligations.logs.NewMarks.{lawful_permitted, left_is, marked}
pub use Rattle.sdd_progress.proofs.obligations.logs.One.{limit_or_complete, one_log}
pub use Rattle.sdd_progress.proofs.obligations.logs.Steps.{none_any_base}
pub use Rattle.sdd_progress.proofs.obligations.logs.Ticking.{first_none}
pub use Rattle.sdd_progress.proofs.obligations.net.Lists.{All-at}
pub use Rattle.sdd_progress.proofs.obligations.protocol.Laws.{one_table}
pub use Rattle.sdd_progress.proofs.obligations.links.Places.{same_start}
pub use Rattle.sdd_progress.proofs.obligations.serial_orders.Serial.{serial_order_is}
pub use Rattle.sdd_progress.proofs.obligations.Conditions.{AllWithin, act_within}
pub use Rattle.sdd_progress.proofs.obligations.invariants.AreReadSteps.{class_in_view}
pub use Rattle.sdd_progress.proofs.obligations.invariants.Installed.{head_put}
pub use Rattle.sdd_progress.proofs.obligations.invariants.Answered.{of_attempt, read_of}
pub use Rattle.sdd_progress.proofs.obligations.Modules.{firsts, to_module}
pub use Rattle.sdd_progress.specs.obligations.needs.AfterEvents.{down_from}
pub use Rattle.sdd_progress.specs.obligations.All.{Act, AllFewTicks, Answer, AreAllApplied, AreSubmittedOnce, Catalogue, Class, ClassNo, ClassState, Commit, Committed, Cond, Condition, D, Deliver, DmNo, Does, Down, EndsByLimit, Era, Eras, Event, FitsCondition, FitsInput, FitsStart, FitsStatement, FragNo, Hand, HasCommit, History, Input, IsAttempt, IsAwaited, IsClass, IsClassOf, IsCommitted, IsDatabase, IsEra, IsEraOf, IsGood, IsHeld, IsLawful, IsModule, IsOrderable, IsPermitted, IsPossible, IsRecordAt, IsSerial, IsSoundCatalogue, IsSubmitted, IsTable, IsTheLog, KeepsStarts, Kept, Log, Lose, MAX_DMS, MAX_TMS, Mark, Msg, Notes, Nothing, PutsHeld, Queued, Read, Rec, Records, Redeclare, Redeclares, Reject, RelNo, Repeat, Reply, Resend, Rests, Round, Row, Setting, Settle, Site, Standing, Stmt, Submitted, T, Tick, TmCounts, Ts, Txn, TxnNo, U, Up, Use, Wait, active, after_mark, all_links, are_linked, attempt_due, attempt_of, base_of, by_event, by_mark, calls_of, class_at, class_no, committed, contains, contents, counts, database_of, dated, dm_no, due_by, event_at, hand_due, hand_on, has_copy, head, head_of, history, home, is_apply, is_empty, is_link, is_over, is_site, last_served, left, link_of, local_of, mark_from, mark_of, marks, next, next_at, note_if, nth_era, numbers_to, one_if, pipe_at, placed, queue, quiet, redeclares, redeclares_in, rows_of, run, runs, send_due, setting_of, site_due, standing_among, standing_in, submits_in, time_at, tm_no, turn_at, txn_at, txn_no, with_event}
pub use Rattle.sdd_progress.specs.obligations.Bounds.{IsSmall}
pub use Rattle.sdd_progress.specs.obligations.needs.Inputs.{HasEras, ticks_of}
pub use Rattle.sdd_progress.specs.obligations.attempt.Line.{Line}
pub use Rattle.sdd_progress.specs.obligations.attempt.Standings.{lower, lowest, or_standing, queued_at, site_of, standing_by, standing_of, underway, waiting}
pub use Rattle.sdd_progress.specs.obligations.base.declared.limits.TheConstants.{MAX_TICKS}
pub use Rattle.sdd_progress.specs.obligations.copy.Contents.{Dated}
pub use Rattle.sdd_schedule.specs.world.data_module.State.{State}
pub use Rattle.sdd_progress.specs.obligations.dm.Waiting.{conds_of, waiting_at}
pub use Rattle.sdd_progress.specs.obligations.history.declared.record.Rec.TheVariants.{Submit}
pub use Rattle.sdd_progress.specs.obligations.lang.Database.{Item}
pub use Rattle.sdd_progress.specs.obligations.lang.declared.assign.Assign.{Assign}
pub use Rattle.sdd_progress.specs.obligations.laws.Copied.{AreAppliedAlike}
pub use Rattle.sdd_progress.specs.obligations.laws.Replay.{IsReplyOf}
pub use Rattle.sdd_progress.specs.obligations.logs.Due.{home_of}
pub use Rattle.sdd_progress.specs.obligations.logs.Marks.{from_event}
pub use Rattle.sdd_progress.specs.obligations.logs.Traffic.{turned_by}
pub use Rattle.sdd_progress.specs.obligations.protocol.declared.entry.Entry.{Entry}
pub use Rattle.sdd_progress.specs.obligations.links.Attempts.{Attempt}
pub use Rattle.sdd_progress.specs.obligations.serial_orders.Orders.{IsAlong}
pub use Rattle.sdd_progress.specs.obligations.links.Places.{record_at}
pub use Rattle.sdd_progress.specs.obligations.links.Precedence.{precedes}
pub use Rattle.sdd_progress.specs.obligations.serial_orders.SerialOrder.{serial_order}
pub use Rattle.sdd_progress.specs.obligations.tm.State.{class_of}
pub use Rattle.sdd_progress.specs.obligations.umod.Views.{tm_of}
pub use Rattle.sdd_progress.specs.obligations.dm.Views.{ClassView, View, view_of}
pub use Rattle.sdd_progress.specs.obligations.dm.Due.{is_met}
pub use Rattle.sdd_progress.specs.obligations.pipe.Pipe.{passed}
pub use Rattle.sdd_progress.specs.obligations.dm.Pipes.{pipe, waits}
pub use Rattle.sdd_progress.specs.obligations.attempt.Exchange.{Exchange}
pub use Rattle.sdd_progress.specs.obligations.Turns.{Turn}
pub use Rattle.sdd_progress.proofs.AtRest.{commit_there, rest}
pub use Rattle.sdd_progress.proofs.Committed.{IsQueued, any_commit, committed_or_queued}
pub use Rattle.sdd_progress.proofs.CopiesAtEnd.{applied_at_copies}
pub use Rattle.sdd_progress.proofs.ErasOf.{are_eras_of, marks_up as marks_later}
pub use Rattle.sdd_progress.proofs.Fronts.{history_le, recorded_front, redeclare_between}
pub use Rattle.sdd_progress.proofs.IdleAtRedeclares.{at_redeclare}
pub use Rattle.sdd_progress.proofs.Known.{Known, known}
pub use Rattle.sdd_progress.proofs.Lacking.{goes_on, near_one, no_sends}
pub use Rattle.sdd_progress.proofs.Lists.{all_true, either, if_none, kept_there, none_at}
pub use Rattle.sdd_progress.proofs.NoRejects.{all_served}
pub use Rattle.sdd_progress.proofs.OfLogs.{few_in_limit, few_rejected}
pub use Rattle.sdd_progress.proofs.Settled.{settled_is_committed, settled_is_finished, settled_is_quiet}
pub use Rattle.sdd_progress.proofs.Still.{run_at, runs_place, t_site}
pub use Rattle.sdd_progress.proofs.Timely.{few_redeclares, up_at_redeclares}
pub use Rattle.sdd_progress.proofs.Writers.{one_class}
pub use Rattle.sdd_progress.proofs.lawful.Answered.{read_of_some}
pub use Rattle.sdd_progress.proofs.lawful.Applied.{IsDataIn, data_in}
pub use Rattle.sdd_progress.proofs.lawful.Beginnings.{at_map}
pub use Rattle.sdd_progress.proofs.lawful.Classes.{at_home, home_setting}
pub use Rattle.sdd_progress.proofs.lawful.Homes.{positive}
pub use Rattle.sdd_progress.proofs.lawful.Makers.{act_kind}
pub use Rattle.sdd_progress.proofs.lawful.Numbered.{lawful_numbered}
pub use Rattle.sdd_progress.proofs.lawful.Places.{event_there, recorded_there}
pub use Rattle.sdd_progress.proofs.lawful.SameCopies.{same_copy}
pub use Rattle.sdd_progress.proofs.lawful.Submissions.{given_at, one_submit, submit_in}
pub use Rattle.sdd_progress.proofs.lawful.Together.{copies as left_in_copies, replies}
pub use Rattle.sdd_progress.proofs.ClassSites.{in_runs}
pub use Rattle.sdd_progress.proofs.EventOver.{none_due, over_at_end, over_before}
pub use Rattle.sdd_progress.proofs.NothingDue.{none_at_data}
pub use Rattle.sdd_progress.proofs.FreeClasses.{never_rejected, never_waits}
pub use Rattle.sdd_progress.proofs.OfLawful.{answered_by_end}
pub use Rattle.sdd_progress.proofs.Rejected.{rejected}
pub use Rattle.sdd_progress.proofs.Waited.{wait_due}
pub use Rattle.sdd_progress.proofs.Marked.{next_is_of_events}
pub use Rattle.sdd_progress.proofs.QuietAfter.{quiet_at_last}
pub use Rattle.sdd_progress.proofs.StuckHeads.{head_stuck}
pub use Rattle.sdd_progress.specs.Committed.{AllCommitted, IsNotLeft, WasCommitted}
pub use Rattle.sdd_progress.specs.Eras.{eras_of}
pub use Rattle.sdd_progress.specs.Few.{AreFewRejected}
pub use Rattle.sdd_progress.specs.Premises.{HasSoundLists, IsUpAtRedeclares}
pub use Rattle.sdd_progress.specs.Settled.{IsAtEnd, IsSettled}
pub use Rattle.sdd_progress.specs.Timely.{AreTimely}
pub use Rattle.sdd_progress.specs.lawful.SoundInput.{AreErasOf, AreNumbered, HasSoundData, SubmitGiven}
pub use Rattle.sdd_progress.specs.lawful.Made.{IsMadeAt}
pub use Rattle.sdd_progress.specs.Answers.{EndsAnEvent, IsAnsweredIn, IsEventOver, begins_event}
pub use Rattle.sdd_progress.specs.Free.{IsFree, IsFreeClass}
pub use Rattle.sdd_progress.specs.Rejections.{IsRejectOf}
pub use Rattle.sdd_progress.specs.Waited.{IsWaitOf}
pub use Rattle.sdd_progress.specs.Heads.{IsStuck}
pub use Rattle.sdd_report.specs.Committed.{ReportedCommit, is_of, names_of, order_line, reply_of, reported_in, reported_of}
pub use Rattle.sdd_report.specs.Pending.{is_lower, under_way}
pub use Rattle.sdd_report.specs.Replies.{replies_along}
pub use Rattle.sdd_report.specs.Report.{Report, after_replies, report_text}
pub use Rattle.sdd_report.specs.Trace.{trace}
pub use Rattle.sdd_report.specs.declared.copies.CopyTable.{CopyTable}
pub use Rattle.sdd_report.specs.declared.pending.Pending.{Pending}
pub use Rattle.sdd_report.specs.declared.pending.Waiting.{Waiting}
pub use Rattle.sdd_report.specs.declared.pending.Why.{Why}
pub use Rattle.sdd_run.specs.Clocks.{HasLowClocks}
pub use Rattle.sdd_run.specs.Free.{IsAnsweredWithin, IsUndisturbed}
pub use Rattle.sdd_run.specs.Lent.{era_of_list}
pub use Rattle.sdd_run.specs.Reasons.{IsFirstUnmet, IsInLine, IsTruePending, IsTrueReason, IsUnderway, ReadWaits, TellsPending, WaitsForHeld, WasFirst, attempt_at, counts_at_u, has_passed_at, in_line, is_asking_to_hold, is_unanswered, lacks_answer_of, queue_at_home, without_served}
pub use Rattle.sdd_run.specs.Reports.{report_of}
pub use Rattle.sdd_run.specs.Runs.{AreTables, EndsAtLimit, IsFreeInEach, IsReportOn, IsSummaryOn, eras_with_tables, first_input, input_of, order_of, plain_run}
pub use Rattle.sdd_run.specs.Standings.{IsNumberedSite, IsStanding}
pub use Rattle.sdd_run.specs.Settled.{EndsAtRest, EndsQuiet, IsAtRest, LosesNothing, NoneIsDown, TellsAllCommitted}
pub use Rattle.sdd_run.specs.ComesBefore.{ComesBefore, IsSubmittedBefore, times_in, times_pending}
pub use Rattle.sdd_run.specs.Worlds.{IsRunOf}
pub use Rattle.sdd_script.proofs.NamePlaces.{none_found}
pub use Rattle.sdd_script.proofs.WordCuts.{NonePasses}
pub use Rattle.sdd_script.proofs.lang.catalog.Validity.{not_false}
pub use Rattle.sdd_script.specs.All.{AreDistinct, FitsAssign, FitsTxn, HoldsValues, IsFrom1To, IsLink, IsSite, IsValid, IsValidEvent, IsValidRow, IsValidTxn, IsValue, Value, eras, extended, retired, submitted_by, tail_of, whole}
pub use Rattle.sdd_script.specs.declared.workload.Workload.{Workload}
pub use Rattle.sdd_schedule.proofs.world.Results.{of_ok}
pub use Rattle.sdd_schedule.specs.world.sites.AtSites.{standing_at}
pub use Rattle.sdd_schedule.specs.world.sites.Beginnings.{AllBegin, BeginsD, IsBegun, There}
pub use Rattle.sdd_schedule.specs.Copies.{rows_left, table_of, tables_at, tables_of}
pub use Rattle.sdd_schedule.specs.LastHomes.{AreAtLastHomes, all_at_last, last_home, pending_at_last}
pub use Rattle.sdd_schedule.specs.Pending.{IsListed, commits, pending_as, pending_in, pending_of, status_at, submitted_at, unmet, wait_at, wait_for, waits_of, why_at, why_of, why_pending}
pub use Rattle.sdd_schedule.specs.Schedules.{AreAllowed, lists_after, takes_rounds, with_events}
pub use Rattle.sdd_schedule.specs.world.Represents.{EndsBy, Represents}
pub use Rattle.sdd_schedule.specs.world.sites.Standings.{standing_at_t, standing_at_u}
pub use Rattle.sdd_schedule.specs.declared.schedule.ClassList.{ClassList}
pub use Rattle.sdd_schedule.specs.world.declared.world.World.{World}
pub use Rattle.std.proofs.Common.{All, Bool, Contains, IfOk, List, None, Option, Result, Some, [], ap, append-nil, append_assoc, arith, cond, count_by, drop, eq-eqb, eqb-true, false, filter, filter_map, find, flat_map, fold, if◌then◌else◌, inl, inr, is_none, is_some, le-leb, length, length-append, lt-ltb, map, min, nat_le, nat_lt, ne_eqb, not, option_map, position, refl, slice_get, slice_index_or as get_or, subst, suc, sym, take, take_all, true, zero, ℕ, ◌&&◌, ◌++◌, ◌+◌, ◌-◌, ◌<◌, ◌^◌, ◌==◌, ◌∙◌, ◌∷◌, ◌≡◌, ◌≢◌, ◌≤◌, ◌⊎◌}
pub use Rattle.std.proofs.Math.Decide.{dec_le}
pub use Rattle.std.proofs.Math.Seq.{take-append_seam}
pub use Rattle.std.proofs.lemmas.Bool.{and_from as both, cases_Bool, cases_eq, cases_lt, false≢true, or_left, or_right}
pub use Rattle.std.proofs.lemmas.List.{get_or_past, length-map, map-append, take_more}
pub use Rattle.std.proofs.lemmas.List.Elements.{All-cons, All-head, All-nil, All-tail, All-weaker}
pub use Rattle.std.proofs.lemmas.List.FromFn.{get_or-map-range_with_len}
pub use Rattle.std.proofs.lemmas.List.Sums.{sum_by-cons}
pub use Rattle.std.proofs.lemmas.Option.{slice_get-get_or, slice_get_past}
pub use Rattle.std.proofs.lemmas.Slice.Zip.{AllZip-long}
pub use Rattle.std.proofs.lemmas.Bool.Decides.{nat_tests}
pub use Rattle.std.proofs.lemmas.List.Quantifiers.{position-Some}
pub use Rattle.std.specs.List.{AllByRecursion, AllZip, best_of, cons_option, list_all, list_any, range_with_len}
pub use Rattle.std.specs.Option.{option_map_or}
