-- The names of std, of the crates below and of this crate's definitions that its proofs cite. Declares nothing.
pub use Rattle.sdd_shipped.proofs.Members.{Has-append, Has-filter_map, Has-filter_map_from, Has-flat_map, Has-flat_map_from, Has-left, Has-map, Has-map_from, Has-right}
pub use Rattle.sdd_shipped.proofs.Serving.{each_has as each_of}
pub use Rattle.sdd_shipped.specs.Members.{Has}
pub use Rattle.sdd_shipped.specs.Serves.{Serves}
pub use Rattle.sdd_invariants.proofs.Active.{each_at, handed_way, sent_way, step_way, step_way_over}
pub use Rattle.sdd_invariants.proofs.Answered.{answered_all, from_a_d, honest, put_in_by_d, read_of, same_head}
pub use Rattle.sdd_invariants.proofs.Apart.{up_le as trans_le}
pub use Rattle.sdd_invariants.proofs.Applied.{key_rises, one_of_key, reads_strict, writes_strict}
pub use Rattle.sdd_invariants.proofs.AreReadSteps.{class_at_place, class_in_view, class_not_in_view, d_step}
pub use Rattle.sdd_invariants.proofs.AreSteps.{t_step}
pub use Rattle.sdd_invariants.proofs.Bools.{and_left, and_right, differ, if_way, lower_same_higher, neither_left, neither_right, not_both, not_zero, only_right, same_number, same_or_not, true_or_false}
pub use Rattle.sdd_invariants.proofs.ClassOrder.{class_rises, in_class_order}
pub use Rattle.sdd_invariants.proofs.Clocks.{clock_grows, clock_number, drawn, drawn_at, limit_le, stamp_below_next, stamp_rises}
pub use Rattle.sdd_invariants.proofs.Dones.{dones_few, hand_more as push_more, head_in, next_in, put_once, strict_left, tally_at}
pub use Rattle.sdd_invariants.proofs.Exchanges.{asks_next, hand_goes, never}
pub use Rattle.sdd_invariants.proofs.Fair.{all_new, allowed_mark, d_fair, home_fair, t_fair, u_fair}
pub use Rattle.sdd_invariants.proofs.HoldChain.{hold_chain, same_turned as same_sym, t_table, u_table}
pub use Rattle.sdd_invariants.proofs.Holding.{hold_rule, not_lt_is as not_past, t_none}
pub use Rattle.sdd_invariants.proofs.InOrder.{allowed_hand, at_link as same_link, delivered_within, hand_was_put, handed_le, hands_grow, in_order}
pub use Rattle.sdd_invariants.proofs.InPipe.{in_pipe, put_at_home, times_are}
pub use Rattle.sdd_invariants.proofs.Installed.{class_number, commit_put_is, head_put, origin, write_origin}
pub use Rattle.sdd_invariants.proofs.Lists.{at_seam, gt_down, in_either, in_filtered, in_if, in_none, in_one, in_range, in_right, le_join, le_up, lt_above, strict_push, take_one_more}
pub use Rattle.sdd_invariants.proofs.Made.{local_grows, local_step, maker, own_act, permitted_before, place_of_act, place_of_hand}
pub use Rattle.sdd_invariants.proofs.Once.{answered_there}
pub use Rattle.sdd_invariants.proofs.Origins.{was_put}
pub use Rattle.sdd_invariants.proofs.Places.{compare, longer}
pub use Rattle.sdd_invariants.proofs.Processed.{and_false as and_no, not_own, own_record, passing, processed_handed, processed_more}
pub use Rattle.sdd_invariants.proofs.PutBy.{first_there, put_by_d, was_handed}
pub use Rattle.sdd_invariants.proofs.Queues.{queue_is}
pub use Rattle.sdd_invariants.proofs.Readied.{asks_whose, readied, same_attempt as one_attempt}
pub use Rattle.sdd_invariants.proofs.ReadsPut.{start_puts, strict_modules}
pub use Rattle.sdd_invariants.proofs.Recorded.{start_of_active}
pub use Rattle.sdd_invariants.proofs.Releases.{one_if_le as one_le, served_by as hand_ts}
pub use Rattle.sdd_invariants.proofs.Sent.{puts_grow, sent_grows, sent_is}
pub use Rattle.sdd_invariants.proofs.Serving.{u_due, u_way}
pub use Rattle.sdd_invariants.proofs.Sites.{site_is, site_self, the_one}
pub use Rattle.sdd_invariants.proofs.Split.{le_is, processed_stays}
pub use Rattle.sdd_invariants.proofs.Starting.{t_commit, u_commit}
pub use Rattle.sdd_invariants.proofs.Times.{timed}
pub use Rattle.sdd_invariants.proofs.Turns.{tally_append, tally_take}
pub use Rattle.sdd_invariants.proofs.Undeclared.{never_spoilt, read_classes, zero_pair}
pub use Rattle.sdd_invariants.proofs.WritesPut.{commit_puts}
pub use Rattle.sdd_needs.proofs.attempt.Modules.{on_answer_modules as lack_modules, start_modules}
pub use Rattle.sdd_invariants.proofs.attempt.Uses.{uses_there}
pub use Rattle.sdd_invariants.proofs.catalog.Sound.{at_number, found_in_all, served_read, sound_classes, sound_whole}
pub use Rattle.sdd_invariants.proofs.dm.Prefix.{all_there}
pub use Rattle.sdd_invariants.proofs.lang.EffectChanges.{AreMade, changes_items, effect_made, entry_placed}
pub use Rattle.sdd_invariants.proofs.lang.ReadSetDecides.{ascending_back}
pub use Rattle.sdd_invariants.proofs.lang.Sets.{All-ascending}
pub use Rattle.sdd_invariants.proofs.lang.SortedEntries.{sorted_nil}
pub use Rattle.sdd_invariants.proofs.lang.StaysDatabase.{no_database, with_row_stays}
pub use Rattle.sdd_invariants.proofs.logs.EachLocal.{allowed_act, each_local}
pub use Rattle.sdd_invariants.proofs.logs.NextMark.{mark_is_next}
pub use Rattle.sdd_invariants.proofs.logs.Marking.{TurnsNone}
pub use Rattle.sdd_invariants.proofs.logs.NewMarks.{lawful_permitted}
pub use Rattle.sdd_invariants.proofs.logs.Rounding.{each_of_round}
pub use Rattle.sdd_needs.proofs.attempt.Numbers.{other_way as not_same, own as own_started}
pub use Rattle.sdd_needs.proofs.attempt.Work.{shorter as filter_shorter}
pub use Rattle.sdd_invariants.proofs.logs.net.Lists.{get-append as in_left}
pub use Rattle.sdd_invariants.proofs.logs.tm.Lists.{get_map as at_map, get_within as place_within, of_map as in_mapped}
pub use Rattle.sdd_invariants.proofs.umod.Counts.{counts_tm}
pub use Rattle.sdd_invariants.proofs.net.Directions.{link_back, link_parts}
pub use Rattle.sdd_invariants.proofs.net.Lists.{All-at}
pub use Rattle.sdd_invariants.proofs.net.Rounds.{links_exist}
pub use Rattle.sdd_invariants.proofs.protocol.ConditionOn.{by_condition, condition_class}
pub use Rattle.sdd_invariants.proofs.site_module.Finding.{found_at, one_of}
pub use Rattle.sdd_invariants.specs.All.{Act, AllGe, AllGt, AllLe, AllLinked, AllLt, AllReadied, Answer, AnswersRead, Apply, AreFor, AreThere, Arrive, Ascend, Ask, Asking, AtEach, Attempt, AwaitsAt, Bases, Call, Catalogue, Change, Changed, Class, ClassNo, ClassView, Commit, Cond, Condition, D, Database, Delete, Deliver, Did, DmNo, Does, Done, Down, Each, Entry, Era, Event, Exchange, Fetch, Fetching, FitsChange, FitsClass, FitsCond, FitsDone, FitsHeldFrom, FitsHold, FitsPipe, FitsRelease, FitsShip, FitsSite, FitsTxn, FragNo, Hand, Handed, HasAnswer, Held, History, Hold, HoldRule, Home, Input, IsAllowed, IsApplyOf, IsAskBy, IsBased, IsClassHere, IsDatabase, IsDoneBy, IsDue, IsDueAt, IsDueEach, IsEntry, IsFair, IsFairT, IsFairU, IsFetch, IsHere, IsHoldChain, IsLawful, IsNew, IsPermitted, IsPutBy, IsPutByD, IsRead, IsReadOf, IsReadStep, IsReadyBy, IsReduce, IsRejectBy, IsRising, IsSend, IsServed, IsServedClass, IsShip, IsSiteOf, IsSoundCatalogue, IsStep, IsStepU, IsStrict, IsWhole, IsWithin, IsWrite, Item, Link, Log, Lose, MAX_EVENTS, MAX_LINK_MESSAGES, MAX_RUN_EVENTS, MAX_TICKS, Mark, Move, Msg, NoRecord, NoneHold, Notes, Null, Open, Over, Pass, Phase, Pipe, Processes, Put, Puts, Query, Question, Queued, Read, Reading, Ready, Rec, Records, Redeclare, Redeclared, Redeclares, Reduce, Reduced, Reducing, Reject, RelNo, Release, Repeat, Resend, Round, Row, Rows, Sends, ServesIfLast, Setting, Settle, Ship, Shipping, Site, Start, Step, Stmt, Submit, Submits, Submitted, T, Tick, Ticked, Ticking, TmCounts, TmNo, Ts, Txn, TxnNo, U, Up, Update, Use, Value, Values, View, Wait, Waits, WasAsked, Write, act_by, act_where, active, active_handed, active_sent, after_hand, after_mark, after_send, all_held, all_links, all_of, answer_of, answer_to, answered, applied, applied_acted, are_linked, ascending, ask_for, asks_acted, asks_handed, asks_rows, at_class, at_site, attempt_due, base_of, beginning, begins, bound, by_ask, by_exchange, by_head, by_hold, by_open, by_start, calls_of, change_of, changes_at, changes_in, class_asked, class_at, class_for, class_is, class_no, class_puts, clock, column, commit_act, cond_of, condition_on, conditions, conditions_at, contains, copies, counted, counts, counts_for, current_era, database_of, dated, dated_in, delivered, dm_no, does_at, done_for, dones_of, effect, fetches, fetches_from, fetches_use, first_phase, first_row, first_send, fits, frag_no, fragment_at, fragments_in, fragments_of, frags_asked, from_event, frozen, frozen_at, frozen_handed, given_to, given_up, goes_on, goes_through, greatest, greatest_bound, hand_due, hand_number, hand_on, handed, handed_by, hands, hands_from, has_copy, head, head_due, head_of, head_processed, history, holds, home, home_of, in_flight, is_a_held, is_a_hold, is_a_release, is_answer as is_answer_record, is_apply, is_asked, is_asked_of, is_at, is_done, is_done_of, is_down, is_for, is_held, is_link, is_met, is_number, is_over, is_processing, is_read, is_read_at, is_reading, is_recorded, is_shipping, is_site, is_verdict, item_cmp, items_of, judged, key_in, last_served, last_stamp, last_time, left, limit_of, link, link_of, links, local_of, made, made_by_mark, mark_due, mark_from, mark_of, marks, message_at, module_read, modules_asked, modules_of, move_at, next, next_at, next_move, next_number, next_stamp, nth_era, null_at, number_of, numbers_of, numbers_to, on_answer, one_if, open_due, opens, opens_acted, opens_handed, or_else, or_zero, part_uses, phase_ends, pipe, pipe_acted, pipe_at, piped, put, put_by, puts, puts_past, puts_to, queue, queued, quiet, raised, read_at, reads_at, reads_in, redeclared_entry, redeclares, reduces, reduces_use, rejects, resends_now, round, rows_held, runs, same_site, sends_of_act, sent, setting_of, ships, site_due, sites, snapshots, snapshots_at, source_of, spoiler, spoils, stamp_or, start_act, start_at, start_of, start_read, start_u, started, starts, starts_more, statement_uses, step_on, submits, submits_of, tail_of, takes_part, tally, time_at, time_in, time_of, times_in, tm_no, to_all, to_site, ts_of, turned, turned_by, txn_at, undeclared_conditions, use_there, uses_at, uses_from, uses_of, uses_read, view_of, waits, with_frags, with_item, with_made, with_tick, with_time, with_use, with_values, without, write_at, write_time, write_time_of, write_times, write_to}
pub use Rattle.sdd_invariants.specs.attempt.Fits.{handed as all_handed}
pub use Rattle.sdd_invariants.specs.dm.Copies.{classes_of}
pub use Rattle.sdd_invariants.specs.dm.Views.{class_view}
pub use Rattle.sdd_laws.proofs.Copied.{some_copy}
pub use Rattle.sdd_laws.proofs.Members.{each_has}
pub use Rattle.sdd_laws.proofs.class_eras.EraSets.{IsCovered, covered, covered_in_era, era_of_itself}
pub use Rattle.sdd_laws.proofs.copy.Contents.{eq_is, same_key}
pub use Rattle.sdd_laws.proofs.lang.Sets.{each_append as all_joined, each_filtered as all_kept}
pub use Rattle.sdd_laws.proofs.lang.catalog.Sound.{positive as some_class}
pub use Rattle.sdd_laws.proofs.links.Before.{or_cases as either}
pub use Rattle.sdd_laws.proofs.links.Members.{Contains-range}
pub use Rattle.sdd_laws.specs.All.{ArePlaced, CopyRows, Dated, Frozen, IsEraOf, IsPlaced, Read as ReadPlace, Reject as Rejected, all_rows, attempt_of, attempts, contents, counts_of, frozen_for, is_among, keys_in, latest, newer, of_fragment, placed, reduced, row_left, row_with, rows_for, rows_of, values_in}
pub use Rattle.sdd_needs.specs.AfterEvents.{down_from, is_down_after, redeclares_in}
pub use Rattle.sdd_obligations.specs.Awaited.{AwaitsRows, IsAwaited, IsReadable, IsServable}
pub use Rattle.sdd_obligations.specs.Bounds.{IsNumbered, IsSmall, class_starts, greatest_height, most_classes, most_sites, start_of_class}
pub use Rattle.sdd_needs.specs.Inputs.{AllFewTicks, FitsInput, FitsText, HasEras, IsGoodInput, ticks_of}
pub use Rattle.sdd_obligations.specs.Contents.{AsksPhase, Tells, held_for, is_shipped, kept, question, question_of}
pub use Rattle.sdd_obligations.specs.Fitting.{AreWritten, IsItemChange}
pub use Rattle.sdd_obligations.specs.Heights.{AllLow, HandsLow, IsLow, IsUnder, height, starts_by, times_of, top}
pub use Rattle.sdd_needs.specs.Obligations.{Obligations}
pub use Rattle.sdd_obligations.specs.Reading.{before_answer, copies_read}
pub use Rattle.sdd_obligations.specs.ServedRows.{IsServedAt, ServedBy}
pub use Rattle.sdd_needs.specs.Fitting.{FitsEra, fits_submit}
pub use Rattle.sdd_obligations.specs.Routes.{GoesTo, IsAnAsk, IsD, IsRouted, IsRunner, IsT}
pub use Rattle.sdd_obligations.specs.Runnable.{IsRunnable}
pub use Rattle.sdd_obligations.specs.Stages.{IsStage, agreed, answer_goes, flight, question_goes}
pub use Rattle.sdd_obligations.specs.Turns.{Asks, IsOfUses, MayAnswer, MayAsk, Refused, Replied, Replies, RepliesToRead, Silent, Turn, answers, asked_by, is_a_read, is_a_refusal, is_a_ship, is_answer, is_exchanging, is_question, questions, reads_asked, rows_asked, turn_after_answer, turn_after_answers, turn_after_question, turn_at, turn_with, uses_by, uses_held, uses_in}
pub use Rattle.sdd_obligations.specs.Upheld.{IsUpheldD, IsUpheldR}
pub use Rattle.sdd_serving.proofs.Arrived.{serves_by_members}
pub use Rattle.sdd_serving.proofs.Follows.{follows_hand, follows_reduce, follows_send, follows_start}
pub use Rattle.sdd_serving.proofs.Freezing.{is_there as use_part, there_is}
pub use Rattle.sdd_serving.proofs.Members.{of_has, to_has}
pub use Rattle.sdd_serving.proofs.Serves.{exchange_serves}
pub use Rattle.sdd_serving.proofs.Together.{IsPiece, IsUsed, has_copies}
pub use Rattle.sdd_serving.proofs.ValuesOfModules.{KeepsOnce, frozen_once, reduced_once, tells_all}
pub use Rattle.sdd_serving.specs.Following.{AwaitsNoValues, Follows, stage_of}
pub use Rattle.sdd_serving.specs.Freezing.{HasCopies, asked_at, frozen_space}
pub use Rattle.sdd_serving.specs.Reducing.{Space, TellsAll}
pub use Rattle.sdd_serving.specs.Runs.{Runs, Stage}
pub use Rattle.sdd_serving.specs.Runs.Runs.{asks, rests, sends, tells}
pub use Rattle.sdd_serving.specs.Runs.Stage.{Resting, Telling}
pub use Rattle.std.proofs.Common.{All, Bool, Contains, IfSome, IsTrue, List, None, Option, Some, [], ap, append-nil, append_assoc, arith, cond, drop, eqb-true, false, filter, filter_map, find, flat_map, fold, if◌then◌else◌, inl, inr, int_cmp, is_eq, is_some, length, length-append, map, max, nat_cmp, nat_le, nat_lt, not, option_map, refl, replicate, slice_get, slice_index_or, subst, suc, sym, take, take-append-drop, true, zero, ℕ, ℤ, ◌&&◌, ◌*◌, ◌++◌, ◌+◌, ◌-◌, ◌/◌, ◌<◌, ◌==◌, ◌^◌, ◌||◌, ◌∙◌, ◌∷◌, ◌≡◌, ◌≢◌, ◌≤◌, ◌⊎◌}
pub use Rattle.std.proofs.Math.Decide.{dec_le}
pub use Rattle.std.proofs.Math.Nat.{mul-le-mul, mul-le-mul_right, suc-mul}
pub use Rattle.std.proofs.lemmas.Bool.{and_from as both, false_from_ne_true as not_true, or_left, or_right}
pub use Rattle.std.proofs.lemmas.Bool.Decides.{nat_tests}
pub use Rattle.std.proofs.lemmas.List.{get_or_past, length-map}
pub use Rattle.std.proofs.lemmas.List.Elements.{All-cons, All-from_recursion, All-get_or, All-head, All-nil, All-tail, filter-append, filter_map-append, recursion_from_All}
pub use Rattle.std.proofs.lemmas.List.FromFn.{length-range_with_len}
pub use Rattle.std.proofs.lemmas.Map.Keys.{IsDistinct-from_sorted}
pub use Rattle.std.proofs.lemmas.Map.Made.{IsDistinct-keys_filter}
pub use Rattle.std.specs.BTreeSet.{insert_key}
pub use Rattle.std.specs.List.{AllByRecursion, IsDistinct, cons_option, list_all, list_any, range_with_len}
pub use Rattle.std.specs.Map.{keys_of}
pub use Rattle.std.specs.Option.{option_eq}
pub use Rattle.std.specs.Ordering.{eq_by_cmp}
