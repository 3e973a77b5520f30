-- The names of std, of the crates below and of this crate's definitions that its proofs cite. Declares nothing.
pub use Rattle.sdd_acyclic.proofs.EachTable.{each_table}
pub use Rattle.sdd_run.proofs.progress.obligations.needs.Done.{count_join, done}
pub use Rattle.sdd_run.proofs.progress.obligations.Linking.{lawful_part as lawful_before}
pub use Rattle.sdd_run.proofs.progress.obligations.base.Membership.{Contains-cases, Contains-here, Contains-later, Contains-nil}
pub use Rattle.sdd_run.proofs.progress.obligations.invariants.Bools.{neither_left, neither_right}
pub use Rattle.sdd_run.proofs.progress.obligations.invariants.Made.{permitted_before}
pub use Rattle.sdd_run.proofs.progress.obligations.invariants.Places.{compare}
pub use Rattle.sdd_run.proofs.progress.obligations.invariants.logs.NewMarks.{marks_round as round_from}
pub use Rattle.sdd_run.proofs.progress.obligations.lang.SortedEntries.{each_inserted, each_left, item_cmp_exact}
pub use Rattle.sdd_run.proofs.progress.obligations.lang.StaysDatabase.{rows_make_database}
pub use Rattle.sdd_run.proofs.progress.obligations.laws.Members.{Contains-from_filter, all_have as all_by_member}
pub use Rattle.sdd_run.proofs.progress.obligations.laws.Orders.{agrees, listed}
pub use Rattle.sdd_run.proofs.progress.obligations.laws.Recorded.{are_recorded, ledger}
pub use Rattle.sdd_run.proofs.progress.obligations.laws.Run.{replayed}
pub use Rattle.sdd_run.proofs.progress.obligations.laws.lang.Sets.{each_filtered as kept_hold}
pub use Rattle.sdd_run.proofs.progress.obligations.laws.serial_orders.InOrder.{each as at_each}
pub use Rattle.sdd_run.proofs.progress.obligations.laws.links.Members.{All-members as all_members}
pub use Rattle.sdd_run.proofs.progress.obligations.logs.AsLists.{next_mark_is}
pub use Rattle.sdd_run.proofs.progress.obligations.logs.NewMarks.{lawful_permitted, left_is, marked}
pub use Rattle.sdd_run.proofs.progress.obligations.net.Lists.{All-at}
pub use Rattle.sdd_run.specs.progress.obligations.All.{AllFewTicks, Answer, Apply, AreSubmittedOnce, Arrive, Call, Catalogue, Change, Class, Commit, Committed, Cond, Condition, Delete, Deliver, Does, Down, Effect, Entry, Eras, Event, Fragment, Hand, HasCommit, History, Input, Int, IsCommitted, IsFrom1To, IsLawful, IsOrderable, IsPermitted, IsSerial, IsSoundCatalogue, IsSubmitted, IsTable, KeepsStarts, Log, Lose, MAX_TXNS, Mark, Msg, Notes, Nothing, Pass, Put, Query, Rec, Redeclares, Reject, RelNo, Repeat, Reply, Resend, Round, Row, Settle, Site, Start, Stmt, Submit, Submitted, Tick, Ts, Txn, TxnNo, Up, Update, Wait, after_mark, all_links, calls_of, class_for, committed, contents, copy_at, database_of, effect, event_at, hand_due, history, in_flight, is_down, item_cmp, left, link, mark_due, mark_from, mark_of, marks, next, next_mark, nth_era, one_if, or_else, quiet, redeclares, redeclares_in, resends_now, round, run, site_due, submits_by, submits_in, tm_no, txn_no}
pub use Rattle.sdd_run.specs.progress.obligations.base.Name.{IsName}
pub use Rattle.sdd_run.specs.progress.obligations.base.Order.{column, row_cmp}
pub use Rattle.sdd_run.specs.progress.obligations.base.Words.{tail_of}
pub use Rattle.sdd_run.specs.progress.obligations.base.declared.reply.Reply.TheVariants.{Overflow, Rows, TooMany}
pub use Rattle.sdd_run.specs.progress.obligations.base.declared.value.Value.{Value}
pub use Rattle.sdd_run.specs.progress.obligations.base.declared.value.Value.TheVariants.{Text}
pub use Rattle.sdd_run.specs.progress.obligations.catalog.Catalogue.{fragment_of}
pub use Rattle.sdd_run.specs.progress.obligations.catalog.Naming.{AreNamed}
pub use Rattle.sdd_run.specs.progress.obligations.catalog.Rules.{repeats}
pub use Rattle.sdd_run.specs.progress.obligations.copy.Contents.{Dated, keys_in, latest, newer, of_fragment, row_left, row_with}
pub use Rattle.sdd_run.specs.progress.obligations.history.declared.record.Rec.TheVariants.{Submit as Submission}
pub use Rattle.sdd_run.specs.progress.obligations.lang.Condition.{Tuple, meets_all, part_of, value_at}
pub use Rattle.sdd_run.specs.progress.obligations.lang.Database.{Database, Item, key_in, rows_of, with_row}
pub use Rattle.sdd_run.specs.progress.obligations.lang.Effect.{Changed, change_of, effect_from, failed_effect, rows_in, with_change, with_deletes, with_updates}
pub use Rattle.sdd_run.specs.progress.obligations.lang.Query.{answer, product, projection, selection}
pub use Rattle.sdd_run.specs.progress.obligations.lang.Serial.{after_changes, changed_by, item_of, serial, set_to}
pub use Rattle.sdd_run.specs.progress.obligations.lang.Update.{added, assigned, assigned_all, chosen, in_range, replaced}
pub use Rattle.sdd_run.specs.progress.obligations.lang.declared.assign.Assign.{Assign}
pub use Rattle.sdd_run.specs.progress.obligations.lang.declared.assign.Assign.TheVariants.{Add, To}
pub use Rattle.sdd_run.specs.progress.obligations.lang.declared.condition.Ref.{Ref}
pub use Rattle.sdd_run.specs.progress.obligations.laws.Deeds.{txn_at}
pub use Rattle.sdd_run.specs.progress.obligations.laws.Eras.{catalogue_at}
pub use Rattle.sdd_run.specs.progress.obligations.laws.Ledger.{Ledger, changes}
pub use Rattle.sdd_run.specs.progress.obligations.laws.Replay.{IsReplyOf}
pub use Rattle.sdd_run.specs.progress.obligations.laws.Replayed.{GivesResults, IsReplayed}
pub use Rattle.sdd_run.specs.progress.obligations.laws.Snapshots.{dated, dated_at, first_row, first_rows, is_applied}
pub use Rattle.sdd_run.specs.progress.obligations.laws.Starts.{IsOfSubmit}
pub use Rattle.sdd_run.specs.progress.obligations.logs.Due.{home_of}
pub use Rattle.sdd_run.specs.progress.obligations.logs.Marks.{from_event}
pub use Rattle.sdd_run.specs.progress.obligations.logs.Traffic.{turned_by}
pub use Rattle.sdd_run.specs.progress.obligations.serial_orders.Orders.{IsAlong}
pub use Rattle.sdd_run.specs.progress.obligations.serial_orders.SerialOrder.{serial_order}
pub use Rattle.sdd_verified.specs.Lines.{tells_pending}
pub use Rattle.sdd_verified.specs.Parts.{all_pending_words, all_shipped_words, answers_words, copies_words, copy_words, order_words, outcome_words, pending_words, queries_words, query_words, replies_words, reply_words, row_words, rows_words, shipped_words}
pub use Rattle.sdd_verified.specs.Summaries.{SettleAll, TellsAllDone, takes_down}
pub use Rattle.sdd_verified.specs.Tellings.{TellAlike, TellOfTheSame, pending_names, pending_numbers, reported_copies}
pub use Rattle.sdd_verify.proofs.DifferentNames.{some_is}
pub use Rattle.sdd_verify.proofs.LineCuts.{IsWhole, cut_are_lines, whole_empty, whole_ended, whole_is}
pub use Rattle.sdd_verify.proofs.LinesFound.{IsOther}
pub use Rattle.sdd_verify.proofs.NumbersOfNames.{IsThere, member_at, name_in}
pub use Rattle.sdd_verify.proofs.OrderWords.{behind_spaces}
pub use Rattle.sdd_verify.proofs.Submissions.{found_member}
pub use Rattle.sdd_verify.proofs.VerifiedReports.{name_line, verified_yes}
pub use Rattle.sdd_verify.specs.Classes.{classes_from, classes_submitted, era_at, redeclared}
pub use Rattle.sdd_turns.specs.Turns.{class_of}
pub use Rattle.sdd_verify.specs.Lines.{is_order_line, lines_of, tells_reply}
pub use Rattle.sdd_verify.specs.Replies.{replies, serial_replies}
pub use Rattle.sdd_verify.specs.Submitted.{submitted, submitted_by, texts_of, txn_of}
pub use Rattle.sdd_verify.specs.Verified.{IsInTurn, IsVerified, at}
pub use Rattle.sdd_verify.specs.declared.limits.TheConstants.{MAX_REPORT_BYTES}
pub use Rattle.sdd_run.proofs.ErasWithTables.{list_at as list_at_number}
pub use Rattle.sdd_run.proofs.Goods.{few_ticks}
pub use Rattle.sdd_run.proofs.Left.{copy_rows_are}
pub use Rattle.sdd_run.proofs.Lossless.{listed_submits}
pub use Rattle.sdd_run.proofs.Marked.{named as named_by_events}
pub use Rattle.sdd_run.proofs.Ordered.{orderable, starts}
pub use Rattle.sdd_run.proofs.Reported.{reported}
pub use Rattle.sdd_run.proofs.RunOf.{eras_are, few_lists, fine, lists, permitted}
pub use Rattle.sdd_run.proofs.Settled.{quiet_behind, settled}
pub use Rattle.sdd_run.proofs.Submissions.{once}
pub use Rattle.sdd_run.proofs.class_lists.OtherClasses.{whole_over}
pub use Rattle.sdd_run.proofs.class_lists.WholeSound.{whole_named, whole_sound}
pub use Rattle.sdd_run.proofs.make.ValidEvents.{txns_count}
pub use Rattle.sdd_run.proofs.make.ValidWorkloads.{workload_valid}
pub use Rattle.sdd_run.proofs.progress.Ends.{run_ends}
pub use Rattle.sdd_run.proofs.progress.ErasOf.{index_or}
pub use Rattle.sdd_run.proofs.progress.Marked.{next_is_of_events}
pub use Rattle.sdd_run.proofs.progress.lawful.Applies.{keeps_applies}
pub use Rattle.sdd_run.proofs.progress.lawful.Effects.{keeps_answers}
pub use Rattle.sdd_run.proofs.progress.lawful.Places.{place_rises, recorded_there}
pub use Rattle.sdd_run.proofs.progress.lawful.Starts.{event_of_submit, keeps_starts}
pub use Rattle.sdd_run.proofs.progress.lawful.Submissions.{given_at, submit_in}
pub use Rattle.sdd_run.proofs.script.EventLaws.{plain_space as plain_spaceless}
pub use Rattle.sdd_run.proofs.script.NamePlaces.{place_of_name}
pub use Rattle.sdd_run.proofs.script.WordLooks.{name_fine, no_newline-append, value_fine}
pub use Rattle.sdd_run.specs.ComesBefore.{ComesBefore, IsSubmittedBefore}
pub use Rattle.sdd_run.specs.Reports.{report_of}
pub use Rattle.sdd_run.specs.Runs.{EndsAtLimit, IsReportOn, IsSummaryOn, input_of, order_of}
pub use Rattle.sdd_run.specs.Settled.{EndsQuiet, NoneIsDown}
pub use Rattle.sdd_run.specs.class_lists.InForce.{classes_in, eras_in, whole_in}
pub use Rattle.sdd_run.specs.make.Bank.{bank}
pub use Rattle.sdd_run.specs.make.Draws.{draw, shown}
pub use Rattle.sdd_run.specs.make.Summary.{is_commit, summary_of}
pub use Rattle.sdd_run.specs.make.Turns.{deliveries, delivery, drawn_events, drawn_txn, events_of, turn, turns, turns_of, txns_of, workload_of}
pub use Rattle.sdd_run.specs.progress.Committed.{AllCommitted}
pub use Rattle.sdd_run.specs.progress.Eras.{eras_of}
pub use Rattle.sdd_run.specs.progress.lawful.SoundInput.{AreErasOf, HasSoundData}
pub use Rattle.sdd_run.specs.report.Committed.{ReportedCommit, names_of, order_line, reported_of, shipped_line, shipped_of}
pub use Rattle.sdd_run.specs.report.Copies.{copies_lines, copy_lines, place_words}
pub use Rattle.sdd_run.specs.report.Names.{attempt_word, class_time, class_word, fragment_name, module_word, site_word, spaced, txn_name}
pub use Rattle.sdd_run.specs.report.Pending.{pending_line, pending_lines, why_words}
pub use Rattle.sdd_run.specs.report.Replies.{queries_from, query_lines, replies_along, reply_lines, row_line, value_bytes}
pub use Rattle.sdd_run.specs.report.Report.{Report, after_replies, report_text}
pub use Rattle.sdd_run.specs.report.Trace.{cond_words, of_attempt, of_visit, record_words, time_word, trace}
pub use Rattle.sdd_run.specs.report.declared.copies.CopyTable.{CopyTable}
pub use Rattle.sdd_run.specs.report.declared.pending.Pending.{Pending}
pub use Rattle.sdd_run.specs.report.declared.pending.Why.{Why}
pub use Rattle.sdd_run.specs.report.declared.pending.Why.TheVariants.{Queued, Underway, Waits}
pub use Rattle.sdd_run.specs.script.Valid.{AssignsValue, HoldsValues, IsValid, IsValidEvent, IsValidRow, IsValidTxn, IsValue}
pub use Rattle.sdd_run.specs.script.declared.workload.Workload.{Workload}
pub use Rattle.sdd_run.specs.world.sites.AtSites.{standing_at}
pub use Rattle.sdd_run.specs.schedule.Copies.{tables_of}
pub use Rattle.sdd_run.specs.world.sites.Standings.{standing_at_t, standing_at_u}
pub use Rattle.sdd_words.proofs.Spelled.{cut_again}
pub use Rattle.sdd_words.proofs.Splits.{scan_again}
pub use Rattle.sdd_words.specs.Lines.{AreLines, HasNoNewline, cut_lines, spelled_lines}
pub use Rattle.sdd_words.specs.Scan.{scan}
pub use Rattle.sdd_words.specs.Values.{value_word}
pub use Rattle.sdd_words.specs.Words.{AllWords, HasNoSpace, IsPlain, Plain, line_bytes, more_bytes, word_bytes}
pub use Rattle.std.proofs.Common.{All, Bool, Contains, Equal, Greater, Less, List, MatchOption, None, Option, Some, [], ap, append_assoc, arith, bytes_eq, codes, cond, count_by, decimal, eq-eqb, eqb-true, false, filter, filter_map, flat_map, fold, if◌then◌else◌, inl, inr, int_cmp, is_eq, length, lt-ltb, ltb-true, map, nat_lt, ne_eqb, not, option_map, pos, position, refl, replicate, rules, slice_get, slice_index_or, slice_set, subst, suc, sym, true, unwrap_or, zero, ℕ, ℤ, ◌%◌, ◌&&◌, ◌*◌, ◌++◌, ◌+ℤ◌, ◌+◌, ◌-◌, ◌/◌, ◌<◌, ◌==◌, ◌^◌, ◌||◌, ◌∙◌, ◌∷◌, ◌≡◌, ◌≢◌, ◌≤◌, ◌⊎◌}
pub use Rattle.std.proofs.lemmas.Bool.{cases_eq, cases_lt}
pub use Rattle.std.proofs.lemmas.Bool.Decides.{nat_tests}
pub use Rattle.std.proofs.lemmas.Fmt.{decimal_injective}
pub use Rattle.std.proofs.lemmas.List.{append_cancel_left, append_cancel_right, length-map}
pub use Rattle.std.proofs.lemmas.List.Elements.{All-cons, All-head, All-nil, All-tail, recursion_from_All}
pub use Rattle.std.proofs.lemmas.List.Folds.{flat_map-map}
pub use Rattle.std.proofs.lemmas.List.Sums.{sum_by-cons}
pub use Rattle.std.proofs.lemmas.Option.{same_Some}
pub use Rattle.std.specs.BTreeMap.{is_at}
pub use Rattle.std.specs.BTreeSet.{insert_key}
pub use Rattle.std.specs.Fmt.{digit_glyph, digits_onto, signed_decimal}
pub use Rattle.std.specs.Int.Signed.{mag}
pub use Rattle.std.specs.List.{AllByRecursion, AllZip, cons_option, list_any}
pub use Rattle.std.specs.Option.{option_map_or}
pub use Rattle.std.specs.Ordering.{match_ordering}
