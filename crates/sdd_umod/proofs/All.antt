-- The names of std, of the crates below and of this crate's definitions that its proofs cite. Declares nothing.
pub use Rattle.sdd_attempt.proofs.LineActs.{all_up_of, asking_of, left_is_few, new_in_queue, no_read_asked, resting, served_of, served_sent, starts_committed, starts_sent, starts_started}
pub use Rattle.sdd_attempt.proofs.LineSteps.{commits, has_to_send, none_due}
pub use Rattle.sdd_attempt.proofs.QuestionsOfAttempt.{NoReads}
pub use Rattle.sdd_attempt.proofs.Served.{served_handed}
pub use Rattle.sdd_attempt.proofs.SoundLines.{IsApart, IsRequest, commit_no_reads, line_apart, line_committed, line_handed, line_sent, line_started, line_submitted, request_of, sent_apart, start_is_up}
pub use Rattle.sdd_attempt.proofs.Stamps.{no_sooner_hand, stamped_did, stamped_still}
pub use Rattle.sdd_attempt.proofs.Tries.{tries_are_kept}
pub use Rattle.sdd_attempt.proofs.Waiting.{few_waiting, fewer_committed}
pub use Rattle.sdd_attempt.proofs.catalog.Found.{both_empty, each_unfound}
pub use Rattle.sdd_attempt.proofs.catalog.Sound.{at_number, each_image, sound_fragments}
pub use Rattle.sdd_attempt.proofs.catalog.Validity.{no_faults, unbroken}
pub use Rattle.sdd_attempt.proofs.graph.Lists.{up_to}
pub use Rattle.sdd_attempt.proofs.lang.Sets.{IsThere, read_set_there}
pub use Rattle.sdd_attempt.proofs.site_module.Does.{DoesMore, all_noted, does_from}
pub use Rattle.sdd_attempt.proofs.site_module.Finding.{found_at, map_twice, one_of}
pub use Rattle.sdd_attempt.proofs.site_module.Making.{made_more, made_nothing}
pub use Rattle.sdd_attempt.specs.All.{AllUpTo, AreTried, IsAwaited, IsOfHead, IsServed, ServesAt, clock_done, commit_next, head_is_untried, line_done, line_step, send_next, start_next}
pub use Rattle.sdd_attempt.specs.history.declared.record.Rec.TheVariants.{Submit}
pub use Rattle.sdd_attempt.specs.running.declared.step.LineStep.TheVariants.{Commits as ToCommit, Sends as ToSend}
pub use Rattle.sdd_attempt.specs.running.declared.step.LineStep.{LineStep}
pub use Rattle.sdd_counts.specs.Counts.{HaveRoom, counted, is_free, is_kept_on_hold, no_counts}
pub use Rattle.sdd_counts.specs.Serving.{is_applied}
pub use Rattle.sdd_counts.proofs.rules.attempt.Modules.{start_modules}
pub use Rattle.sdd_counts.proofs.rules.attempt.Work.{work_sent}
pub use Rattle.sdd_counts.proofs.rules.umod.Counts.{counts_tm}
pub use Rattle.sdd_counts.proofs.rules.umod.Lists.{changed_more, first_found, first_found_if, found_in_map, get_map_of, numbers_more, or_nothing}
pub use Rattle.sdd_counts.specs.rules.All.{Act, Attempt, AwaitsAt, Bases, Catalogue, Did, DmNo, Does, Entry, FitsTxn, Fragment, FragmentPart, Handed, Held, IsDatabase, IsSoundCatalogue, IsWhole, Kept, Line, Log, Msg, Notes, Parts, Phase, Queued, Rec, Sends, Setting, Site, Submits, T, Ticking, TmNo, Txn, TxnNo, U, Values, active, active_after, active_handed, active_sent, attempt_due, begins, catalogue_of, clock, commit_act, contains, dm_no, fetches_use, first_some, fragment_at, fragment_from, handed, has_copy, head_of, is_empty, lowest_copy, nothing_noted, numbers_to, or_else, parts_of, pushed_by, queue, queue_after, read_set, reads_at, records_of, relation_names, sends_of_act, sent, start_act, started, starts_left, submits, ticked, time_at, timestamp, tm_no, tried, with_act, with_due_act, work_of}
pub use Rattle.sdd_counts.specs.rules.umod.Due.{IsDue, by_exchange, by_hold, by_release, by_start, due, hold_due, next, release_due, start_due}
pub use Rattle.sdd_counts.specs.rules.umod.Fits.{FitsSubmit, fits, fits_kind}
pub use Rattle.sdd_counts.specs.rules.umod.State.{State, line_of, state_of}
pub use Rattle.sdd_counts.specs.rules.umod.Views.{Served, TmCounts, View, after, counts, counts_handed, last_served, served_handed as served_now, tm_of, view_of}
pub use Rattle.sdd_umod.specs.Handing.{IsEarly, clock_after_message, served_after_message, state_given, state_handed}
pub use Rattle.sdd_umod.specs.Represents.{AreStarted, InTurn, IsAmid, IsKept, IsSetting, IsSoundLog, Represents, running}
pub use Rattle.sdd_umod.specs.Steps.{act_of, hold_step, may_start, of_line, release_step, start_step, state_done, step_of}
pub use Rattle.sdd_umod.specs.Work.{all_signs, signs_left, work}
pub use Rattle.sdd_umod.specs.Works.{Works, first_state}
pub use Rattle.sdd_umod.specs.declared.step.Step.TheVariants.{Commit, Hold, Release, Send, Start}
pub use Rattle.sdd_umod.specs.declared.step.Step.{Step}
pub use Rattle.std.proofs.Common.{Bool, IsTrue, List, None, Option, Some, [], ap, arith, drop, eq-eqb, eqb-true, false, filter, find, if◌then◌else◌, is_some, length, ltb-true, map, not, option_map, refl, slice_get, slice_index_or, slice_set, subst, suc, sym, take, true, zero, ℕ, ◌&&◌, ◌++◌, ◌+◌, ◌-◌, ◌<◌, ◌==◌, ◌^◌, ◌∙◌, ◌∷◌, ◌≡◌, ◌≢◌, ◌≤◌}
pub use Rattle.std.proofs.lemmas.Bool.Decides.{nat_tests}
pub use Rattle.std.proofs.lemmas.Bool.{false≢true, or_left}
pub use Rattle.std.proofs.lemmas.List.Edits.{map_over_more}
pub use Rattle.std.proofs.lemmas.List.Elements.{recursion_from_All}
pub use Rattle.std.proofs.lemmas.List.{length-map, map-append}
pub use Rattle.std.specs.List.{AllByRecursion, list_all, list_any, range_with_len}
