-- The names of std, of the crates below and of this crate's definitions that its proofs cite. Declares nothing.
pub use Rattle.sdd_invariants.specs.AtT.{AllIdle, HoldRule, IsFairT, IsHeldAt, IsStill, QuietSends, SendRule}
pub use Rattle.sdd_invariants.specs.AtU.{AllZero, IsChain, IsFairU, IsStepU, IsTried, StartedHead, ZeroBut, starts, u_commit, u_exchange, u_hold, u_release, u_start}
pub use Rattle.sdd_invariants.specs.Barrier.{HasApply, IsCommitT, IsHigh, IsHoldChain, IsLow, IsStartU, start_u, u_stamp, zero_cond}
pub use Rattle.sdd_invariants.specs.Causes.{HasAnswer, IsAgain, IsApplyOf, IsBased, IsPutAt, IsReadOf, IsWriter}
pub use Rattle.sdd_invariants.specs.InQueues.{AllKnown, IsQueue}
pub use Rattle.sdd_invariants.specs.Made.{IsActAt, IsAt, IsHandAt, IsSubmitAt, given_to, handed_by, made, put_by, redeclared_entry, with_made}
pub use Rattle.sdd_invariants.specs.Matched.{IsMatched}
pub use Rattle.sdd_invariants.specs.OfRecords.{AllCommitted, HasStart, IsFirstLeft, IsRecord, NoRecord, Says, WasSubmitted, is_recorded}
pub use Rattle.sdd_invariants.specs.OnLinks.{AllHomed, AllPiped, IsHomed, IsTimed, read_at, reads_in, write_at, writes_in}
pub use Rattle.sdd_invariants.specs.Orders.{AllGe, AllGt, AllLe, AllLt, IsRising, IsStrict}
pub use Rattle.sdd_invariants.specs.Puts.{IsPut, IsPutBy, IsRead, IsWrite}
pub use Rattle.sdd_invariants.specs.PutsBy.{IsDoneBy, IsFetch, IsPutByD, IsReadyBy, IsReduce, IsRejectBy, IsShip, WasAsked}
pub use Rattle.sdd_invariants.specs.ReadSteps.{IsClassHere, IsDueEach, IsOf, IsOfWrite, IsReadStep, IsReadWith, May, by_record, by_wait, in_passing, is_moving, results, spoiler}
pub use Rattle.sdd_invariants.specs.Readied.{AllReadied, AreReady, IsHonest, asks_in, firsts, is_answer, is_ready, site_d, was_asked, was_ready}
pub use Rattle.sdd_invariants.specs.Rejections.{IsRejected}
pub use Rattle.sdd_invariants.specs.Releases.{IsServing, dones_of, drawn_so_far, is_done_of, last_of, release_time, release_times}
pub use Rattle.sdd_invariants.specs.Seen.{IsAnswerWith, IsApplied, all_of, changes_to, class_puts, pipe_at}
pub use Rattle.sdd_invariants.specs.Stamps.{AllOf, IsClocked, stamp_or}
pub use Rattle.sdd_invariants.specs.Steps.{IsFair, IsNew, IsSend, IsServed, IsStep, a_held, a_hold, a_null, a_release, bound, by_commit, by_send, by_start, changes_at, home, is_committed, is_reading, last_stamp, limit, limit_of, modules_asked, next_stamp, of_exchange, promise_of, promises, queued, stamp_of, stamps, start_at, start_more, start_read, starts_of, submits_of}
pub use Rattle.sdd_invariants.specs.Traffic.{class_in, hands_from, puts_to, times_in, to_site}
pub use Rattle.sdd_invariants.specs.Turns.{NoneHold, is_a_held, is_a_hold, is_a_release, one_if, tally, turn, turns}
pub use Rattle.sdd_invariants.specs.Unspoilt.{AllUnspoilt, IsUnspoilt, IsWaiting, spoiling}
pub use Rattle.sdd_log.proofs.EachLocal.{allowed_act, each_local}
pub use Rattle.sdd_log.proofs.attempt.Numbers.{other_way as flip, own}
pub use Rattle.sdd_log.proofs.dm.Prefix.{all_handed, all_there}
pub use Rattle.sdd_log.proofs.dm.Acted.{waits_own}
pub use Rattle.sdd_log.proofs.net.Lists.{get-append as in_left}
pub use Rattle.sdd_log.proofs.net.Rises.{rises}
pub use Rattle.sdd_log.proofs.net.Sound.{delivered_le, sound}
pub use Rattle.sdd_log.proofs.pipe.Digests.{or_assoc}
pub use Rattle.sdd_log.proofs.tm.Lists.{get_map as at_map, get_within as place_within, of_map as in_mapped}
pub use Rattle.sdd_log.proofs.umod.Counts.{commits_same as hand_commits, counts_tm}
pub use Rattle.sdd_log.specs.All.{Act, Answer, Apply, Ask, Asking, Attempt, Bases, Call, Catalogue, Change, ClassNo, ClassView, Commit, Cond, D, Deliver, Delivers, Did, DmNo, Does, Done, Each, Entry, Era, Event, Exchange, FragNo, Hand, Handed, Held, Hold, HoldCounts, Home, Input, IsAllowed, IsDue, IsPermitted, Link, Mark, Msg, Notes, Null, Open, Pipe, Processes, Puts, Question, Queued, Read, Ready, Rec, Records, Redeclared, Redeclares, Reduced, Reject, Release, Resends, Sends, Served, Setting, Site, Start, Submit, Submits, Submitted, T, Tick, Ticking, TmCounts, TmNo, Ts, Txn, TxnNo, U, Use, Values, Write, act_by, act_where, active, active_after, active_handed, active_sent, after_hand, after_send, answer_of, answer_to, answered, ascending, ask_for, asks_rows, at_class, attempt_due, base_of, begins, by_ask, by_event, by_head, by_link, by_open, by_release, calls_of, class_asked, class_at, class_is, class_no, class_view, clock, commit_act, contains, counted, counts, counts_handed, current_era, delivered, dm_no, effect, empty_pipe, fetches_from, first_send, fragments_in, goes_on, goes_through, handed, hands, head, head_due, head_of, head_processed, hold_due, hold_to, holds, holds_acted, holds_back, holds_handed, home_of, is_asked_of, is_at_least, is_empty, is_for, is_held, is_holding, is_idle, is_met, is_new_mark, is_over, is_processing, is_wait, judged, last_served, last_write, last_write_for, link, link_of, local_of, lose, mark_due, message_at, module_read, modules_of, nth_era, null_at, number_of, numbers_to, on_hold, on_link, one_or_none, opens, opens_acted, or_else, or_zero, packet_at, passed, passed_by, pipe, piped, pushed_by, put, puts, queue, raised, redeclares, reduces, rejects, release_due, repeat, resend, runs, same_site, sends_of_act, sent, served_handed, setting_of, ships, source_of, spoils, started, step_on, submits, tail_of, takes_part, time_at, time_of, tm_no, to_all, touches, tried, turned, txn_at, txn_no, undeclared_conditions, uses_of, view_of, waits, was_marked, with_use, with_values, without, write_time, write_to}
pub use Rattle.sdd_log.specs.site_module.SiteLog.{Log}
pub use Rattle.sdd_log.specs.tm.Due.{by_exchange, by_hold, start_of}
pub use Rattle.sdd_log.specs.wire.declared.msg.Msg.TheVariants.{Rows}
pub use Rattle.sdd_semijoin.specs.Steps.{Move}
pub use Rattle.sdd_semijoin.specs.declared.step.Step.{Step}
pub use Rattle.std.proofs.Common.{Bool, List, None, Option, Some, [], ap, append-nil, append_assoc, arith, cond, drop, eq-eqb, eqb-true, false, filter, filter_map, fold, if◌then◌else◌, inl, inr, is_none, is_some, length, length-append, map, nat_cmp, nat_le, nat_lt, not, refl, slice_get, subst, suc, sym, take, take-append-drop, take_all, true, zero, ℕ, ◌&&◌, ◌*◌, ◌++◌, ◌+◌, ◌-◌, ◌/◌, ◌<◌, ◌==◌, ◌||◌, ◌∙◌, ◌∷◌, ◌≡◌, ◌≢◌, ◌≤◌, ◌⊎◌}
pub use Rattle.std.proofs.Math.Decide.{dec_le}
pub use Rattle.std.proofs.lemmas.Bool.{and_from as both, or_from as neither, or_left, or_right}
pub use Rattle.std.proofs.lemmas.Bool.Decides.{nat_tests}
pub use Rattle.std.proofs.lemmas.List.{get_or_past, take-append-le}
pub use Rattle.std.proofs.lemmas.List.Elements.{filter-append, filter_map-append}
pub use Rattle.std.proofs.lemmas.List.FromFn.{get_or-map-range_with_len, length-map-range_with_len}
pub use Rattle.std.proofs.lemmas.Option.{slice_get-get_or}
pub use Rattle.std.specs.BTreeSet.{insert_key}
pub use Rattle.std.specs.List.{AllZip, cons_option, list_all, list_any, range_with_len}
