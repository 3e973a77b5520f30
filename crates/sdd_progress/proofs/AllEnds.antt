-- The names of std, of the crates below and of this crate's definitions that its proofs on the end of a run cite. Declares nothing.
pub use Rattle.sdd_obligations.proofs.Counting.{head_taken as committed_short}
pub use Rattle.sdd_obligations.proofs.needs.FewMarks.{marks_few as few_marks}
pub use Rattle.sdd_obligations.proofs.invariants.AreSteps.{idle_of}
pub use Rattle.sdd_obligations.proofs.invariants.Bools.{and_left, and_right, same_number, same_or_not, true_or_false}
pub use Rattle.sdd_obligations.proofs.invariants.Exchanges.{asks_next}
pub use Rattle.sdd_obligations.proofs.invariants.Fair.{all_new, t_fair, u_fair}
pub use Rattle.sdd_obligations.proofs.invariants.Lists.{in_filtered}
pub use Rattle.sdd_obligations.proofs.invariants.Queues.{queue_is}
pub use Rattle.sdd_obligations.proofs.logs.AsLists.{next_mark_is}
pub use Rattle.sdd_obligations.proofs.logs.Completing.{complete_parts}
pub use Rattle.sdd_obligations.proofs.logs.Handing.{delivered_puts}
pub use Rattle.sdd_obligations.proofs.logs.NewMarks.{lawful_permitted}
pub use Rattle.sdd_obligations.proofs.logs.Permitted.{number_is}
pub use Rattle.sdd_obligations.proofs.logs.Steps.{some_in}
pub use Rattle.sdd_obligations.proofs.logs.Rounding.{each_of_round, no_events_quiet}
pub use Rattle.sdd_obligations.proofs.logs.attempt.Lists.{few_filtered as filter_short}
pub use Rattle.sdd_obligations.proofs.logs.tm.Lists.{of_map as in_mapped}
pub use Rattle.sdd_obligations.proofs.net.Directions.{link_back, same_here, same_is}
pub use Rattle.sdd_obligations.proofs.site_module.Finding.{found_at, one_of}
pub use Rattle.sdd_obligations.proofs.attempt.Work.{work_sent}
pub use Rattle.sdd_obligations.proofs.umod.Counts.{counts_tm}
pub use Rattle.sdd_obligations.specs.invariants.All.{Act, AreSubmittedOnce, AtEach, Attempt, Bases, Call, ClassView, D, Did, Does, Each, Entry, Event, Hand, Held, Hold, HoldCounts, Home, Input, IsDue, IsFair, IsLawful, IsNew, IsPermitted, IsServed, IsTheLog, IsWithin, Log, MAX_RUN_EVENTS, Mark, Msg, Notes, Open, Queued, Rec, Records, Redeclare, Redeclares, Release, Round, Sends, Setting, Settle, Site, T, Ticking, TmCounts, Ts, U, Up, View, act_where, active, after_mark, all_links, answer_of, asks, asks_rows, attempt_due, base_of, by_ask, by_exchange, by_head, by_hold, by_open, by_release, by_start, calls_of, commit_act, counts, delivered, does_at, first_some, from_event, hand_due, hand_on, handed, head, head_due, head_of, holds, home_of, is_asked_of, is_past, is_processing, is_wait, last_served, left, link_of, links, local_of, mark_due, mark_from, mark_of, marks, next, next_at, next_mark, note_if, numbers_to, opens, or_else, pipe, queue, quiet, round, runs, same_site, send_due, setting_of, site_due, sites, start_act, step_on, submits_by, submits_in, tail_of, time_at, tm_no, tried, view_of, waits, with_event, work_of}
pub use Rattle.sdd_obligations.specs.dm.Copies.{classes_of}
pub use Rattle.sdd_obligations.specs.dm.Views.{class_view}
pub use Rattle.sdd_progress.specs.Ends.{Ends, Settles}
pub use Rattle.sdd_progress.specs.Rounds.{IsOfRound, rounds}
pub use Rattle.std.proofs.Common.{Bool, List, None, Option, Some, [], ap, arith, eq-eqb, eqb-true, false, filter, if◌then◌else◌, inl, inr, length, ltb-false, ltb-true, map, nat_lt, ne_eqb, not, refl, slice_get, subst, suc, sym, true, zero, ℕ, ◌&&◌, ◌*◌, ◌++◌, ◌+◌, ◌-◌, ◌<◌, ◌==◌, ◌^◌, ◌∙◌, ◌∷◌, ◌≡◌, ◌≤◌}
pub use Rattle.std.proofs.lemmas.Bool.{false≢true}
pub use Rattle.std.proofs.lemmas.Option.{same_Some}
pub use Rattle.std.specs.List.{list_all}
