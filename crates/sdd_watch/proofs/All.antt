-- The names of std, of the crates below and of this crate's definitions that its proofs cite. Declares nothing.
pub use Rattle.sdd_inside.specs.Differences.{changes, difference, handed_between, in_flight, on_link, pipe_between, put_between, queue_between, takes_from}
pub use Rattle.sdd_inside.specs.Lines.{beginning, line}
pub use Rattle.sdd_inside.specs.declared.delta.Delta.{Delta}
pub use Rattle.sdd_inside.specs.declared.delta.Found.{Found}
pub use Rattle.sdd_inside.specs.declared.delta.Handed.{Handed}
pub use Rattle.sdd_inside.specs.declared.delta.PipeDelta.{PipeDelta}
pub use Rattle.sdd_inside.specs.declared.delta.Put.{Put}
pub use Rattle.sdd_inside.specs.declared.delta.QueueDelta.{QueueDelta}
pub use Rattle.sdd_inside.specs.declared.delta.RowDelta.{RowDelta}
pub use Rattle.sdd_inside.specs.declared.delta.Taken.{Taken}
pub use Rattle.sdd_inside.specs.declared.moment.Happened.{Happened}
pub use Rattle.sdd_inside.specs.declared.moment.Moment.{Moment}
pub use Rattle.sdd_inside.specs.declared.standing.Active.{Active}
pub use Rattle.sdd_inside.specs.declared.standing.Head.{Head}
pub use Rattle.sdd_inside.specs.declared.standing.Head.TheVariants.{Waits}
pub use Rattle.sdd_inside.specs.declared.standing.Question.{Question}
pub use Rattle.sdd_inside.specs.declared.standing.SiteState.{SiteState}
pub use Rattle.sdd_moments.proofs.progress.obligations.SitesAndLinks.{link_of_links, site_there}
pub use Rattle.sdd_moments.proofs.progress.obligations.copy.Contents.{items_keep, shown}
pub use Rattle.sdd_moments.proofs.progress.obligations.graph.Lists.{range_more}
pub use Rattle.sdd_moments.proofs.progress.obligations.invariants.Bools.{not_both}
pub use Rattle.sdd_moments.proofs.progress.obligations.invariants.InOrder.{in_order}
pub use Rattle.sdd_moments.proofs.progress.obligations.invariants.Processed.{and_false}
pub use Rattle.sdd_moments.proofs.progress.obligations.invariants.Sent.{sent_is}
pub use Rattle.sdd_moments.proofs.progress.obligations.invariants.Sites.{site_is, site_self}
pub use Rattle.sdd_moments.proofs.progress.obligations.invariants.logs.dm.ByClass.{filter_same}
pub use Rattle.sdd_moments.proofs.progress.obligations.links.Reading.{is_eq_nat, same_pair}
pub use Rattle.sdd_moments.proofs.progress.obligations.logs.NewMarks.{lawful_permitted}
pub use Rattle.sdd_moments.proofs.progress.obligations.needs.OfNext.{IsThere}
pub use Rattle.sdd_moments.proofs.progress.obligations.net.Directions.{link_back}
pub use Rattle.sdd_moments.specs.obligations.All.{Ack, Apply, Attempt, Catalogue, Change, ClassNo, ClassState, ClassView, Commit, Cond, D, Deliver, DmNo, Done, Down, Entry, Event, FragNo, Fragment, History, Input, IsGood, IsLawful, IsLinkOf, IsPermitted, IsSiteOf, IsSoundCatalogue, IsTheLog, Kept, Log, Lose, Mark, Message, Msg, Packet, Queued, Read, Rec, Redeclare, Redeclares, Repeat, Represent, Resend, Round, Setting, Site, Submit, T, Tick, TmNo, Ts, TxnNo, U, Up, View, Write, all_links, are_linked, asks, bound_of, calls_of, class_no, clock, dated, dm_no, handed, hands_from, has_copy, head, head_of, history, holds, holds_back, is_down, is_empty, is_here, is_met, is_site, link_of, local_of, marks, numbers_to, packet_as, packet_at, pipe, rel_no, round, runs, same_site, sent, setting_of, sites, spelled, takes_part as takes_at, time_at, txn_no, view_of, waits, with_event}
pub use Rattle.sdd_moments.specs.obligations.base.declared.value.Value.{Value}
pub use Rattle.sdd_moments.specs.obligations.copy.Contents.{Dated, latest, of_fragment}
pub use Rattle.sdd_moments.specs.obligations.copy.Copies.{Held, items_at}
pub use Rattle.sdd_moments.specs.obligations.copy.Items.{Items, row_in, row_of_item}
pub use Rattle.sdd_moments.specs.obligations.dm.Views.{class_view}
pub use Rattle.sdd_moments.specs.obligations.invariants.Steps.{changes_at}
pub use Rattle.sdd_moments.specs.obligations.links.Finding.{pair_cmp}
pub use Rattle.sdd_moments.specs.obligations.net.Links.{numbered, unacked}
pub use Rattle.sdd_moments.specs.obligations.net.Nets.{place_of}
pub use Rattle.sdd_moments.specs.obligations.pipe.Pipes.{pipe_at}
pub use Rattle.sdd_moments.specs.obligations.tm.State.{asked, class_of}
pub use Rattle.sdd_moments.proofs.schedule.world.attempts.Noting.{any_result as all_ok}
pub use Rattle.sdd_moments.proofs.schedule.world.data_module.Shown.{head_shown, met_is, waits_shown}
pub use Rattle.sdd_moments.proofs.progress.Handed.{link_there}
pub use Rattle.sdd_moments.proofs.progress.Still.{d_site}
pub use Rattle.sdd_moments.proofs.progress.lawful.Touched.{copy_module}
pub use Rattle.sdd_moments.proofs.schedule.EachEvent.{IsMarkedBetween, MarksNext, marked_between, marks_above, one_more_mark}
pub use Rattle.sdd_moments.proofs.schedule.GivenMore.{round_more, scheduled_more}
pub use Rattle.sdd_moments.proofs.schedule.world.sites.Failing.{handed_on}
pub use Rattle.sdd_moments.proofs.schedule.Lists.{kept_to}
pub use Rattle.sdd_moments.proofs.schedule.world.Results.{after_ok, of_ok}
pub use Rattle.sdd_moments.specs.schedule.world.attempts.Lines.{awaited_by, lacked_by, tries_of_first}
pub use Rattle.sdd_moments.specs.schedule.world.attempts.Sound.{IsLineOf, IsOfHead}
pub use Rattle.sdd_moments.specs.schedule.world.data_module.Heads.{head_at, holds_in, is_met_in, unmet}
pub use Rattle.sdd_moments.specs.schedule.world.data_module.Represents.{Shows}
pub use Rattle.sdd_moments.specs.schedule.world.data_module.State.{State}
pub use Rattle.sdd_moments.specs.schedule.world.data_module.Waiting.{holder_at, holders_in, holders_of, unmet_in, unmet_of}
pub use Rattle.sdd_moments.specs.schedule.world.exchange.Phases.{awaited_in}
pub use Rattle.sdd_moments.specs.schedule.world.exchange.declared.answer.Answer.{Answer}
pub use Rattle.sdd_moments.specs.schedule.Events.{IsToFollow}
pub use Rattle.sdd_moments.specs.schedule.declared.turn.Turn.{Turn}
pub use Rattle.sdd_moments.specs.schedule.world.txn_module.Represents.{Queues}
pub use Rattle.sdd_moments.specs.schedule.Copies.{tables_of}
pub use Rattle.sdd_moments.specs.schedule.Pending.{commits}
pub use Rattle.sdd_moments.specs.schedule.world.Represents.{Calm, Represents}
pub use Rattle.sdd_moments.specs.schedule.world.declared.world.World.{World}
pub use Rattle.sdd_moments.specs.Awaiting.{purposed}
pub use Rattle.sdd_watch.specs.Happens.{applied_by, applied_in, changes_applied, changes_of, committed_by, committed_in, concerns, happened_at, is_of_item, report_row, round_at, row_by, row_left, rows_of, scheduled_at, states_of, takes_part, with_row}
pub use Rattle.sdd_moments.specs.AtEvent.{arrived_by, arrived_of, found_by, is_of_queue, is_reached, last_event, lost_by, something_if, taken}
pub use Rattle.sdd_watch.specs.Keeping.{IsLineInOrder, active_of, head_in, question_by, questions_in}
pub use Rattle.sdd_moments.specs.Looking.{AreAside, queues_if}
pub use Rattle.sdd_watch.specs.Looking.{says, says_one}
pub use Rattle.sdd_moments.specs.Moments.{all_pipes, at_event, came, link_moment, moment_of, pipe_moment, queues_of}
pub use Rattle.sdd_moments.specs.Reaching.{given_to, home_in, reach_of}
pub use Rattle.sdd_watch.specs.ScheduleSoFar.{Foresees, Tells}
pub use Rattle.sdd_watch.specs.States.{actives, head_by, phase_by, questions_to, report_head, reported_active, reported_attempt, reported_dm, reported_tm, says_applied, state_of, unapplied_of}
pub use Rattle.sdd_watch.specs.Text.{IsTextOf, change, inside_text, line_of}
pub use Rattle.sdd_watch.specs.Watching.{AreCommits, AreDones, IsTellable, IsToTell, IsTurn, Knows, Watches, foresee_act, foresee_take, foreseen_by, is_done_at, taken_at}
pub use Rattle.sdd_moments.specs.Changes.{IsBetween, IsOver, all_sites, arrived, arrived_on, changed_links, changed_pipes, handed_over, is_changed_link, is_changed_pipe, is_still_link, is_still_pipe, is_taken, left_between, left_of, link_after, link_before, pipe_after, pipe_before, queues_by, watched_links, watched_pipes}
pub use Rattle.sdd_watch.specs.declared.commits.Commits.{Commits}
pub use Rattle.sdd_watch.specs.declared.dones.Dones.{Dones}
pub use Rattle.sdd_watch.specs.declared.foreseen.Foreseen.{Foreseen}
pub use Rattle.sdd_moments.specs.declared.reach.Reach.{Reach}
pub use Rattle.sdd_watch.specs.declared.teller.Teller.{Teller}
pub use Rattle.sdd_moments.specs.declared.waiting.Purpose.{Purpose}
pub use Rattle.sdd_moments.specs.declared.waiting.Purpose.TheVariants.{Applied}
pub use Rattle.sdd_watch.specs.declared.watch.Watch.{Watch}
pub use Rattle.sdd_moments.specs.declared.watched_link.Arrived.{Arrived}
pub use Rattle.std.proofs.Common.{All, Bool, List, None, Option, SFits as FitsSigned, Some, [], ap, append-nil, append_assoc, arith, cond, drop, eq-eqb, eqb-true, false, filter, filter_map, find, flat_map, fold, if◌then◌else◌, inl, inr, is_some, le-leb, length, length-take-le, map, max, nat_cmp, nat_le, nat_lt, not, option_map, pos, position, refl, rules, slice_get, slice_index_or as get_or, subst, suc, sym, take, take_all, true, unwrap_or, w64, zero, ℕ, ℤ, ◌&&◌, ◌*◌, ◌++◌, ◌+◌, ◌-◌, ◌/◌, ◌<◌, ◌==◌, ◌||◌, ◌∙◌, ◌∷◌, ◌≡◌, ◌≤◌}
pub use Rattle.std.proofs.lemmas.Bool.{and_parts, cases_Bool, cases_lt, lt-leb}
pub use Rattle.std.proofs.lemmas.Int.{to_z-of_z}
pub use Rattle.std.proofs.lemmas.Iterator.Adapters.{position_from-zero}
pub use Rattle.std.proofs.lemmas.List.{drop_all, flat_map_more, get_or_past, map-append, take_more}
pub use Rattle.std.proofs.lemmas.List.Concat.{flat_map-append}
pub use Rattle.std.proofs.lemmas.List.Elements.{All-filter, All-from_recursion, All-get_or, filter-append, filter_map-append}
pub use Rattle.std.proofs.lemmas.List.Folds.{list_any-append, list_any_more}
pub use Rattle.std.proofs.lemmas.List.FromFn.{map-range_with_len_more}
pub use Rattle.std.proofs.lemmas.List.Sums.{fold-append}
pub use Rattle.std.proofs.lemmas.Option.{slice_get-map}
pub use Rattle.std.proofs.lemmas.Simd.{map-map}
pub use Rattle.std.specs.BTreeMap.{get, is_at}
pub use Rattle.std.specs.BTreeSet.{contains}
pub use Rattle.std.specs.List.{AllByRecursion, cons_option, list_any, position_from, range_with_len}
pub use Rattle.std.specs.Option.{option_or}
