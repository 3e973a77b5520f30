-- The names of std, of the crates below and of this crate's definitions that its proofs cite. Declares nothing.
pub use Rattle.sdd_world.proofs.Rounds.{few, free, rests_more as rests_given, round_before, round_ends, single}
pub use Rattle.sdd_world.proofs.attempts.Noting.{any_result as all_ok}
pub use Rattle.sdd_world.proofs.needs.attempt.Lists.{picked_to}
pub use Rattle.sdd_world.proofs.needs.class_eras.EraFits.{fits_in_era}
pub use Rattle.sdd_world.proofs.needs.graph.Lists.{each_more, up_to}
pub use Rattle.sdd_world.proofs.needs.logs.AsLists.{left_is_ahead}
pub use Rattle.sdd_world.proofs.needs.logs.Completing.{complete_parts, one_more, redeclare_next, settled}
pub use Rattle.sdd_world.proofs.needs.logs.EachLocal.{allowed_act}
pub use Rattle.sdd_world.proofs.needs.logs.Grows.{grows, lawful_grows, next_grows, with_end}
pub use Rattle.sdd_world.proofs.needs.logs.NextMark.{mark_is_next}
pub use Rattle.sdd_world.proofs.needs.logs.One.{IsBefore, one_chain}
pub use Rattle.sdd_world.proofs.needs.logs.Permitted.{next_allowed}
pub use Rattle.sdd_world.proofs.needs.logs.Rounding.{no_events_quiet}
pub use Rattle.sdd_world.proofs.needs.logs.tm.Lists.{of_map as in_mapped}
pub use Rattle.sdd_world.proofs.needs.net.Directions.{same_is}
pub use Rattle.sdd_world.proofs.needs.net.Queues.{no_items}
pub use Rattle.sdd_world.proofs.sites.Failing.{handed_on}
pub use Rattle.sdd_world.specs.Represents.{EndsBy, IsNextList, IsSoundNetwork, Represents, Rounding, Settling, events_of}
pub use Rattle.sdd_world.specs.declared.world.World.{World}
pub use Rattle.sdd_world.specs.needs.All.{Act, Catalogue, ClassView, D, Did, DmNo, Does, Event, Fetch, Hand, Handed, Home, Input, IsDue, IsGood, IsLawful, IsPossible, IsSiteOf, Log, Mark, Msg, Notes, Null, Open, Processes, Read, Records, Redeclare, Redeclares, Reduce, Rests, Round, Sends, Setting, Settle, Ship, Site, Submit, Submitted, T, TakesRounds, TmNo, Txn, U, Up, View, Write, act_by, act_where, after_mark, all_links, answer_of, answer_to, by_head, by_open, calls_of, class_for, dated, dm_no, greatest_bound, has_copy, head, head_of, history, is_asked_of, is_processing, is_site, is_wait, left, local_of, marks, next, nth_era, numbers_to, pipe, quiet, redeclares, round, same_site, setting_of, txn_at, view_of, waits, with_event, with_submit}
pub use Rattle.sdd_world.specs.needs.base.Words.{tail_of}
pub use Rattle.sdd_world.specs.needs.copy.Contents.{Dated}
pub use Rattle.sdd_world.specs.needs.dm.Due.{head_step}
pub use Rattle.sdd_world.specs.needs.dm.Pipes.{waits_acted}
pub use Rattle.sdd_world.specs.needs.dm.Views.{class_view}
pub use Rattle.sdd_world.specs.needs.dm.Waiting.{conds_of, waiting_at}
pub use Rattle.sdd_world.specs.needs.logs.Due.{home_of}
pub use Rattle.sdd_world.specs.needs.logs.Entries.{Entry}
pub use Rattle.sdd_world.specs.needs.logs.Left.{as_lists, mark_from, mark_of}
pub use Rattle.sdd_world.specs.needs.logs.Marks.{Ahead, BetweenRounds, InRound, ahead, from_event}
pub use Rattle.sdd_world.specs.needs.logs.Permitted.{IsDueAt}
pub use Rattle.sdd_world.specs.needs.site_rules.declared.step.Step.{Step}
pub use Rattle.sdd_world.specs.needs.site_rules.declared.step.Step.TheVariants.{Refuses, Waits}
pub use Rattle.sdd_world.specs.sites.declared.ends.WorldEnd.{WorldEnd}
pub use Rattle.sdd_schedule.specs.Copies.{table_of, tables_at, tables_in}
pub use Rattle.sdd_schedule.specs.Events.{IsBetween, IsMark, IsTellable, IsToFollow, IsTurn}
pub use Rattle.sdd_schedule.specs.LastHomes.{AreCommitted, last_home, pending_at_last}
pub use Rattle.sdd_schedule.specs.Pending.{commits, status_at, unmet, wait_at, wait_for, waits_of, why_of}
pub use Rattle.sdd_schedule.specs.Places.{if_in_round, last_event, place_in, place_of_first, round_at, round_in, rounds, scheduled_at}
pub use Rattle.sdd_schedule.specs.Schedules.{AreAllowed, IsAllowed, IsListed, lists_after, takes_rounds, with_events}
pub use Rattle.sdd_schedule.specs.SoFar.{AfterRounds, BetweenTwo, IsFollowed, WithinRound}
pub use Rattle.sdd_schedule.specs.declared.schedule.ClassList.{ClassList}
pub use Rattle.sdd_schedule.specs.declared.turn.Turn.{Turn}
pub use Rattle.std.proofs.Common.{Bool, Err, List, MatchOption, None, Ok, OnOk, Option, Result, Some, [], ap, append-nil, append_assoc, arith, cond, false, filter, filter_map, flat_map, if◌then◌else◌, inl, inr, length, map, nat_cmp, ne_eqb, option_map, refl, rules, slice_get, slice_index_or as get_or, subst, suc, sym, take, true, zero, ℕ, ◌++◌, ◌+◌, ◌-◌, ◌<◌, ◌==◌, ◌^◌, ◌||◌, ◌∙◌, ◌∷◌, ◌≡◌, ◌≢◌, ◌≤◌, ◌⊎◌}
pub use Rattle.std.proofs.Math.Bool.{or-false}
pub use Rattle.std.proofs.lemmas.List.{map-append, take_more}
pub use Rattle.std.proofs.lemmas.List.Elements.{filter-append, filter_map-append}
pub use Rattle.std.proofs.lemmas.List.Folds.{list_any-append}
pub use Rattle.std.proofs.lemmas.Option.{slice_get-get_or, slice_get_past}
pub use Rattle.std.specs.BTreeSet.{contains}
pub use Rattle.std.specs.List.{list_any, range_with_len}
