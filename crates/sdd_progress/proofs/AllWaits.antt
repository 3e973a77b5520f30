-- The names of std, of the crates below and of this crate's definitions that its proofs on READs that wait cite. Declares nothing.
pub use Rattle.sdd_blocks.proofs.Classes.{joins_within}
pub use Rattle.sdd_blocks.proofs.Cycles.{neighbours_share}
pub use Rattle.sdd_blocks.proofs.Walks.{joins_back}
pub use Rattle.sdd_blocks.specs.Blocks.{AreBlocks}
pub use Rattle.sdd_blocks.specs.Blocks.Linked.{last}
pub use Rattle.sdd_blocks.specs.Graph.{IsSimpleCycle, JoinedWithout, Joins, Step}
pub use Rattle.sdd_blocks.specs.Neighbours.{Neighbours}
pub use Rattle.sdd_lawful.proofs.Beginnings.{in_numbers as range_there}
pub use Rattle.sdd_lawful.proofs.Classes.{era_there}
pub use Rattle.sdd_lawful.proofs.Conditions.{in_filter_mapped}
pub use Rattle.sdd_lawful.proofs.Touched.{any_there as any_here}
pub use Rattle.sdd_obligations.proofs.NoRejects.{kept_place as kept_there}
pub use Rattle.sdd_obligations.proofs.Submitting.{le_true as is_le}
pub use Rattle.sdd_obligations.proofs.invariants.Again.{first_there, is_spoilt, le_as as le_by, writer_of}
pub use Rattle.sdd_obligations.proofs.invariants.Answered.{read_of}
pub use Rattle.sdd_obligations.proofs.invariants.Apart.{low_or_high}
pub use Rattle.sdd_obligations.proofs.invariants.AreReadSteps.{class_at_place, class_in_view, class_not_in_view, d_step}
pub use Rattle.sdd_obligations.proofs.invariants.Bools.{and_left, and_right, neither_left, neither_right, not_both, not_zero, only_right, same_number, same_or_not, true_or_false}
pub use Rattle.sdd_obligations.proofs.invariants.ClassOrder.{class_rises, earlier}
pub use Rattle.sdd_obligations.proofs.invariants.Dones.{all_applied, head_in as head_place}
pub use Rattle.sdd_obligations.proofs.invariants.Fair.{d_fair}
pub use Rattle.sdd_obligations.proofs.invariants.InPipe.{in_pipe}
pub use Rattle.sdd_obligations.proofs.invariants.Installed.{class_number, head_put, origin, write_origin}
pub use Rattle.sdd_obligations.proofs.invariants.Lists.{any_at, at_seam, in_filtered, in_none, in_one, in_range, in_right, within_left}
pub use Rattle.sdd_obligations.proofs.invariants.Made.{local_grows, local_step, maker, own_act, permitted_before}
pub use Rattle.sdd_obligations.proofs.invariants.Once.{answered_once, processed_grows}
pub use Rattle.sdd_obligations.proofs.invariants.Processed.{not_own, own_record, passing, processed_handed, processed_more, read_step_way}
pub use Rattle.sdd_obligations.proofs.invariants.ReadsPut.{start_puts}
pub use Rattle.sdd_obligations.proofs.invariants.Releases.{one_if_le as one_at_most}
pub use Rattle.sdd_obligations.proofs.invariants.Sites.{site_self}
pub use Rattle.sdd_obligations.proofs.invariants.Split.{le_is}
pub use Rattle.sdd_obligations.proofs.invariants.Undeclared.{answered_before, commit_t, low_applied, never_spoilt, not_again, part_join, part_of, permitted_part, read_classes, read_times as own_time}
pub use Rattle.sdd_obligations.proofs.invariants.Waiting.{class_there, processed_in_is, spoils_is}
pub use Rattle.sdd_obligations.proofs.catalog.Sound.{at_number, sound_classes, sound_whole}
pub use Rattle.sdd_obligations.proofs.dm.Prefix.{all_handed, all_there}
pub use Rattle.sdd_obligations.proofs.graph.Known.{edges_known}
pub use Rattle.sdd_obligations.proofs.logs.EachLocal.{allowed_act}
pub use Rattle.sdd_obligations.proofs.logs.NewMarks.{lawful_permitted}
pub use Rattle.sdd_obligations.proofs.logs.Steps.{none_does as no_act, none_in}
pub use Rattle.sdd_obligations.proofs.logs.net.Lists.{get-append as in_left}
pub use Rattle.sdd_obligations.proofs.logs.tm.Lists.{get_map as at_map, get_within as place_within, of_map as in_mapped}
pub use Rattle.sdd_obligations.proofs.logs.umod.Lists.{or_nothing as neither_some}
pub use Rattle.sdd_obligations.proofs.protocol.ConditionOn.{condition_is}
pub use Rattle.sdd_obligations.proofs.protocol.Tables.{all_at, blocks_of, first_block, first_block-vertical, vertical_block-lists}
pub use Rattle.sdd_obligations.proofs.shipped.Members.{or_false as only_one}
pub use Rattle.sdd_obligations.specs.invariants.All.{Act, AllGe, Answer, Apply, AreSubmittedOnce, Bases, Catalogue, Change, Class, ClassNo, ClassView, Cond, D, Deliver, Diagonal, Did, DmNo, Does, Each, Edge, Entry, Era, Event, FragNo, Hand, Handed, Home, Input, IsApplied, IsApplyOf, IsClassHere, IsDue, IsDueEach, IsEra, IsLawful, IsPermitted, IsPutAt, IsRead, IsReadStep, IsRising, IsServedClass, IsSoundCatalogue, IsTable, IsTheLog, Log, May, Msg, Open, P2, P3, Pipe, Processes, Protocol, Put, Query, Queued, Read, Ready, Rec, Records, Reject, Sends, Setting, Site, Submit, T, TmNo, Ts, Txn, TxnNo, U, Use, Vertical, View, Wait, Write, act_by, act_where, active, all_of, answer_of, answer_to, ascending, asked_by, asked_in, asked_on, base_of, bound, by_head, by_open, by_record, class_at, class_no, class_puts, condition_on, conditions_at, current_era, dm_no, does_at, exchange_due, first_some, frag_no, fragments_in, goes_through, head, head_due, head_of, home, home_of, is_asked_of, is_met, is_processing, is_wait, judged, last_write_for, local_of, made, next, next_at, next_stamp, nth_era, number_of, numbers_to, on_hold, open_due, or_else, or_zero, pipe, pipe_at, put, queue, redeclares, runs, same_protocol, sends_of_act, setting_of, site_due, sites, spoiler, spoils, start_at, start_due, start_of, start_read, step_on, time_at, time_of, tm_no, to_site, touches, txn_no, u_stamp, uses_of, view_of, waits, with_made}
pub use Rattle.sdd_obligations.specs.invariants.Barrier.{IsLow}
pub use Rattle.sdd_obligations.specs.invariants.Unspoilt.{spoiling}
pub use Rattle.sdd_obligations.specs.base.Numbers.{rel_no}
pub use Rattle.sdd_obligations.specs.base.declared.restriction.Op.TheVariants.{Le}
pub use Rattle.sdd_obligations.specs.base.declared.value.Value.TheVariants.{Int}
pub use Rattle.sdd_obligations.specs.dm.Due.{due, holds, holds_back}
pub use Rattle.sdd_obligations.specs.dm.Views.{class_view}
pub use Rattle.sdd_obligations.specs.graph.Edges.{IsClassOf, IsEdgeOf, ReadsFrom}
pub use Rattle.sdd_obligations.specs.graph.Graph.{conflict_graph, diagonal_edges, ends, horizontal_edges, read_node, write_node}
pub use Rattle.sdd_obligations.specs.history.declared.record.Rec.TheVariants.{Reject as Rejected}
pub use Rattle.sdd_obligations.specs.lang.declared.condition.Condition.TheVariants.{Const}
pub use Rattle.sdd_obligations.specs.logs.Due.{extended}
pub use Rattle.sdd_obligations.specs.logs.Permitted.{one_if}
pub use Rattle.sdd_obligations.specs.pipe.Pipe.{passed, passed_by}
pub use Rattle.sdd_obligations.specs.protocol.Protocols.{diagonal_protocol, protocol_in, vertical_block}
pub use Rattle.sdd_obligations.specs.protocol.declared.protocol.Protocol.TheVariants.{P1}
pub use Rattle.sdd_obligations.specs.tm.Due.{held_due, null_due}
pub use Rattle.sdd_progress.specs.Answers.{EndsAnEvent, IsAnsweredIn, IsAppliedIn, IsEventOver, IsRejectedAfter, IsRejectedIn, IsSpoiltIn, begins_event, begins_or_ends}
pub use Rattle.sdd_progress.specs.Conditions.{AllDiagonalsIn, AreConditionsOf, IsDiagonalIn, IsFromTable}
pub use Rattle.sdd_progress.specs.WaitExamples.{changes_of_put, conds_of_query, conds_of_spoilt, given_put_first, given_put_later, given_spoilt, in_its_event, one_writer, put_attempt, put_commits, put_first, put_handed, query_queued, read_handed, three_classes, uses_of_query, uses_of_spoilt}
pub use Rattle.sdd_progress.specs.Free.{IsFree, IsFreeClass, IsInNoBlock, ends_at, is_node_of}
pub use Rattle.sdd_progress.specs.Heads.{IsStuck}
pub use Rattle.sdd_progress.specs.Rejections.{IsAnswerOf, IsRejectOf}
pub use Rattle.sdd_progress.specs.Theorems.{DiagonalsListed, NoPathToWriter, NoneWaits, TableFits}
pub use Rattle.sdd_progress.specs.WaitGraph.{Arc, FitsBlocks, FitsWaitGraph, IsClass, IsDiagonal, Path, WaitDiagonal, WaitGraph}
pub use Rattle.sdd_progress.specs.WaitGraph.Arc.{held, within}
pub use Rattle.sdd_progress.specs.WaitGraph.Path.{go, stop}
pub use Rattle.sdd_progress.specs.WaitGraphs.{diagonal_at, diagonals, wait_graph, wait_protocol}
pub use Rattle.sdd_progress.specs.Waited.{IsWaitOf, WaitsSince, lacking}
pub use Rattle.sdd_progress.specs.WaitingReads.{IsStamped, IsTimestamp, WaitingRead, WaitsOn, wait_time}
pub use Rattle.sdd_progress.specs.WaitingReads.WaitsOn.{holder, reader}
pub use Rattle.std.proofs.Common.{Bool, List, None, Option, Some, [], ap, append-nil, append_assoc, arith, cond, eq-eqb, eqb-true, false, filter, if◌then◌else◌, inl, inr, length, length-append, lit<, lit≤, map, nat_eq as eqb, nat_le, ne_eqb, negsuc, not, option_map, pos, refl, slice_get, slice_index, slice_index_or, subst, suc, sym, take, true, zero, ℕ, ◌&&◌, ◌*◌, ◌++◌, ◌+◌, ◌-◌, ◌<◌, ◌==◌, ◌||◌, ◌∙◌, ◌∷◌, ◌≡◌, ◌≢◌, ◌≤◌, ◌⊎◌}
pub use Rattle.std.proofs.Math.Decide.{dec_le}
pub use Rattle.std.proofs.lemmas.Bool.{and_from as both, cases_Bool, cases_eq, false≢true, or_left, or_right}
pub use Rattle.std.proofs.lemmas.List.{get_or_past, length-map}
pub use Rattle.std.proofs.lemmas.List.FromFn.{length-map-range_with_len}
pub use Rattle.std.proofs.lemmas.Map.Keys.{IsDistinct-cons}
pub use Rattle.std.proofs.lemmas.Map.Steps.{length-le_from_distinct_below}
pub use Rattle.std.proofs.lemmas.Option.{get_or_from_slice_get, same_Some, slice_get-get_or, slice_get-map}
pub use Rattle.std.specs.List.{AllByRecursion, cons_option, list_all, list_any, range_with_len}
