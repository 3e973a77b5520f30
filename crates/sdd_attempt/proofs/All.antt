-- The names of std, of the crates below and of this crate's definitions that its proofs cite. Declares nothing.
pub use Rattle.sdd_attempt.specs.Lines.{AreDistinct, AreTried, IsAwaited, IsLine, IsRunning, RunsFirst, ServesAt, active_of, attempt_of, commit_next, line_done, line_of, line_step, send_next, start_next}
pub use Rattle.sdd_attempt.specs.Sound.{AllUpTo, AreStamped, Differ, FitsAnswer, IsAsking, IsAskingAt, IsLineOf, IsModuleOf, IsOfHead, IsQueue, IsServed, IsUpTo, IsWaiting, ReadsWent, awaits_ready, is_reading, modules_in}
pub use Rattle.sdd_attempt.specs.Writes.{changes_at, write_of}
pub use Rattle.sdd_module.proofs.Making.{with_sends-append}
pub use Rattle.sdd_module.proofs.lang.Sets.{IsThere, each_filtered as all_kept, fragments_there, reads_there}
pub use Rattle.sdd_module.proofs.lang.catalog.RangeLemmas.{position_from_later as later}
pub use Rattle.sdd_module.specs.All.{Act, Bases, Catalogue, Change, ClassNo, Commit, Condition, Const, D, Database, Delete, Did, DmNo, Effect, Entry, Era, Fetch, FitsStatement, FitsTxn, FragNo, Handed, IsWhole, Log, Msg, Notes, Nothing, Put, Query, Read, Ready, Rec, Records, Redeclared, Reduce, Reduced, RelNo, Restriction, Row, Rows, Same, Sends, Setting, Ship, Site, Start, Stmt, Submits, Ticked, Ticking, Ts, Txn, TxnNo, Update, Use, Value, Values, ascending, bound_of, class_no, conditions, contains, current_era, dm_no, effect, frag_no, fragments_for, fragments_in, head_of, is_read_at, numbers_to, part_uses, pushed, read_set, reads_at, restrictions_of, sends_of_act, statement_uses, submits, tail_of, ticked, time_at, timestamp, txn_no, uses_from, uses_in, uses_of, value_cmp, with_act, with_values}
pub use Rattle.sdd_rules.proofs.attempt.Lists.{picked_to}
pub use Rattle.sdd_rules.proofs.attempt.Numbers.{own}
pub use Rattle.sdd_rules.proofs.graph.Lists.{collected_more, up_to}
pub use Rattle.sdd_rules.proofs.semijoin.Undone.{few_undone, fewer_left}
pub use Rattle.sdd_rules.specs.All.{AnswersRead, Asking, Attempt, AwaitsAt, Exchange, FitsRows, Join, Line, Move, Phase, Queued, Serves, Step, active, active_after, active_handed, active_sent, after_hand, after_send, answered, asking_of, askings, asks_rows, at_site, attempt_due, begins, better, clock, commit_act, counted, counts_for, fetches, fetches_from, fetches_use, fewest, first_phase, goes_on, handed, is_candidate, is_for, is_over, joins_from, module_read, modules_of, move_at, moves, moves_by, next_move, on_answer, phase_ends, pushed_by, queue, queue_after, read_to, reduces_use, send_due, sent, standing_of, start_act, started, starts_left, submitted, ticked_by, tried, use_there, with_use, without, work_of}
pub use Rattle.sdd_rules.specs.attempt.Acts.{AreThere, conditions_at, p2_of, write_to}
pub use Rattle.sdd_rules.specs.attempt.Exchange.{Fetching, Over, Shipping, count_of, first_send, reduces, ships, to_all}
pub use Rattle.sdd_rules.specs.attempt.Fits.{Awaits, FitsRowsOf, ServesIfLast, is_read, is_shipping, is_verdict}
pub use Rattle.sdd_rules.specs.attempt.Queues.{txn_of}
pub use Rattle.sdd_rules.specs.attempt.Standings.{lower, lowest, queued_at, standing_at, standing_by, underway}
pub use Rattle.sdd_rules.specs.declared.standing.Standing.TheVariants.{Absent}
pub use Rattle.sdd_rules.specs.declared.standing.Standing.{Standing}
pub use Rattle.sdd_rules.specs.graph.Edges.{IsClassOf}
pub use Rattle.sdd_running.proofs.Uses.{few_modules, same_length, small_text}
pub use Rattle.sdd_running.proofs.exchange.Room.{begins_room, handed_room, sent_room}
pub use Rattle.sdd_running.specs.Reads.{Beginning, IsDeclared, reads_of, reads_to}
pub use Rattle.sdd_running.specs.Running.{AreAwaitedFrom, Running, handed_by, step_by}
pub use Rattle.sdd_running.specs.declared.step.LineStep.TheVariants.{Commits as ToCommit, Sends as ToSend}
pub use Rattle.sdd_running.specs.exchange.Counts.{count_in, is_other, numbered}
pub use Rattle.sdd_running.specs.exchange.Modules.{dm_with_use, module_of}
pub use Rattle.sdd_running.specs.exchange.Outbox.{addressed}
pub use Rattle.sdd_running.specs.exchange.Phases.{move_of}
pub use Rattle.sdd_running.specs.exchange.Room.{AreAwaited, AreSmall, CarriesFew, FitsMove, HasRoom, HasUnion, IsSmallQuery, IsSmallStatement, IsSmallText, JoinsWithin, for_move, for_phase, for_reduce, is_fetching, most_values, moves_left}
pub use Rattle.sdd_running.specs.exchange.declared.phase.Reduction.{Reduction}
pub use Rattle.std.proofs.Common.{All, Bool, List, None, OnOk, Option, Ordering, Result, Some, [], ap, append_assoc, arith, cond, drop, eq-eqb, eqb-true, false, filter, filter_map, flat_map, fold, if◌then◌else◌, insert, is_some, length, length-append, map, nat_cmp, nat_lt, ne_eqb, not, option_map, position, refl, rules, slice_index_or as get_or, slice_set, subst, suc, suc-mul, sum, sym, take, true, unwrap_or, zero, ℕ, ◌&&◌, ◌*◌, ◌++◌, ◌+◌, ◌-◌, ◌<◌, ◌==◌, ◌^◌, ◌∙◌, ◌∷◌, ◌≡◌, ◌≢◌, ◌≤◌}
pub use Rattle.std.proofs.Math.Nat.{mul-le-mul_right}
pub use Rattle.std.proofs.lemmas.Bool.Decides.{nat_tests}
pub use Rattle.std.proofs.lemmas.Bool.{and_from, and_parts, and_right, cond-true, false≢true, or_left, or_right}
pub use Rattle.std.proofs.lemmas.Fn.{filter_same}
pub use Rattle.std.proofs.lemmas.Grind.{flat_map-append}
pub use Rattle.std.proofs.lemmas.Iterator.Adapters.{position_from-zero}
pub use Rattle.std.proofs.lemmas.List.Elements.{All-append, All-cons, All-filter, All-from_recursion, All-head, All-map, All-nil, All-push, All-tail, All-weaker, filter_map-append}
pub use Rattle.std.proofs.lemmas.List.FromFn.{length-range_with_len}
pub use Rattle.std.proofs.lemmas.List.{at_drop_more, map-append, take_more}
pub use Rattle.std.proofs.lemmas.Nat.{mul-le}
pub use Rattle.std.specs.BTreeSet.{insert_key}
pub use Rattle.std.specs.List.{AllByRecursion, cons_option, list_all, list_any, position_from, range_with_len}
pub use Rattle.std.specs.Ordering.{match_ordering}
