-- The names of std, of the crates below and of this crate's definitions that its proofs cite. Declares nothing.
pub use Rattle.sdd_copy.specs.Items.{Dated}
pub use Rattle.sdd_graph.proofs.Lists.{up_to}
pub use Rattle.sdd_module.proofs.Finding.{flat_map-map, found_at, map_twice, one_of}
pub use Rattle.sdd_module.proofs.lang.Sets.{IsThere, fragments_there}
pub use Rattle.sdd_module.specs.All.{Act, Ask, Bases, Catalogue, Change, Condition, Delete, Did, Entry, FragNo, Handed, Log, Msg, Put, Query, Rec, Records, RelNo, Restriction, Sends, Setting, Site, Stmt, Ticking, Txn, Update, Use, ascending, first_some, fragments_for, fragments_in, goes_through, hands, numbers_to, or_else, part_uses, restrictions_of, sends_of_act, statement_uses, ticked, uses_from, uses_of}
pub use Rattle.sdd_module.specs.wire.declared.msg.Msg.TheVariants.{Hold}
pub use Rattle.sdd_pipe.specs.Pipes.{update}
pub use Rattle.sdd_rules.specs.attempt.Acts.{AreThere, attempt_due, modules_of, read_to, start_act}
pub use Rattle.sdd_rules.specs.attempt.Attempts.{Attempt, active_sent, asks_rows}
pub use Rattle.sdd_rules.specs.attempt.Exchange.{Asking, Exchange, Phase, goes_on, module_read, on_answer, phase_ends, send_due}
pub use Rattle.sdd_rules.specs.attempt.Queues.{Queued, queue}
pub use Rattle.sdd_rules.specs.attempt.Starts.{work_of}
pub use Rattle.sdd_rules.specs.dm.Copies.{classes_of, dated, first_rows}
pub use Rattle.sdd_rules.specs.dm.Due.{IsDue, by_head, by_open, due, head_due, open_due}
pub use Rattle.sdd_rules.specs.dm.Pipes.{is_processing, pipe, waits}
pub use Rattle.sdd_rules.specs.dm.Views.{Home, View, after, class_after, class_view, dated_in, view_of}
pub use Rattle.sdd_rules.specs.tm.Due.{by_ask, by_exchange, by_hold, by_start, exchange_due, held_due, null_due, null_to, start_due}
pub use Rattle.sdd_rules.specs.tm.OpenAsks.{AreOpen, Rise}
pub use Rattle.sdd_rules.specs.tm.Views.{HoldCounts, Question, asks, holds, holds_acted, runs}
pub use Rattle.sdd_rules.specs.umod.Due.{by_release, hold_due, release_due}
pub use Rattle.sdd_rules.specs.umod.Views.{Served, TmCounts, counts, counts_handed, served_handed as served_now}
pub use Rattle.sdd_semijoin.specs.Steps.{Move, better}
pub use Rattle.sdd_semijoin.specs.declared.step.Step.{Step}
pub use Rattle.std.proofs.Common.{All, Bool, Contains, List, None, Option, Ordering, Some, [], ap, append_assoc, arith, cond, drop, eq-eqb, false, filter, filter_map, find, if◌then◌else◌, length, map, nat_lt, option_map, refl, rules, slice_get, slice_index_or, slice_index_or as get_or, slice_set, suc, sym, take, true, zero, ℕ, ◌&&◌, ◌++◌, ◌+◌, ◌-◌, ◌<◌, ◌==◌, ◌||◌, ◌∙◌, ◌∷◌, ◌≡◌, ◌≢◌, ◌≤◌}
pub use Rattle.std.proofs.lemmas.Bool.Decides.{nat_tests}
pub use Rattle.std.proofs.lemmas.List.{at_drop_more, map-append}
pub use Rattle.std.proofs.lemmas.List.Edits.{map_over_more}
pub use Rattle.std.proofs.lemmas.List.Elements.{All-append, All-cons, All-from_recursion, All-nil, Contains-append_left, filter_map-append}
pub use Rattle.std.specs.BTreeSet.{insert_key}
pub use Rattle.std.specs.List.{AllByRecursion, cons_option, list_all, list_any, range_with_len}
pub use Rattle.std.specs.Ordering.{match_ordering}
