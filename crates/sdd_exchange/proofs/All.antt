-- The names of std, of the crates below and of this crate's definitions that its proofs cite. Declares nothing.
pub use Rattle.sdd_exchange.specs.Counts.{count_in, is_other}
pub use Rattle.sdd_exchange.specs.Modules.{dm_with_use, module_of, with_use}
pub use Rattle.sdd_exchange.specs.Outbox.{addressed, numbered}
pub use Rattle.sdd_exchange.specs.Phases.{move_of}
pub use Rattle.sdd_exchange.specs.Room.{AreAwaited, AreSmall, CarriesFew, FitsMove, HasRoom, HasUnion, IsSmallQuery, IsSmallStatement, IsSmallText, JoinsWithin, for_move, for_phase, for_reduce, is_fetching, most_values, moves_left}
pub use Rattle.sdd_exchange.specs.declared.phase.Reduction.{Reduction}
pub use Rattle.sdd_module.specs.All.{ClassNo, Condition, Const, DmNo, Fetch, Msg, Reduce, Row, Same, Ship, Site, Stmt, Ts, Txn, Value, Values, contains, uses_in, value_cmp, with_values}
pub use Rattle.sdd_rules.proofs.attempt.Lists.{few_filtered, few_picked, inserted_few, map-filter, map-filter_map, map-filter_map_all, map_both}
pub use Rattle.sdd_rules.proofs.attempt.Numbers.{own}
pub use Rattle.sdd_rules.proofs.attempt.Work.{chosen_by}
pub use Rattle.sdd_rules.proofs.graph.Lists.{collected_more, up_to}
pub use Rattle.sdd_rules.specs.All.{Asking, Exchange, Join, Move, Phase, Step, after_hand, after_send, answered, asking_of, askings, begins, counted, counts_for, fetches, fetches_from, fewest, first_phase, goes_on, is_candidate, joins_from, module_read, move_at, moves, moves_by, next_move, on_answer, phase_ends, without}
pub use Rattle.sdd_rules.specs.attempt.Exchange.{Fetching, Over, Shipping, count_of, reduces, to_all}
pub use Rattle.sdd_rules.specs.attempt.Standings.{lower, lowest}
pub use Rattle.sdd_semijoin.proofs.Undone.{few_undone, fewer_left}
pub use Rattle.std.proofs.Common.{All, Bool, List, None, OnOk, Option, Some, [], ap, arith, cond, drop, filter, filter_map, flat_map, fold, if◌then◌else◌, length, length-append, map, not, option_map, refl, rules, slice_index_or as get_or, subst, suc-mul, sum, sym, take, true, ℕ, ◌&&◌, ◌*◌, ◌++◌, ◌+◌, ◌-◌, ◌<◌, ◌==◌, ◌^◌, ◌∙◌, ◌∷◌, ◌≡◌, ◌≤◌}
pub use Rattle.std.proofs.Math.Nat.{mul-le-mul_right}
pub use Rattle.std.proofs.lemmas.Bool.Decides.{nat_tests}
pub use Rattle.std.proofs.lemmas.Fn.{filter_same}
pub use Rattle.std.proofs.lemmas.List.{at_drop_more, map-append}
pub use Rattle.std.proofs.lemmas.List.Elements.{All-filter, All-head, All-nil, All-tail}
pub use Rattle.std.proofs.lemmas.Nat.{mul-le}
pub use Rattle.std.specs.BTreeSet.{insert_key}
pub use Rattle.std.specs.List.{cons_option, range_with_len}
