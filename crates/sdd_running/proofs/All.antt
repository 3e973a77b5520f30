-- The names of std, of the crates below and of this crate's definitions that its proofs cite. Declares nothing.
pub use Rattle.sdd_exchange.proofs.Room.{handed_room, values_below}
pub use Rattle.sdd_exchange.specs.Modules.{dm_with_use, module_of, numbered, with_use}
pub use Rattle.sdd_exchange.specs.Room.{IsSmallStatement, IsSmallText}
pub use Rattle.sdd_module.proofs.Making.{with_sends-append}
pub use Rattle.sdd_module.specs.All.{Catalogue, Condition, Delete, DmNo, FitsStatement, FitsTxn, FragNo, IsWhole, Msg, Notes, Put, Query, Rec, RelNo, Restriction, Site, Start, Stmt, Ticking, Txn, Update, Use, ascending, bound_of, class_no, conditions, dm_no, frag_no, fragments_for, fragments_in, is_read_at, numbers_to, part_uses, reads_at, restrictions_of, sends_of_act, statement_uses, ticked, time_at, timestamp, txn_no, uses_from, uses_of, with_act}
pub use Rattle.sdd_rules.proofs.attempt.Lists.{few_filtered, few_picked, inserted_few, map-filter_map, map-filter_map_all, map_both}
pub use Rattle.sdd_rules.proofs.attempt.Numbers.{own}
pub use Rattle.sdd_rules.proofs.attempt.Uses.{uses_there}
pub use Rattle.sdd_rules.proofs.catalog.RangeLemmas.{position_from_later as later}
pub use Rattle.sdd_rules.proofs.graph.Lists.{up_to}
pub use Rattle.sdd_rules.proofs.lang.Sets.{IsThere, fragments_there, reads_there}
pub use Rattle.sdd_rules.specs.All.{Exchange, Queued, after_hand, begins, clock, module_read, modules_of, read_to, start_act, use_there}
pub use Rattle.sdd_rules.specs.attempt.Acts.{AreThere, conditions_at, p2_of}
pub use Rattle.sdd_rules.specs.graph.Edges.{IsClassOf}
pub use Rattle.sdd_running.specs.Reads.{Beginning, IsDeclared, reads_of, reads_to}
pub use Rattle.sdd_running.specs.Running.{AreAwaitedFrom, Running}
pub use Rattle.std.proofs.Common.{All, Bool, List, None, Some, [], ap, append_assoc, arith, cond, drop, false, filter, filter_map, fold, if◌then◌else◌, insert, length, length-append, map, nat_cmp, nat_lt, not, option_map, position, refl, slice_index_or as get_or, subst, suc, sym, take, true, unwrap_or, ℕ, ◌*◌, ◌++◌, ◌+◌, ◌-◌, ◌<◌, ◌==◌, ◌^◌, ◌∙◌, ◌∷◌, ◌≡◌, ◌≤◌}
pub use Rattle.std.proofs.lemmas.Bool.Decides.{nat_tests}
pub use Rattle.std.proofs.lemmas.Grind.{flat_map-append}
pub use Rattle.std.proofs.lemmas.Iterator.Adapters.{position_from-zero}
pub use Rattle.std.proofs.lemmas.List.{map-append, take_more}
pub use Rattle.std.proofs.lemmas.List.Elements.{All-append, All-cons, All-from_recursion, All-head, All-nil, All-tail, filter_map-append}
pub use Rattle.std.proofs.lemmas.List.FromFn.{length-range_with_len}
pub use Rattle.std.specs.BTreeSet.{insert_key}
pub use Rattle.std.specs.List.{AllByRecursion}
