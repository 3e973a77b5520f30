-- The names of std, of the crates below and of this crate's definitions that its proofs cite. Declares nothing.
pub use Rattle.sdd_base.specs.Numbers.{class_no}
pub use Rattle.sdd_base.specs.declared.condition.Cond.{Cond}
pub use Rattle.sdd_base.specs.declared.number.FragNo.{FragNo}
pub use Rattle.sdd_blocks.proofs.CycleNumbers.{one_number_a_cycle}
pub use Rattle.sdd_blocks.proofs.OneNumbering.{one_numbering}
pub use Rattle.sdd_blocks.specs.Blocks.{AreBlocks}
pub use Rattle.sdd_blocks.specs.Graph.{IsSimpleCycle, Step}
pub use Rattle.sdd_catalog.specs.Catalogue.{Catalogue, numbers_to}
pub use Rattle.sdd_graph.proofs.Known.{edges_join, edges_known}
pub use Rattle.sdd_graph.proofs.Lists.{collected_more, up_to}
pub use Rattle.sdd_graph.specs.Edges.{IsEdgeOf, JoinsNodes}
pub use Rattle.sdd_graph.specs.Graph.{classes_of, conflict_graph, ends, read_node, write_node}
pub use Rattle.sdd_graph.specs.declared.edge.Edge.{Edge}
pub use Rattle.sdd_graph.specs.declared.edge.Edge.TheVariants.{Diagonal, Vertical}
pub use Rattle.sdd_protocol.specs.FragmentMarks.{AreMarks, is_marked}
pub use Rattle.sdd_protocol.specs.Attempts.{condition_by, conditions_on}
pub use Rattle.sdd_protocol.specs.Conditions.{asked_by, asked_in, cond_for, cond_of, condition_on, condition_under, conditions, is_asked, is_read_at, protocol_between, time_asked}
pub use Rattle.sdd_protocol.specs.DiagonalIndex.{Covers, DiagonalIndex, HasCell, IsIndexOf, cell, no_diagonals, range_of, widened, with_edge}
pub use Rattle.sdd_protocol.specs.Entries.{AreEntries, HasVertical}
pub use Rattle.sdd_protocol.specs.Laws.{OneBlock, OneProtocol, OneTable}
pub use Rattle.sdd_protocol.specs.Protocols.{IsTable, diagonal_protocol, is_between, is_vertical_of, protocol_in, vertical_block}
pub use Rattle.sdd_protocol.specs.declared.attempt.Attempt.{Attempt}
pub use Rattle.sdd_protocol.specs.declared.entry.Entry.{Entry}
pub use Rattle.sdd_protocol.specs.declared.protocol.Protocol.{Protocol}
pub use Rattle.sdd_protocol.specs.declared.protocol.Protocol.TheVariants.{P1, P2, P3}
pub use Rattle.std.proofs.Common.{All, Bool, Global, List, None, Option, Some, Vec, [], ap, append-nil, arith, cond, drop, eq-eqb, eqb-true, false, filter, filter_map, find, get_or-drop, get_or-set_other, get_or-set_same, get_or-take, inl, inr, length, length-append, length-drop, length-set, length-take, map, ne_eqb, option_and_then, option_map, refl, replicate, slice_get, slice_index_or as get_or, slice_set as set, subst, suc, sym, take, take-append-drop, take_all, true, unwrap_or, zero, ℕ, ◌&&◌, ◌*◌, ◌++◌, ◌+◌, ◌-◌, ◌<◌, ◌==◌, ◌||◌, ◌∙◌, ◌∷◌, ◌≡◌, ◌≢◌, ◌≤◌, ◌⊎◌}
pub use Rattle.std.proofs.Math.Bool.{or-false, or-true}
pub use Rattle.std.proofs.lemmas.Bool.{and_from, and_parts, and_right, cases_Bool, cases_eq, cases_lt}
pub use Rattle.std.proofs.lemmas.List.{get_or-map, get_or_default, get_or_past, length-map, length-replicate, same_lists}
pub use Rattle.std.proofs.lemmas.List.Elements.{All-head, All-map, All-replicate, All-set, All-tail, All-weaker, filter-append, filter_map-append}
pub use Rattle.std.proofs.lemmas.List.Folds.{drop_split, list_any_more}
pub use Rattle.std.proofs.lemmas.List.FromFn.{length-map-range_with_len}
pub use Rattle.std.proofs.lemmas.Nat.{mul-add-lt}
pub use Rattle.std.proofs.lemmas.Option.{get_or_from_slice_get, same_Some, slice_get-map, slice_get_within}
pub use Rattle.std.proofs.lemmas.Result.{IfOk-weaker}
pub use Rattle.std.specs.List.{list_any, range_with_len}
pub use Rattle.std.proofs.lemmas.Bool.Decides.{nat_tests}
