-- The names of std, of the crates below and of this crate's definitions that its proofs cite. Declares nothing.
pub use Rattle.sdd_acyclic.specs.Deeds.{Applies, Deeds, ErasApart, IsHigh, IsLow, IsSeen, Starts, Touches, Txn, ZeroAlone, system}
pub use Rattle.sdd_acyclic.specs.Eras.{Ranked, of_era}
pub use Rattle.sdd_acyclic.specs.Fits.{FitsSystem, IsFragmentOf, Meets}
pub use Rattle.sdd_acyclic.specs.Graphs.{Covers, IsDiagonal, IsHorizontal, IsVertical, Waits, time_in}
pub use Rattle.sdd_acyclic.specs.System.{Below, Facts, Precedes, System, over}
pub use Rattle.sdd_acyclic.specs.System.Precedes.{by_class, by_seen, by_unseen, by_writes}
pub use Rattle.sdd_acyclic.specs.Theorems.{ForestsLeaveNoCycle, ProtocolsLeaveNoCycle}
pub use Rattle.sdd_acyclic.specs.Undeclared.{Declared, HasBarriers, declared}
pub use Rattle.sdd_base.specs.Numbers.{class_no, frag_no}
pub use Rattle.sdd_base.specs.Words.{contains}
pub use Rattle.sdd_base.specs.declared.condition.Cond.{Cond}
pub use Rattle.sdd_base.specs.declared.number.ClassNo.{ClassNo}
pub use Rattle.sdd_base.specs.declared.number.FragNo.{FragNo}
pub use Rattle.sdd_blocks.proofs.ClosedWalks.{closed_walks_are_cycles}
pub use Rattle.sdd_blocks.proofs.CycleNumbers.{not_zero_on_cycle, same_on_cycle}
pub use Rattle.sdd_blocks.proofs.Linked.{linked_back, linked_first, linked_on, linked_second}
pub use Rattle.sdd_blocks.proofs.Numbering.{IsNumberingAt, all_numbered, no_numbers_yet, number_given, number_made}
pub use Rattle.sdd_blocks.specs.Blocks.{AreBlocks, Linked, OnACycle, ShareACycle}
pub use Rattle.sdd_blocks.specs.Blocks.Linked.{last, more}
pub use Rattle.sdd_blocks.specs.Graph.{Differ, Has, IsSimpleCycle, IsWalk, Joins, Step, edges_of, nodes_of}
pub use Rattle.sdd_blocks.specs.Numbered.{AreNumbered}
pub use Rattle.sdd_catalog.specs.Catalogue.{Catalogue, numbers_to, reads_at, writes}
pub use Rattle.sdd_graph.specs.Edges.{IsClassOf}
pub use Rattle.sdd_graph.specs.Graph.{classes_of, conflict_graph, diagonal_edges, diagonals_between, diagonals_from, ends, fragments_of, horizontal_edges, horizontals_from, read_node, vertical_edges, write_node, write_sets_meet}
pub use Rattle.sdd_graph.specs.declared.edge.Edge.{Edge}
pub use Rattle.sdd_graph.specs.declared.edge.Edge.TheVariants.{Diagonal, Horizontal, Vertical}
pub use Rattle.sdd_links.proofs.Members.{Contains-filter, Contains-filter_map, Contains-flat_map, Contains-map, Contains-range, passes_member, place_of}
pub use Rattle.sdd_links.proofs.Paths.{path_as, path_join}
pub use Rattle.sdd_links.specs.Paths.{IsOrderly, IsPath}
pub use Rattle.sdd_protocol.proofs.ConditionOn.{protocol_known}
pub use Rattle.sdd_protocol.proofs.MadeTable.{is_table}
pub use Rattle.sdd_protocol.proofs.Tables.{all_at, blocks_of, first_block-vertical, vertical_block-lists}
pub use Rattle.sdd_protocol.specs.Conditions.{asked_by, asked_in, cond_for, cond_of, condition_on, condition_under, is_asked, is_read_at, protocol_between, time_asked}
pub use Rattle.sdd_protocol.specs.Entries.{entry_by, protocol_by}
pub use Rattle.sdd_protocol.specs.Protocols.{IsTable, diagonal_protocol, protocol_in, same_protocol, vertical_block}
pub use Rattle.sdd_protocol.specs.declared.entry.Entry.{Entry}
pub use Rattle.sdd_protocol.specs.declared.protocol.Protocol.{Protocol}
pub use Rattle.sdd_protocol.specs.declared.protocol.Protocol.TheVariants.{P2, P3}
pub use Rattle.std.proofs.Common.{Bool, Contains, List, None, Option, Some, [], ap, arith, cond, eq-eqb, eqb-true, false, filter, filter_map, inl, inr, is_some, length, length-append, length-set, lt-ltb, map, nat_eq as eqb, nat_lt, ne_eqb, not, option_map, refl, replicate, rules, slice_get, slice_index, slice_index_or as get_or, slice_set as set, subst, suc, sym, take_all, true, zero, ℕ, ◌&&◌, ◌*◌, ◌++◌, ◌+◌, ◌-◌, ◌<◌, ◌==◌, ◌||◌, ◌↔◌, ◌∙◌, ◌∷◌, ◌≡◌, ◌≢◌, ◌≤◌, ◌⊎◌}
pub use Rattle.std.proofs.lemmas.Bool.{and_from, and_parts, cases_Bool, cases_eq, cases_lt}
pub use Rattle.std.proofs.lemmas.List.{get_or-map, get_or_append_left, get_or_push, length-map, length-replicate, length_push}
pub use Rattle.std.proofs.lemmas.List.Elements.{All-from_recursion, Contains-append_left, Contains-append_right}
pub use Rattle.std.proofs.lemmas.List.FromFn.{length-map-range_with_len}
pub use Rattle.std.proofs.lemmas.Map.Keys.{IsDistinct-cons}
pub use Rattle.std.proofs.lemmas.Map.Steps.{length-le_from_distinct_below}
pub use Rattle.std.proofs.lemmas.Option.{same_Some, slice_get-get_or, slice_get-map, slice_get_within}
pub use Rattle.std.specs.List.{AllByRecursion, cons_option, list_any, range_with_len}
pub use Rattle.std.specs.Option.{option_and_then, option_eq}
pub use Rattle.std.proofs.lemmas.Bool.Decides.{nat_tests}
