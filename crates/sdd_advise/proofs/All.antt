-- The names of std, of the crates below and of this crate's definitions that its proofs cite. Declares nothing.
pub use Rattle.sdd_advise.specs.Advices.{AreAdvices, BeginsWith, EndsWith, IsGood, ShowsFor, ShowsP1, ShowsP2, ShowsP3, ShowsProtocol, advice_of, is_diagonal}
pub use Rattle.sdd_advise.specs.Cycles.{GoesAlong, IsCycleFrom}
pub use Rattle.sdd_advise.specs.Laws.{AdvicesSayTheTable, GoodAdviceIsRight, advised, listed}
pub use Rattle.sdd_advise.specs.Neighbours.{ArePaired, HasEachOnce, HasVerticals, IsLaidOut, Network, neighbour_by, neighbours, other_end}
pub use Rattle.sdd_advise.specs.Pairs.{IsClosed, IsLink, IsPairOf, IsSoundLast, LieApart}
pub use Rattle.sdd_advise.specs.Passing.{Passes}
pub use Rattle.sdd_advise.specs.Reach.{AreReached, CanReach, IsAway, IsOther, Joins}
pub use Rattle.sdd_advise.specs.Reach.CanReach.{along, here}
pub use Rattle.sdd_advise.specs.Readers.{IsReadOf}
pub use Rattle.sdd_advise.specs.Searches.{IsLeftAt, IsSearching, IsUnderWay, LeadsTo, place_of, placed_nodes, reached_at}
pub use Rattle.sdd_advise.specs.Texts.{advices_text, cycle_line, spaced_node}
pub use Rattle.sdd_advise.specs.Walks.{nodes_along}
pub use Rattle.sdd_advise.specs.Ways.{IsWay}
pub use Rattle.sdd_advise.specs.declared.advice.Advice.{Advice}
pub use Rattle.sdd_advise.specs.declared.neighbour.Neighbour.{Neighbour}
pub use Rattle.sdd_advise.specs.declared.pair.Pair.{Pair}
pub use Rattle.sdd_advise.specs.declared.search.Came.{Came}
pub use Rattle.sdd_advise.specs.declared.search.Reached.{Reached}
pub use Rattle.sdd_advise.specs.declared.search.Search.{Search}
pub use Rattle.sdd_advise.specs.declared.without.Without.{Without}
pub use Rattle.sdd_advise.specs.declared.without.Without.TheVariants.{OneEdge, OneNode}
pub use Rattle.sdd_base.specs.Numbers.{class_no, frag_no}
pub use Rattle.sdd_base.specs.declared.number.ClassNo.{ClassNo}
pub use Rattle.sdd_base.specs.declared.number.FragNo.{FragNo}
pub use Rattle.sdd_blocks.proofs.Beside.{linked_around}
pub use Rattle.sdd_blocks.proofs.Bridges.{cycle_joined_ends}
pub use Rattle.sdd_blocks.proofs.ClosedWalks.{closed_walks_are_cycles}
pub use Rattle.sdd_blocks.proofs.Cycles.{cycle_at, edges_differ}
pub use Rattle.sdd_blocks.proofs.Members.{differ_push, has_push_cases, has_push_last}
pub use Rattle.sdd_blocks.proofs.Places.{get_push_last, read_set}
pub use Rattle.sdd_blocks.specs.Blocks.{AreBlocks, ShareACycle}
pub use Rattle.sdd_blocks.specs.Blocks.Linked.{last}
pub use Rattle.sdd_blocks.specs.Graph.{Differ, Has, IsSimpleCycle, IsWalk, Step, edges_of, nodes_of}
pub use Rattle.sdd_catalog.specs.Catalogue.{Catalogue, reads_at, writes}
pub use Rattle.sdd_graph.proofs.Known.{edges_join, edges_known}
pub use Rattle.sdd_graph.proofs.Lists.{range_more}
pub use Rattle.sdd_graph.specs.Edges.{IsClassNo, IsEdgeOf, JoinsNodes, NamesClasses, ReadsFrom}
pub use Rattle.sdd_graph.specs.Graph.{classes_of, conflict_graph, diagonal_edges, diagonals_between, diagonals_from, ends, fragments_of, horizontal_edges, horizontals_from, read_node, vertical_edges, write_node, write_sets_meet}
pub use Rattle.sdd_graph.specs.declared.edge.Edge.{Edge}
pub use Rattle.sdd_graph.specs.declared.edge.Edge.TheVariants.{Diagonal, Horizontal, Vertical}
pub use Rattle.sdd_protocol.proofs.MadeTable.{many_edges}
pub use Rattle.sdd_protocol.proofs.Tables.{all_at, blocks_of, first_block, first_block-vertical, vertical_block-lists}
pub use Rattle.sdd_protocol.specs.Protocols.{IsTable, diagonal_protocol, protocol_in, vertical_block}
pub use Rattle.sdd_protocol.specs.declared.entry.Entry.{Entry}
pub use Rattle.sdd_protocol.specs.declared.protocol.Protocol.{Protocol}
pub use Rattle.sdd_protocol.specs.declared.protocol.Protocol.TheVariants.{P1, P2, P3}
pub use Rattle.std.proofs.Common.{All, Bool, Contains, Global, IfOk, IsTrue, List, MatchOption, None, Option, Some, Vec, [], ap, append-nil, append_assoc, arith, cond, count_by, drop, eq-eqb, eqb-true, false, filter, filter_map, flat_map, get_or-set_other, get_or-set_same, inl, inr, is_none, is_some, length, length-set, map, nat_lt, ne_eqb, not, option_and_then, option_map, refl, replicate, reverse, rules, slice_get, slice_index_or as get_or, slice_set as set, subst, suc, sym, take, take_all, true, zero, ℕ, ◌&&◌, ◌*◌, ◌++◌, ◌+◌, ◌-◌, ◌<◌, ◌==◌, ◌^◌, ◌↔◌, ◌∙◌, ◌∷◌, ◌≡◌, ◌≢◌, ◌≤◌, ◌⊎◌}
pub use Rattle.std.proofs.lemmas.Bool.{both_ways, cases_eq, cases_lt, false≢true}
pub use Rattle.std.proofs.lemmas.List.{drop_all, drop_more, get_or-map, get_or-replicate, get_or_append_left, get_or_past, get_or_push, get_or_read, length-map, length-replicate, length_push, reverse-append, same_lists, take_more}
pub use Rattle.std.proofs.lemmas.List.Elements.{All-cons, All-contains, All-contains_itself, All-filter, All-from_recursion, All-head, All-more, All-nil, All-same, All-tail, All-weaker, Contains-get_or, filter-append, filter_more}
pub use Rattle.std.proofs.lemmas.List.FromFn.{get_or-map-range_with_len, get_or-range_with_len, length-map-range_with_len, length-range_with_len, map-range_with_len_more}
pub use Rattle.std.proofs.lemmas.List.Kept.{IsStrictlyIncreasing-filter}
pub use Rattle.std.proofs.lemmas.List.Sums.{sum_by-cons, sum_by-set}
pub use Rattle.std.proofs.lemmas.Option.{MatchOption-at_some, get_or_from_slice_get, none-some, option_and_then_some, same_Some, slice_get-get_or, slice_get-map, slice_get_within}
pub use Rattle.std.proofs.lemmas.Result.{IfOk-weaker}
pub use Rattle.std.specs.List.{AllByRecursion, AllZip, cons_option, range_with_len}
pub use Rattle.std.specs.List.Sorted.{IsStrictlyIncreasing}
pub use Rattle.std.proofs.lemmas.Bool.Decides.{nat_tests}
