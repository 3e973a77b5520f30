-- The names of std, of the crates below and of this crate's definitions that its proofs cite. Declares nothing.
pub use Rattle.sdd_blocks.specs.Blocks.{AreBlocks, Linked, OnACycle, ShareACycle}
pub use Rattle.sdd_blocks.specs.Blocks.Linked.{last, more}
pub use Rattle.sdd_blocks.specs.Components.{AreComponents}
pub use Rattle.sdd_blocks.specs.Forest.{AreJoined, AreRoots, IsForest, replaced}
pub use Rattle.sdd_blocks.specs.Graph.{Differ, Has, IsSimpleCycle, IsWalk, JoinedWithout, JoinedWithoutEdge, Joins, Step, edges_of, nodes_of}
pub use Rattle.sdd_blocks.specs.Laws.{ClosedWalksAreCycles, HaveNumber, OneNumberACycle}
pub use Rattle.sdd_blocks.specs.Marked.{AreMarked, IsPaired}
pub use Rattle.sdd_blocks.specs.Neighbours.{Neighbours, TieAt, TieNeighbours, Tied, other_end}
pub use Rattle.sdd_blocks.specs.Numbered.{AreNumbered}
pub use Rattle.sdd_blocks.specs.Runs.{edges_in}
pub use Rattle.sdd_blocks.specs.declared.runs.Run.{Run}
pub use Rattle.std.proofs.Common.{All, Global, IfOk, List, None, Option, Result, Some, Vec, [], ap, append-nil, append_assoc, arith, ext_get_or, get_or-set_other, get_or-set_same, inl, inr, length, length-append, length-set, map, map-id, refl, replicate, slice_get, slice_index, slice_index_or as get_or, slice_set as set, subst, suc, sym, take, take-append-drop, take_all, zero, ℕ, ◌++◌, ◌+◌, ◌-◌, ◌<◌, ◌∙◌, ◌∷◌, ◌≡◌, ◌≢◌, ◌≤◌, ◌⊎◌}
pub use Rattle.std.proofs.lemmas.Bool.{cases_eq, cases_lt}
pub use Rattle.std.proofs.lemmas.Bool.Decides.{nat_tests}
pub use Rattle.std.proofs.lemmas.List.{get_or-map, get_or_append_left, get_or_default, get_or_push, length-map, length-replicate, length_push, replicate_more, take_more}
pub use Rattle.std.proofs.lemmas.List.Elements.{All-push}
pub use Rattle.std.proofs.lemmas.List.FromFn.{get_or-range_with_len, length-range_with_len, map-range_with_len_more}
pub use Rattle.std.proofs.lemmas.Option.{get_or_from_slice_get, none-some, same_Some, slice_get-get_or, slice_get_within, some_pair_parts}
pub use Rattle.std.proofs.lemmas.Result.{IfOk-weaker}
pub use Rattle.std.specs.List.{range_with_len}
