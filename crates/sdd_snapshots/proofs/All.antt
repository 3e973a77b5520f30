-- The names of std, of the crates below and of this crate's definitions that its proofs cite. Declares nothing.
pub use Rattle.sdd_acyclic.proofs.Theorems.{protocols_leave_no_cycle}
pub use Rattle.sdd_acyclic.specs.Fits.{FitsSystem}
pub use Rattle.sdd_acyclic.specs.Graphs.{IsDiagonal, Waits}
pub use Rattle.sdd_acyclic.specs.System.{Below, Facts, Precedes}
pub use Rattle.sdd_acyclic.specs.System.Precedes.{by_unseen}
pub use Rattle.sdd_acyclic.specs.Theorems.{Numbered}
pub use Rattle.sdd_acyclic.specs.Undeclared.{Declared, HasBarriers, declared}
pub use Rattle.sdd_base.specs.Numbers.{class_no, frag_no}
pub use Rattle.sdd_catalog.specs.Catalogue.{Catalogue, reads_at, writes}
pub use Rattle.sdd_graph.specs.Edges.{IsClassOf}
pub use Rattle.sdd_graph.specs.Graph.{conflict_graph}
pub use Rattle.sdd_graph.specs.declared.edge.Edge.{Edge}
pub use Rattle.sdd_graph.specs.declared.edge.Edge.TheVariants.{Diagonal}
pub use Rattle.sdd_links.specs.Paths.{IsOrderly}
pub use Rattle.sdd_protocol.proofs.Tables.{all_at, blocks_of, edges_of, first_block-vertical, vertical_block-lists}
pub use Rattle.sdd_protocol.specs.Protocols.{IsTable, diagonal_protocol, protocol_in, same_protocol, vertical_block}
pub use Rattle.sdd_protocol.specs.declared.entry.Entry.{Entry}
pub use Rattle.sdd_protocol.specs.declared.protocol.Protocol.{Protocol}
pub use Rattle.sdd_protocol.specs.declared.protocol.Protocol.TheVariants.{P3}
pub use Rattle.sdd_snapshots.specs.Examples.{overlapping, read_beside, reader_table, write_skew, writer_and_reader}
pub use Rattle.sdd_snapshots.specs.Runs.{HasSessions, SnapshotRun, system_of, tests_of}
pub use Rattle.sdd_snapshots.specs.Theorems.{SnapshotsByTable, SnapshotsLeaveNoCycle}
pub use Rattle.sdd_snapshots.specs.Thirds.{AsksForNoP3, HasNoP3}
pub use Rattle.std.proofs.Common.{Bool, List, Some, [], ap, arith, cond, false, inl, inr, is_some, length, length-append, lt-ltb, map, option_map, refl, slice_get, slice_index, slice_index_or as get_or, subst, suc, sym, true, zero, ℕ, ◌-◌, ◌<◌, ◌==◌, ◌||◌, ◌∷◌, ◌≡◌, ◌≢◌, ◌≤◌, ◌⊎◌, ◌∙◌, ltb-true}
pub use Rattle.std.proofs.lemmas.Bool.{and_parts}
pub use Rattle.std.proofs.lemmas.Bool.Decides.{nat_tests}
pub use Rattle.std.proofs.lemmas.List.{get_or-map, length-map}
pub use Rattle.std.proofs.lemmas.List.FromFn.{length-map-range_with_len}
pub use Rattle.std.proofs.lemmas.Option.{same_Some, slice_get-get_or, slice_get-map, slice_get_within}
