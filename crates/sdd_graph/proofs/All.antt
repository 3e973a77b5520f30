-- The names of std, of the crates below and of this crate's definitions that its proofs cite. Declares nothing.
pub use Rattle.sdd_base.specs.Numbers.{class_no, frag_no}
pub use Rattle.sdd_base.specs.declared.number.FragNo.{FragNo}
pub use Rattle.sdd_catalog.proofs.Sound.{each_in_range}
pub use Rattle.sdd_catalog.specs.Catalogue.{Catalogue, class_at, numbers_to, reads_at, writes}
pub use Rattle.sdd_catalog.specs.Numbers.{IsServedClass, IsWhole}
pub use Rattle.sdd_graph.specs.Edges.{IsClassNo, IsClassOf, IsEdgeOf, JoinsNodes, NamesClasses, ReadsFrom, WriteTogether}
pub use Rattle.sdd_graph.specs.Graph.{classes_of, conflict_graph, diagonal_edges, diagonals_between, diagonals_from, fragments_of, horizontal_edges, horizontals_from, vertical_edges, write_sets_meet}
pub use Rattle.sdd_graph.specs.Uses.{all_uses, class_uses, reads_of, written_by}
pub use Rattle.sdd_graph.specs.declared.class_uses.ClassUses.{ClassUses}
pub use Rattle.sdd_graph.specs.declared.edge.Edge.{Edge}
pub use Rattle.sdd_graph.specs.declared.edge.Edge.TheVariants.{Diagonal, Horizontal, Vertical}
pub use Rattle.std.proofs.Common.{All, Bool, Global, List, None, Option, Some, Vec, [], ap, append-nil, append_assoc, arith, cond, eq-eqb, false, filter, flat_map, inl, inr, is_some, length, length-append, ltb-true, map, nat_lt, ne_eqb, not, option_map, refl, replicate, slice_index_or as get_or, slice_set as set, suc, sym, take, take_all, true, zero, zip, ℕ, ◌&&◌, ◌*◌, ◌++◌, ◌+◌, ◌-◌, ◌<◌, ◌==◌, ◌^◌, ◌||◌, ◌∙◌, ◌∷◌, ◌≡◌, ◌≢◌, ◌≤◌}
pub use Rattle.std.proofs.Math.Bool.{or-false}
pub use Rattle.std.proofs.lemmas.Bool.{and_parts, cases_eq, eqb-false, not-true}
pub use Rattle.std.proofs.lemmas.List.{flat_map_more, length-map, map-append, take_more}
pub use Rattle.std.proofs.lemmas.List.Elements.{All-append, All-filter, All-from_recursion, All-map, All-nil, All-same, All-weaker, filter-append, filter_passes, recursion_from_All}
pub use Rattle.std.proofs.lemmas.List.Folds.{list_any-append}
pub use Rattle.std.proofs.lemmas.List.FromFn.{get_or-map-range_with_len, length-map-range_with_len, length-range_with_len}
pub use Rattle.std.proofs.lemmas.Simd.{splat_is_map}
pub use Rattle.std.specs.List.{AllByRecursion, list_any, range_with_len}
pub use Rattle.std.proofs.lemmas.Bool.Decides.{nat_tests}
