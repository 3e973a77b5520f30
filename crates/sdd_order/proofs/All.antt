-- The names of std, of the crates below and of this crate's definitions that its proofs cite. Declares nothing.
pub use Rattle.sdd_links.proofs.base.Membership.{Contains-cases, Contains-here, Contains-later, Contains-nil}
pub use Rattle.sdd_links.specs.Attempts.{Attempt, Committed, IsCommitted, attempts, committed, committed_of}
pub use Rattle.sdd_links.specs.Finding.{AreMarks}
pub use Rattle.sdd_links.specs.Linked.{links}
pub use Rattle.sdd_links.specs.Numbers.{IsClass, UseExists}
pub use Rattle.sdd_links.specs.Orderable.{IsOrderable}
pub use Rattle.sdd_links.specs.Paths.{IsPath}
pub use Rattle.sdd_links.specs.Places.{placed}
pub use Rattle.sdd_links.specs.Precedence.{Precedes, precedes}
pub use Rattle.sdd_links.specs.Taken.{taken}
pub use Rattle.sdd_links.specs.Taking.{Links, has_link, nodes, order_of}
pub use Rattle.sdd_links.specs.declared.seen.Marks.{Marks}
pub use Rattle.sdd_links.specs.history.Records.{History}
pub use Rattle.sdd_links.specs.history.declared.record.Rec.{Rec}
pub use Rattle.sdd_links.specs.lang.All.{Catalogue, TxnNo, txn_no}
pub use Rattle.sdd_order.specs.Orders.{IsAlong, IsSerial}
pub use Rattle.sdd_order.specs.SerialOrder.{in_order, serial_order, numbers_at}
pub use Rattle.std.proofs.Common.{All, Bool, Contains, IsPermutation, List, None, Option, Some, [], ap, append-nil, arith, drop, eq-eqb, false, filter_map, inl, inr, length, map, ne_eqb, option_map, refl, rules, slice_get, slice_index_or as get_or, subst, suc, sym, true, zero, ℕ, ◌++◌, ◌+◌, ◌<◌, ◌==◌, ◌∙◌, ◌∷◌, ◌≡◌, ◌≤◌, ◌⊎◌}
pub use Rattle.std.proofs.lemmas.Bool.{cases_Bool, cases_eq, cases_lt}
pub use Rattle.std.proofs.lemmas.List.{get_or_default, same_lists}
pub use Rattle.std.proofs.lemmas.List.Elements.{All-contains, All-contains_itself}
pub use Rattle.std.proofs.lemmas.List.FromFn.{get_or-map-range_with_len, length-map-range_with_len}
pub use Rattle.std.proofs.lemmas.List.Sorted.{All-permutation, IsNonDecreasingBy-from_sort_by_key, IsPermutation-sym, length_permutation}
pub use Rattle.std.proofs.lemmas.Map.Keys.{IsDistinct-IsPermutation, IsDistinct-cons, IsDistinct-head, IsDistinct-tail}
pub use Rattle.std.proofs.lemmas.Option.{same_Some, slice_get-get_or, slice_get_within}
pub use Rattle.std.proofs.lemmas.Result.{IfOk-weaker}
pub use Rattle.std.specs.List.{AllByRecursion, cons_option}
pub use Rattle.std.specs.List.Sorted.{IsNonDecreasingBy}
