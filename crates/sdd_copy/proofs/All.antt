-- The names of std, of the crates below and of this crate's definitions that its proofs cite. Declares nothing.
pub use Rattle.sdd_copy.specs.Ascending.{ascend}
pub use Rattle.sdd_copy.specs.Contents.{contents, keys_in, latest, newer, of_fragment, row_left, rows_left}
pub use Rattle.sdd_copy.specs.Copies.{AreHere, Held, IsLive, Represent, changed_at, held_in, is_here, items_at, or_none, rows_at, with_change}
pub use Rattle.sdd_copy.specs.Frozen.{CopyRows, Frozen, all_rows, chosen, frozen_for, is_among, or_nothing, reduced, rows_for, rows_of, with_keyed}
pub use Rattle.sdd_copy.specs.Known.{is_known, known_use}
pub use Rattle.sdd_copy.specs.Sets.{AreSame, DatesDiffer}
pub use Rattle.sdd_items.specs.Items.{Dated, Items, dated, entries_in, initial, is_newer, items_of, row_at, rows_in, written}
pub use Rattle.sdd_items.specs.Keyed.{IsNear, is_within, rows_meeting}
pub use Rattle.sdd_lang.proofs.Pushdown.{filter_same}
pub use Rattle.sdd_lang.proofs.base.Membership.{Contains-cases, Contains-here, Contains-later, Contains-nil}
pub use Rattle.sdd_lang.proofs.catalog.FragmentOf.{le_true}
pub use Rattle.sdd_lang.specs.All.{Change, FragNo, Interval, Kept, Restriction, Use, Value, all_keys, column, common, first_some, frag_no, value_cmp, value_cmp_total, with_values}
pub use Rattle.std.proofs.Common.{All, Bool, Contains, Equal, Greater, Less, List, None, Option, Ordering, SFits as FitsSigned, Some, [], ap, append-nil, append_assoc, arith, cond, drop, eq-eqb, eqb-true, false, filter, filter_map, flat_map, fold, if◌then◌else◌, inl, inr, int_cmp, int_le, int_lt, is_eq, is_some, length, map, nat_lt, option_copied, option_map, refl, rules, slice_index_or, slice_set, subst, suc, sym, take, take_all, to_z-of_z, true, w64, zero, ℕ, ℤ, ◌++◌, ◌+◌, ◌<◌, ◌==◌, ◌||◌, ◌∙◌, ◌∷◌, ◌≡◌, ◌≤ℤ◌, ◌≤◌}
pub use Rattle.std.proofs.lemmas.Bool.{and_from as and_both}
pub use Rattle.std.proofs.lemmas.Bool.Decides.{nat_tests}
pub use Rattle.std.proofs.lemmas.Cmp.{int_cmp_total}
pub use Rattle.std.proofs.lemmas.Int.{ints}
pub use Rattle.std.proofs.lemmas.List.{length-map, map-append, reverse-append, with_items_is}
pub use Rattle.std.proofs.lemmas.List.Edits.{map_over_more}
pub use Rattle.std.proofs.lemmas.List.Elements.{All-from_recursion, filter-append, filter_map-append, recursion_from_All}
pub use Rattle.std.proofs.lemmas.List.Sums.{fold-append}
pub use Rattle.std.proofs.lemmas.Map.Iter.{iter_end}
pub use Rattle.std.proofs.lemmas.Map.Lookups.{exact_signed}
pub use Rattle.std.proofs.lemmas.Result.{IfOk-weaker, on_ok_weaker}
pub use Rattle.std.specs.BTreeMap.{insert_entry, is_at}
pub use Rattle.std.specs.BTreeSet.{insert_key}
pub use Rattle.std.specs.Cmp.{first_so, int_ranks, second_so}
pub use Rattle.std.specs.List.{AllByRecursion, list_all}
pub use Rattle.std.specs.Map.{lookup}
pub use Rattle.std.specs.Map.Iter.{deref_pair}
pub use Rattle.std.specs.Ordering.{match_ordering, ordering_reverse}
