-- The names of std, of the crates below and of this crate's definitions that its proofs cite. Declares nothing.
pub use Rattle.sdd_items.specs.Items.{Items, is_newer, row_in, row_of_item}
pub use Rattle.sdd_items.specs.Keyed.{AreHeld, AreKeyed, HasHeldKey, HasKey, IsNear, is_within, one_at}
pub use Rattle.sdd_lang.proofs.KeyRanges.{allowed_key, within_common}
pub use Rattle.sdd_lang.proofs.Pushdown.{filter_none, filter_same}
pub use Rattle.sdd_lang.proofs.SortedEntries.{each_inserted}
pub use Rattle.sdd_lang.proofs.catalog.RoundTrip.{each_more as each_weaker}
pub use Rattle.sdd_lang.specs.All.{Int, Interval, IsOfKeys, IsWithin, Restriction, Value, all_keys, allowed_keys, column, common, holds_some, meets}
pub use Rattle.std.proofs.Common.{All, Bool, Equal, Greater, IfSome, Less, List, None, OnErr, OnOk, Option, Ordering, Result, SFits as FitsSigned, Some, [], ap, arith, cond, false, filter, int_cmp, int_le, is_eq, is_le, is_lt, le-ltb, lt-ltb, not, pos, refl, rules, subst, sym, to_z-of_z, true, w64, ℕ, ℤ, ◌&&◌, ◌<ℤ◌, ◌<◌, ◌∙◌, ◌∷◌, ◌≡◌, ◌≤◌}
pub use Rattle.std.proofs.lemmas.Cmp.{int_cmp_total}
pub use Rattle.std.proofs.lemmas.Int.{ints}
pub use Rattle.std.proofs.lemmas.List.Elements.{All-from_recursion, recursion_from_All}
pub use Rattle.std.proofs.lemmas.Map.Keys.{sorted_head, sorted_tail}
pub use Rattle.std.proofs.lemmas.Map.Lookups.{exact_signed}
pub use Rattle.std.proofs.lemmas.Map.Steps.{set_value_same}
pub use Rattle.std.specs.BTreeMap.{insert_entry, is_at}
pub use Rattle.std.specs.Cmp.{IsTotalOrder, int_ranked, int_ranks}
pub use Rattle.std.specs.List.{AllByRecursion, list_all}
pub use Rattle.std.specs.List.Sorted.{IsStrictlySortedBy}
pub use Rattle.std.specs.Map.{keys_of, lookup, set_value}
pub use Rattle.std.specs.Ordering.{match_ordering}
