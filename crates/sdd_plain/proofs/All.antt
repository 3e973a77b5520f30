-- The names of std, of the crates below and of this crate's definitions that its proofs cite. Declares nothing.
pub use Rattle.sdd_lang.proofs.KeyRanges.{allowed_key, within_common}
pub use Rattle.sdd_lang.proofs.Pushdown.{filter-map, filter_none, filter_same, kept, meets_restrictions, parts_meet, restrictions_pushdown}
pub use Rattle.sdd_lang.proofs.ReadSetDecides.{rows_picked}
pub use Rattle.sdd_lang.proofs.SortedEntries.{each_inserted, each_left, item_cmp_exact}
pub use Rattle.sdd_lang.proofs.catalog.FragmentOf.{le_true}
pub use Rattle.sdd_lang.specs.All.{Catalogue, Change, Database, Int, Interval, IsOfKeys, IsWithin, Item, RelNo, Row, after_changes, all_keys, allowed_keys, answer, changed_by, chosen, column, common, database_of, distinct, entries_of, fragment_at, holds_some, item_cmp, key_in, may_join, meets_all, product, projection, restrictions_of, rows_lent, rows_of, selection, serial, set_to, with_row, without_row}
pub use Rattle.sdd_lang.specs.declared.condition.Condition.{Condition}
pub use Rattle.sdd_lang.specs.declared.condition.Ref.{Ref}
pub use Rattle.sdd_plain.specs.Held.{AreHeld, AreKeyed, AreKeysOf, AreNear, HasHeldKey, HasKey, is_within}
pub use Rattle.sdd_plain.specs.Lent.{as_of}
pub use Rattle.sdd_plain.specs.Parts.{standing}
pub use Rattle.std.proofs.Common.{All, Bool, Equal, List, None, Ordering, SFits as FitsSigned, [], ap, arith, drop, eq-eqb, eqb-true, false, filter, fold, int_cmp, int_le, is_le, is_lt, map, not, pos, refl, rules, slice_index, subst, sym, to_z-of_z, true, w64, ℕ, ℤ, ◌&&◌, ◌++◌, ◌+◌, ◌-◌, ◌==◌, ◌∙◌, ◌∷◌, ◌≡◌}
pub use Rattle.std.proofs.lemmas.Bool.{and_from as and_both, and_right as and_false, cases_order}
pub use Rattle.std.proofs.lemmas.Int.{ints}
pub use Rattle.std.proofs.lemmas.List.Elements.{All-from_recursion, recursion_from_All}
pub use Rattle.std.proofs.lemmas.Map.Iter.{iter_end}
pub use Rattle.std.proofs.lemmas.Map.Views.{All-keys-insert_entry, All-map-remove_entry}
pub use Rattle.std.proofs.lemmas.Result.{IfOk-weaker}
pub use Rattle.std.specs.BTreeMap.{is_at}
pub use Rattle.std.specs.Cmp.{int_ranks, nat_cmp_is}
pub use Rattle.std.specs.List.{AllByRecursion}
pub use Rattle.std.specs.Map.{keys_of}
pub use Rattle.std.specs.Map.Iter.{deref_pair}
pub use Rattle.std.specs.Ordering.{ordering_then}
