-- The names of std, of the crates below and of this crate's definitions that its proofs cite. Declares nothing.
pub use Rattle.sdd_base.specs.Numbers.{txn_no}
pub use Rattle.sdd_base.specs.Words.{or_else}
pub use Rattle.sdd_base.specs.declared.number.TxnNo.{TxnNo}
pub use Rattle.sdd_turns.specs.Turns.{allows, class_of, is_in_turn, may_follow}
pub use Rattle.std.proofs.Common.{Bool, Equal, Greater, Less, List, None, Option, Some, [], ap, append-nil, append_assoc, arith, cond, drop, eq-eqb, eqb-true, false, inl, inr, is_eq, length, lt-ltb, ltb-true, nat_cmp, nat_lt, ne_eqb, not, refl, slice_index_or as get_or, subst, suc, sym, take, take-append-drop, true, zero, ℕ, ◌&&◌, ◌++◌, ◌+◌, ◌<◌, ◌==◌, ◌||◌, ◌∙◌, ◌∷◌, ◌≡◌, ◌⊎◌}
pub use Rattle.std.proofs.lemmas.Bool.{and_parts, cases_Bool, cases_eq}
pub use Rattle.std.proofs.lemmas.Bool.Decides.{nat_tests}
pub use Rattle.std.proofs.lemmas.List.{take_more}
pub use Rattle.std.proofs.lemmas.List.Folds.{list_all-append}
pub use Rattle.std.proofs.lemmas.Option.{same_Some}
pub use Rattle.std.specs.BTreeMap.{get, is_at}
pub use Rattle.std.specs.Cmp.{nat_cmp_is}
pub use Rattle.std.specs.List.{list_all}
