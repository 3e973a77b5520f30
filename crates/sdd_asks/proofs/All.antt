-- The names of std, of the crates below and of this crate's definitions that its proofs cite. Declares nothing.
pub use Rattle.sdd_asks.specs.Asks.{answers, without_first}
pub use Rattle.sdd_rules.proofs.tm.Lists.{some_is}
pub use Rattle.std.proofs.Common.{Bool, IfSome, IsSome, List, None, OnSome, Option, Some, [], ap, arith, cond, false, find, length, option_map, position, refl, remove, slice_index_or, subst, suc, sym, true, ℕ, ◌+◌, ◌<◌, ◌∙◌, ◌∷◌, ◌≡◌}
pub use Rattle.std.proofs.lemmas.Iterator.Adapters.{position_from-zero}
pub use Rattle.std.specs.List.{position_from}
