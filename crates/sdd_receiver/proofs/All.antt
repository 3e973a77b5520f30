-- The names of std, of the crates below and of this crate's definitions that its proofs cite. Declares nothing.
pub use Rattle.sdd_base.specs.Kept.{Kept}
pub use Rattle.sdd_base.specs.Words.{contains}
pub use Rattle.sdd_receiver.specs.Arrivals.{greatest, top, top_from}
pub use Rattle.sdd_receiver.specs.Receiving.{AreSent, Ascends, HasReceived, IsEarly, Receiving, handed_on, in_turn, numbers, out_of_turn, received}
pub use Rattle.std.proofs.Common.{Equal, Greater, IfOk, IsTrue, Less, List, OnOk, Ordering, Result, Some, [], add-zero, ap, append-nil, arith, drop, eq-eqb, eqb-true, false, le-leb, length, length-take, max, nat_cmp, nat_le, ne_eqb, refl, slice_get, subst, suc, sym, take, true, zero, ℕ, ◌++◌, ◌+◌, ◌-◌, ◌<◌, ◌==◌, ◌||◌, ◌∙◌, ◌∷◌, ◌≡◌, ◌≢◌, ◌≤◌}
pub use Rattle.std.proofs.Math.Decide.{dec_le}
pub use Rattle.std.proofs.lemmas.Bool.{eqb-false, lt-leb}
pub use Rattle.std.proofs.lemmas.Bool.Decides.{nat_tests}
pub use Rattle.std.proofs.lemmas.List.{drop_all}
pub use Rattle.std.specs.BTreeMap.{insert_entry}
pub use Rattle.std.specs.Ordering.{match_ordering}
