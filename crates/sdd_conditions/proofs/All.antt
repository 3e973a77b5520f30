-- The names of std, of the crates below and of this crate's definitions that its proofs cite. Declares nothing.
pub use Rattle.sdd_conditions.specs.Conditions.{unmet}
pub use Rattle.std.proofs.Common.{drop, ◌++◌, ◌≡◌}
