-- The names of std and of the crates below that its proofs cite. Declares nothing.
pub use Rattle.sdd_base.specs.Order.{with_values}
pub use Rattle.std.proofs.Common.{map, ◌≡◌}
