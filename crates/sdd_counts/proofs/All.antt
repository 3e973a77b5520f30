-- The names of std, of the crates below and of this crate's definitions that its proofs cite. Declares nothing.
pub use Rattle.sdd_counts.specs.Counts.{counted}
pub use Rattle.sdd_rules.proofs.umod.Lists.{changed_more}
pub use Rattle.std.proofs.Common.{ap, drop, map, sym, take, ◌++◌, ◌∙◌, ◌≡◌}
