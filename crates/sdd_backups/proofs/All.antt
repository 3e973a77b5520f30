-- The names of std, of the crates below and of this crate's definitions that its proofs cite. Declares nothing.
pub use Rattle.sdd_backups.specs.Links.{gone_below, messages_at}
pub use Rattle.sdd_backups.specs.State.{Adds, Tracks, answered_in, heir_in, knows_in, untold_in}
pub use Rattle.sdd_backups.specs.Stretches.{every_from, first_from}
pub use Rattle.sdd_backups.specs.declared.message.Message.{Message}
pub use Rattle.sdd_backups.specs.declared.state.State.{State}
pub use Rattle.std.proofs.Common.{Bool, List, None, Some, [], ap, arith, cond, drop, false, length, map, refl, replicate, slice_index_or as get_or, slice_set as set, subst, suc, sym, true, ℕ, ◌&&◌, ◌*◌, ◌++◌, ◌+◌, ◌-◌, ◌<◌, ◌∙◌, ◌∷◌, ◌≡◌, ◌≤◌}
pub use Rattle.std.proofs.lemmas.Bool.Decides.{nat_tests}
pub use Rattle.std.proofs.lemmas.List.{get_or-map, get_or-replicate, length-map, map-set}
pub use Rattle.std.specs.declared.alloc.Global.{Global}
pub use Rattle.std.specs.declared.collections.VecDeque.{VecDeque}
