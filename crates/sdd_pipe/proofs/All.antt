-- The names of std, of the crates below and of this crate's definitions that its proofs cite. Declares nothing.
pub use Rattle.sdd_base.specs.Kept.{Kept}
pub use Rattle.sdd_base.specs.declared.change.Change.{Change}
pub use Rattle.sdd_base.specs.declared.number.FragNo.{FragNo}
pub use Rattle.sdd_pipe.specs.Digest.{Digest, HasRoom, HaveRoom, IsDigest, Writes, changes_of, empty_digest, entry_of, has_passed, is_by, last_in, or_none, put_digest, raised_entry, take_digest, with_room, with_write, write_in}
pub use Rattle.sdd_pipe.specs.Pipe.{Pipe, empty_pipe, greatest, head_processed, last_write, passed, put, raised, touches, write_time}
pub use Rattle.sdd_pipe.specs.Pipes.{pipe_at, update}
pub use Rattle.sdd_wire.specs.Piped.{time_of}
pub use Rattle.sdd_wire.specs.declared.msg.Msg.{Msg}
pub use Rattle.sdd_wire.specs.declared.msg.Msg.TheVariants.{Write}
pub use Rattle.std.proofs.Common.{Bool, Equal, Greater, List, None, Option, Some, [], ap, append-nil, arith, cond, drop, false, filter_map, fold, if◌then◌else◌, is_eq, is_some, length, map, nat_cmp, nat_le, refl, replicate, rules, slice_index_or, slice_set, subst, suc, sym, true, zero, ℕ, ◌&&◌, ◌++◌, ◌==◌, ◌||◌, ◌∙◌, ◌∷◌, ◌≡◌, ◌≤◌}
pub use Rattle.std.proofs.lemmas.Bool.Decides.{nat_tests}
pub use Rattle.std.proofs.lemmas.List.{map-append}
pub use Rattle.std.proofs.lemmas.List.Folds.{list_any-append}
pub use Rattle.std.proofs.lemmas.List.Sums.{fold-append}
pub use Rattle.std.specs.BTreeMap.{insert_entry}
pub use Rattle.std.specs.List.{list_any}
