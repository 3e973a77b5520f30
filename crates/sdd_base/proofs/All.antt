-- The names of std, of the crates below and of this crate's definitions that its proofs cite. Declares nothing.
pub use Rattle.sdd_base.specs.Memory.{Failing, FailingShelf, ShelfState, file_at, name_at, opened_at, rest_at}
pub use Rattle.sdd_base.specs.Outside.{GivesBytes, HasRead, KeepsOpen, Opened, ReadsTo, find_file, unread_of, with_end, with_front}
pub use Rattle.sdd_base.specs.Readings.{Fails, along, must, require, ◌>>=◌}
pub use Rattle.sdd_base.specs.declared.files.ShelfFile.{ShelfFile}
pub use Rattle.sdd_base.specs.declared.open_files.OpenFile.{OpenFile}
pub use Rattle.std.proofs.Common.{Bool, Contains, Err, IfSome, IsSome, List, None, Ok, OnErr, Option, Result, Some, [], add-one, ap, append-nil, append_assoc, arith, bytes_eq, cond, drop, drop-cons, drop-drop, false, flat_map, get_or-take, inl, inr, length, length-append, length-set, length-take, map, min, option_map, refl, slice_get, slice_index_or as get_or, slice_set as set, subst, suc, sym, take, take-append-drop, true, vec_len, zero, ℕ, ◌++◌, ◌+◌, ◌-◌, ◌<◌, ◌∙◌, ◌∷◌, ◌≡◌, ◌≤◌, ◌⊎◌}
pub use Rattle.std.proofs.Math.Seq.{drop-append_seam, take-add, take-append_seam, take-set-lt}
pub use Rattle.std.proofs.lemmas.Bool.{cases_lt}
pub use Rattle.std.proofs.lemmas.List.{drop_all, drop_more, length-map, map-append, map-set, take_more}
pub use Rattle.std.proofs.lemmas.List.Concat.{flat_map-append}
pub use Rattle.std.proofs.lemmas.Option.{slice_get-get_or, slice_get-map, slice_get_within}
pub use Rattle.std.proofs.lemmas.Slice.Eq.{bytes_eq-Decides}
pub use Rattle.std.proofs.lemmas.Bool.Decides.{nat_tests}
