-- The names of std, of the crates below and of this crate's definitions that its proofs cite. Declares nothing.
pub use Rattle.sdd_base.specs.Readings.{Fails, GivesReading}
pub use Rattle.sdd_base.specs.Text.{IsText}
pub use Rattle.sdd_base.specs.Words.{contains, is_empty, tail_of}
pub use Rattle.sdd_base.specs.declared.change.Change.{Change}
pub use Rattle.sdd_base.specs.declared.condition.Cond.{Cond}
pub use Rattle.sdd_base.specs.declared.limits.TheConstants.{MAX_TEXT_BYTES}
pub use Rattle.sdd_base.specs.declared.number.ClassNo.{ClassNo}
pub use Rattle.sdd_base.specs.declared.number.Ts.{Ts}
pub use Rattle.sdd_base.specs.declared.number.TxnNo.{TxnNo}
pub use Rattle.sdd_base.specs.declared.restriction.Op.{Op}
pub use Rattle.sdd_base.specs.declared.usage.Use.{Use}
pub use Rattle.sdd_base.specs.declared.value.Value.{Value}
pub use Rattle.sdd_wire.specs.Fits.{FitsChange, FitsClass, FitsCond, FitsFrag, FitsI64, FitsList, FitsMsg, FitsOp, FitsOption, FitsPair, FitsRel, FitsRestriction, FitsRow, FitsTs, FitsTxnNo, FitsU32, FitsU64, FitsUse, FitsValue}
pub use Rattle.sdd_wire.specs.Reading.{fault_in, fields_by_tag, frag_at, is_text, message_in, ops_by_byte, row_at, text_in, value_by, whole}
pub use Rattle.sdd_wire.specs.Source.{Reading, Source, after, byte_at, first_byte, flag, flag_at, if_there, items_at, known_at, list_at, meant, number_at, numbered, option_at, pair_at, piece_at, place, read_as, source_of, ◌>>=◌}
pub use Rattle.sdd_wire.specs.Spelling.{spelled, spelled_change, spelled_class, spelled_cond, spelled_frag, spelled_list, spelled_op, spelled_option, spelled_pair, spelled_rel, spelled_restriction, spelled_row, spelled_text, spelled_ts, spelled_txn, spelled_u32, spelled_u64, spelled_use, spelled_value}
pub use Rattle.sdd_wire.specs.declared.fault.WireFault.{WireFault}
pub use Rattle.sdd_wire.specs.declared.msg.Msg.{Msg}
pub use Rattle.sdd_wire.specs.declared.msg.Msg.TheVariants.{Ask, Done, Fetch, Held, Hold, Null, Read, Ready, Reduce, Reduced, Reject, Release, Rows, Ship, Values, Write}
pub use Rattle.std.proofs.Common.{All, Bool, Contains, Err, IfOk, IsUtf8, List, None, Ok, Option, Result, Some, [], add-one, ap, append-nil, append_assoc, arith, drop, drop_at, eq-eqb, eqb-true, false, flat_map, get_or-drop, get_or-take, if◌then◌else◌, le-leb, le-ltb, leb-true, length, length-append, length-take, nat_le, nat_lt, not, of_z as cast_unsigned, refl, slice_get, slice_index_or as get_or, subst, suc, sym, take, take-append-drop, take_at, to_z as cast_signed, true, w32, w64, zero, ℕ, ◌&&◌, ◌++◌, ◌+◌, ◌-◌, ◌<◌, ◌==◌, ◌^◌, ◌∙◌, ◌∷◌, ◌≡◌, ◌≤◌}
pub use Rattle.std.proofs.Math.Facts.{Fits-of_z, sfits_to_z}
pub use Rattle.std.proofs.lemmas.Bool.{and_from, and_parts, both_ways, cases_lt, false_from_ne_true, not-true, not_from_false}
pub use Rattle.std.proofs.lemmas.Int.{of_z-to_z, to_z-of_z}
pub use Rattle.std.proofs.lemmas.List.{flat_map_more, get_or_default, get_or_past, take_more}
pub use Rattle.std.proofs.lemmas.List.Folds.{Any-from_list_any, list_any_at}
pub use Rattle.std.proofs.lemmas.Nat.{be_bytes_4, be_bytes_8, from_be_bytes-to_be_bytes_4, from_be_bytes-to_be_bytes_8}
pub use Rattle.std.proofs.lemmas.Option.{slice_get_past as past}
pub use Rattle.std.proofs.lemmas.Str.{IsUtf8-from_is_utf8, is_utf8-from_IsUtf8}
pub use Rattle.std.specs.Int.{from_be_bytes, to_be_bytes}
pub use Rattle.std.specs.List.{AllByRecursion}
pub use Rattle.std.specs.Str.{is_utf8}
pub use Rattle.std.proofs.lemmas.Bool.Decides.{nat_tests}
