-- The names of std, of the crates below and of this crate's definitions that its proofs cite. Declares nothing.
pub use Rattle.sdd_history.specs.declared.record.Rec.{Rec}
pub use Rattle.sdd_report.specs.Committed.{ReportedCommit, is_of, names_of, order_line, reply_of, reported_in, reported_of, shipped_of}
pub use Rattle.sdd_report.specs.Copies.{copies_lines}
pub use Rattle.sdd_report.specs.Names.{spaced}
pub use Rattle.sdd_report.specs.Pending.{is_lower, pending_lines}
pub use Rattle.sdd_report.specs.Report.{Report, after_replies, report_text}
pub use Rattle.sdd_report.specs.Trace.{cond_words, trace}
pub use Rattle.sdd_words.proofs.Written.{item_written, items_written}
pub use Rattle.std.proofs.Common.{Equal, Greater, Less, List, None, Option, Some, [], ap, append_assoc, arith, cond, drop, eq-eqb, eqb-true, false, filter_map, find, flat_map, inl, inr, is_eq, is_some, length, nat_cmp, ne_eqb, refl, slice_index_or as get_or, subst, suc, sym, take, true, zero, ℕ, ◌++◌, ◌+◌, ◌<◌, ◌==◌, ◌∙◌, ◌∷◌, ◌≡◌, ◌⊎◌}
pub use Rattle.std.proofs.lemmas.Bool.{cases_Bool, cases_eq}
pub use Rattle.std.proofs.lemmas.List.{take_more}
pub use Rattle.std.proofs.lemmas.List.Elements.{filter_map-append}
pub use Rattle.std.proofs.lemmas.List.Folds.{find-append}
pub use Rattle.std.specs.BTreeMap.{get, is_at}
pub use Rattle.std.specs.Cmp.{nat_cmp_is}
pub use Rattle.std.specs.List.{best_of, cons_option}
pub use Rattle.std.specs.Option.{option_or}
