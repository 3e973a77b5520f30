-- The names of std, of the crates below and of this crate's definitions that its proofs cite. Declares nothing.
pub use Rattle.sdd_lists.proofs.OtherClasses.{fits_era}
pub use Rattle.sdd_lists.specs.InForce.{classes_in, eras_in}
pub use Rattle.sdd_report.specs.Committed.{order_line}
pub use Rattle.sdd_report.specs.Names.{txn_name}
pub use Rattle.sdd_report.specs.Replies.{queries_from, query_lines, reply_lines, row_line, value_bytes}
pub use Rattle.sdd_script.proofs.NamePlaces.{place_of_name}
pub use Rattle.sdd_script.proofs.StepLaws.{not_true}
pub use Rattle.sdd_script.proofs.WordLooks.{no_newline-append}
pub use Rattle.sdd_script.proofs.base.ReadingLaws.{Answers, along_ok, bind_ok, fails_bind, must_ok, ok_along, ok_is, require_ok, with_front}
pub use Rattle.sdd_script.proofs.words.Numbers.{both}
pub use Rattle.sdd_script.proofs.words.Points.{past, place_at, place_here, place_on}
pub use Rattle.sdd_script.proofs.words.Spelled.{cut_takes, first_line as line_behind}
pub use Rattle.sdd_script.specs.All.{AreDistinct, AreLines, Catalogue, Database, Event, Fails, FitsStart, FitsTxn, HasNoNewline, HasNoSpace, IsFrom1To, IsName, IsValid, IsValidEvent, IsValidRow, IsValidTxn, Kept, MAX_EVENTS, Overflow, RelNo, Reply, Rows, Submit, Txn, TxnNo, Value, after_changes, along, begins_with_letter, cut_lines, database_of, effect, is_keyword, is_name_byte, must, onto, or_else, repeats, require, spelled_lines, tail_of, txn_no, ◌>>=◌}
pub use Rattle.sdd_script.specs.base.declared.reply.Reply.TheVariants.{TooMany}
pub use Rattle.sdd_script.specs.declared.workload.Workload.{Workload}
pub use Rattle.sdd_turns.specs.Turns.{class_of, is_in_turn, may_follow}
pub use Rattle.sdd_verify.specs.Classes.{class_if, classes_from, classes_submitted, era_at, redeclared}
pub use Rattle.sdd_verify.specs.Flaws.{line_in}
pub use Rattle.sdd_verify.specs.Lines.{Numbered, ends_replies, is_order_line, lines_of, numbered_lines, order_line_in, passed, tells_reply}
pub use Rattle.sdd_verify.specs.Numbered.{numbered}
pub use Rattle.sdd_verify.specs.Orders.{names_on, order_on, words_behind, words_of}
pub use Rattle.sdd_verify.specs.Replies.{replies, replies_on, serial_replies}
pub use Rattle.sdd_verify.specs.Submitted.{named, named_from, submitted, submitted_by, texts_of, txn_of}
pub use Rattle.sdd_verify.specs.Verdict.{judged, verdict, verdict_of}
pub use Rattle.sdd_verify.specs.Verified.{IsInTurn, IsVerified, at}
pub use Rattle.sdd_verify.specs.declared.flaw.Flaw.{Flaw}
pub use Rattle.sdd_verify.specs.declared.limits.TheConstants.{MAX_REPORT_BYTES}
pub use Rattle.sdd_verify.specs.declared.verdict.Verdict.TheVariants.{Yes}
pub use Rattle.std.proofs.Common.{All, Bool, Bor, Err, IsTrue, List, MatchOption, None, Ok, Option, Result, Some, [], ap, append-nil, append_assoc, arith, bytes_eq, codes, cond, decimal, drop, eq-eqb, eqb-true, false, filter_map, flat_map, inl, inr, is_some, le-leb, leb-true, length, length-append, length-take-le, lt-ltb, ltb-true, map, nat_cmp, nat_eq as eqb, nat_le, nat_lt, ne_eqb, position, refl, rules, slice_get, slice_index_or as get_or, subst, suc, sym, take, take-append-drop, take_all, true, zero, ℕ, ◌&&◌, ◌++◌, ◌+◌, ◌-◌, ◌<◌, ◌∙◌, ◌∷◌, ◌≡◌, ◌≢◌, ◌≤◌, ◌⊎◌}
pub use Rattle.std.proofs.lemmas.Bool.{cases_Bool}
pub use Rattle.std.proofs.lemmas.Bool.Decides.{nat_tests}
pub use Rattle.std.proofs.lemmas.List.{drop_all, drop_more, length-map, map-append, take_more}
pub use Rattle.std.proofs.lemmas.List.Elements.{All-cons, All-head, All-nil, All-tail, filter_map-append}
pub use Rattle.std.proofs.lemmas.List.Folds.{flat_map-map}
pub use Rattle.std.proofs.lemmas.List.Splits.{join_with_byte-slice_split, slice_split_at, slice_split_none}
pub use Rattle.std.proofs.lemmas.Map.Text.{is_eq-slice_cmp}
pub use Rattle.std.proofs.lemmas.Result.{err_from_is_err_and}
pub use Rattle.std.proofs.lemmas.Slice.Eq.{bytes_eq-Decides, starts_is}
pub use Rattle.std.specs.BTreeMap.{get, is_at}
pub use Rattle.std.specs.Cmp.Lexicographic.{slice_cmp}
pub use Rattle.std.specs.List.{join_with_byte, list_all, position_or_len}
