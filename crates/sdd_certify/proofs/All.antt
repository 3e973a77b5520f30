-- The names of std, of the crates below and of this crate's definitions that its proofs cite. Declares nothing.
pub use Rattle.sdd_certify.specs.Complete.{complete, missing, missing_on}
pub use Rattle.sdd_certify.specs.Due.{due_behind, due_lines, line_or_end, txn_named, txns_named}
pub use Rattle.sdd_certify.specs.Findings.{LineRule, at_or, before_order, finding, first_behind, first_fault, found_by, order_in}
pub use Rattle.sdd_certify.specs.Kept.{HasOrder, IsComplete, IsStrict, StandsBefore, line_at}
pub use Rattle.sdd_certify.specs.Pieces.{GoesOn, ServesBoth, left_by, txns_along}
pub use Rattle.sdd_certify.specs.Places.{name_at, place_in, place_of}
pub use Rattle.sdd_certify.specs.Skipping.{IsSkipped}
pub use Rattle.sdd_certify.specs.Strict.{last_committed, late_behind, late_on, strict}
pub use Rattle.sdd_certify.specs.Told.{commit_on, submission_on, told}
pub use Rattle.sdd_certify.specs.declared.due.Due.{Due}
pub use Rattle.sdd_certify.specs.declared.due.Due.TheVariants.{Line, NoReply, Open}
pub use Rattle.sdd_certify.specs.declared.finding.Finding.{Finding}
pub use Rattle.sdd_certify.specs.declared.finding.Finding.TheVariants.{At, NoOrder, Yes}
pub use Rattle.sdd_report.specs.Names.{txn_name}
pub use Rattle.sdd_report.specs.Replies.{reply_lines}
pub use Rattle.sdd_script.proofs.base.ReadingLaws.{bind_ok, must_ok, ok_is}
pub use Rattle.sdd_script.proofs.words.Spelled.{cut_takes, first_line as line_behind}
pub use Rattle.sdd_script.specs.All.{AreLines, Catalogue, Database, Event, FitsTxn, HasNoNewline, IsValid, IsValidTxn, Kept, Reply, Submit, Txn, TxnNo, after_changes, along, cut_lines, database_of, effect, must, or_else, repeats, require, serial, spelled_lines, ◌>>=◌}
pub use Rattle.sdd_script.specs.lang.Serial.{after_reply}
pub use Rattle.sdd_script.specs.declared.workload.Workload.{Workload}
pub use Rattle.sdd_verify.proofs.LineCuts.{IsWhole, cut_are_lines, lines_behind, whole_behind}
pub use Rattle.sdd_verify.proofs.LinesFound.{FirstOrder, IsOther, first_order, front_lines, order_again, rest_lines, spelled_apart}
pub use Rattle.sdd_verify.proofs.RepliesPassed.{reply_whole}
pub use Rattle.sdd_verify.proofs.Submissions.{lent_fit, rows_fit, some_is}
pub use Rattle.sdd_verify.specs.Classes.{classes_submitted}
pub use Rattle.sdd_verify.specs.Lines.{Numbered, ends_replies, is_order_line, lines_of, numbered_lines, order_line_in, passed, tells_reply}
pub use Rattle.sdd_verify.specs.Orders.{names_on, order_on, words_of}
pub use Rattle.sdd_turns.specs.Turns.{is_in_turn}
pub use Rattle.sdd_verify.specs.Replies.{replies, replies_on, serial_replies}
pub use Rattle.sdd_verify.specs.Submitted.{named, submitted, submitted_by, texts_of, txn_of}
pub use Rattle.sdd_verify.specs.Verdict.{judged, verdict, verdict_of}
pub use Rattle.sdd_verify.specs.Verified.{IsVerified}
pub use Rattle.sdd_verify.specs.declared.limits.TheConstants.{MAX_REPORT_BYTES}
pub use Rattle.std.proofs.Common.{All, Bool, Bor, Contains, Err, IsTrue, List, None, Ok, Option, Result, Some, [], ap, append-nil, append_assoc, arith, bytes_eq, cond, drop, eqb-true, false, filter_map, find, fold, inl, inr, is_some, le-leb, leb-false, leb-true, length, length-append, length-take-le, lt-ltb, ltb-false, ltb-true, map, max, nat_cmp, nat_eq as eqb, nat_le, nat_lt, ne_eqb, refl, rules, slice_get, slice_index_or as get_or, subst, suc, sym, take, take-append-drop, true, unwrap_or, zero, ℕ, ◌&&◌, ◌++◌, ◌+◌, ◌-◌, ◌<◌, ◌||◌, ◌∙◌, ◌∷◌, ◌≡◌, ◌≢◌, ◌≤◌, ◌⊎◌}
pub use Rattle.std.proofs.lemmas.Bool.{cases_Bool, cases_eq}
pub use Rattle.std.proofs.lemmas.Bool.Decides.{nat_tests}
pub use Rattle.std.proofs.lemmas.List.{drop_all, drop_more, length-map, map-append, take_more}
pub use Rattle.std.proofs.lemmas.List.Elements.{All-cons, All-head, All-nil, All-tail, filter_map-append}
pub use Rattle.std.proofs.lemmas.Map.Text.{is_eq-slice_cmp}
pub use Rattle.std.proofs.lemmas.Result.{err_from_is_err_and}
pub use Rattle.std.proofs.lemmas.Slice.Eq.{bytes_eq-Decides}
pub use Rattle.std.specs.BTreeMap.{get, is_at}
pub use Rattle.std.specs.Cmp.Lexicographic.{slice_cmp}
pub use Rattle.std.specs.List.{list_any, position_from}
pub use Rattle.std.specs.Option.{option_copied}
