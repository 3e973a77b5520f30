-- The names of std, of the crates below and of this crate's definitions that its proofs cite. Declares nothing.
pub use Rattle.sdd_lang.proofs.ReadSetDecides.{each_both as all_front}
pub use Rattle.sdd_lang.proofs.base.ReadingLaws.{Answers, along_ok, bind_ok, ok_along, ok_is, require_ok}
pub use Rattle.sdd_lang.proofs.catalog.Distinct.{number_of_place}
pub use Rattle.sdd_lang.proofs.catalog.Found.{both_empty, empty_of_map, unfound_at}
pub use Rattle.sdd_lang.proofs.catalog.FragmentOf.{found_one}
pub use Rattle.sdd_lang.proofs.catalog.NameLemmas.{has_name_of_items, list_any-map}
pub use Rattle.sdd_lang.proofs.catalog.RoundTrip.{have_numbers}
pub use Rattle.sdd_lang.proofs.catalog.Validity.{no_faults, unbroken}
pub use Rattle.sdd_lang.specs.All.{AreNamed, Catalogue, Class, ClassPart, Column, ColumnPart, D, Deliver, DmNo, Down, Event, Fails, FitsAssign, FitsCondition, FitsRef, FitsRow, FitsStatement, Fragment, IsColumn, IsFrom1To, IsName, IsNamed, IsRelation, IsSoundCatalogue, IsWhole, Kind, Lose, MAX_ASSIGNMENTS, MAX_CLASSES, MAX_CONDITIONS, MAX_EVENTS, MAX_OUTPUT_COLUMNS, MAX_PLACE, MAX_READS, MAX_ROWS, MAX_STATEMENTS, MAX_TICKS, MAX_TXNS, MAX_USES, MAX_WORKLOAD_BYTES, Op, ReadPart, Redeclare, RelNo, Relation, RelationPart, Repeat, Resend, Settle, Site, Submit, T, Tick, TmNo, TxnNo, U, Up, Value, along, are_linked, begins_with_letter, class_part, column_part, dm_no, faults_of_class, faults_of_relation, found_from, has_copy, has_name, is_digit, is_keyword, is_name, is_name_byte, key_column, kind_at, kind_of, kind_of_ref, must, no_relation, numbers_to, parts_of, rel_no, rel_of, relation_at, relation_names, relation_part, relation_rules, repeats, require, tm_no, txn_no, ◌>>=◌}
pub use Rattle.sdd_lang.specs.catalog.declared.parts.Kind.TheVariants.{Int}
pub use Rattle.sdd_lang.specs.declared.assign.Assign.{Assign}
pub use Rattle.sdd_lang.specs.declared.assign.Assign.TheVariants.{Add, To}
pub use Rattle.sdd_lang.specs.declared.condition.Condition.{Condition}
pub use Rattle.sdd_lang.specs.declared.condition.Condition.TheVariants.{Const, Same}
pub use Rattle.sdd_lang.specs.declared.condition.Ref.{Ref}
pub use Rattle.sdd_lang.specs.declared.statement.Stmt.{Stmt}
pub use Rattle.sdd_lang.specs.declared.statement.Stmt.TheVariants.{Delete, Put, Query, Update}
pub use Rattle.sdd_lang.specs.declared.transaction.Txn.{Txn}
pub use Rattle.sdd_script.specs.ClassLists.{all_classes, class_rules, fragment_of, is_taken, joined, list_rules, one_more_class, part_names, reads_rules, writes_rules}
pub use Rattle.sdd_script.specs.Columns.{Parts, column_in, column_of_use, condition_of, conditions_of, const_of, same_of, use_at, use_numbered}
pub use Rattle.sdd_script.specs.Few.{few, few_of, few_row, short, shortened}
pub use Rattle.sdd_script.specs.FirstWords.{class_key_in, event_key_in, inner_keyword, keyword_in, keyword_of, outer_keyword, statement_key_in}
pub use Rattle.sdd_script.specs.Laws.{ReadsAgain, ReadsSpelling}
pub use Rattle.sdd_script.specs.LineRules.{closed, done_rules, end_rules, event_rules, is_submitted, keyword_rules, line_rules, one_more_row, row_rules, statement_limits, statement_rules, txn_rules, with_statement, with_submitted, words_rules, written_with}
pub use Rattle.sdd_script.specs.Naming.{class_names, column_named, columns_of, fragment_named, key_of, kind_of_place, name_of, name_of_class, name_of_relation, relation_named, relation_of}
pub use Rattle.sdd_script.specs.Occurrences.{any_module_of, count_of, data_module_of, dm_of, down_of, event_of, flight_place, from_one, link_of, module_of, number_named, numbered, redeclare_of, resend_of, settle_of, site_in, site_of, submit_of, tick_of, tm_of, turning_of, txn_named, up_of}
pub use Rattle.sdd_script.specs.OpenLists.{class_so_far, classes_in, no_classes, reads_in, takes_reads as takes_reads_in, takes_writes as takes_writes_in, with_class, with_read, with_write, writes_in}
pub use Rattle.sdd_script.specs.Places.{is_ended, open_list, reads_at, takes_classes, takes_events, takes_lists, takes_reads, takes_rows, takes_statements, takes_txns, takes_writes, writes_at}
pub use Rattle.sdd_script.specs.ReadResults.{Tells}
pub use Rattle.sdd_script.specs.Redeclaring.{is_down, is_redeclare, may_follow, may_redeclare, some_down}
pub use Rattle.sdd_script.specs.Rules.{rule_in}
pub use Rattle.sdd_script.specs.Spelling.{assign_words, class_bytes, class_lines, class_words, column_word, condition_words, conditions_words, count_word, done_words, end_words, ended, event_words, header_words, lines_of, list_bytes, list_lines, list_words, name_of_column, name_of_txn, own_column, reads_words, relation_word, row_words, sets_words, site_word, spelling, start_words, statement_words, txn_bytes, txn_lines, where_words, writes_words}
pub use Rattle.sdd_script.specs.Statements.{add_of, addend_of, assign_of, delete_of, listed_column, part_in, put_of, query_of, query_of_parts, statement_of, to_of, update_of}
pub use Rattle.sdd_script.specs.Valid.{Accepts, AreDistinct, AreTimely, AreValidLists, AssignsValue, HoldsValue, HoldsValues, IsFragment, IsLink, IsModule, IsSite, IsValid, IsValidClass, IsValidEvent, IsValidRead, IsValidRow, IsValidTxn, IsValue, MayRedeclare, is_kept_at, is_put, read_names, rows_put_by, submitted_by}
pub use Rattle.sdd_script.specs.Values.{is_of_kind, row_of, value_of, values_of}
pub use Rattle.sdd_script.specs.Walk.{at_line, nothing_read, one_line, tail_rules, walk_bytes, workload, workload_of_state}
pub use Rattle.sdd_script.specs.declared.fault.LineError.{LineError}
pub use Rattle.sdd_script.specs.declared.fault.WorkError.{WorkError}
pub use Rattle.sdd_script.specs.declared.fault.WorkFault.{WorkFault}
pub use Rattle.sdd_script.specs.declared.fault.WorkRule.{WorkRule}
pub use Rattle.sdd_script.specs.declared.fault.WorkRule.TheVariants.{BadEvent, BadLine, BadNumber, TooMany, UnknownName, WrongKind}
pub use Rattle.sdd_script.specs.declared.found.Found.{Found}
pub use Rattle.sdd_script.specs.declared.keyword.ClassKey.{ClassKey}
pub use Rattle.sdd_script.specs.declared.keyword.EventKey.{EventKey}
pub use Rattle.sdd_script.specs.declared.keyword.Keyword.{Keyword}
pub use Rattle.sdd_script.specs.declared.keyword.StatementKey.{StatementKey}
pub use Rattle.sdd_script.specs.declared.limits.TheConstants.{MAX_LISTS}
pub use Rattle.sdd_script.specs.declared.open_list.OpenClass.{OpenClass}
pub use Rattle.sdd_script.specs.declared.open_list.OpenList.{OpenList}
pub use Rattle.sdd_script.specs.declared.place.Header.{Header}
pub use Rattle.sdd_script.specs.declared.place.Place.{Place}
pub use Rattle.sdd_script.specs.declared.state.State.{State}
pub use Rattle.sdd_script.specs.declared.workload.Workload.{Workload}
pub use Rattle.sdd_words.proofs.NameTexts.{name_is_utf8}
pub use Rattle.sdd_words.proofs.Numbers.{both as both_hold, number_again, number_takes}
pub use Rattle.sdd_words.proofs.Points.{none_after, some_is as place_if}
pub use Rattle.sdd_words.proofs.Spelled.{cut_again, cut_takes}
pub use Rattle.sdd_words.proofs.Splits.{scan_again, scan_spelled}
pub use Rattle.sdd_words.proofs.Utf8.{IsUtf8-escaped, number_plain}
pub use Rattle.sdd_words.proofs.Written.{flat_map-append, flat_map-flat_map, flat_map-map, item_written, items_written, more_bytes-append, words_spaced}
pub use Rattle.sdd_words.specs.Forms.{are_free, comparison_of, comparisons, conditions_form, cut_at, from_key, look_like_columns, not_empty, setting_of, settings, up_to}
pub use Rattle.sdd_words.specs.Keywords.{adds_of, before_point, behind_point, has_point, is_free, is_key, is_point, looks_like_column, names_column, op_in, op_of, op_word, spells_column}
pub use Rattle.sdd_words.specs.Lines.{AreLines, HasNoNewline, cut_lines, spelled_lines}
pub use Rattle.sdd_words.specs.Names.{name_in}
pub use Rattle.sdd_words.specs.Number.{number_of}
pub use Rattle.sdd_words.specs.Scan.{words_of}
pub use Rattle.sdd_words.specs.Texts.{has_newline, is_sound, is_text, text_in}
pub use Rattle.sdd_words.specs.Values.{value_word}
pub use Rattle.sdd_words.specs.Whole.{is_whole, whole_digits}
pub use Rattle.sdd_words.specs.Words.{AllWords, HasNoSpace, IsPlain, IsWord, Plain, Quoted, Word, escaped, escaped_byte, line_bytes, more_bytes, spaced, word_bytes}
pub use Rattle.sdd_words.specs.declared.form.Comparison.{Comparison}
pub use Rattle.sdd_words.specs.declared.form.Setting.{Setting}
pub use Rattle.std.proofs.Common.{All, Bool, Err, IfOk, IsAscii, IsUtf8, List, None, Ok, Option, Result, Some, [], add-one, ap, append-nil, append_assoc, arith, bytes_eq, codes, cond, count_by, decimal, drop, drop-cons, drop_at, eq-eqb, eqb-true, false, filter_map, find, flat_map, inl, inr, is_some, le-ltb, leb-false, leb-true, length, length-append, length-take, lt-ltb, ltb-false, ltb-true, map, nat_eq as eqb, nat_le, nat_lt, ne_eqb, negsuc, not, option_map, pos, position, refl, rules, slice_get, slice_index_or as get_or, string_bytes, subst, suc, sum_by, sym, take, take-append-drop, take_all, take_at, true, unwrap_or, zero, ℕ, ℤ, ◌&&◌, ◌++◌, ◌+◌, ◌-◌, ◌<◌, ◌==◌, ◌^◌, ◌||◌, ◌∙◌, ◌∷◌, ◌≡◌, ◌≢◌, ◌≤◌}
pub use Rattle.std.proofs.Math.Seq.{take-append_seam}
pub use Rattle.std.proofs.lemmas.Bool.{and_from as both_are, cases_Bool, cases_lt, lt-leb, or_parts as or_false}
pub use Rattle.std.proofs.lemmas.Bool.Decides.{nat_tests}
pub use Rattle.std.proofs.lemmas.Fmt.{IsAscii-signed, decimal_digit, decimal_is_IsNumeral, first_decimal}
pub use Rattle.std.proofs.lemmas.List.{drop_all, drop_more, get_or-append_right, get_or-map, get_or_append_left, length-map, map-append, take-append-le}
pub use Rattle.std.proofs.lemmas.List.Elements.{All-append, All-from_recursion, All-get_or, filter_map-append, recursion_from_All}
pub use Rattle.std.proofs.lemmas.List.Folds.{list_any-append}
pub use Rattle.std.proofs.lemmas.List.Quantifiers.{position-Some}
pub use Rattle.std.proofs.lemmas.List.Sums.{sum_by-append, sum_by-cons}
pub use Rattle.std.proofs.lemmas.Option.{get_or_from_slice_get, slice_get-get_or, slice_get-map, slice_get_within, unwrap_or-slice_get}
pub use Rattle.std.proofs.lemmas.Simd.{map-map}
pub use Rattle.std.proofs.lemmas.Slice.Eq.{bytes_eq-Decides}
pub use Rattle.std.proofs.lemmas.Str.{IsUtf8-append, IsUtf8-from_ascii, IsUtf8-from_is_utf8, is_utf8-from_IsUtf8}
pub use Rattle.std.proofs.lemmas.Str.Ascii.{IsAscii-cons, IsAscii-nil}
pub use Rattle.std.proofs.lemmas.Str.Parse.{digit_from_value}
pub use Rattle.std.specs.Fmt.{signed_decimal}
pub use Rattle.std.specs.Int.Signed.{mag}
pub use Rattle.std.specs.List.{AllByRecursion, after_first, before_first, list_all, list_any, position_or_len, prefix_len, range_with_len}
pub use Rattle.std.specs.Option.{option_map_or}
pub use Rattle.std.specs.Str.{is_utf8}
pub use Rattle.std.specs.Str.Parse.{AllDigits}
