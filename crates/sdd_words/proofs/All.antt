-- The names of std, of the crates below and of this crate's definitions that its proofs cite. Declares nothing.
pub use Rattle.memchr.specs.Find.{NoneBefore, Nowhere, Passes}
pub use Rattle.sdd_base.specs.Name.{begins_with_letter, is_keyword, is_name, is_name_byte}
pub use Rattle.sdd_base.specs.declared.value.Value.{Value}
pub use Rattle.sdd_words.specs.Forms.{comparison_key, comparison_of, comparisons, conditions_form, cut_at, from_key, joined, not_empty, setting_of, settings, up_to}
pub use Rattle.sdd_words.specs.Keywords.{behind_point, content, has_one_point, has_point, is_free, is_key, is_point, looks_like_column}
pub use Rattle.sdd_words.specs.Lines.{AreLines, Cuts, HasNoNewline, spelled_lines}
pub use Rattle.sdd_words.specs.Names.{name_in}
pub use Rattle.sdd_words.specs.Number.{is_small}
pub use Rattle.sdd_words.specs.Replies.{queries_from, query_lines, row_line}
pub use Rattle.sdd_words.specs.Scan.{last_word, mode_after, move_of, moved, moves_to, onto, scan, word_of, words_at_end, words_of}
pub use Rattle.sdd_words.specs.Texts.{is_sound}
pub use Rattle.sdd_words.specs.Tokens.{IsLeft, IsSpelling, before, behind_space, is_space, leads_on, one_more, or_none, passes_to, quote_from, unescaped, unescaped_from, word_spelled, words_left}
pub use Rattle.sdd_words.specs.Values.{value_word}
pub use Rattle.sdd_words.specs.Words.{AllWords, AreWords, HasNoSpace, IsPlain, IsWord, Plain, Quoted, Word, escaped, escaped_byte, is_special, line_bytes, more_bytes, spaced, word_bytes}
pub use Rattle.sdd_words.specs.declared.form.Comparison.{Comparison}
pub use Rattle.sdd_words.specs.declared.form.Setting.{Setting}
pub use Rattle.sdd_words.specs.declared.split.Mode.{Mode}
pub use Rattle.sdd_words.specs.declared.split.Mode.TheVariants.{Closed, Escape, InPlain, InText, Start}
pub use Rattle.sdd_words.specs.declared.split.Move.{Move}
pub use Rattle.sdd_words.specs.declared.split.Move.TheVariants.{Adds, Ends, Goes, Refuses}
pub use Rattle.std.proofs.Common.{Bool, Err, IsAscii, IsUtf8, List, MatchOption, None, Ok, Option, Result, SFits as FitsSigned, Some, [], add-one, ap, append-nil, append_assoc, arith, bytes_eq, codes, cond, decimal, drop, drop-cons, encode_utf8_all, false, flat_map, get_or-take, if◌then◌else◌, inl, inr, int_eq, is_some, le-ltb, length, length-append, length-drop, length-take, lt-ltb, ltb-false, ltb-true, map, nat_eq as eqb, nat_le, nat_lt, ne_eqb, not, position, refl, rules, slice_index_or as get_or, subst, suc, sym, take, take-append-drop, take_all, true, unwrap_or, w64, ℕ, ℤ, ◌&&◌, ◌++◌, ◌+◌, ◌-◌, ◌<◌, ◌==◌, ◌^◌, ◌∙◌, ◌∷◌, ◌≡◌, ◌≢◌, ◌≤◌}
pub use Rattle.std.proofs.lemmas.Bool.{and_parts, cases_Bool, cases_lt, cond-false, cond-true, false_from_ne_true as not_true}
pub use Rattle.std.proofs.lemmas.Bool.Decides.{nat_tests}
pub use Rattle.std.proofs.lemmas.Fmt.{IsAscii-signed, decimal_is_IsNumeral, parse-decimal, parse-signed_decimal}
pub use Rattle.std.proofs.lemmas.Int.{to_z-of_z}
pub use Rattle.std.proofs.Math.Seq.{drop-append_seam, take-append_seam}
pub use Rattle.std.proofs.lemmas.List.{drop_all, take-append-le}
pub use Rattle.std.proofs.lemmas.List.Sums.{prefix_len-le-length, prefix_len_is}
pub use Rattle.std.proofs.lemmas.Option.{cond_some}
pub use Rattle.std.proofs.lemmas.Slice.Eq.{bytes_eq-Decides}
pub use Rattle.std.proofs.lemmas.Str.{IsUtf8-from_ascii, IsUtf8-from_is_utf8, encode_ascii, encodes-IsAscii, encodes-append, inside_one, is_utf8-from_IsUtf8}
pub use Rattle.std.proofs.lemmas.Str.Ascii.{IsAscii-cons, IsAscii-nil}
pub use Rattle.std.proofs.lemmas.Str.Parse.{digit_from_value}
pub use Rattle.std.specs.Fmt.{signed_decimal}
pub use Rattle.std.specs.Int.Signed.{mag}
pub use Rattle.std.specs.List.{after_first, before_first, list_all, position_or_len}
pub use Rattle.std.specs.Str.{all_scalars, is_utf8}
pub use Rattle.std.specs.Str.Parse.{AllDigits, IsNumeral, ParsesSigned, signed_digits_value, without_leading_sign}
