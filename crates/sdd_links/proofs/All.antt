-- The names of std, of the crates below and of this crate's definitions that its proofs cite. Declares nothing.
pub use Rattle.sdd_history.specs.Records.{History}
pub use Rattle.sdd_history.specs.declared.record.Rec.{Rec}
pub use Rattle.sdd_history.specs.declared.record.Rec.TheVariants.{Answer, Apply, Commit, Submit}
pub use Rattle.sdd_lang.proofs.base.Membership.{Contains-cases, Contains-here, Contains-later, Contains-nil}
pub use Rattle.sdd_lang.specs.All.{Catalogue, Change, DmNo, FragNo, Use, class_no, dm_no, fragments_in, reads_at, time_at, txn_no}
pub use Rattle.sdd_links.specs.Attempts.{Attempt, Committed, HasCommit, IsAttempt, IsCommitted, attempt_of, attempts, changes, committed, committed_of, is_attempt_of}
pub use Rattle.sdd_links.specs.Finding.{Answered, Applied, AreMarks, answer_key, apply_key, first_place, is_below, last_place, pair_cmp, sees, triple_cmp}
pub use Rattle.sdd_links.specs.Groups.{Groups, chain_after, chains, group, groups}
pub use Rattle.sdd_links.specs.Linked.{by_class, by_fragment, end_of, fragment_links, has_seen, links, links_at, read_links}
pub use Rattle.sdd_links.specs.Numbers.{ChangeExists, ExistsIn, IsClass, IsFragment, NumbersExist, UseExists}
pub use Rattle.sdd_links.specs.Orderable.{IsOrderable}
pub use Rattle.sdd_links.specs.Paths.{IsOrderly, IsPath}
pub use Rattle.sdd_links.specs.Places.{IsRecordAt, comes_before, placed}
pub use Rattle.sdd_links.specs.Precedence.{Precedes, is_answer, is_apply, is_earlier, is_overwritten, is_read_by, misses, module_of, precedes, was_seen}
pub use Rattle.sdd_links.specs.Taken.{earlier, earliest, is_ready, taken, without}
pub use Rattle.sdd_links.specs.Taking.{Front, Links, at_node, counted, first_ready, has_link, link_counts, nodes, order_of, released, taking}
pub use Rattle.sdd_links.specs.declared.seen.Marks.{Marks}
pub use Rattle.std.proofs.Common.{All, Bool, Contains, Equal, Greater, Less, List, None, OnOk, Option, Ordering, Some, [], ap, append-nil, append_assoc, arith, cond, drop, eq-eqb, eqb-true, false, filter, filter_map, find, flat_map, fold, get_or-set_other, get_or-set_same, inl, inr, is_eq, is_some, length, length-set, lt-ltb, ltb-false, ltb-true, map, nat_cmp, nat_lt, ne_eqb, not, option_map, refl, replicate, reverse, rules, slice_get, slice_index_or as get_or, slice_set, subst, suc, sym, take, true, unwrap_or, zero, ℕ, ◌&&◌, ◌++◌, ◌+◌, ◌-◌, ◌/◌, ◌<◌, ◌==◌, ◌||◌, ◌∙◌, ◌∷◌, ◌≡◌, ◌≢◌, ◌≤◌, ◌⊎◌}
pub use Rattle.std.proofs.Math.Seq.{drop-cons}
pub use Rattle.std.proofs.lemmas.Bool.{and_from, and_parts, cases_Bool, cases_eq, cases_lt, eqb-false, not-true, or_left, or_right}
pub use Rattle.std.proofs.lemmas.Grind.{flat_map-append}
pub use Rattle.std.proofs.lemmas.List.{drop_all, get_or-map, get_or-replicate, length-map, length-replicate, map-set, reverse-append, same_lists, take_more}
pub use Rattle.std.proofs.lemmas.List.Elements.{All-contains, All-get_or, All-head, All-map, All-tail, Contains-append_cases, Contains-append_left, Contains-append_right, Contains-get_or, filter-append, filter_map-append}
pub use Rattle.std.proofs.lemmas.List.Folds.{find-append}
pub use Rattle.std.proofs.lemmas.List.FromFn.{get_or-map-range_with_len, length-map-range_with_len}
pub use Rattle.std.proofs.lemmas.Map.Views.{All-insert_key}
pub use Rattle.std.proofs.lemmas.Option.{same_Some, slice_get-get_or}
pub use Rattle.std.proofs.lemmas.Result.{IfOk-weaker}
pub use Rattle.std.specs.BTreeMap.{get, is_at}
pub use Rattle.std.specs.BTreeSet.{insert_key}
pub use Rattle.std.specs.Cmp.{nat_cmp_is}
pub use Rattle.std.specs.List.{cons_option, enumerate_from, list_any, range_with_len}
pub use Rattle.std.specs.Option.{option_or}
pub use Rattle.std.specs.Ordering.{match_ordering, ordering_then}
