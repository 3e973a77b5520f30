-- The names of std, of the crates below and of this crate's definitions that its proofs cite. Declares nothing.
pub use Rattle.sdd_acyclic.proofs.Covers.{class_is}
pub use Rattle.sdd_ask.specs.Flags.{Relation, Tells, closed, flag_at, flags_of, through}
pub use Rattle.sdd_ask.specs.Needed.{is_own, leads_to, needed_by, needs_by}
pub use Rattle.sdd_ask.specs.Needs.{TellsNeeds}
pub use Rattle.sdd_outage.specs.Needs.{Needs}
pub use Rattle.sdd_outage.specs.Needs.Needs.{attempts, holds, queues, reads_at, runs_at, waits}
pub use Rattle.sdd_ask.specs.Queueing.{awaits, is_class, is_queued, meets, read_at_one}
pub use Rattle.sdd_ask.specs.Reaching.{begins, is_held, moves}
pub use Rattle.sdd_ask.specs.Robust.{asks_for_own_time, first_p3, isolation_text, reason_line}
pub use Rattle.sdd_outage.specs.Tasks.{Task, attempt, passing}
pub use Rattle.sdd_ask.specs.Texts.{class_lines, dm_word, module_words, needs_text, task_line, tm_word}
pub use Rattle.sdd_outage.specs.Waiting.{asks, is_wait, waits_for}
pub use Rattle.sdd_ask.specs.declared.flags.TheConstants.{CELLS, WIDTH}
pub use Rattle.sdd_base.proofs.Membership.{Contains-here, Contains-later}
pub use Rattle.sdd_base.specs.Numbers.{class_no, dm_no, tm_no}
pub use Rattle.sdd_base.specs.declared.site.Site.{Site}
pub use Rattle.sdd_base.specs.declared.site.Site.TheVariants.{D, T, U}
pub use Rattle.sdd_catalog.proofs.Sound.{each_in_range}
pub use Rattle.sdd_catalog.specs.Catalogue.{Catalogue, class_at, numbers_to}
pub use Rattle.sdd_catalog.specs.Numbers.{IsWhole}
pub use Rattle.sdd_catalog.specs.declared.resolved.Class.{Class}
pub use Rattle.sdd_catalog.specs.declared.resolved.Read.{Read}
pub use Rattle.sdd_graph.proofs.Known.{edges_known, edges_named}
pub use Rattle.sdd_graph.proofs.Lists.{each_more, up_to}
pub use Rattle.sdd_graph.proofs.Tables.{each_to}
pub use Rattle.sdd_graph.specs.Edges.{IsClassOf, IsEdgeOf, NamesClasses}
pub use Rattle.sdd_graph.specs.Graph.{classes_of}
pub use Rattle.sdd_graph.specs.declared.edge.Edge.{Edge}
pub use Rattle.sdd_graph.specs.declared.edge.Edge.TheVariants.{Diagonal, Horizontal, Vertical}
pub use Rattle.sdd_links.proofs.Members.{Contains-range, member_passes, passes_member}
pub use Rattle.sdd_protocol.specs.Protocols.{IsTable, is_between}
pub use Rattle.sdd_protocol.specs.declared.entry.Entry.{Entry}
pub use Rattle.sdd_protocol.specs.declared.protocol.Protocol.{Protocol}
pub use Rattle.sdd_snapshots.specs.Thirds.{HasNoP3}
pub use Rattle.std.proofs.Math.Seq.{take-append_seam}
pub use Rattle.std.proofs.Common.{All, Bool, IfOk, OnOk, add-one, codes, Contains, List, None, Option, Some, [], ap, arith, cond, drop, eq-eqb, eqb-true, false, find, get_or-set_other, get_or-set_same, if◌then◌else◌, inl, inr, length, length-set, map, option_copied, refl, replicate, rules, slice_get, slice_index_or as get_or, slice_set as set, subst, suc, sym, take, take_all, true, zero, ℕ, ◌&&◌, ◌*◌, ◌++◌, ◌+◌, ◌-◌, ◌/◌, ◌%◌, ◌<◌, ◌==◌, ◌||◌, ◌↔◌, ◌∙◌, ◌∷◌, ◌≡◌, ◌≢◌, ◌≤◌, ◌⊎◌}
pub use Rattle.std.proofs.lemmas.Bool.{and_from, and_parts, cases_Bool, cases_eq, or_cases, or_from, or_left, or_right}
pub use Rattle.std.proofs.lemmas.Bool.Decides.{nat_tests}
pub use Rattle.std.proofs.lemmas.List.{get_or-replicate, length-replicate}
pub use Rattle.std.proofs.lemmas.List.Elements.{All-cons, All-contains, All-from_recursion, All-head, All-nil, All-tail}
pub use Rattle.std.proofs.lemmas.List.Folds.{list_any-append, list_any_more}
pub use Rattle.std.proofs.lemmas.List.FromFn.{get_or-map-range_with_len, length-map-range_with_len}
pub use Rattle.std.proofs.lemmas.Option.{same_Some}
pub use Rattle.std.proofs.lemmas.Nat.{div-mul-add, mod-mul-add}
pub use Rattle.std.specs.List.{flat_map, list_any, range_with_len}
