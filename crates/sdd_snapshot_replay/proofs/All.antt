-- The names of std, of the crates below and of this crate's definitions that its proofs cite. Declares nothing.
pub use Rattle.sdd_acyclic.specs.Fits.{FitsSystem, IsFragmentOf}
pub use Rattle.sdd_acyclic.specs.System.{Precedes}
pub use Rattle.sdd_acyclic.specs.System.Precedes.{by_seen, by_unseen, by_writes}
pub use Rattle.sdd_acyclic.specs.Theorems.{Numbered}
pub use Rattle.sdd_acyclic.specs.Undeclared.{declared}
pub use Rattle.sdd_base.proofs.Membership.{Contains-cases, Contains-here, Contains-later, Contains-nil}
pub use Rattle.sdd_base.specs.Words.{contains}
pub use Rattle.sdd_catalog.proofs.Sound.{sound_whole}
pub use Rattle.sdd_catalog.specs.Numbers.{IsWhole}
pub use Rattle.sdd_catalog.specs.Rules.{IsSoundCatalogue}
pub use Rattle.sdd_copy.specs.Contents.{contents}
pub use Rattle.sdd_eras.proofs.Lists.{at_member}
pub use Rattle.sdd_graph.specs.Edges.{IsClassOf}
pub use Rattle.sdd_graph.specs.Graph.{fragments_of}
pub use Rattle.sdd_lang.proofs.EffectChanges.{changes_items, effect_once, effect_placed, lie_in_write_set}
pub use Rattle.sdd_lang.proofs.ReadSetDecides.{read_set_decides}
pub use Rattle.sdd_lang.proofs.Sets.{read_set_there}
pub use Rattle.sdd_lang.proofs.SortedEntries.{item_cmp_exact, item_cmp_total}
pub use Rattle.sdd_lang.proofs.StaysDatabase.{changes_stay}
pub use Rattle.sdd_lang.specs.All.{Catalogue, Change, Database, FragNo, IsDatabase, Item, Row, after_changes, after_reply, class_at, effect, fragment_of, item_cmp, item_of, read_set, rows_in_fragment, serial, write_set, writes}
pub use Rattle.sdd_lang.specs.Changes.{ChangesItems}
pub use Rattle.sdd_lang.specs.declared.effect.Effect.{Effect}
pub use Rattle.sdd_lang.specs.declared.transaction.Txn.{Txn}
pub use Rattle.sdd_laws.proofs.Fragments.{rows_agree}
pub use Rattle.sdd_laws.proofs.LookUps.{same_members}
pub use Rattle.sdd_laws.proofs.Members.{Contains-filter, Contains-from_filter, all_have, is_in}
pub use Rattle.sdd_laws.proofs.Steps.{at_start, one_more}
pub use Rattle.sdd_laws.proofs.links.Members.{Contains-range, member_passes, passes_member}
pub use Rattle.sdd_laws.proofs.links.Ready.{ready_for}
pub use Rattle.sdd_laws.proofs.links.Taken.{IsAlongBy, taken_along, taken_is, taken_whole}
pub use Rattle.sdd_laws.specs.Committed.{all_dated, entries_of}
pub use Rattle.sdd_laws.specs.Ledger.{Ledger, Reads, writers}
pub use Rattle.sdd_laws.specs.Order.{MayComeFirst, Meets, may_come_first}
pub use Rattle.sdd_laws.specs.Order.Meets.{both_write, reads_write, writes_read}
pub use Rattle.sdd_laws.specs.Replayed.{ChangesOf, HasValues}
pub use Rattle.sdd_laws.specs.Values.{AreWriters, IsPlaced}
pub use Rattle.sdd_laws.specs.declared.meeting.Meeting.{Meeting}
pub use Rattle.sdd_laws.specs.declared.meeting.Meeting.TheVariants.{ReadWrite, WriteRead}
pub use Rattle.sdd_laws.specs.links.Paths.{IsOrderly, IsPath}
pub use Rattle.sdd_laws.specs.links.Taken.{taken}
pub use Rattle.sdd_protocol.specs.Protocols.{IsTable}
pub use Rattle.sdd_protocol.specs.declared.entry.Entry.{Entry}
pub use Rattle.sdd_snapshot_replay.specs.Logs.{IsOfClass, Log, SeesSnapshots, Step, begin_of, begun, database, end_of, ended, run_of}
pub use Rattle.sdd_snapshot_replay.specs.Logs.Step.{begins, ends}
pub use Rattle.sdd_snapshot_replay.specs.Replays.{EachOnce, IsReplay, SnapshotsReplay}
pub use Rattle.sdd_snapshots.proofs.Theorems.{snapshots_by_table}
pub use Rattle.sdd_snapshots.specs.Runs.{system_of, tests_of}
pub use Rattle.sdd_snapshots.specs.Thirds.{HasNoP3}
pub use Rattle.std.proofs.Common.{All, Bool, Contains, List, [], ap, arith, cond, eq-eqb, eqb-true, false, inl, inr, length, lt-ltb, map, nat_lt, ne_eqb, not, refl, subst, suc, sym, true, ℕ, ◌&&◌, ◌+◌, ◌-◌, ◌<◌, ◌==◌, ◌||◌, ◌∙◌, ◌∷◌, ◌≡◌, ◌≢◌, ◌≤◌, ◌⊎◌, ltb-false, ltb-true}
pub use Rattle.std.proofs.lemmas.Bool.{and_from, and_parts, cases_Bool, cases_eq, eqb-false, false≢true, not-true, or_cases, or_left, or_right}
pub use Rattle.std.proofs.lemmas.Bool.Decides.{nat_tests}
pub use Rattle.std.proofs.lemmas.List.Elements.{All-contains, All-from_recursion, recursion_from_All}
pub use Rattle.std.specs.List.{list_any}
