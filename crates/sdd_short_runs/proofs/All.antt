-- The names of std, of the crates below and of this crate's definitions that its proofs cite. Declares nothing.
pub use Rattle.sdd_lang.proofs.base.Membership.{Contains-cases, Contains-here, Contains-later, Contains-nil}
pub use Rattle.sdd_lang.specs.All.{Catalogue, Change, Database, FitsTxn, IsDatabase, Kept, Reply, after_changes, changed_by, contains, effect, item_cmp, item_of, serial}
pub use Rattle.sdd_lang.specs.declared.effect.Effect.{Effect}
pub use Rattle.sdd_lang.specs.declared.transaction.Txn.{Txn}
pub use Rattle.sdd_links.proofs.Members.{Contains-filter, Contains-from_filter}
pub use Rattle.sdd_robust.specs.Changing.{misses_by, misses_one}
pub use Rattle.sdd_robust.specs.Members.{lent}
pub use Rattle.sdd_robust.specs.Pivots.{may_miss}
pub use Rattle.sdd_robust.specs.declared.member.Member.{Member}
pub use Rattle.sdd_robust_laws.specs.Accesses.{are_apart, reads_from}
pub use Rattle.sdd_robust_laws.specs.Runs.{FirstWins, InTurn, IsCounterexample, IsSnapshotRun, change_one_item, ended_since, succeeds}
pub use Rattle.sdd_short_runs.specs.Found.{AreCommitted, IsExplained, IsExplainedPair, IsOf, all_commit}
pub use Rattle.sdd_short_runs.specs.Orders.{BeginsWith, Explains, HasOrder, HasReplyOrder, IsOrderOf, without}
pub use Rattle.sdd_short_runs.specs.Pairs.{is_pair, miss_by, pairs_around, pairs_of, tried_pairs}
pub use Rattle.sdd_short_runs.specs.ShortRuns.{IsShortCounterexample, after_effects, effect_of, effects_in_turn, in_turn, lent_txns, short_log, txn_of}
pub use Rattle.sdd_short_runs.specs.declared.finding.TheConstants.{MAX_TRIED}
pub use Rattle.sdd_short_runs.specs.Tried.{IsTried, database_with, effect_at, last_database, txn_at}
pub use Rattle.sdd_snapshot_replay.specs.Logs.{Log, SeesSnapshots, begun, database, ended}
pub use Rattle.sdd_snapshot_replay.specs.Logs.Step.{begins, ends}
pub use Rattle.sdd_snapshot_replay.specs.Replays.{EachOnce, IsReplay}
pub use Rattle.std.proofs.Common.{All, Bool, Contains, List, None, Option, Some, [], ap, arith, cond, drop, eq-eqb, eqb-true, false, filter, flat_map, fold, inl, inr, length, map, ne_eqb, not, refl, slice_index_or, subst, suc, sym, take, true, zero, ℕ, ◌&&◌, ◌++◌, ◌+◌, ◌-◌, ◌<◌, ◌==◌, ◌∙◌, ◌∷◌, ◌≡◌, ◌≢◌, ◌≤◌, ◌⊎◌}
pub use Rattle.std.proofs.lemmas.Bool.{and_from, and_parts, not-true}
pub use Rattle.std.proofs.lemmas.List.Sums.{fold-append}
pub use Rattle.std.specs.List.{list_all, list_any, range_with_len}
pub use Rattle.std.proofs.lemmas.List.{append-nil, flat_map_more, get_or-map, get_or_default, length-append, length-map, map-append, nil_from_length, take-map, take_all, take_more}
pub use Rattle.std.proofs.lemmas.List.Elements.{All-append, All-push, Contains-get_or, filter_more}
pub use Rattle.std.proofs.lemmas.Result.{IfOk-weaker}
