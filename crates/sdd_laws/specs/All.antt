-- The names of this crate and of those below it that the crates above cite, passed on from one place. Declares nothing.
pub use Rattle.sdd_laws.specs.Answers.{KeepsAnswers}
pub use Rattle.sdd_laws.specs.Applies.{IsEarlier, IsOfCommit, KeepsApplies}
pub use Rattle.sdd_laws.specs.Committed.{entries_of}
pub use Rattle.sdd_laws.specs.Conditions.{IsConditionOf, KeepsConditions, conditions_of}
pub use Rattle.sdd_laws.specs.Deeds.{AnsweredBefore, AppliedBefore, Asks, ChangesOne, CommittedBefore, GoesTo, IsAnswered, IsApplied, IsSubmitted, StartedBefore, Touches, TouchesOne, by_change, by_no_class, by_use, txn_at}
pub use Rattle.sdd_laws.specs.Eras.{AreEras, Eras, catalogue_at, eras_begun}
pub use Rattle.sdd_laws.specs.Few.{AreFew}
pub use Rattle.sdd_laws.specs.Kept.{FitTogether, KeepsLaws}
pub use Rattle.sdd_laws.specs.Numbers.{NamesOneOf, TxnsExist}
pub use Rattle.sdd_laws.specs.Redeclares.{IsOfEarlierEra, KeepsEras}
pub use Rattle.sdd_laws.specs.Rejections.{IsAgain, KeepsRejections}
pub use Rattle.sdd_laws.specs.Replay.{AreAllApplied, IsReplyOf, run}
pub use Rattle.sdd_laws.specs.Snapshots.{base_of, copy_at, is_applied, items_of}
pub use Rattle.sdd_laws.specs.Starts.{IsBound, IsOfSubmit, KeepsStarts, is_start_of, starts_before}
pub use Rattle.sdd_laws.specs.Undeclared.{IsWhollyAfter, IsWhollyBefore, KeepsUndeclared}
pub use Rattle.sdd_laws.specs.Values.{ArePlaced, IsPlaced}
pub use Rattle.sdd_laws.specs.base.Numbers.{class_no, dm_no, frag_no, rel_no, time_at, tm_no, txn_no}
pub use Rattle.sdd_laws.specs.base.Order.{column, meets, value_cmp, with_values}
pub use Rattle.sdd_laws.specs.base.ValueOrder.{value_cmp_total, value_decides}
pub use Rattle.sdd_laws.specs.base.Words.{contains, first_some, is_empty, or_else}
pub use Rattle.sdd_laws.specs.base.declared.change.Change.{Change}
pub use Rattle.sdd_laws.specs.base.declared.condition.Cond.{Cond}
pub use Rattle.sdd_laws.specs.base.declared.number.DmNo.{DmNo}
pub use Rattle.sdd_laws.specs.base.declared.number.FragNo.{FragNo}
pub use Rattle.sdd_laws.specs.base.declared.number.RelNo.{RelNo}
pub use Rattle.sdd_laws.specs.base.declared.number.Ts.{Ts}
pub use Rattle.sdd_laws.specs.base.declared.reply.Reply.TheVariants.{Rows}
pub use Rattle.sdd_laws.specs.base.declared.restriction.Op.{Op}
pub use Rattle.sdd_laws.specs.base.declared.restriction.Op.TheVariants.{Ge, Le}
pub use Rattle.sdd_laws.specs.base.declared.site.Site.{Site}
pub use Rattle.sdd_laws.specs.base.declared.usage.Use.{Use}
pub use Rattle.sdd_laws.specs.base.declared.value.Value.{Value}
pub use Rattle.sdd_laws.specs.base.declared.value.Value.TheVariants.{Int}
pub use Rattle.sdd_laws.specs.catalog.Catalogue.{Catalogue, class_at, fragment_at, fragment_of, has_copy, key_column, numbers_to, reads_at}
pub use Rattle.sdd_laws.specs.catalog.Names.{Text}
pub use Rattle.sdd_laws.specs.catalog.Rules.{IsSoundCatalogue, is_from_1_to}
pub use Rattle.sdd_laws.specs.catalog.declared.resolved.Class.{Class}
pub use Rattle.sdd_laws.specs.catalog.declared.resolved.Column.{Column}
pub use Rattle.sdd_laws.specs.catalog.declared.resolved.Fragment.{Fragment}
pub use Rattle.sdd_laws.specs.catalog.declared.resolved.Read.{Read}
pub use Rattle.sdd_laws.specs.catalog.declared.resolved.Relation.{Relation}
pub use Rattle.sdd_laws.specs.class_eras.EraOf.{HasSets, IsEraOf}
pub use Rattle.sdd_laws.specs.copy.Contents.{Dated, contents, keys_in, latest, newer, of_fragment, row_left, row_with, rows_left}
pub use Rattle.sdd_laws.specs.copy.Frozen.{CopyRows, Frozen, all_rows, chosen, counts_of, frozen_for, is_among, or_nothing, reduced, rows_for, rows_of, values_in, with_keyed}
pub use Rattle.sdd_laws.specs.copy.Sets.{DatesDiffer}
pub use Rattle.sdd_laws.specs.graph.declared.edge.Edge.{Edge}
pub use Rattle.sdd_laws.specs.graph.declared.edge.Edge.TheVariants.{Diagonal, Vertical}
pub use Rattle.sdd_laws.specs.history.Records.{History}
pub use Rattle.sdd_laws.specs.history.declared.record.Rec.{Rec}
pub use Rattle.sdd_laws.specs.history.declared.record.Rec.TheVariants.{Answer, Apply, Arrive, Commit, Nothing, Pass, Reject, Start, Submit, Wait}
pub use Rattle.sdd_laws.specs.lang.Agree.{rows_in_fragment}
pub use Rattle.sdd_laws.specs.lang.Classes.{class_for, fragments_in}
pub use Rattle.sdd_laws.specs.lang.Condition.{Tuple, meets_all, part_of, value_at}
pub use Rattle.sdd_laws.specs.lang.Database.{Database, Item, Row, item_cmp}
pub use Rattle.sdd_laws.specs.lang.Effect.{effect}
pub use Rattle.sdd_laws.specs.lang.Examples.{accounts, ref, rel, two, txn}
pub use Rattle.sdd_laws.specs.lang.Fits.{FitsCondition, FitsRef, FitsStart, FitsStatement, FitsTxn, IsRelation, rel_of}
pub use Rattle.sdd_laws.specs.lang.Query.{product}
pub use Rattle.sdd_laws.specs.lang.Sound.{IsDatabase, IsEntry}
pub use Rattle.sdd_laws.specs.lang.Source.{effect_over, uses_in}
pub use Rattle.sdd_laws.specs.lang.Uses.{allowed_keys, fragments_for, meets_keys, part_uses, restrictions_of, statement_uses, use_of, uses_from, uses_of}
pub use Rattle.sdd_laws.specs.lang.declared.condition.Condition.{Condition}
pub use Rattle.sdd_laws.specs.lang.declared.condition.Condition.TheVariants.{Const, Same}
pub use Rattle.sdd_laws.specs.lang.declared.condition.Ref.{Ref}
pub use Rattle.sdd_laws.specs.lang.declared.statement.Stmt.{Stmt}
pub use Rattle.sdd_laws.specs.lang.declared.statement.Stmt.TheVariants.{Delete, Put, Query, Update}
pub use Rattle.sdd_laws.specs.lang.declared.transaction.Txn.{Txn}
pub use Rattle.sdd_laws.specs.links.Attempts.{Attempt, Committed, HasCommit, IsAttempt, IsCommitted, attempt_of, attempts, changes, committed, p2_time, reads}
pub use Rattle.sdd_laws.specs.links.Examples.{high_keys, low_keys, misses_both, put, reads_before, row_of, starts_again, waits_at_two, waits_for_other, with_classes}
pub use Rattle.sdd_laws.specs.links.Numbers.{AreFragments, ChangeExists, CondExists, ExistsIn, IsClass, IsFragment, IsFrom1To, IsModule, NumbersExist, UseExists}
pub use Rattle.sdd_laws.specs.links.Orderable.{IsOrderable}
pub use Rattle.sdd_laws.specs.links.Places.{IsRecordAt, event_at, placed, record_at}
pub use Rattle.sdd_laws.specs.links.Precedence.{HasNoCycle, is_answer, module_of}
pub use Rattle.sdd_laws.specs.protocol.Conditions.{is_read_at}
pub use Rattle.sdd_laws.specs.protocol.Protocols.{IsTable, entry_of, protocol_in}
pub use Rattle.sdd_laws.specs.protocol.declared.entry.Entry.{Entry}
pub use Rattle.sdd_laws.specs.protocol.declared.protocol.Protocol.TheVariants.{P1, P2, P3}
pub use Rattle.sdd_laws.specs.serial_orders.Orders.{IsSerial}
pub use Rattle.sdd_laws.specs.serial_orders.SerialOrder.{serial_order}
