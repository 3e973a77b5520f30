-- The names of this crate and of those below it that the crates above cite, passed on from one place. Declares nothing.
pub use Rattle.sdd_lang.specs.Agree.{rows_in_fragment}
pub use Rattle.sdd_lang.specs.Changes.{HasRow, IsChange}
pub use Rattle.sdd_lang.specs.Classes.{class_for, covers, fragments_in, read_set, write_set, written_by}
pub use Rattle.sdd_lang.specs.Condition.{Tuple, meets_all, part_of, value_at}
pub use Rattle.sdd_lang.specs.Database.{Database, Item, Row, database_of, item_cmp, key_in, rows_of, with_row, without_row}
pub use Rattle.sdd_lang.specs.Effect.{effect}
pub use Rattle.sdd_lang.specs.Examples.{accounts, get_all, ref, rel, two, txn}
pub use Rattle.sdd_lang.specs.Fits.{FitsAssign, FitsCondition, FitsConditions, FitsRef, FitsRow, FitsStart, FitsStatement, FitsTxn, IsColumn, IsFrom1To, IsRelation, kind_of, kind_of_ref, rel_of}
pub use Rattle.sdd_lang.specs.Query.{answer, distinct, product, projection, selection}
pub use Rattle.sdd_lang.specs.Serial.{after_changes, after_reply, changed_by, item_of, serial, set_to}
pub use Rattle.sdd_lang.specs.Sound.{IsDatabase, IsEntry, IsHeld, PutsHeld}
pub use Rattle.sdd_lang.specs.Source.{AgreeAlong, AgreeAt, chosen_in, effect_over, entries_of, uses_in, within}
pub use Rattle.sdd_lang.specs.Tuples.{held, may_join, rows_lent}
pub use Rattle.sdd_lang.specs.Update.{chosen}
pub use Rattle.sdd_lang.specs.Uses.{Interval, IsOfKeys, IsWithin, all_keys, allowed_keys, common, holds_some, part_uses, restrictions_of, statement_uses, use_of, uses_from, uses_of}
pub use Rattle.sdd_lang.specs.base.Exactly.{lists_decide}
pub use Rattle.sdd_lang.specs.base.Kept.{Kept}
pub use Rattle.sdd_lang.specs.base.Name.{IsName, begins_with_letter, is_digit, is_keyword, is_letter, is_name, is_name_byte}
pub use Rattle.sdd_lang.specs.base.Numbers.{class_no, dm_no, frag_no, rel_no, time_at, tm_no, txn_no}
pub use Rattle.sdd_lang.specs.base.Order.{admits, column, meets, number_in, row_cmp, value_cmp, with_values}
pub use Rattle.sdd_lang.specs.base.Readings.{Fails, GivesReading, along, must, require, ◌>>=◌}
pub use Rattle.sdd_lang.specs.base.Sites.{are_linked}
pub use Rattle.sdd_lang.specs.base.ValueOrder.{value_cmp_total, value_decides}
pub use Rattle.sdd_lang.specs.base.Words.{ascending, contains, first_some, head_of, or_else}
pub use Rattle.sdd_lang.specs.base.declared.change.Change.{Change}
pub use Rattle.sdd_lang.specs.base.declared.condition.Cond.{Cond}
pub use Rattle.sdd_lang.specs.base.declared.event.Event.{Event}
pub use Rattle.sdd_lang.specs.base.declared.event.Event.TheVariants.{Deliver, Down, Lose, Redeclare, Repeat, Resend, Settle, Submit, Tick, Up}
pub use Rattle.sdd_lang.specs.base.declared.limits.TheConstants.{MAX_ASSIGNMENTS, MAX_CLASSES, MAX_CONDITIONS, MAX_EVENTS, MAX_OUTPUT_COLUMNS, MAX_PLACE, MAX_READS, MAX_ROWS, MAX_STATEMENTS, MAX_TICKS, MAX_TXNS, MAX_USES, MAX_WORKLOAD_BYTES}
pub use Rattle.sdd_lang.specs.base.declared.number.ClassNo.{ClassNo}
pub use Rattle.sdd_lang.specs.base.declared.number.DmNo.{DmNo}
pub use Rattle.sdd_lang.specs.base.declared.number.FragNo.{FragNo}
pub use Rattle.sdd_lang.specs.base.declared.number.RelNo.{RelNo}
pub use Rattle.sdd_lang.specs.base.declared.number.TmNo.{TmNo}
pub use Rattle.sdd_lang.specs.base.declared.number.Ts.{Ts}
pub use Rattle.sdd_lang.specs.base.declared.number.TxnNo.{TxnNo}
pub use Rattle.sdd_lang.specs.base.declared.reply.Reply.{Reply}
pub use Rattle.sdd_lang.specs.base.declared.reply.Reply.TheVariants.{Overflow, Rows}
pub use Rattle.sdd_lang.specs.base.declared.restriction.Op.{Op}
pub use Rattle.sdd_lang.specs.base.declared.restriction.Op.TheVariants.{Eq, Ge, Le}
pub use Rattle.sdd_lang.specs.base.declared.restriction.Restriction.{Restriction}
pub use Rattle.sdd_lang.specs.base.declared.site.Site.{Site}
pub use Rattle.sdd_lang.specs.base.declared.site.Site.TheVariants.{D, T, U}
pub use Rattle.sdd_lang.specs.base.declared.usage.Use.{Use}
pub use Rattle.sdd_lang.specs.base.declared.value.Value.{Value}
pub use Rattle.sdd_lang.specs.base.declared.value.Value.TheVariants.{Int}
pub use Rattle.sdd_lang.specs.catalog.Catalogue.{Catalogue, catalogue_of, class_at, class_of, class_part, column_part, fragment_at, fragment_from, fragment_names, fragment_of, fragment_part, has_copy, key_column, kind_at, lowest_copy, numbers_to, parts_of, reads_at, relation_at, relation_names, relation_part, writes}
pub use Rattle.sdd_lang.specs.catalog.Cover.{no_relation}
pub use Rattle.sdd_lang.specs.catalog.Eras.{emptied, eras, extended, retired, whole}
pub use Rattle.sdd_lang.specs.catalog.Names.{Text, number_of}
pub use Rattle.sdd_lang.specs.catalog.Naming.{AreNamed, IsNamed}
pub use Rattle.sdd_lang.specs.catalog.Numbers.{HasKey, IsPlaced, IsWhole}
pub use Rattle.sdd_lang.specs.catalog.Rules.{IsSoundCatalogue, IsValid, TellsFirst, class_rules, count_faults, faults_at, faults_of, faults_of_class, faults_of_relation, found_from, found_in, fragment_faults, fragment_rules, has_name, is_from_1_to, range_faults, read_rules, relation_faults, relation_rules, repeats, when, write_rules}
pub use Rattle.sdd_lang.specs.catalog.declared.fault.CatFault.{CatFault}
pub use Rattle.sdd_lang.specs.catalog.declared.fault.CatRule.{CatRule}
pub use Rattle.sdd_lang.specs.catalog.declared.fault.CatRule.TheVariants.{DuplicateName, TooMany, UnknownName}
pub use Rattle.sdd_lang.specs.catalog.declared.parts.ClassPart.{ClassPart}
pub use Rattle.sdd_lang.specs.catalog.declared.parts.ColumnPart.{ColumnPart}
pub use Rattle.sdd_lang.specs.catalog.declared.parts.FragmentPart.{FragmentPart}
pub use Rattle.sdd_lang.specs.catalog.declared.parts.Kind.{Kind}
pub use Rattle.sdd_lang.specs.catalog.declared.parts.Parts.{Parts}
pub use Rattle.sdd_lang.specs.catalog.declared.parts.ReadPart.{ReadPart}
pub use Rattle.sdd_lang.specs.catalog.declared.parts.RelationPart.{RelationPart}
pub use Rattle.sdd_lang.specs.catalog.declared.resolved.Class.{Class}
pub use Rattle.sdd_lang.specs.catalog.declared.resolved.Column.{Column}
pub use Rattle.sdd_lang.specs.catalog.declared.resolved.Fragment.{Fragment}
pub use Rattle.sdd_lang.specs.catalog.declared.resolved.Read.{Read}
pub use Rattle.sdd_lang.specs.catalog.declared.resolved.Relation.{Relation}
