-- The names of this crate and of those below it that the crates above cite, passed on from one place. Declares nothing.
pub use Rattle.sdd_script.specs.ClassLists.{joined, part_names}
pub use Rattle.sdd_script.specs.Examples.{accounts}
pub use Rattle.sdd_script.specs.Naming.{fragment_named}
pub use Rattle.sdd_script.specs.Spelling.{spelling}
pub use Rattle.sdd_script.specs.Valid.{AreDistinct, AreTimely, AreValidLists, AssignsValue, HoldsValue, HoldsValues, IsFragment, IsLink, IsSite, IsValid, IsValidClass, IsValidEvent, IsValidRead, IsValidRow, IsValidTxn, IsValue, is_kept_at, read_names, rows_put_by, submitted_by}
pub use Rattle.sdd_script.specs.base.Kept.{Kept}
pub use Rattle.sdd_script.specs.base.Name.{IsName, begins_with_letter, is_keyword, is_name, is_name_byte}
pub use Rattle.sdd_script.specs.base.Numbers.{dm_no, rel_no, tm_no, txn_no}
pub use Rattle.sdd_script.specs.base.Readings.{Fails, GivesReading, along, must, require, ◌>>=◌}
pub use Rattle.sdd_script.specs.base.Text.{IsText}
pub use Rattle.sdd_script.specs.base.Words.{contains, head_of, or_else, tail_of}
pub use Rattle.sdd_script.specs.base.declared.event.Event.{Event}
pub use Rattle.sdd_script.specs.base.declared.event.Event.TheVariants.{Deliver, Down, Lose, Redeclare, Repeat, Resend, Settle, Submit, Tick, Up}
pub use Rattle.sdd_script.specs.base.declared.limits.TheConstants.{MAX_CLASSES, MAX_EVENTS, MAX_NAME_BYTES, MAX_READS, MAX_TXNS}
pub use Rattle.sdd_script.specs.base.declared.number.RelNo.{RelNo}
pub use Rattle.sdd_script.specs.base.declared.number.TxnNo.{TxnNo}
pub use Rattle.sdd_script.specs.base.declared.reply.Reply.{Reply}
pub use Rattle.sdd_script.specs.base.declared.reply.Reply.TheVariants.{Overflow, Rows}
pub use Rattle.sdd_script.specs.base.declared.restriction.Op.{Op}
pub use Rattle.sdd_script.specs.base.declared.restriction.Op.TheVariants.{Eq, Ge}
pub use Rattle.sdd_script.specs.base.declared.site.Site.{Site}
pub use Rattle.sdd_script.specs.base.declared.site.Site.TheVariants.{D, T}
pub use Rattle.sdd_script.specs.base.declared.value.Value.{Value}
pub use Rattle.sdd_script.specs.base.declared.value.Value.TheVariants.{Int}
pub use Rattle.sdd_script.specs.catalog.Catalogue.{Catalogue, catalogue_of, class_of, class_part, fragment_at, fragment_names, fragment_part, has_copy, parts_of}
pub use Rattle.sdd_script.specs.catalog.Eras.{emptied, eras, extended, retired, whole}
pub use Rattle.sdd_script.specs.catalog.Names.{Text}
pub use Rattle.sdd_script.specs.catalog.Naming.{AreNamed, IsNamed}
pub use Rattle.sdd_script.specs.catalog.Rules.{IsSoundCatalogue, TellsFirst, class_rules, copies_in, copies_of, faults_at, faults_of, faults_of_class, found_from, found_in, greatest_key, has_name, is_from_1_to, least_key, read_rules, repeats, when, write_rules}
pub use Rattle.sdd_script.specs.catalog.declared.fault.CatError.TheVariants.{Fault}
pub use Rattle.sdd_script.specs.catalog.declared.fault.CatFault.{CatFault}
pub use Rattle.sdd_script.specs.catalog.declared.fault.CatRule.{CatRule}
pub use Rattle.sdd_script.specs.catalog.declared.fault.CatRule.TheVariants.{DuplicateName, ReadsWhereNoCopy, TooMany, UnknownName}
pub use Rattle.sdd_script.specs.catalog.declared.parts.ClassPart.{ClassPart}
pub use Rattle.sdd_script.specs.catalog.declared.parts.ColumnPart.{ColumnPart}
pub use Rattle.sdd_script.specs.catalog.declared.parts.FragmentPart.{FragmentPart}
pub use Rattle.sdd_script.specs.catalog.declared.parts.Kind.{Kind}
pub use Rattle.sdd_script.specs.catalog.declared.parts.Parts.{Parts}
pub use Rattle.sdd_script.specs.catalog.declared.parts.ReadPart.{ReadPart}
pub use Rattle.sdd_script.specs.catalog.declared.parts.RelationPart.{RelationPart}
pub use Rattle.sdd_script.specs.catalog.declared.resolved.Class.{Class}
pub use Rattle.sdd_script.specs.catalog.declared.resolved.Fragment.{Fragment}
pub use Rattle.sdd_script.specs.lang.Classes.{class_for}
pub use Rattle.sdd_script.specs.lang.Database.{Database, database_of}
pub use Rattle.sdd_script.specs.lang.Effect.{effect}
pub use Rattle.sdd_script.specs.lang.Fits.{FitsAssign, FitsCondition, FitsRef, FitsStart, FitsStatement, FitsTxn, IsFrom1To, IsRelation}
pub use Rattle.sdd_script.specs.lang.Serial.{after_changes, serial}
pub use Rattle.sdd_script.specs.lang.declared.assign.Assign.TheVariants.{Add}
pub use Rattle.sdd_script.specs.lang.declared.condition.Condition.{Condition}
pub use Rattle.sdd_script.specs.lang.declared.condition.Condition.TheVariants.{Const}
pub use Rattle.sdd_script.specs.lang.declared.condition.Ref.{Ref}
pub use Rattle.sdd_script.specs.lang.declared.statement.Stmt.{Stmt}
pub use Rattle.sdd_script.specs.lang.declared.statement.Stmt.TheVariants.{Put, Query, Update}
pub use Rattle.sdd_script.specs.lang.declared.transaction.Txn.{Txn}
pub use Rattle.sdd_script.specs.words.Keywords.{is_free}
pub use Rattle.sdd_script.specs.words.Lines.{AreLines, HasNoNewline, cut_lines, onto, spelled_lines}
pub use Rattle.sdd_script.specs.words.Number.{number_of}
pub use Rattle.sdd_script.specs.words.Scan.{words_of}
pub use Rattle.sdd_script.specs.words.Texts.{is_sound}
pub use Rattle.sdd_script.specs.words.Words.{HasNoSpace}
pub use Rattle.sdd_script.specs.words.Words.{Word}
pub use Rattle.sdd_script.specs.words.Words.{Plain, Quoted}
