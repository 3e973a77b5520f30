-- The names of this crate and of those below it that the crates above cite, passed on from one place. Declares nothing.
pub use Rattle.sdd_module.specs.Making.{Reached}
pub use Rattle.sdd_module.specs.Notes.{Notes, nothing_noted, with_act, with_due_act, with_sends}
pub use Rattle.sdd_module.specs.SiteLog.{Act, Bases, Did, Does, Entry, Era, Handed, Log, Records, Redeclared, Sends, Setting, Submits, Ticked, answers_hand, current_era, hands, sends_of_act, submits}
pub use Rattle.sdd_module.specs.base.Clock.{Ticking, at_zero, bound_of, pushed, ticked, timestamp}
pub use Rattle.sdd_module.specs.base.Kept.{Kept}
pub use Rattle.sdd_module.specs.base.Numbers.{class_no, dm_no, frag_no, time_at, txn_no}
pub use Rattle.sdd_module.specs.base.Order.{value_cmp, with_values}
pub use Rattle.sdd_module.specs.base.Sites.{number_of, same_site}
pub use Rattle.sdd_module.specs.base.Words.{ascending, contains, first_some, head_of, is_empty, or_else, tail_of}
pub use Rattle.sdd_module.specs.base.declared.change.Change.{Change}
pub use Rattle.sdd_module.specs.base.declared.condition.Cond.{Cond}
pub use Rattle.sdd_module.specs.base.declared.number.ClassNo.{ClassNo}
pub use Rattle.sdd_module.specs.base.declared.number.DmNo.{DmNo}
pub use Rattle.sdd_module.specs.base.declared.number.FragNo.{FragNo}
pub use Rattle.sdd_module.specs.base.declared.number.RelNo.{RelNo}
pub use Rattle.sdd_module.specs.base.declared.number.Ts.{Ts}
pub use Rattle.sdd_module.specs.base.declared.number.TxnNo.{TxnNo}
pub use Rattle.sdd_module.specs.base.declared.restriction.Restriction.{Restriction}
pub use Rattle.sdd_module.specs.base.declared.site.Site.{Site}
pub use Rattle.sdd_module.specs.base.declared.site.Site.TheVariants.{D, T, U}
pub use Rattle.sdd_module.specs.base.declared.usage.Use.{Use}
pub use Rattle.sdd_module.specs.base.declared.value.Value.{Value}
pub use Rattle.sdd_module.specs.catalog.Catalogue.{Catalogue, fragment_at, fragment_of, has_copy, key_column, numbers_to, reads_at}
pub use Rattle.sdd_module.specs.catalog.Numbers.{IsWhole}
pub use Rattle.sdd_module.specs.catalog.Rules.{IsSoundCatalogue}
pub use Rattle.sdd_module.specs.history.declared.record.Rec.{Rec}
pub use Rattle.sdd_module.specs.history.declared.record.Rec.TheVariants.{Answer, Apply, Arrive, Commit, Nothing, Pass, Start, Wait}
pub use Rattle.sdd_module.specs.lang.Classes.{class_for, fragments_in, read_set}
pub use Rattle.sdd_module.specs.lang.Database.{Database, Item, Row, database_of, item_cmp, key_in, with_row}
pub use Rattle.sdd_module.specs.lang.Effect.{effect}
pub use Rattle.sdd_module.specs.lang.Fits.{FitsCondition, FitsStart, FitsStatement, FitsTxn}
pub use Rattle.sdd_module.specs.lang.Sound.{IsDatabase, IsEntry}
pub use Rattle.sdd_module.specs.lang.Source.{uses_in}
pub use Rattle.sdd_module.specs.lang.Uses.{allowed_keys, fragments_for, meets_keys, part_uses, restrictions_of, statement_uses, uses_from, uses_of}
pub use Rattle.sdd_module.specs.lang.declared.condition.Condition.{Condition}
pub use Rattle.sdd_module.specs.lang.declared.condition.Condition.TheVariants.{Const, Same}
pub use Rattle.sdd_module.specs.lang.declared.condition.Ref.{Ref}
pub use Rattle.sdd_module.specs.lang.declared.effect.Effect.{Effect}
pub use Rattle.sdd_module.specs.lang.declared.statement.Stmt.{Stmt}
pub use Rattle.sdd_module.specs.lang.declared.statement.Stmt.TheVariants.{Delete, Put, Query, Update}
pub use Rattle.sdd_module.specs.lang.declared.transaction.Txn.{Txn}
pub use Rattle.sdd_module.specs.protocol.Conditions.{conditions, is_read_at, undeclared_conditions}
pub use Rattle.sdd_module.specs.wire.Piped.{goes_through, time_of}
pub use Rattle.sdd_module.specs.wire.declared.msg.Msg.{Msg}
pub use Rattle.sdd_module.specs.wire.declared.msg.Msg.TheVariants.{Ask, Done, Fetch, Held, Null, Read, Ready, Reduce, Reduced, Reject, Release, Rows, Ship, Values, Write}
