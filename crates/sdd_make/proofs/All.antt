-- The names of std, of the crates below and of this crate's definitions that its proofs cite. Declares nothing.
pub use Rattle.sdd_make.specs.Bank.{bank, bank_is_valid, bank_parts}
pub use Rattle.sdd_make.specs.Draws.{draw, next, shown}
pub use Rattle.sdd_make.specs.Files.{eastpay_text, westpay_text}
pub use Rattle.sdd_make.specs.Statements.{account_query, addition, balances, of_account, owners, payment, txn_at, txn_of, txn_of_kind}
pub use Rattle.sdd_make.specs.Summary.{is_commit, is_reject, is_wait}
pub use Rattle.sdd_make.specs.Turns.{account_row, accounts, arrival, deliveries, delivery, drawn_events, drawn_txn, events_of, turn, turns, turns_of, txns_of, workload_of}
pub use Rattle.sdd_script.proofs.NoLists.{IsNoRedeclare, timely_without}
pub use Rattle.sdd_script.proofs.SoundStates.{one}
pub use Rattle.sdd_script.proofs.base.Membership.{Contains-cases, Contains-nil}
pub use Rattle.sdd_script.proofs.words.Texts.{is_text}
pub use Rattle.sdd_script.specs.All.{Add, AreDistinct, AreTimely, AreValidLists, AssignsValue, CatFault, Condition, Const, D, Eq, Event, Fault, FitsCondition, FitsRef, FitsStatement, Ge, HoldsValue, HoldsValues, Int, IsName, IsRelation, IsText, IsValid, IsValidClass, IsValidEvent, IsValidRow, IsValidTxn, IsValue, MAX_TXNS, Parts, RelNo, Settle, Stmt, Submit, T, TellsFirst, Txn, Value, dm_no, faults_of, has_name, head_of, is_name, is_name_byte, rel_no, repeats, rows_put_by, spelling, submitted_by, tm_no, txn_no}
pub use Rattle.sdd_script.specs.base.declared.value.Value.TheVariants.{Text}
pub use Rattle.std.proofs.Common.{All, Bool, IfOk, List, None, OnOk, Result, [], ap, append-nil, append_assoc, arith, bytes_eq, codes, cond, decimal, false, filter_map, inl, inr, length, length-append, map, nat_le, nat_lt, pos, refl, rules, subst, suc, sum_by, sym, tests, true, zero, ℕ, ℤ, ◌%◌, ◌&&◌, ◌*◌, ◌++◌, ◌+◌, ◌-◌, ◌<◌, ◌==◌, ◌^◌, ◌∙◌, ◌∷◌, ◌≡◌, ◌≤◌}
pub use Rattle.std.proofs.lemmas.Bool.{and_from as both_are, false_from_ne_true}
pub use Rattle.std.proofs.lemmas.Bool.Decides.{nat_tests}
pub use Rattle.std.proofs.lemmas.Fmt.{decimal_by_steps, decimal_injective, length-decimal-le}
pub use Rattle.std.proofs.lemmas.Iterator.{YieldsList-from_slice}
pub use Rattle.std.proofs.lemmas.Iterator.Consumers.{YieldsList-from_filter, count_from_yields_List}
pub use Rattle.std.proofs.lemmas.List.{append_cancel_left}
pub use Rattle.std.proofs.lemmas.List.Elements.{All-append, All-cons, All-nil, filter_map-append}
pub use Rattle.std.proofs.lemmas.List.FromFn.{get_or-range_with_len, length-range_with_len}
pub use Rattle.std.proofs.lemmas.List.Sums.{length-filter, sum_by-cons}
pub use Rattle.std.proofs.lemmas.Slice.Eq.{bytes_eq-Decides}
pub use Rattle.std.proofs.lemmas.Str.{IsUtf8-from_ascii}
pub use Rattle.std.proofs.lemmas.Str.Ascii.{IsAscii-cons, IsAscii-nil}
pub use Rattle.std.specs.Int.Signed.{mag}
pub use Rattle.std.specs.List.{list_all, range_with_len}
