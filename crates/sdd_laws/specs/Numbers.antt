-- The transactions that a history names are there: they are numbered from 1.
use Rattle.std.specs.Prelude.{ℕ}
use Rattle.std.specs.List.{All}
use Rattle.sdd_history.specs.declared.record.Rec.{Rec}
use Rattle.sdd_history.specs.declared.record.Rec.TheVariants.{Submit, Start, Arrive, Wait, Answer, Reject, Commit, Apply, Pass, Nothing}
use Rattle.sdd_history.specs.Records.{History}
use Rattle.sdd_links.specs.Numbers.{IsFrom1To}

-- of so many transactions
abbrev pub NamesOneOf : ℕ → Rec → Type 0
NamesOneOf count (Submit txn) = IsFrom1To count txn.0
NamesOneOf count (Start txn attempt class ts p2 uses) = IsFrom1To count txn.0
NamesOneOf count (Arrive txn attempt dm) = IsFrom1To count txn.0
NamesOneOf count (Wait txn attempt dm conds) = IsFrom1To count txn.0
NamesOneOf count (Answer txn attempt dm) = IsFrom1To count txn.0
NamesOneOf count (Reject txn attempt dm class ts) = IsFrom1To count txn.0
NamesOneOf count (Commit txn attempt reply changes values rows) = IsFrom1To count txn.0
NamesOneOf count (Apply txn class dm ts) = IsFrom1To count txn.0
NamesOneOf count (Pass class dm time) = Unit {0}
NamesOneOf count Nothing = Unit {0}

abbrev pub TxnsExist : ℕ → History → Type 0
TxnsExist count h = All (λ e. NamesOneOf count e.1) h
