-- The ranks of what is due at a data module.
use Rattle.std.specs.Prelude.{ℕ, ◌≤◌, ◌≡◌, Some}
use Rattle.sdd_module.specs.All.{Act, Answer, Apply, Arrive, Pass, Rec, Records, Sends, Wait}
use Rattle.sdd_module.specs.history.declared.record.Rec.TheVariants.{Reject}
use Rattle.sdd_rules.specs.dm.Views.{Home, View}
use Rattle.sdd_rules.specs.dm.Due.{due, IsDue}

abbrev pub rank_of_record : Rec → ℕ
rank_of_record (Arrive txn attempt dm) = 1
rank_of_record (Pass class dm time) = 2
rank_of_record (Apply txn class dm ts) = 2
rank_of_record (Reject txn attempt dm class ts) = 2
rank_of_record (Answer txn attempt dm) = 2
rank_of_record (Wait txn attempt dm conds) = 2
rank_of_record _ = 3

-- VALUES, REDUCED and ROWS answer a message too
abbrev pub rank_of_act : Act → ℕ
rank_of_act (Records c r sends) = rank_of_record r
rank_of_act (Sends to m hand) = 1

-- what comes next is of the lowest rank of all that is due
abbrev pub IsLowest : Home → View → Type 0
IsLowest h v = (a b : Act) → due h v ≡ Some a → IsDue h v b → rank_of_act a ≤ rank_of_act b
