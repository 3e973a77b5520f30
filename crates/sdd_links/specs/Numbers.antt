-- The numbers in a history exist: the modules, classes, relations and fragments that its records name are there.
use Rattle.std.specs.Prelude.{ℕ, ◌≤◌, List, length}
use Rattle.std.specs.List.{All}
use Rattle.sdd_lang.specs.All.{Catalogue, Change, Cond, FragNo, Use}
use Rattle.sdd_history.specs.declared.record.Rec.{Rec}
use Rattle.sdd_history.specs.declared.record.Rec.TheVariants.{Submit, Start, Arrive, Wait, Answer, Reject, Commit, Apply, Pass, Nothing}
use Rattle.sdd_history.specs.Records.{History}

-- a number from 1 to that of the last
abbrev pub IsFrom1To : ℕ → ℕ → Type 0
IsFrom1To most n = (1 ≤ n) × (n ≤ most)

abbrev pub IsModule : Catalogue → ℕ → Type 0
IsModule cat d = IsFrom1To cat.dms d

abbrev pub IsFragment : Catalogue → ℕ → Type 0
IsFragment cat f = IsFrom1To (length cat.fragments) f

abbrev pub IsRelation : Catalogue → ℕ → Type 0
IsRelation cat rel = IsFrom1To (length cat.relations) rel

-- class 0 stands for no class
abbrev pub IsClass : Catalogue → ℕ → Type 0
IsClass cat class = class ≤ length cat.classes

abbrev pub AreFragments : Catalogue → List FragNo → Type 0
AreFragments cat frags = All (λ f. IsFragment cat f.0) frags

abbrev pub UseExists : Catalogue → Use → Type 0
UseExists cat u = IsRelation cat u.rel.0 × AreFragments cat u.frags

abbrev pub CondExists : Catalogue → Cond → Type 0
CondExists cat c = IsClass cat c.class.0 × AreFragments cat c.frags

abbrev pub ChangeExists : Catalogue → Change → Type 0
ChangeExists cat c = IsFragment cat c.frag.0

abbrev pub ExistsIn : Catalogue → Rec → Type 0
ExistsIn cat (Submit txn) = Unit {0}
ExistsIn cat (Start txn attempt class ts p2 uses) = IsClass cat class.0 × All (UseExists cat) uses
ExistsIn cat (Arrive txn attempt dm) = IsModule cat dm.0
ExistsIn cat (Wait txn attempt dm conds) = IsModule cat dm.0 × All (CondExists cat) conds
ExistsIn cat (Answer txn attempt dm) = IsModule cat dm.0
ExistsIn cat (Reject txn attempt dm class ts) = IsModule cat dm.0 × IsClass cat class.0
ExistsIn cat (Commit txn attempt reply changes values rows) = All (ChangeExists cat) changes
ExistsIn cat (Apply txn class dm ts) = IsModule cat dm.0 × IsClass cat class.0
ExistsIn cat (Pass class dm time) = IsModule cat dm.0 × IsClass cat class.0
ExistsIn cat Nothing = Unit {0}

abbrev pub NumbersExist : Catalogue → History → Type 0
NumbersExist cat h = All (λ e. ExistsIn cat e.1) h
