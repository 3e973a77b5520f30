-- The values that the parts of messages have in a program: numbers that fit their types, and texts
-- of columns.
use Rattle.std.specs.Prelude.{ℕ, ℤ, ◌^◌, ◌<◌, List, length, FitsSigned, Option, IfSome}
use Rattle.std.specs.List.{AllByRecursion}
use Rattle.std.specs.Int.{w64}
use Rattle.sdd_base.specs.Text.{IsText}
use Rattle.sdd_base.specs.declared.change.Change.{Change}
use Rattle.sdd_base.specs.declared.condition.Cond.{Cond}
use Rattle.sdd_base.specs.declared.number.ClassNo.{ClassNo}
use Rattle.sdd_base.specs.declared.number.FragNo.{FragNo}
use Rattle.sdd_base.specs.declared.number.RelNo.{RelNo}
use Rattle.sdd_base.specs.declared.number.Ts.{Ts}
use Rattle.sdd_base.specs.declared.number.TxnNo.{TxnNo}
use Rattle.sdd_base.specs.declared.restriction.Op.{Op}
use Rattle.sdd_base.specs.declared.restriction.Restriction.{Restriction}
use Rattle.sdd_base.specs.declared.usage.Use.{Use}
use Rattle.sdd_base.specs.declared.value.Value.{Value}
use Rattle.sdd_base.specs.declared.value.Value.TheVariants.{Int, Text}
use Rattle.sdd_wire.specs.declared.msg.Msg.{Msg}
use Rattle.sdd_wire.specs.declared.msg.Msg.TheVariants.{Read, Ready, Reject, Fetch, Values, Reduce, Reduced, Ship, Rows, Write, Null, Ask, Hold, Held}
use Rattle.sdd_wire.specs.declared.msg.Msg.TheVariants.{Done, Release}

abbrev pub FitsU32 : ℕ → Type 0
FitsU32 n = n < 2 ^ 32

abbrev pub FitsU64 : ℕ → Type 0
FitsU64 n = n < 2 ^ 64

abbrev pub FitsI64 : ℤ → Type 0
FitsI64 z = FitsSigned w64 z

abbrev pub FitsClass : ClassNo → Type 0
FitsClass class = FitsU32 class.0

abbrev pub FitsRel : RelNo → Type 0
FitsRel rel = FitsU32 rel.0

abbrev pub FitsFrag : FragNo → Type 0
FitsFrag frag = FitsU32 frag.0

abbrev pub FitsTxnNo : TxnNo → Type 0
FitsTxnNo txn = FitsU32 txn.0

abbrev pub FitsTs : Ts → Type 0
FitsTs ts = FitsU64 ts.0

abbrev pub FitsList : {A : Type 0} → (A → Type 0) → List A → Type 0
FitsList P xs = FitsU64 (length xs) × AllByRecursion P xs

abbrev pub FitsPair : {A B : Type 0} → (A → Type 0) → (B → Type 0) → A × B → Type 0
FitsPair P Q p = P p.0 × Q p.1

abbrev pub FitsOption : {A : Type 0} → (A → Type 0) → Option A → Type 0
FitsOption P o = IfSome o P

abbrev pub FitsValue : Value → Type 0
FitsValue (Int z) = FitsI64 z
FitsValue (Text text) = IsText text

abbrev pub FitsRow : List Value → Type 0
FitsRow row = FitsList FitsValue row

-- every operator has its byte
abbrev pub FitsOp : Op → Type 0
FitsOp op = Unit {0}

abbrev pub FitsRestriction : Restriction → Type 0
FitsRestriction r = FitsU32 r.column × FitsValue r.value

abbrev pub FitsUse : Use → Type 0
FitsUse u =
    FitsU32 u.number × FitsRel u.rel × FitsList FitsFrag u.frags
    × FitsList FitsRestriction u.restrictions

abbrev pub FitsCond : Cond → Type 0
FitsCond c = FitsClass c.class × FitsTs c.time × FitsList FitsFrag c.frags

abbrev pub FitsChange : Change → Type 0
FitsChange c = FitsFrag c.frag × FitsI64 c.key × FitsOption FitsRow c.row

abbrev pub FitsMsg : Msg → Type 0
FitsMsg (Read ts class txn attempt conds uses) =
    FitsTs ts × FitsClass class × FitsTxnNo txn × FitsU64 attempt
    × FitsList FitsCond conds × FitsList FitsUse uses
FitsMsg (Ready ts class counts) =
    FitsTs ts × FitsClass class × FitsList (FitsPair FitsU32 FitsU64) counts
FitsMsg (Reject ts class by write) = FitsTs ts × FitsClass class × FitsClass by × FitsTs write
FitsMsg (Fetch ts class use_no column) =
    FitsTs ts × FitsClass class × FitsU32 use_no × FitsU32 column
FitsMsg (Values ts class use_no values) =
    FitsTs ts × FitsClass class × FitsU32 use_no × FitsList FitsValue values
FitsMsg (Reduce ts class use_no column values) =
    FitsTs ts × FitsClass class × FitsU32 use_no × FitsU32 column × FitsList FitsValue values
FitsMsg (Reduced ts class use_no count) =
    FitsTs ts × FitsClass class × FitsU32 use_no × FitsU64 count
FitsMsg (Ship ts class) = FitsTs ts × FitsClass class
FitsMsg (Rows ts class rows) = FitsTs ts × FitsClass class × FitsList (FitsPair FitsU32 FitsRow) rows
FitsMsg (Write ts class txn changes) =
    FitsTs ts × FitsClass class × FitsTxnNo txn × FitsList FitsChange changes
FitsMsg (Null class time) = FitsClass class × FitsTs time
FitsMsg (Ask class time) = FitsClass class × FitsTs time
FitsMsg Hold = Unit {0}
FitsMsg (Held time) = FitsTs time
FitsMsg (Done ts) = FitsTs ts
FitsMsg (Release ts) = FitsTs ts
