-- The copies of a data module and the rows that it holds frozen, as the log of its site gives them.
use Rattle.std.specs.Prelude.{ℕ, suc, ◌==◌, Bool, true, false, ◌&&◌, if◌then◌else◌, List, [], ◌∷◌, ◌++◌, map, length, Option, Some, None}
use Rattle.std.specs.List.{range_with_len, flat_map}
use Rattle.sdd_module.specs.All.{Act, Answer, Apply, Catalogue, Change, Did, Handed, Item, Log, Msg, Read, Rec, Records, Reduce, Row, Rows, Sends, Setting, Value, Write, database_of, frag_no, fragment_of}
use Rattle.sdd_copy.specs.Items.{Dated}
use Rattle.sdd_copy.specs.Contents.{contents}
use Rattle.sdd_pipe.specs.Pipe.{Pipe, head}
use Rattle.sdd_copy.specs.Frozen.{Frozen, CopyRows, frozen_for, rows_of, reduced, counts_of, all_rows}
use Rattle.sdd_rules.specs.dm.Pipes.{pipe}

-- class 0 and the classes of the catalogue
abbrev pub classes_of : Setting → List ℕ
classes_of s = range_with_len 0 (suc (length s.catalogue.classes))

abbrev pub is_apply : Rec → Bool
is_apply (Apply txn class dm ts) = true
is_apply _ = false

abbrev pub is_answer : Rec → Bool
is_answer (Answer txn attempt dm) = true
is_answer _ = false

-- the changes of a WRITE, dated by its timestamp
abbrev pub changes_in : Option Msg → Dated
changes_in (Some (Write ts class txn changes)) = map (λ x. (ts.0, x)) changes
changes_in _ = []

-- an Apply applies the head of its pipe
abbrev pub applied_acted : ℕ → Act → Pipe → Dated → Dated
applied_acted c (Records k r sends) p xs = if (k == c) && is_apply r then xs ++ changes_in (head p) else xs
applied_acted c (Sends to m hand) p xs = xs

-- the changes of the WRITEs of class c that are applied
abbrev pub applied : ℕ → Log → Dated
applied c [] = []
applied c (Did act ∷ log) = applied_acted c act (pipe c log) (applied c log)
applied c (_ ∷ log) = applied c log

abbrev pub first_row : Catalogue → Item × Row → ℕ × Change
first_row cat e = (0, record { frag = frag_no (fragment_of cat e.0.0 e.0.1); key = e.0.1; row = Some e.1 })

-- the rows with which the module begins have the date 0; of two with one key the later stands
abbrev pub first_rows : Setting → Dated
first_rows s = map (first_row s.catalogue) (database_of s.catalogue s.rows)

-- all changes that make the copies
abbrev pub dated : Setting → Log → Dated
dated s log = first_rows s ++ flat_map (λ c. applied c log) (classes_of s)

-- what the copies hold after these changes
abbrev pub copies : Dated → CopyRows
copies xs f = contents f xs

-- the rows that an Answer to the READ freezes
abbrev pub frozen_at : Dated → Option Msg → Option Frozen
frozen_at xs (Some (Read ts class txn attempt conds uses)) = Some (frozen_for (copies xs) ts.0 uses)
frozen_at xs _ = None

-- the act that sends ROWS gives them up
abbrev pub given_up : ℕ → Msg → Option Frozen → Option Frozen
given_up c (Rows ts k rows) f = if k.0 == c then None else f
given_up c _ f = f

abbrev pub frozen_acted : ℕ → Act → Dated → Pipe → Option Frozen → Option Frozen
frozen_acted c (Records k r sends) xs p f = if (k == c) && is_answer r then frozen_at xs (head p) else f
frozen_acted c (Sends to m hand) xs p f = given_up c m f

abbrev pub reduced_at : ℕ → ℕ → ℕ → List Value → Option Frozen → Option Frozen
reduced_at ts u col values None = None
reduced_at ts u col values (Some f) = if f.ts == ts then Some (reduced u col values f) else Some f

-- a REDUCE for them leaves the rows whose column is among its values
abbrev pub frozen_handed : ℕ → Msg → Option Frozen → Option Frozen
frozen_handed c (Reduce ts k u col values) f = if k.0 == c then reduced_at ts.0 u col values f else f
frozen_handed c _ f = f

-- the rows that are held for the READ of class c that was answered last
abbrev pub frozen : Setting → ℕ → Log → Option Frozen
frozen s c [] = None
frozen s c (Handed from m ∷ log) = frozen_handed c m (frozen s c log)
frozen s c (Did act ∷ log) = frozen_acted c act (dated s log) (pipe c log) (frozen s c log)
frozen s c (_ ∷ log) = frozen s c log

-- where rows are held: those of use u, the counts of all uses, and all rows

abbrev pub rows_held : ℕ → Option Frozen → List Row
rows_held u None = []
rows_held u (Some f) = rows_of u f

abbrev pub counts_held : Option Frozen → List (ℕ × ℕ)
counts_held None = []
counts_held (Some f) = counts_of f

abbrev pub all_held : Option Frozen → List (ℕ × Row)
all_held None = []
all_held (Some f) = all_rows f
