-- Two transactions that meet the theorem's conditions: one puts a row, and the other, which saw it, asks for all rows.
use Rattle.sdd_laws.proofs.All.{All-from_recursion, AreRecorded, Bool, Contains-cases, Contains-here, Contains-nil, IsOrder, Item, Ledger, List, MayComeFirst, Meeting, Put, PutsHeld, ReadWrite, Reads, Row, Some, Stmt, Txn, [], accounts, arith, cond, effect, false, false≢true, frag_no, gathered, get_all, inl, inr, may_come_first, not, not_itself, pos, reads_write, refl, rel, true, two, txn, ℕ, ◌&&◌, ◌<◌, ◌∷◌, ◌≡◌, ◌≤◌}
use Rattle.sdd_laws.specs.Order.{Meets}

abbrev put_five : Stmt
put_five = Put (rel 1) (two (pos 5) (pos 10))

abbrev five : Item × Row
five = ((1, pos 5), two (pos 5) (pos 10))

-- false is the writer, true the reader
abbrev text : Bool → Txn
text x = txn (cond x get_all put_five ∷ [])

abbrev pieces : Bool → List (Item × Row)
pieces x = cond x (five ∷ []) []

abbrev pair : Ledger Bool
pair =
    record {
      txn = text;
      ts = λ x. cond x 129 65;
      result = λ x. effect accounts (gathered (pieces x)) (text x);
      saw = λ x f y. x && not y;
    }

abbrev commits : List Bool
commits = false ∷ true ∷ []

time : (x : Bool) → 1 ≤ pair.ts x
time x = grind arith

one_time : (x y : Bool) → pair.ts x ≡ pair.ts y → pair.result x ≡ pair.result y
one_time x y e = grind arith

earlier : (x y : Bool) → (x && not y) ≡ true → cond y 1 0 < cond x 1 0
earlier x y e = grind arith

-- the fragment that the reader reads is the first
read_first : (f : ℕ) → Reads accounts pair true f → f ≡ 1
read_first f r = elim (Contains-cases 1 [] f r) [ inl e ↦ e | inr none ↦ absurd (Contains-nil f none) ]

pub recorded : AreRecorded accounts [] pair commits
recorded =
    record {
      fits =
          grind (arith, accounts, get_all, put_five);
      puts_held = λ x there. All-from_recursion PutsHeld (cond x get_all put_five ∷ []) ((grind arith), tt);
      time = λ x there. time x;
      one_time = λ x y a b e. one_time x y e;
      not_itself = λ x there f r. not_itself x;
      place = λ x. cond x 1 0;
      earlier = λ x y a b f r e. earlier x y e;
      pieces = pieces;
      are_pieces = record { each = λ x there f e r h. (grind arith); of = λ x there e h. (grind arith) };
      effect_is = λ x there. refl;
    }

writer_first : (m : Meeting) → Meets accounts pair false true m → may_come_first m ≡ true
writer_first m e = grind arith

-- the reader may not stand first
pub reader_not_first : MayComeFirst accounts pair true false → ⊥
reader_not_first may =
    false≢true
    (may (ReadWrite true)
    (reads_write (record { frag = frag_no 1; key = pos 5; row = Some (two (pos 5) (pos 10)) }) (Contains-here _ [])
    (Contains-here 1 [])))

-- so the writer stands first
pub order : IsOrder accounts pair commits commits
order = grind arith
