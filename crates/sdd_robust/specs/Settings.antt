-- Where transactions run, and which rows their deletes may take away.
use Rattle.std.specs.Prelude.{◌==◌, ◌≡◌, ◌&&◌, Bool, false, int_le, List, [], map, pos, refl}
use Rattle.std.specs.Borrow.{Bor}
use Rattle.std.specs.List.{flat_map}
use Rattle.std.specs.Option.{option_to_list}
use Rattle.sdd_lang.specs.All.{Catalogue, Database, Item, Value, rel_no}
use Rattle.sdd_lang.specs.declared.statement.Stmt.{Stmt}
use Rattle.sdd_lang.specs.declared.statement.Stmt.TheVariants.{Delete, Put, Query, Update}
use Rattle.sdd_lang.specs.declared.transaction.Txn.{Txn}
use Rattle.sdd_robust_laws.specs.Accesses.{keys_of_part}
use Rattle.sdd_robust.specs.KeyRanges.{range_of}
use Rattle.sdd_robust.specs.declared.key_range.KeyRange.{KeyRange}

-- a catalogue, the transactions of a workload, and the database with which it begins
pub record Setting : Type 0 where
  pub cat : Catalogue
  pub work : List Txn
  pub first : Database

-- rows that are lent, with their items
abbrev pub lent_rows : List (Item × Bor (List Value)) → Database
lent_rows entries = map (λ e. (e.0, e.1.now)) entries

-- the rows that a statement may delete
abbrev pub deleted_by : Catalogue → Stmt → List KeyRange
deleted_by cat (Put rel row) = []
deleted_by cat (Query out rels conds) = []
deleted_by cat (Update rel sets conds) = []
deleted_by cat (Delete rel conds) = option_to_list (range_of rel (keys_of_part cat rel 1 conds))

abbrev pub deleted_in : Catalogue → List Txn → List KeyRange
deleted_in cat work = flat_map (λ (txn : Txn). flat_map (deleted_by cat) txn.statements) work

-- whether the item's row is one of these
abbrev pub is_in_range : Item → KeyRange → Bool
is_in_range item range = (range.rel.0 == item.0) && (int_le range.least item.1 && int_le item.1 range.greatest)

pub of_other_relation : is_in_range (2, pos 5) (record { rel = rel_no 1; least = pos 5; greatest = pos 9 }) ≡ false
of_other_relation = refl
