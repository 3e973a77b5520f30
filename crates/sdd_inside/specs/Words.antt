-- Names, sites, times and rows as JSON.
use Rattle.std.specs.Prelude.{ℕ, ℤ, Bool, true, false, List, codes, map, Option, Some, None}
use Rattle.std.specs.Fmt.{decimal, signed_decimal}
use Rattle.sdd_script.specs.base.declared.change.Change.{Change}
use Rattle.sdd_script.specs.base.declared.condition.Cond.{Cond}
use Rattle.sdd_script.specs.All.{Catalogue, Event, Site, Txn, TxnNo, Value}
use Rattle.sdd_script.specs.base.declared.value.Value.TheVariants.{Int, Text}
use Rattle.sdd_script.specs.base.declared.number.ClassNo.{ClassNo}
use Rattle.sdd_script.specs.base.declared.number.DmNo.{DmNo}
use Rattle.sdd_script.specs.base.declared.number.FragNo.{FragNo}
use Rattle.sdd_script.specs.base.declared.number.Ts.{Ts}
use Rattle.sdd_report.specs.Names.{class_word, fragment_name, site_word, module_word, txn_name, attempt_word}
use Rattle.sdd_script.specs.Spelling.{event_words}
use Rattle.sdd_script.specs.words.Values.{value_word}
use Rattle.sdd_script.specs.words.Words.{line_bytes}
use Rattle.sdd_inside.specs.Json.{quoted, pair, triple}

-- A number as it is. Here and below the catalogue and the transactions are those that have the names.
abbrev pub number_json : Catalogue → List Txn → ℕ → List ℕ
number_json cat txns n = decimal n

abbrev pub time_json : Catalogue → List Txn → Ts → List ℕ
time_json cat txns t = decimal t.0

abbrev pub class_json : Catalogue → List Txn → ClassNo → List ℕ
class_json cat txns c = quoted (class_word cat c.0)

abbrev pub fragment_json : Catalogue → List Txn → FragNo → List ℕ
fragment_json cat txns f = quoted (fragment_name cat f.0)

abbrev pub txn_json : Catalogue → List Txn → TxnNo → List ℕ
txn_json cat txns n = quoted (txn_name txns n.0)

abbrev pub attempt_json : List Txn → TxnNo → ℕ → List ℕ
attempt_json txns n tries = quoted (attempt_word txns n.0 tries)

abbrev pub site_json : Catalogue → List Txn → Site → List ℕ
site_json cat txns s = quoted (site_word s)

abbrev pub dm_json : Catalogue → List Txn → DmNo → List ℕ
dm_json cat txns d = quoted (module_word d.0)

-- an event as a workload spells it
abbrev pub event_json : List Txn → Event → List ℕ
event_json txns e = quoted (line_bytes (event_words txns e))

-- a key as a string, since not all readers of JSON keep numbers of 64 bits
abbrev pub key_json : Catalogue → List Txn → ℤ → List ℕ
key_json cat txns k = quoted (signed_decimal k)

abbrev pub is_number : Value → Bool
is_number (Int number) = true
is_number (Text text) = false

-- a row as one string: its values as a workload spells them, with a space between two
abbrev pub row_json : Catalogue → List Txn → List Value → List ℕ
row_json cat txns values = quoted (line_bytes (map value_word values))

-- the row of an item, or null where it is deleted
abbrev pub row_or_null_json : Catalogue → List Txn → Option (List Value) → List ℕ
row_or_null_json cat txns None = codes "null"
row_or_null_json cat txns (Some values) = row_json cat txns values

abbrev pub cond_json : Catalogue → List Txn → Cond → List ℕ
cond_json cat txns c = pair (class_json cat txns c.class) (time_json cat txns c.time)

abbrev pub change_json : Catalogue → List Txn → Change → List ℕ
change_json cat txns c = triple (fragment_json cat txns c.frag) (key_json cat txns c.key) (row_or_null_json cat txns c.row)
