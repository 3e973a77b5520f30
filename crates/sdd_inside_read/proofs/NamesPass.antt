-- Names, events and rows are passed whole: they are strings.
use Rattle.std.specs.Fmt.{signed_decimal}
use Rattle.std.specs.Prelude.{ℕ, ℤ, List, map}
use Rattle.sdd_inside.specs.Words.{attempt_json, class_json, dm_json, event_json, fragment_json, key_json, row_json, site_json, txn_json}
use Rattle.sdd_inside_read.proofs.Passing.{IsWhole}
use Rattle.sdd_inside_read.proofs.StringsPass.{whole_string}
use Rattle.sdd_report.specs.Names.{attempt_word, class_word, fragment_name, module_word, site_word, txn_name}
use Rattle.sdd_script.specs.All.{Catalogue, Event, Site, Txn, TxnNo, Value}
use Rattle.sdd_script.specs.Spelling.{event_words}
use Rattle.sdd_script.specs.base.declared.number.ClassNo.{ClassNo}
use Rattle.sdd_script.specs.base.declared.number.DmNo.{DmNo}
use Rattle.sdd_script.specs.base.declared.number.FragNo.{FragNo}
use Rattle.sdd_script.specs.words.Values.{value_word}
use Rattle.sdd_script.specs.words.Words.{line_bytes}

pub whole_class : (cat : Catalogue) (txns : List Txn) (c : ClassNo) → IsWhole (class_json cat txns c)
whole_class cat txns c = whole_string (class_word cat c.0)

pub whole_fragment : (cat : Catalogue) (txns : List Txn) (f : FragNo) → IsWhole (fragment_json cat txns f)
whole_fragment cat txns f = whole_string (fragment_name cat f.0)

pub whole_txn : (cat : Catalogue) (txns : List Txn) (n : TxnNo) → IsWhole (txn_json cat txns n)
whole_txn cat txns n = whole_string (txn_name txns n.0)

pub whole_attempt : (txns : List Txn) (n : TxnNo) (attempt : ℕ) → IsWhole (attempt_json txns n attempt)
whole_attempt txns n attempt = whole_string (attempt_word txns n.0 attempt)

pub whole_site : (cat : Catalogue) (txns : List Txn) (s : Site) → IsWhole (site_json cat txns s)
whole_site cat txns s = whole_string (site_word s)

pub whole_module : (cat : Catalogue) (txns : List Txn) (d : DmNo) → IsWhole (dm_json cat txns d)
whole_module cat txns d = whole_string (module_word d.0)

pub whole_event : (txns : List Txn) (e : Event) → IsWhole (event_json txns e)
whole_event txns e = whole_string (line_bytes (event_words txns e))

pub whole_key : (cat : Catalogue) (txns : List Txn) (k : ℤ) → IsWhole (key_json cat txns k)
whole_key cat txns k = whole_string (signed_decimal k)

pub whole_row : (cat : Catalogue) (txns : List Txn) (values : List Value) → IsWhole (row_json cat txns values)
whole_row cat txns values = whole_string (line_bytes (map value_word values))
