-- The first words of lines.
use Rattle.std.specs.Prelude.{ℕ, List, codes, Option, Some, None, if◌then◌else◌}
use Rattle.std.specs.Str.{bytes_eq}
use Rattle.sdd_words.specs.Words.{Word, Plain, Quoted}
use Rattle.sdd_script.specs.declared.keyword.Keyword.{Keyword}
use Rattle.sdd_script.specs.declared.keyword.Keyword.TheVariants as keys
use Rattle.sdd_script.specs.declared.keyword.StatementKey.{StatementKey}
use Rattle.sdd_script.specs.declared.keyword.StatementKey.TheVariants.{Put, Query, Update, Delete}
use Rattle.sdd_script.specs.declared.keyword.ClassKey.{ClassKey}
use Rattle.sdd_script.specs.declared.keyword.ClassKey.TheVariants as class_keys
use Rattle.sdd_script.specs.declared.keyword.EventKey.{EventKey}
use Rattle.sdd_script.specs.declared.keyword.EventKey.TheVariants.{Submit, Deliver, Lose, Repeat, Resend, Tick, Settle, Redeclare, Down, Up}

abbrev pub statement_key_in : List ℕ → Option StatementKey
statement_key_in bytes =
    if bytes_eq bytes (codes "put") then Some Put else (
    if bytes_eq bytes (codes "query") then Some Query else (
    if bytes_eq bytes (codes "update") then Some Update else (
    if bytes_eq bytes (codes "delete") then Some Delete else None)))

abbrev pub class_key_in : List ℕ → Option ClassKey
class_key_in bytes =
    if bytes_eq bytes (codes "list") then Some class_keys.List else (
    if bytes_eq bytes (codes "class") then Some class_keys.Class else (
    if bytes_eq bytes (codes "reads") then Some class_keys.Reads else (
    if bytes_eq bytes (codes "writes") then Some class_keys.Writes else None)))

abbrev pub event_key_in : List ℕ → Option EventKey
event_key_in bytes =
    if bytes_eq bytes (codes "submit") then Some Submit else (
    if bytes_eq bytes (codes "deliver") then Some Deliver else (
    if bytes_eq bytes (codes "lose") then Some Lose else (
    if bytes_eq bytes (codes "repeat") then Some Repeat else (
    if bytes_eq bytes (codes "resend") then Some Resend else (
    if bytes_eq bytes (codes "tick") then Some Tick else (
    if bytes_eq bytes (codes "settle") then Some Settle else (
    if bytes_eq bytes (codes "redeclare") then Some Redeclare else (
    if bytes_eq bytes (codes "down") then Some Down else (
    if bytes_eq bytes (codes "up") then Some Up else None)))))))))

-- outside of transactions
abbrev pub outer_keyword : Option ClassKey → Option EventKey → Option Keyword
outer_keyword (Some key) event = Some (keys.Class key)
outer_keyword None (Some key) = Some (keys.Event key)
outer_keyword None None = None

abbrev pub inner_keyword : Option StatementKey → Option Keyword → Option Keyword
inner_keyword (Some key) outer = Some (keys.Statement key)
inner_keyword None outer = outer

abbrev pub keyword_in : List ℕ → Option Keyword
keyword_in bytes =
    if bytes_eq bytes (codes "row") then Some keys.Row else (
    if bytes_eq bytes (codes "txn") then Some keys.Txn else (
    if bytes_eq bytes (codes "done") then Some keys.Done else (
    if bytes_eq bytes (codes "end") then Some keys.End else inner_keyword (statement_key_in bytes) (outer_keyword (class_key_in bytes) (event_key_in bytes)))))

-- a text is no keyword
abbrev pub keyword_of : Word → Option Keyword
keyword_of (Plain bytes) = keyword_in bytes
keyword_of (Quoted text) = None
