-- Events, by the words after the first word of their lines.
use Rattle.std.specs.Prelude.{ℕ, ◌+◌, ℤ, pos, nat_lt, nat_le, ◌==◌, ◌&&◌, List, [], ◌∷◌, length, Option, Some, None, Result, Ok, Err, if◌then◌else◌}
use Rattle.std.specs.Option.{option_map}
use Rattle.std.specs.List.{position}
use Rattle.std.specs.Str.{bytes_eq}
use Rattle.sdd_lang.specs.All.{Catalogue, D, Deliver, DmNo, Down, Event, Lose, MAX_PLACE, MAX_TICKS, Redeclare, Repeat, Resend, Settle, Site, Submit, T, Tick, TmNo, TxnNo, U, Up, are_linked, must, require, tm_no, txn_no, ◌>>=◌}
use Rattle.sdd_words.specs.Keywords.{is_free}
use Rattle.sdd_words.specs.Names.{name_in}
use Rattle.sdd_words.specs.Number.{number_of}
use Rattle.sdd_words.specs.Words.{Word, Plain, Quoted}
use Rattle.sdd_script.specs.declared.fault.WorkRule.{WorkRule}
use Rattle.sdd_script.specs.declared.keyword.EventKey.{EventKey}
use Rattle.sdd_script.specs.declared.keyword.EventKey.TheVariants as keys
use Rattle.sdd_script.specs.declared.fault.WorkRule.TheVariants.{BadEvent, BadLine, BadNumber, UnknownName}

-- a number from 1 to the most
abbrev pub from_one : ℕ → Option ℤ → Option ℕ
from_one most (Some (pos n)) = if nat_lt 0 n && nat_le n most then Some n else None
from_one most _ = None

abbrev pub numbered : ℕ → List ℕ → Option ℕ
numbered most digits = from_one most (number_of digits)

-- U, T and a number, or D and a number: a site that is there
abbrev pub site_in : Catalogue → List ℕ → Option Site
site_in cat [] = None
site_in cat (c ∷ digits) =
    if c == 85 && (length digits == 0) then Some U else (
    if c == 84 then option_map (λ n. T (tm_no n)) (numbered cat.tms digits) else (
    if c == 68 then option_map (λ n. D (record { 0 = n })) (numbered cat.dms digits) else None))

abbrev pub site_of : Catalogue → Word → Result Site WorkRule
site_of cat (Plain bytes) = require BadEvent (site_in cat bytes)
site_of cat (Quoted text) = Err BadEvent

-- a transaction module
abbrev pub module_of : Site → Result TmNo WorkRule
module_of (T tm) = Ok tm
module_of site = Err BadEvent

abbrev pub tm_of : Catalogue → Word → Result TmNo WorkRule
tm_of cat word = do
  site ← site_of cat word
  module_of site

-- a data module
abbrev pub data_module_of : Site → Result DmNo WorkRule
data_module_of (D dm) = Ok dm
data_module_of site = Err BadEvent

abbrev pub dm_of : Catalogue → Word → Result DmNo WorkRule
dm_of cat word = do
  site ← site_of cat word
  data_module_of site

-- a module that may go down: a transaction module or a data module
abbrev pub any_module_of : Site → Result Site WorkRule
any_module_of U = Err BadEvent
any_module_of site = Ok site

abbrev pub turning_of : Catalogue → Word → Result Site WorkRule
turning_of cat word = do
  site ← site_of cat word
  any_module_of site

-- two sites with a link between them
abbrev pub link_of : Catalogue → Word → Word → Result (Site × Site) WorkRule
link_of cat from to = do
  a ← site_of cat from
  b ← site_of cat to
  _ ← must BadEvent (are_linked a b)
  Ok (a, b)

-- a number from 1 to the most
abbrev pub count_of : ℕ → Word → Result ℕ WorkRule
count_of most (Plain bytes) = require BadNumber (numbered most bytes)
count_of most (Quoted text) = Err BadNumber

-- a link and a place in its flight
abbrev pub flight_place : Catalogue → List Word → Result (Site × Site × ℕ) WorkRule
flight_place cat (from ∷ to ∷ place ∷ []) = do
  _ ← must BadLine (is_free from && is_free to && is_free place)
  (link : Site × Site) ← link_of cat from to
  k ← count_of MAX_PLACE place
  Ok (link.0, link.1, k)
flight_place cat _ = Err BadLine

abbrev pub deliver_of : Catalogue → List Word → Result Event WorkRule
deliver_of cat words = do
  (p : Site × Site × ℕ) ← flight_place cat words
  Ok (Deliver p.0 p.1 p.2)

abbrev pub lose_of : Catalogue → List Word → Result Event WorkRule
lose_of cat words = do
  (p : Site × Site × ℕ) ← flight_place cat words
  Ok (Lose p.0 p.1 p.2)

abbrev pub repeat_of : Catalogue → List Word → Result Event WorkRule
repeat_of cat words = do
  (p : Site × Site × ℕ) ← flight_place cat words
  Ok (Repeat p.0 p.1 p.2)

-- the number of the transaction with a name
abbrev pub number_named : List (List ℕ) → List ℕ → Option ℕ
number_named names name = option_map (λ place. place + 1) (position (bytes_eq name) names)

abbrev pub txn_named : List (List ℕ) → Word → Result TxnNo WorkRule
txn_named names (Plain bytes) = do
  name ← require UnknownName (name_in bytes)
  n ← require UnknownName (number_named names name)
  Ok (txn_no n)
txn_named names (Quoted text) = Err UnknownName

abbrev pub submit_of : List (List ℕ) → List Word → Result Event WorkRule
submit_of names (name ∷ []) = do
  _ ← must BadLine (is_free name)
  txn ← txn_named names name
  Ok (Submit txn)
submit_of names _ = Err BadLine

abbrev pub resend_of : Catalogue → List Word → Result Event WorkRule
resend_of cat (from ∷ to ∷ []) = do
  _ ← must BadLine (is_free from && is_free to)
  (link : Site × Site) ← link_of cat from to
  Ok (Resend link.0 link.1)
resend_of cat _ = Err BadLine

abbrev pub tick_of : Catalogue → List Word → Result Event WorkRule
tick_of cat (tm ∷ n ∷ []) = do
  _ ← must BadLine (is_free tm && is_free n)
  t ← tm_of cat tm
  k ← count_of MAX_TICKS n
  Ok (Tick t k)
tick_of cat _ = Err BadLine

abbrev pub settle_of : List Word → Result Event WorkRule
settle_of [] = Ok Settle
settle_of _ = Err BadLine

abbrev pub redeclare_of : List Word → Result Event WorkRule
redeclare_of [] = Ok Redeclare
redeclare_of _ = Err BadLine

abbrev pub down_of : Catalogue → List Word → Result Event WorkRule
down_of cat (named ∷ []) = do
  _ ← must BadLine (is_free named)
  at ← turning_of cat named
  Ok (Down at)
down_of cat _ = Err BadLine

abbrev pub up_of : Catalogue → List Word → Result Event WorkRule
up_of cat (named ∷ []) = do
  _ ← must BadLine (is_free named)
  at ← turning_of cat named
  Ok (Up at)
up_of cat _ = Err BadLine

-- an event, by its first word and the words after it, where these are the names of the transactions
abbrev pub event_of : EventKey → Catalogue → List (List ℕ) → List Word → Result Event WorkRule
event_of keys.Submit cat names words = submit_of names words
event_of keys.Deliver cat names words = deliver_of cat words
event_of keys.Lose cat names words = lose_of cat words
event_of keys.Repeat cat names words = repeat_of cat words
event_of keys.Resend cat names words = resend_of cat words
event_of keys.Tick cat names words = tick_of cat words
event_of keys.Settle cat names words = settle_of words
event_of keys.Redeclare cat names words = redeclare_of words
event_of keys.Down cat names words = down_of cat words
event_of keys.Up cat names words = up_of cat words
