-- The words of the lines of a valid workload are words, texts, and hold no newline.
use Rattle.sdd_script.proofs.All.{Add, AllByRecursion, Assign, AssignsValue, Bool, Catalogue, ClassPart, Condition, Const, D, Delete, Deliver, Down, Event, EventKey, FitsAssign, FitsCondition, FitsRef, FitsStatement, HoldsValue, HoldsValues, IsAscii, IsAscii-cons, IsAscii-nil, IsFragment, IsFrom1To, IsLink, IsModule, IsName, IsRelation, IsSite, IsUtf8-from_ascii, IsValidEvent, IsValidRead, IsValidRow, IsValidTxn, IsValue, Keyword, List, Lose, MAX_PLACE, Op, Plain, Put, Query, ReadPart, Redeclare, Ref, RelNo, Repeat, Resend, Same, Settle, Site, Stmt, Submit, T, Tick, To, Txn, U, Up, Update, Value, Word, [], arith, both_hold, class_words, codes, column_word, conditions_words, count_word, dm_no, drop, event_words, false, header_words, length, list_all, ltb-true, map, name_of_relation, name_of_txn, nat_lt, not, op_word, own_column, reads_words, recursion_from_All, refl, relation_word, sets_words, site_word, start_words, statement_words, tm_no, true, where_words, writes_words, ℕ, ◌&&◌, ◌++◌, ◌<◌, ◌==◌, ◌∷◌, ◌≡◌}
use Rattle.sdd_script.proofs.WordLooks.{not_it, no_newlines, no_spaces, IsFine, name_fine, number_fine, value_fine}
use Rattle.sdd_script.proofs.UseLaws.{IsKnown}
use Rattle.sdd_script.proofs.RefLaws.{AreParts, column_word_is}
use Rattle.sdd_script.proofs.RowLaws.{FitsRowOf, row_fine}
use Rattle.sdd_script.proofs.QueryLaws.{query_fits}
use Rattle.sdd_script.proofs.UpdateLaws.{update_fits, one_part}
use Rattle.sdd_script.proofs.EventLaws.{site_fine, place_fine}
use Rattle.sdd_script.proofs.LineLaws.{event_key_bytes, keyword_bytes}
use Rattle.sdd_lang.specs.base.declared.restriction.Op.TheVariants as ops
use Rattle.sdd_script.specs.declared.keyword.Keyword.TheVariants as keys
use Rattle.sdd_script.specs.declared.keyword.StatementKey.TheVariants as skeys
use Rattle.sdd_script.specs.declared.keyword.ClassKey.TheVariants as class_keys
use Rattle.sdd_script.specs.declared.keyword.EventKey.TheVariants as ekeys

abbrev pub AreFine : List Word → Type 0
AreFine ws = AllByRecursion IsFine ws

pub fine-append : (xs ys : List Word) → AreFine xs → AreFine ys → AreFine (xs ++ ys)
fine-append [] ys h k = k
fine-append (x ∷ xs) ys h k = (h.0, fine-append xs ys h.1 k)

-- ---- words that stand for themselves

abbrev is_simple_byte : ℕ → Bool
is_simple_byte c = nat_lt c 128 && not (c == 32) && not (c == 10)

abbrev is_simple : List ℕ → Bool
is_simple [] = false
is_simple (c ∷ cs) = not (c == 34) && list_all is_simple_byte (c ∷ cs)

simple_low : (c : ℕ) → is_simple_byte c ≡ true → c < 128
simple_low c e = ltb-true c 128 (both_hold _ (not (c == 32)) (both_hold (nat_lt c 128 && not (c == 32)) (not (c == 10)) e).0).0

simple_ascii : (cs : List ℕ) → list_all is_simple_byte cs ≡ true → IsAscii cs
simple_ascii [] e = IsAscii-nil
simple_ascii (c ∷ cs) e =
    let h = both_hold (is_simple_byte c) (list_all is_simple_byte cs) e in
    IsAscii-cons c cs (simple_low c h.0) (simple_ascii cs h.1)

simple_fine : (bytes : List ℕ) → is_simple bytes ≡ true → IsFine (Plain bytes)
simple_fine bytes e = grind (arith, no_spaces, not_it, IsUtf8-from_ascii, simple_ascii, no_newlines)

keyword_simple : (key : Keyword) → is_simple (keyword_bytes key) ≡ true
keyword_simple key = grind arith

pub keyword_fine : (key : Keyword) → IsFine (Plain (keyword_bytes key))
keyword_fine key = simple_fine (keyword_bytes key) (keyword_simple key)

op_simple : (op : Op) → is_simple (op_word op) ≡ true
op_simple op = grind arith

op_fine : (op : Op) → IsFine (Plain (op_word op))
op_fine op = simple_fine (op_word op) (op_simple op)

-- ---- statements

conditions_fine : (cat : Catalogue) → IsKnown cat → (rels : List RelNo) → AreParts cat rels → (key : List ℕ)
    → IsFine (Plain key) → (ds : List Condition) → AllByRecursion (FitsCondition cat rels) ds
    → AllByRecursion HoldsValue ds → AreFine (conditions_words key cat rels ds)
conditions_fine cat k rels p key f [] fits v = tt
conditions_fine cat k rels p key f (Const left op value ∷ ds) fits v =
    let rest = conditions_fine cat k rels p (codes "and") (simple_fine (codes "and") refl) ds fits.1 v.1 in
    grind (arith, column_word_is, op_fine, value_fine, simple_fine, rest)
conditions_fine cat k rels p key f (Same left right ∷ ds) fits v = (
  f,
  (
    (column_word_is cat k rels left p fits.0.0).fine,
    (
      op_fine ops.Eq,
      (
        (column_word_is cat k rels right p fits.0.1).fine,
        conditions_fine cat k rels p
            (codes "and") (simple_fine (codes "and") refl) ds fits.1 v.1,
      ),
    ),
  ),
)

where_fine : (cat : Catalogue) → IsKnown cat → (rels : List RelNo) → AreParts cat rels
    → (ds : List Condition) → AllByRecursion (FitsCondition cat rels) ds → AllByRecursion HoldsValue ds
    → AreFine (where_words cat rels ds)
where_fine cat k rels p ds fits v = conditions_fine cat k rels p (codes "where") (simple_fine (codes "where") refl) ds fits v

sets_fine : (cat : Catalogue) → IsKnown cat → (rel : RelNo) → AreParts cat (rel ∷ []) → (sets : List Assign)
    → AllByRecursion (FitsAssign cat rel.0) sets → AllByRecursion AssignsValue sets → AreFine (sets_words cat rel sets)
sets_fine cat k rel p [] fits v = tt
sets_fine cat k rel p (To column value ∷ sets) fits v = (
  (column_word_is cat k (rel ∷ []) (own_column column) p ((omega arith, omega arith), fits.0.0)).fine,
  (simple_fine (codes "=") refl, (value_fine value v.0, sets_fine cat k rel p sets fits.1 v.1)),
)
sets_fine cat k rel p (Add column by ∷ sets) fits v = (
  (column_word_is cat k (rel ∷ []) (own_column column) p ((omega arith, omega arith), fits.0.0)).fine,
  (simple_fine (codes "+=") refl, (number_fine by v.0, sets_fine cat k rel p sets fits.1 v.1)),
)

relations_fine : (cat : Catalogue) → IsKnown cat → (rels : List RelNo)
    → AllByRecursion (λ (r : RelNo). IsRelation cat r.0) rels → AreFine (map (relation_word cat) rels)
relations_fine cat k [] h = tt
relations_fine cat k (r ∷ rels) h = (name_fine (name_of_relation cat r.0) (k.relation_name r.0 h.0), relations_fine cat k rels h.1)

columns_fine : (cat : Catalogue) → IsKnown cat → (rels : List RelNo) → AreParts cat rels → (out : List Ref)
    → AllByRecursion (FitsRef cat rels) out → AreFine (map (column_word cat rels) out)
columns_fine cat k rels p [] h = tt
columns_fine cat k rels p (r ∷ out) h = ((column_word_is cat k rels r p h.0).fine, columns_fine cat k rels p out h.1)

pub row_of_statement : (cat : Catalogue) (rel : RelNo) (row : List Value) → FitsStatement cat (Put rel row) → HoldsValues (Put rel row)
    → FitsRowOf cat rel row
row_of_statement cat rel row h v = (h.0, h.1, recursion_from_All IsValue row v)

pub statement_fine : (cat : Catalogue) → IsKnown cat → (s : Stmt) → FitsStatement cat s → HoldsValues s → AreFine (statement_words cat s)
statement_fine cat k (Put rel row) h v = (keyword_fine (keys.Statement skeys.Put), row_fine cat k rel row (row_of_statement cat rel row h v))
statement_fine cat k (Query out rels conds) h v =
    let q = query_fits cat out rels conds h v in (
      keyword_fine (keys.Statement skeys.Query),
      fine-append (map (column_word cat rels) out) _ (columns_fine cat k rels q.parts out q.columns) (
        simple_fine (codes "from") refl,
        fine-append (map (relation_word cat) rels) _ (relations_fine cat k rels q.relations) (where_fine cat k rels q.parts conds q.conds_fit q.conds_hold),
      ),
    )
statement_fine cat k (Update rel sets conds) h v =
    let u = update_fits cat rel sets conds h v in (
      keyword_fine (keys.Statement skeys.Update),
      (
        name_fine (name_of_relation cat rel.0) (k.relation_name rel.0 u.relation),
        (
          simple_fine (codes "set") refl,
          fine-append (sets_words cat rel sets) _ (sets_fine cat k rel u.parts sets u.sets_fit u.sets_hold)
              (where_fine cat k (rel ∷ []) u.parts conds u.conds_fit u.conds_hold),
        ),
      ),
    )
statement_fine cat k (Delete rel conds) h v = (
  keyword_fine (keys.Statement skeys.Delete),
  (
    name_fine (name_of_relation cat rel.0) (k.relation_name rel.0 h.0),
    where_fine cat k (rel ∷ []) (one_part cat rel h.0) conds
        (recursion_from_All (FitsCondition cat (rel ∷ [])) conds h.1.1) (recursion_from_All HoldsValue conds v),
  ),
)

-- ---- other lines

pub start_fine : (cat : Catalogue) → IsKnown cat → (r : RelNo × List Value) → IsValidRow cat r → AreFine (start_words cat r)
start_fine cat k r h = (keyword_fine keys.Row, row_fine cat k r.0 r.1 (h.fits.0, h.fits.1, recursion_from_All IsValue r.1 h.values))

pub header_fine : (cat : Catalogue) → IsKnown cat → (t : Txn) → IsValidTxn cat t → AreFine (header_words t.name t.tm)
header_fine cat k t h = (keyword_fine keys.Txn, (name_fine t.name h.named, (site_fine cat k (T t.tm) h.fits.module_is_there, tt)))

-- the name of the transaction that an event submits is one
abbrev pub NamesOne : List Txn → Event → Type 0
NamesOne txns (Submit txn) = IsFine (Plain (name_of_txn txns txn.0))
NamesOne txns _ = Unit {0}

-- an event's first word, and the words after it
abbrev pub event_key : Event → EventKey
event_key (Submit txn) = ekeys.Submit
event_key (Deliver from to place) = ekeys.Deliver
event_key (Lose from to place) = ekeys.Lose
event_key (Repeat from to place) = ekeys.Repeat
event_key (Resend from to) = ekeys.Resend
event_key (Tick tm n) = ekeys.Tick
event_key Settle = ekeys.Settle
event_key Redeclare = ekeys.Redeclare
event_key (Down at) = ekeys.Down
event_key (Up at) = ekeys.Up

abbrev pub behind_key : List Txn → Event → List Word
behind_key txns e = drop 1 (event_words txns e)

pub words_of_event : (txns : List Txn) (e : Event)
    → Plain (event_key_bytes (event_key e)) ∷ behind_key txns e ≡ event_words txns e
words_of_event txns e = grind arith

flight_fine : (cat : Catalogue) → IsKnown cat → (from to : Site) (place : ℕ) → IsLink cat from to → IsFrom1To MAX_PLACE place
    → AreFine (site_word from ∷ site_word to ∷ count_word place ∷ [])
flight_fine cat k from to place h p = (site_fine cat k from h.0, (site_fine cat k to h.1, (place_fine place p, tt)))

-- a module that may go down is a site
module_is_site : (cat : Catalogue) (at : Site) → IsModule cat at → IsSite cat at
module_is_site cat U h = absurd h
module_is_site cat (T tm) h = h
module_is_site cat (D dm) h = h

pub behind_fine : (cat : Catalogue) → IsKnown cat → (txns : List Txn) (e : Event)
    → IsValidEvent cat (length txns) e → NamesOne txns e → AreFine (behind_key txns e)
behind_fine cat k txns (Submit txn) h n = (n, tt)
behind_fine cat k txns (Deliver from to place) h n = flight_fine cat k from to place h.0 h.1
behind_fine cat k txns (Lose from to place) h n = flight_fine cat k from to place h.0 h.1
behind_fine cat k txns (Repeat from to place) h n = flight_fine cat k from to place h.0 h.1
behind_fine cat k txns (Resend from to) h n = (site_fine cat k from h.0, (site_fine cat k to h.1, tt))
behind_fine cat k txns (Tick tm n) h m = (site_fine cat k (T tm) h.0, (place_fine n h.1, tt))
behind_fine cat k txns (Down at) h n = (site_fine cat k at (module_is_site cat at h), tt)
behind_fine cat k txns (Up at) h n = (site_fine cat k at (module_is_site cat at h), tt)
behind_fine cat k txns _ h n = tt

-- ---- class lists

pub class_fine : (cat : Catalogue) → IsKnown cat → (c : ClassPart) → IsName c.name → IsFrom1To cat.tms c.tm → AreFine (class_words c)
class_fine cat k c named there = (keyword_fine (keys.Class class_keys.Class), (name_fine c.name named, (site_fine cat k (T (tm_no c.tm)) there, tt)))

pub reads_fine : (cat : Catalogue) → IsKnown cat → (r : ReadPart) → IsValidRead cat r → AreFine (reads_words r)
reads_fine cat k r h = (
  keyword_fine (keys.Class class_keys.Reads),
  (name_fine r.fragment h.fragment.0, (site_fine cat k (D (dm_no r.at)) h.module_is_there, tt)),
)

pub writes_fine : (cat : Catalogue) (f : List ℕ) → IsFragment cat f → AreFine (writes_words f)
writes_fine cat f h = (keyword_fine (keys.Class class_keys.Writes), (name_fine f h.0, tt))
