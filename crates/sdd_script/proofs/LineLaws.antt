-- A line and its words, and its first word.
use Rattle.sdd_script.proofs.All.{AllByRecursion, AllWords, Catalogue, ClassKey, EventKey, HasNoNewline, IsAscii-cons, IsAscii-nil, IsUtf8, IsUtf8-append, IsUtf8-from_ascii, Keyword, List, None, Ok, Option, Plain, Some, State, StatementKey, Word, [], ap, arith, both_are, bytes_eq-Decides, class_key_in, codes, event_key_in, inner_keyword, is_sound, is_utf8, is_utf8-from_IsUtf8, keyword_in, keyword_of, keyword_rules, line_bytes, list_all, more_bytes, outer_keyword, refl, rules, scan_again, scan_spelled, statement_key_in, true, word_bytes, words_of, words_rules, ℕ, ◌++◌, ◌∙◌, ◌∷◌, ◌≡◌}
use Rattle.sdd_script.specs.LineRules.{line_rules}
use Rattle.sdd_script.proofs.StepLaws.{must_then, known_then, some_is}
use Rattle.sdd_script.proofs.WordLooks.{IsFine, no_newline-append}
use Rattle.sdd_script.specs.declared.keyword.StatementKey.TheVariants.{Put, Query, Update, Delete}
use Rattle.sdd_script.specs.declared.keyword.EventKey.TheVariants.{Submit, Deliver, Lose, Repeat, Resend, Tick, Settle, Redeclare, Down, Up}
use Rattle.sdd_script.specs.declared.keyword.ClassKey.TheVariants as class_keys
use Rattle.sdd_script.specs.declared.keyword.Keyword.TheVariants as keys

-- ---- words

pub record HasWords (cat : Catalogue) (st to : State) (line : List ℕ) : Type 0 where
  pub words : List Word
  pub spelled : line ≡ line_bytes words
  pub rules : words_rules cat st words ≡ Ok to

pub line_takes : (cat : Catalogue) (st to : State) (line : List ℕ) → line_rules cat st line ≡ Ok to → HasWords cat st to line
unfolding line_rules
line_takes cat st to line e =
    let a = must_then _ (is_utf8 line) _ to e in
    let b = known_then _ (words_of line) _ to a.1 in
    let c = must_then _ (list_all is_sound b.0) _ to b.2 in
    record { words = b.0; spelled = scan_spelled line b.0 b.1; rules = c.1 }

all_words : (ws : List Word) → AllByRecursion IsFine ws → AllWords ws
all_words [] h = tt
all_words (w ∷ ws) h = (h.0.word, all_words ws h.1)

all_sound : (ws : List Word) → AllByRecursion IsFine ws → list_all is_sound ws ≡ true
all_sound [] h = refl
all_sound (w ∷ ws) h = both_are (is_sound w) (list_all is_sound ws) h.0.sound (all_sound ws h.1)

more_utf8 : (ws : List Word) → AllByRecursion IsFine ws → IsUtf8 (more_bytes ws)
more_utf8 [] h = IsUtf8-from_ascii [] IsAscii-nil
more_utf8 (w ∷ ws) h =
    IsUtf8-append (32 ∷ []) (word_bytes w
    ++ more_bytes ws) (IsUtf8-from_ascii (32 ∷ []) (IsAscii-cons 32 [] (omega arith) IsAscii-nil))
    (IsUtf8-append (word_bytes w) (more_bytes ws) h.0.utf8 (more_utf8 ws h.1))

more_line : (ws : List Word) → AllByRecursion IsFine ws → HasNoNewline (more_bytes ws)
more_line [] h = tt
more_line (w ∷ ws) h = ((λ e. omega arith), no_newline-append (word_bytes w) (more_bytes ws) h.0.line (more_line ws h.1))

pub line_has_no_newline : (w : Word) (ws : List Word) → AllByRecursion IsFine (w ∷ ws) → HasNoNewline (line_bytes (w ∷ ws))
line_has_no_newline w ws h = no_newline-append (word_bytes w) (more_bytes ws) h.0.line (more_line ws h.1)

pub line_again : (cat : Catalogue) (st : State) (w : Word) (ws : List Word) → AllByRecursion IsFine (w ∷ ws)
    → line_rules cat st (line_bytes (w ∷ ws)) ≡ words_rules cat st (w ∷ ws)
unfolding line_rules
line_again cat st w ws h =
    let u = is_utf8-from_IsUtf8 (line_bytes (w ∷ ws)) (IsUtf8-append (word_bytes w) (more_bytes ws) h.0.utf8 (more_utf8 ws h.1)) in
    rw (u, scan_again (w ∷ ws) (h.0.word, all_words ws h.1), all_sound (w ∷ ws) h) refl

-- ---- keywords

-- what keywords are written as

abbrev pub statement_key_bytes : StatementKey → List ℕ
statement_key_bytes Put = codes "put"
statement_key_bytes Query = codes "query"
statement_key_bytes Update = codes "update"
statement_key_bytes Delete = codes "delete"

abbrev pub class_key_bytes : ClassKey → List ℕ
class_key_bytes class_keys.List = codes "list"
class_key_bytes class_keys.Class = codes "class"
class_key_bytes class_keys.Reads = codes "reads"
class_key_bytes class_keys.Writes = codes "writes"

abbrev pub event_key_bytes : EventKey → List ℕ
event_key_bytes Submit = codes "submit"
event_key_bytes Deliver = codes "deliver"
event_key_bytes Lose = codes "lose"
event_key_bytes Repeat = codes "repeat"
event_key_bytes Resend = codes "resend"
event_key_bytes Tick = codes "tick"
event_key_bytes Settle = codes "settle"
event_key_bytes Redeclare = codes "redeclare"
event_key_bytes Down = codes "down"
event_key_bytes Up = codes "up"

abbrev pub keyword_bytes : Keyword → List ℕ
keyword_bytes keys.Row = codes "row"
keyword_bytes keys.Txn = codes "txn"
keyword_bytes (keys.Statement key) = statement_key_bytes key
keyword_bytes keys.Done = codes "done"
keyword_bytes (keys.Class key) = class_key_bytes key
keyword_bytes (keys.Event key) = event_key_bytes key
keyword_bytes keys.End = codes "end"

statement_key_is : (bytes : List ℕ) (key : StatementKey) → statement_key_in bytes ≡ Some key → bytes ≡ statement_key_bytes key
statement_key_is bytes key e = grind (arith, bytes_eq-Decides, statement_key_bytes)

class_key_is : (bytes : List ℕ) (key : ClassKey) → class_key_in bytes ≡ Some key → bytes ≡ class_key_bytes key
class_key_is bytes key e = grind (arith, bytes_eq-Decides, class_key_bytes)

event_key_is : (bytes : List ℕ) (key : EventKey) → event_key_in bytes ≡ Some key → bytes ≡ event_key_bytes key
event_key_is bytes key e = grind (arith, bytes_eq-Decides, event_key_bytes)

outer_is : (bytes : List ℕ) (key : Keyword) (o : Option ClassKey) (p : Option EventKey)
    → class_key_in bytes ≡ o → event_key_in bytes ≡ p → outer_keyword o p ≡ Some key → bytes ≡ keyword_bytes key
outer_is bytes key o p a b e = grind (arith, class_key_is, event_key_is)

abbrev outer_of : List ℕ → Option Keyword
outer_of bytes = outer_keyword (class_key_in bytes) (event_key_in bytes)

inner_is : (bytes : List ℕ) (key : Keyword) (o : Option StatementKey) → statement_key_in bytes ≡ o
    → inner_keyword o (outer_of bytes) ≡ Some key → bytes ≡ keyword_bytes key
inner_is bytes key (Some s) a e = statement_key_is bytes s a ∙ ap keyword_bytes (some_is (keys.Statement s) key e)
inner_is bytes key None a e = outer_is bytes key (class_key_in bytes) (event_key_in bytes) refl refl e

keyword_bytes_are : (bytes : List ℕ) (key : Keyword) → keyword_in bytes ≡ Some key → bytes ≡ keyword_bytes key
keyword_bytes_are bytes key e = grind (arith, bytes_eq-Decides, inner_is)

pub keyword_takes : (w : Word) (key : Keyword) → keyword_of w ≡ Some key → w ≡ Plain (keyword_bytes key)
keyword_takes w key e = grind (arith, keyword_bytes_are)

pub keyword_again : (key : Keyword) → keyword_of (Plain (keyword_bytes key)) ≡ Some key
keyword_again key = grind arith

pub record HasKeyword (cat : Catalogue) (st to : State) (ws : List Word) : Type 0 where
  pub key : Keyword
  pub words : List Word
  pub whole : ws ≡ Plain (keyword_bytes key) ∷ words
  pub rules : keyword_rules key cat st words ≡ Ok to

pub words_take : (cat : Catalogue) (st to : State) (ws : List Word) → words_rules cat st ws ≡ Ok to → HasKeyword cat st to ws
words_take cat st to [] e = absurd cc
words_take cat st to (first ∷ words) e =
    let a = known_then _ (keyword_of first) _ to e in
    record { key = a.0; words = words; whole = ap (λ (w : Word). w ∷ words) (keyword_takes first a.0 a.1); rules = a.2 }

pub words_again : (cat : Catalogue) (st : State) (key : Keyword) (words : List Word)
    → words_rules cat st (Plain (keyword_bytes key) ∷ words) ≡ keyword_rules key cat st words
words_again cat st key words = let a = keyword_again key in rw a refl
