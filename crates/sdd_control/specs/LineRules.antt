-- The rules of a line of a control file, in the order in which they are judged. What the lines
-- before it have said is a draft, and a line makes the next one.
use Rattle.std.specs.Prelude.{ℕ, ◌^◌, ℤ, pos, nat_lt, nat_le, ◌==◌, ◌&&◌, not, List, [], ◌∷◌, ◌++◌, length, Option, Some, None, Result, Ok, Err, if◌then◌else◌}
use Rattle.std.specs.List.{list_all}
use Rattle.std.specs.Str.{is_utf8}
use Rattle.sdd_script.specs.declared.fault.Counts.TheVariants.{Event}
use Rattle.sdd_script.specs.declared.fault.WorkRule.{WorkRule}
use Rattle.sdd_script.specs.declared.fault.WorkRule.TheVariants.{BadEvent, BadLine, BadNumber, NotUtf8, TooMany}
use Rattle.sdd_script.specs.All.{Plain, Quoted, Word, is_free, is_sound, must, number_of, require, words_of, ◌>>=◌}
use Rattle.sdd_control.specs.Keys.{key_of}
use Rattle.sdd_backups.specs.declared.act.Act.{Act}
use Rattle.sdd_backups.specs.declared.act.Act.TheVariants.{Step, Deliver, Stop}
use Rattle.sdd_control.specs.Draft.{Draft}
use Rattle.sdd_control.specs.declared.stage.Head.{Head}
use Rattle.sdd_control.specs.declared.stage.Stage.{Stage}
use Rattle.sdd_control.specs.declared.stage.Stage.TheVariants.{First, Events, Ended}
use Rattle.sdd_control.specs.declared.key.Key.{Key}
use Rattle.sdd_control.specs.declared.key.Key.TheVariants as keys

-- the most events of a file
abbrev pub most_events : ℕ
most_events = 2 ^ 18

-- a number from the least to the most
abbrev pub within : ℕ → ℕ → Option ℤ → Option ℕ
within least most (Some (pos n)) = if nat_le least n && nat_le n most then Some n else None
within least most _ = None

abbrev pub number_within : ℕ → ℕ → Word → Result ℕ WorkRule
number_within least most (Plain bytes) = require BadNumber (within least most (number_of bytes))
number_within least most (Quoted text) = Err BadNumber

-- a site is any number of 32 bits, until it is known whether it exists
abbrev pub site_number : Word → Result ℕ WorkRule
site_number word = number_within 0 4294967295 word

abbrev pub head_of : List Word → Result Head WorkRule
head_of (backups ∷ writes ∷ []) =
    must BadLine (is_free backups && is_free writes) >>= λ _.
    number_within 1 8 backups >>= λ b.
    number_within 1 64 writes >>= λ w.
    Ok (record { backups = b; writes = w })
head_of _ = Err BadLine

abbrev pub site_of : ℕ → List Word → Result ℕ WorkRule
site_of backups (site ∷ []) =
    must BadLine (is_free site) >>= λ _.
    site_number site >>= λ i.
    must BadEvent (nat_le i backups) >>= λ _.
    Ok i
site_of backups _ = Err BadLine

abbrev pub delivery_of : ℕ → List Word → Result Act WorkRule
delivery_of backups (from ∷ to ∷ []) =
    must BadLine (is_free from && is_free to) >>= λ _.
    site_number from >>= λ i.
    site_number to >>= λ j.
    must BadEvent (nat_le i backups && nat_le j backups && not (i == j)) >>= λ _.
    Ok (Deliver i j)
delivery_of backups _ = Err BadLine

abbrev pub with_act : Draft → Act → Result Draft WorkRule
with_act draft act =
    must (TooMany Event) (nat_lt (length draft.acts) most_events) >>= λ _.
    Ok (record draft { acts = draft.acts ++ act ∷ [] })

abbrev pub end_of : Head → Draft → List Word → Result Draft WorkRule
end_of head draft [] = Ok (record draft { stage = Ended head })
end_of head draft _ = Err BadLine

-- a line after the first, by its key and the words after it
abbrev pub event_rules : Key → Head → Draft → List Word → Result Draft WorkRule
event_rules keys.Step head draft words = site_of head.backups words >>= λ i. with_act draft (Step i)
event_rules keys.Deliver head draft words =
    delivery_of head.backups words >>= λ act. with_act draft act
event_rules keys.Stop head draft words = site_of head.backups words >>= λ i. with_act draft (Stop i)
event_rules keys.End head draft words = end_of head draft words
event_rules keys.Control head draft words = Err BadLine

abbrev pub head_rules : Key → Draft → List Word → Result Draft WorkRule
head_rules keys.Control draft words =
    head_of words >>= λ head. Ok (record draft { stage = Events head })
head_rules _ draft words = Err BadLine

abbrev pub key_rules : Stage → Key → Draft → List Word → Result Draft WorkRule
key_rules First key draft words = head_rules key draft words
key_rules (Events head) key draft words = event_rules key head draft words
key_rules (Ended head) key draft words = Err BadLine

abbrev pub words_rules : Draft → List Word → Result Draft WorkRule
words_rules draft [] = Err BadLine
words_rules draft (first ∷ words) =
    require BadLine (key_of first) >>= λ key. key_rules draft.stage key draft words

-- a text that is too long makes the line bad
abbrev pub sound_rules : Draft → List Word → Result Draft WorkRule
sound_rules draft words = must BadLine (list_all is_sound words) >>= λ _. words_rules draft words

-- a line: UTF-8, then words, of which the texts are not too long, then the rules of its key
unfoldable pub line_rules : Draft → List ℕ → Result Draft WorkRule
line_rules draft line =
    must NotUtf8 (is_utf8 line) >>= λ _.
    require BadLine (words_of line) >>= λ words.
    sound_rules draft words
