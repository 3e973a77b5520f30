-- The rules of the lines of class lists. The line `done` that ends a list has its rules with that which ends a transaction.
use Rattle.std.specs.Prelude.{ℕ, ◌+◌, nat_lt, ◌&&◌, not, Bool, if◌then◌else◌, Option, Some, None, List, [], ◌∷◌, ◌++◌, map, flat_map, length, Result, Ok, Err}
use Rattle.sdd_lang.specs.All.{Catalogue, ClassPart, DmNo, MAX_CLASSES, MAX_READS, ReadPart, TmNo, has_copy, has_name, must, require, ◌>>=◌}
use Rattle.sdd_words.specs.Keywords.{is_free}
use Rattle.sdd_words.specs.Names.{name_in}
use Rattle.sdd_words.specs.Words.{Word, Plain, Quoted}
use Rattle.sdd_script.specs.Naming.{name_of, class_names, fragment_named}
use Rattle.sdd_script.specs.Occurrences.{dm_of, tm_of}
use Rattle.sdd_script.specs.OpenLists.{classes_in, no_classes, with_class, with_read, with_write}
use Rattle.sdd_script.specs.Places.{takes_lists, takes_classes, takes_reads, takes_writes, open_list, reads_at, writes_at}
use Rattle.sdd_script.specs.declared.fault.Counts.TheVariants as counts
use Rattle.sdd_script.specs.declared.fault.WorkRule.{WorkRule}
use Rattle.sdd_script.specs.declared.fault.WorkRule.TheVariants.{BadLine, BadClass, UnknownName, TooMany}
use Rattle.sdd_script.specs.declared.keyword.ClassKey.{ClassKey}
use Rattle.sdd_script.specs.declared.keyword.ClassKey.TheVariants as keys
use Rattle.sdd_script.specs.declared.limits.TheConstants.{MAX_LISTS}
use Rattle.sdd_script.specs.declared.place.Place.TheVariants as places
use Rattle.sdd_script.specs.declared.state.State.{State}

-- a list begins

abbrev pub list_rules : State → List Word → Result State WorkRule
list_rules st [] = do
  _ ← must BadLine (takes_lists st.place)
  _ ← must (TooMany counts.List) (nat_lt (length st.lists) MAX_LISTS)
  Ok (record st { place = places.Listing no_classes })
list_rules st _ = Err BadLine

-- a class begins

-- all classes of lists, one list after the other
abbrev pub joined : List (List ClassPart) → List ClassPart
joined lists = flat_map (λ classes. classes) lists

-- the classes of the lists so far
abbrev pub all_classes : State → List ClassPart
all_classes st = joined st.lists ++ classes_in (open_list st.place)

abbrev pub part_names : List ClassPart → List (List ℕ)
part_names classes = map (λ (c : ClassPart). c.name) classes

-- whether a class of the catalogue, or one of the lists so far, has the name
abbrev pub is_taken : Catalogue → State → List ℕ → Bool
is_taken cat st name = has_name (class_names cat ++ part_names (all_classes st)) name

-- how many classes there are with one more, if there is room for it
abbrev pub one_more_class : ℕ → Option ℕ
one_more_class classes = if nat_lt classes MAX_CLASSES then Some (classes + 1) else None

abbrev pub with_class_of : Catalogue → State → List ℕ → TmNo → Result State WorkRule
with_class_of cat st name tm = do
  _ ← must BadClass (not (is_taken cat st name))
  classes ← require (TooMany counts.Class) (one_more_class st.classes)
  Ok (record st { place = places.Listing (with_class (open_list st.place) name tm); classes = classes })

abbrev pub class_rules : Catalogue → State → List Word → Result State WorkRule
class_rules cat st (word ∷ tm ∷ []) = do
  _ ← must BadLine (takes_classes st.place && (is_free word && is_free tm))
  name ← name_of word
  t ← tm_of cat tm
  with_class_of cat st name t
class_rules cat st _ = Err BadLine

-- what the class reads, and where

-- a fragment's name and its number
abbrev pub fragment_of : Catalogue → Word → Result (List ℕ × ℕ) WorkRule
fragment_of cat (Plain bytes) = do
  name ← require UnknownName (name_in bytes)
  frag ← require UnknownName (fragment_named cat name)
  Ok (name, frag)
fragment_of cat (Quoted text) = Err UnknownName

abbrev pub with_read_of : Catalogue → State → List ℕ × ℕ → DmNo → Result State WorkRule
with_read_of cat st fragment dm = do
  _ ← must BadClass (not (has_name (map (λ (r : ReadPart). r.fragment) (reads_at st.place)) fragment.0) && has_copy cat dm.0 fragment.1)
  _ ← must (TooMany counts.Read) (nat_lt (length (reads_at st.place)) MAX_READS)
  Ok (record st { place = places.Listing (with_read (open_list st.place) (record { fragment = fragment.0; at = dm.0 })) })

abbrev pub reads_rules : Catalogue → State → List Word → Result State WorkRule
reads_rules cat st (word ∷ dm ∷ []) = do
  _ ← must BadLine (takes_reads st.place && (is_free word && is_free dm))
  (f : List ℕ × ℕ) ← fragment_of cat word
  d ← dm_of cat dm
  with_read_of cat st f d
reads_rules cat st _ = Err BadLine

-- what the class writes

abbrev pub with_write_of : State → List ℕ → Result State WorkRule
with_write_of st name = do
  _ ← must BadClass (not (has_name (writes_at st.place) name))
  Ok (record st { place = places.Listing (with_write (open_list st.place) name) })

abbrev pub writes_rules : Catalogue → State → List Word → Result State WorkRule
writes_rules cat st (word ∷ []) = do
  _ ← must BadLine (takes_writes st.place && is_free word)
  (f : List ℕ × ℕ) ← fragment_of cat word
  with_write_of st f.0
writes_rules cat st _ = Err BadLine

-- a line of a list, by its keyword and the words after it
abbrev pub class_line_rules : ClassKey → Catalogue → State → List Word → Result State WorkRule
class_line_rules keys.List cat st words = list_rules st words
class_line_rules keys.Class cat st words = class_rules cat st words
class_line_rules keys.Reads cat st words = reads_rules cat st words
class_line_rules keys.Writes cat st words = writes_rules cat st words
