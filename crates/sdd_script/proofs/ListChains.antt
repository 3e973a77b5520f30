-- The spelling of class lists that the catalogue allows is read as these lists.
use Rattle.sdd_script.proofs.All.{AllByRecursion, AreValidLists, Catalogue, ClassPart, D, DmNo, IsFragment, IsValidClass, IsValidRead, List, MAX_CLASSES, MAX_LISTS, MAX_READS, OpenList, Place, Plain, ReadPart, Some, State, T, TmNo, [], all_front, ap, append-nil, append_assoc, arith, both_are, bytes_eq, class_lines, class_names, class_words, classes_in, dm_no, done_words, false, flat_map, has_copy, has_name, is_ended, is_free, joined, length, length-append, line_bytes, list_lines, list_words, lt-ltb, map, map-append, no_classes, not, part_names, read_names, reads_words, recursion_from_All, refl, repeats, site_word, subst, sym, takes_lists, tm_no, true, writes_words, ℕ, ◌&&◌, ◌++◌, ◌+◌, ◌<◌, ◌∙◌, ◌∷◌, ◌≡◌, ◌≤◌}
use Rattle.sdd_script.proofs.WordLooks.{name_free}
use Rattle.sdd_script.proofs.UseLaws.{IsKnown}
use Rattle.sdd_script.proofs.EventLaws.{dm_again, tm_again, site_free}
use Rattle.sdd_script.proofs.FineLines.{keyword_fine, class_fine, reads_fine, writes_fine}
use Rattle.sdd_script.proofs.Declaring.{names_parted}
use Rattle.sdd_script.proofs.Fragments.{fragment_again, kept_at}
use Rattle.sdd_script.proofs.NamePlaces.{any_none, apart_before}
use Rattle.sdd_script.proofs.SpellingLaws.{IsStep, Chain, chain-append, line_step}
use Rattle.sdd_script.specs.declared.fault.Counts.TheVariants as counts
use Rattle.sdd_script.specs.declared.keyword.ClassKey.TheVariants as class_keys
use Rattle.sdd_script.specs.declared.keyword.Keyword.TheVariants as keys
use Rattle.sdd_script.specs.declared.place.Place.TheVariants as places

-- a state, with its place, its lists and its count of classes
abbrev pub at : State → Place → List (List ClassPart) → ℕ → State
at st p lists n = record st { place = p; lists = lists; classes = n }

-- inside a list, after a class of which so much was said
abbrev behind : List ClassPart → ClassPart → List ReadPart → List (List ℕ) → OpenList
behind cs c reads writes = record { classes = cs; last = Some (record { name = c.name; tm = tm_no c.tm; reads = reads; writes = writes }) }

-- a name that no name before it is
apart : (ns : List (List ℕ)) (name : List ℕ) (rest : List (List ℕ)) → repeats (ns ++ name ∷ rest) ≡ false → has_name ns name ≡ false
apart ns name rest once = any_none (bytes_eq name) ns (apart_before ns name rest once)

-- ---- reads

read_names-append : (reads rs : List ReadPart) → read_names (reads ++ rs) ≡ read_names reads ++ read_names rs
read_names-append reads rs = map-append (λ (r : ReadPart). r.fragment) reads rs

reads_step : (cat : Catalogue) → IsKnown cat → (st : State) (done : List (List ClassPart)) (n : ℕ)
    (cs : List ClassPart) (c : ClassPart) (reads : List ReadPart) (r : ReadPart) → IsValidRead cat r
    → has_name (read_names reads) r.fragment ≡ false → length reads < MAX_READS
    → IsStep cat (at st (places.Listing (behind cs c reads [])) done n)
    (at st (places.Listing (behind cs c (reads ++ r ∷ []) [])) done n) (line_bytes (reads_words r))
reads_step cat k st done n cs c reads r h other room =
    let f = fragment_again cat r.fragment h.fragment in
    let dm : DmNo = dm_no r.at in
    let a : (is_free (Plain r.fragment) && is_free (site_word (D dm))) ≡ true = both_are _ _ (name_free r.fragment h.fragment.0) (site_free (D dm)) in
    let copy : has_copy cat r.at f.number ≡ true = sym (kept_at cat r.at r.fragment f.number f.named) ∙ h.copy in
    let may : (not (has_name (read_names reads) r.fragment) && has_copy cat r.at f.number) ≡ true = both_are _ _ (ap not other) copy in
    line_step cat _ _ (keys.Class class_keys.Reads) (Plain r.fragment ∷ site_word (D dm) ∷ []) refl (reads_fine cat k r h)
    (rw (a, f.read, dm_again cat k dm h.module_is_there, may, lt-ltb (length reads) MAX_READS room) refl)

reads_chain : (cat : Catalogue) → IsKnown cat → (st : State) (done : List (List ClassPart)) (n : ℕ)
    (cs : List ClassPart) (c : ClassPart) (rs reads : List ReadPart) → AllByRecursion (IsValidRead cat) rs
    → repeats (read_names (reads ++ rs)) ≡ false → length reads + length rs ≤ MAX_READS
    → Chain cat (at st (places.Listing (behind cs c reads [])) done n) (map line_bytes (map reads_words rs))
    (at st (places.Listing (behind cs c (reads ++ rs) [])) done n)
reads_chain cat k st done n cs c [] reads h once few = rw append-nil refl
reads_chain cat k st done n cs c (r ∷ rs) reads h once few =
    let joins = append_assoc reads (r ∷ []) rs in
    let other = apart (read_names reads) r.fragment (read_names rs) (rw (read_names-append reads (r ∷ rs)) at once) in (
      _,
      reads_step cat k st done n cs c reads r h.0 other (omega (arith, few)),
      rw joins at (reads_chain cat k st done n cs c rs (reads ++ r ∷ []) h.1 (rw joins once) (omega (arith, few, length-append reads (r ∷ [])))),
    )

-- ---- writes

writes_step : (cat : Catalogue) (st : State) (done : List (List ClassPart)) (n : ℕ) (cs : List ClassPart)
    (c : ClassPart) (reads : List ReadPart) (writes : List (List ℕ)) (w : List ℕ) → IsFragment cat w
    → has_name writes w ≡ false → IsStep cat (at st (places.Listing (behind cs c reads writes)) done n)
    (at st (places.Listing (behind cs c reads (writes ++ w ∷ []))) done n) (line_bytes (writes_words w))
writes_step cat st done n cs c reads writes w h other =
    line_step cat _ _ (keys.Class class_keys.Writes) (Plain w ∷ []) refl (writes_fine cat w h) (rw (name_free w h.0, (fragment_again cat w h).read, other) refl)

writes_chain : (cat : Catalogue) (st : State) (done : List (List ClassPart)) (n : ℕ) (cs : List ClassPart)
    (c : ClassPart) (reads : List ReadPart) (ws writes : List (List ℕ)) → AllByRecursion (IsFragment cat) ws
    → repeats (writes ++ ws) ≡ false → Chain cat (at st (places.Listing (behind cs c reads writes)) done n)
    (map line_bytes (map writes_words ws)) (at st (places.Listing (behind cs c reads (writes ++ ws))) done
    n)
writes_chain cat st done n cs c reads [] writes h once = rw append-nil refl
writes_chain cat st done n cs c reads (w ∷ ws) writes h once =
    let joins : (writes ++ w ∷ []) ++ ws ≡ writes ++ w ∷ ws = append_assoc writes (w ∷ []) ws in
    let more = writes_chain cat st done n cs c reads ws (writes ++ w ∷ []) h.1 (subst (λ (l : List (List ℕ)). repeats l ≡ false) (sym joins) once) in
    (_, writes_step cat st done n cs c reads writes w h.0 (apart writes w ws once), rw joins at more)

-- ---- a class

class_step : (cat : Catalogue) → IsKnown cat → (st : State) (done : List (List ClassPart)) (n : ℕ)
    (l : OpenList) (c : ClassPart) → IsValidClass cat c
    → has_name (class_names cat ++ part_names (joined done ++ classes_in l)) c.name ≡ false → n < MAX_CLASSES
    → IsStep cat (at st (places.Listing l) done n) (at st (places.Listing (behind (classes_in l) c [] [])) done (n + 1)) (line_bytes (class_words c))
class_step cat k st done n l c h other room =
    let tm : TmNo = tm_no c.tm in
    let a : (is_free (Plain c.name) && is_free (site_word (T tm))) ≡ true = both_are _ _ (name_free c.name h.named) (site_free (T tm)) in
    let named = h.named in
    line_step cat _ _ (keys.Class class_keys.Class) (Plain c.name ∷ site_word (T tm) ∷ []) refl (class_fine cat k c named h.module_is_there)
    (rw (a, named, tm_again cat k tm h.module_is_there, other, lt-ltb n MAX_CLASSES room) refl)

class_chain : (cat : Catalogue) → IsKnown cat → (st : State) (done : List (List ClassPart)) (n : ℕ)
    (l : OpenList) (c : ClassPart) → IsValidClass cat c
    → has_name (class_names cat ++ part_names (joined done ++ classes_in l)) c.name ≡ false → n < MAX_CLASSES
    → Chain cat (at st (places.Listing l) done n) (map line_bytes (class_lines c))
    (at st (places.Listing (behind (classes_in l) c c.reads c.writes)) done (n + 1))
class_chain cat k st done n l c h other room =
    let cs : List ClassPart = classes_in l in
    let opened : State = at st (places.Listing (behind cs c [] [])) done (n + 1) in
    let read : State = at st (places.Listing (behind cs c c.reads [])) done (n + 1) in
    let written : State = at st (places.Listing (behind cs c c.reads c.writes)) done (n + 1) in
    let rs : List (List ℕ) = map line_bytes (map reads_words c.reads) in
    let ws : List (List ℕ) = map line_bytes (map writes_words c.writes) in
    let reads = reads_chain cat k st done (n + 1) cs c c.reads []
    (recursion_from_All (IsValidRead cat) c.reads h.reads) h.reads_once (omega (arith, h.few_reads)) in
    let writes = writes_chain cat st done (n + 1) cs c c.reads c.writes [] (recursion_from_All (IsFragment cat) c.writes h.writes) h.writes_once in
    let both : Chain cat opened (rs ++ ws) written = chain-append cat opened read written rs ws reads writes in (
      opened,
      class_step cat k st done n l c h other room,
      subst (λ (x : List (List ℕ)). Chain cat opened x written) (sym (map-append line_bytes (map reads_words c.reads) (map writes_words c.writes))) both,
    )

-- ---- the classes of a list

record AreClasses (cat : Catalogue) (st : State) (done : List (List ClassPart)) (n : ℕ) (l : OpenList) (cs : List ClassPart) : Type 0 where
  last : OpenList
  whole : classes_in last ≡ classes_in l ++ cs
  chain : Chain cat (at st (places.Listing l) done n) (map line_bytes (flat_map class_lines cs)) (at st (places.Listing last) done (n + length cs))

abbrev Differ : Catalogue → List ClassPart → Type 0
Differ cat classes = repeats (class_names cat ++ part_names classes) ≡ false

new_name : (cat : Catalogue) (front : List ClassPart) (c : ClassPart) (cs : List ClassPart)
    → Differ cat (front ++ c ∷ cs) → has_name (class_names cat ++ part_names front) c.name ≡ false
new_name cat front c cs once = grind (arith, apart, names_parted)

-- rest: the classes of later lists
classes_chain : (cat : Catalogue) → IsKnown cat → (st : State) (done : List (List ClassPart))
    (rest cs : List ClassPart) (n : ℕ) (l : OpenList) → AllByRecursion (IsValidClass cat) cs
    → Differ cat ((joined done ++ classes_in l) ++ (cs ++ rest)) → n + length cs ≤ MAX_CLASSES
    → AreClasses cat st done n l cs
classes_chain cat k st done rest [] n l h once few = grind (arith, append-nil)
classes_chain cat k st done rest (c ∷ cs) n l h once few =
    let front : List ClassPart = joined done ++ classes_in l in
    let new : OpenList = behind (classes_in l) c c.reads c.writes in
    let room : n < MAX_CLASSES = omega (arith, few) in
    let one = class_chain cat k st done n l c h.0 (new_name cat front c (cs ++ rest) once) room in
    let joins : front ++ (c ∷ (cs ++ rest)) ≡ (joined done ++ classes_in new) ++ (cs ++ rest) =
    sym (append_assoc front (c ∷ []) (cs ++ rest)) ∙ ap (λ (x : List ClassPart). x ++ (cs ++ rest))
    (append_assoc (joined done) (classes_in l) (c ∷ [])) in
    let more = classes_chain cat k st done rest cs (n + 1) new h.1 (subst (Differ cat) joins once) (omega (arith, few)) in
    let from : State = at st (places.Listing l) done n in
    let mid : State = at st (places.Listing new) done (n + 1) in
    let to : State = at st (places.Listing more.last) done (n + length (c ∷ cs)) in
    let same : at st (places.Listing more.last) done (n + 1 + length cs) ≡ to =
    (ap (at st (places.Listing more.last) done) (omega arith)) in
    let others : Chain cat mid (map line_bytes (flat_map class_lines cs)) to =
    subst (λ (x : State). Chain cat mid (map line_bytes (flat_map class_lines cs)) x) same more.chain in
    let both : Chain cat from (map line_bytes (class_lines c) ++ map line_bytes (flat_map class_lines cs))
    to = chain-append cat from mid to (map line_bytes (class_lines c))
    (map line_bytes (flat_map class_lines cs)) one others in
    record {
      last = more.last;
      whole = more.whole ∙ append_assoc (classes_in l) (c ∷ []) cs;
      chain = subst (λ (x : List (List ℕ)). Chain cat from x to) (sym (map-append line_bytes (class_lines c) (flat_map class_lines cs))) both;
    }

-- ---- lists

open_still : (p : Place) → takes_lists p ≡ true → is_ended p ≡ false
open_still p t = grind arith

list_step : (cat : Catalogue) (st : State) (p : Place) (done : List (List ClassPart)) (n : ℕ)
    → takes_lists p ≡ true → length done < MAX_LISTS → IsStep cat (at st p done n)
    (at st (places.Listing no_classes) done n) (line_bytes list_words)
list_step cat st p done n t room =
    line_step cat _ _ (keys.Class class_keys.List) [] (open_still p t) (keyword_fine (keys.Class class_keys.List), tt)
    (rw (t, lt-ltb (length done) MAX_LISTS room) refl)

listed_step : (cat : Catalogue) (st : State) (l : OpenList) (done : List (List ClassPart)) (n : ℕ)
    → IsStep cat (at st (places.Listing l) done n) (at st places.Declared (done ++ classes_in l ∷ []) n)
    (line_bytes done_words)
listed_step cat st l done n = line_step cat _ _ keys.Done [] refl (keyword_fine keys.Done, tt) refl

list_chain : (cat : Catalogue) → IsKnown cat → (st : State) (p : Place) (done : List (List ClassPart))
    (rest cs : List ClassPart) (n : ℕ) → takes_lists p ≡ true → length done < MAX_LISTS
    → AllByRecursion (IsValidClass cat) cs → Differ cat (joined done ++ (cs ++ rest)) → n + length cs ≤ MAX_CLASSES
    → Chain cat (at st p done n) (map line_bytes (list_lines cs)) (at st places.Declared (done ++ cs ∷ []) (n + length cs))
list_chain cat k st p done rest cs n t room h once few =
    let begun : State = at st (places.Listing no_classes) done n in
    let body = classes_chain cat k st done rest cs n no_classes h
    (subst (λ (x : List ClassPart). Differ cat (x ++ (cs ++ rest))) (sym (append-nil (joined done))) once)
    few in
    let mid : State = at st (places.Listing body.last) done (n + length cs) in
    let to : State = at st places.Declared (done ++ cs ∷ []) (n + length cs) in
    let step : IsStep cat mid to (line_bytes done_words) =
    subst (λ (x : List ClassPart). IsStep cat mid (at st places.Declared (done ++ x ∷ []) (n + length cs))
    (line_bytes done_words)) body.whole (listed_step cat st body.last done (n + length cs)) in
    let last : Chain cat mid (line_bytes done_words ∷ []) to = (to, step, refl) in
    let both : Chain cat begun (map line_bytes (flat_map class_lines cs) ++ line_bytes done_words ∷ []) to =
    chain-append cat begun mid to (map line_bytes (flat_map class_lines cs)) (line_bytes done_words ∷ [])
    body.chain last in (
      begun,
      list_step cat st p done n t room,
      subst (λ (x : List (List ℕ)). Chain cat begun x to) (sym (map-append line_bytes (flat_map class_lines cs) (done_words ∷ []))) both,
    )

pub record AreListed (cat : Catalogue) (st : State) (from : State) (lines : List (List ℕ)) (lists : List (List ClassPart)) : Type 0 where
  pub place : Place
  pub classes : ℕ
  pub goes_on : takes_lists place ≡ true
  pub chain : Chain cat from lines (at st place lists classes)

pub joined_on : (done : List (List ClassPart)) (cs : List ClassPart) → joined (done ++ cs ∷ []) ≡ joined done ++ cs
joined_on [] cs = append-nil cs
joined_on (d ∷ done) cs = ap (λ (l : List ClassPart). d ++ l) (joined_on done cs) ∙ sym (append_assoc d (joined done) cs)

lists_chain : (cat : Catalogue) → IsKnown cat → (st : State) (ls : List (List ClassPart)) (p : Place)
    (done : List (List ClassPart)) (n : ℕ) → takes_lists p ≡ true → AllByRecursion (IsValidClass cat)
    (joined ls) → Differ cat (joined done ++ joined ls) → length done + length ls ≤ MAX_LISTS
    → n + length (joined ls) ≤ MAX_CLASSES
    → AreListed cat st (at st p done n) (map line_bytes (flat_map list_lines ls)) (done ++ ls)
lists_chain cat k st [] p done n t h once few room = grind (arith, append-nil)
lists_chain cat k st (cs ∷ ls) p done n t h once few room =
    let valid = all_front (IsValidClass cat) cs (joined ls) h in
    let size : length (cs ++ joined ls) ≡ length cs + length (joined ls) = length-append cs (joined ls) in
    let len : length (done ++ cs ∷ []) ≡ length done + 1 = length-append done (cs ∷ []) in
    let one = list_chain cat k st p done (joined ls) cs n t (omega (arith, few)) valid.0 once (omega (arith, room, size)) in
    let joins : joined done ++ (cs ++ joined ls) ≡ joined (done ++ cs ∷ []) ++ joined ls =
    sym (append_assoc (joined done) cs (joined ls)) ∙ ap (λ (x : List ClassPart). x ++ joined ls)
    (sym (joined_on done cs)) in
    let more = lists_chain cat k st ls places.Declared (done ++ cs ∷ []) (n + length cs) refl valid.1
    (subst (Differ cat) joins once) (omega (arith, few, len)) (omega (arith, room, size)) in
    let from : State = at st p done n in
    let mid : State = at st places.Declared (done ++ cs ∷ []) (n + length cs) in
    let to : State = at st more.place (done ++ cs ∷ ls) more.classes in
    let others : Chain cat mid (map line_bytes (flat_map list_lines ls)) to =
    subst (λ (l : List (List ClassPart)). Chain cat mid (map line_bytes (flat_map list_lines ls))
    (at st more.place l more.classes)) (append_assoc done (cs ∷ []) ls) more.chain in
    let both : Chain cat from (map line_bytes (list_lines cs) ++ map line_bytes (flat_map list_lines ls))
    to = chain-append cat from mid to (map line_bytes (list_lines cs))
    (map line_bytes (flat_map list_lines ls)) one others in
    record {
      place = more.place;
      classes = more.classes;
      goes_on = more.goes_on;
      chain = subst (λ (x : List (List ℕ)). Chain cat from x to) (sym (map-append line_bytes (list_lines cs) (flat_map list_lines ls))) both;
    }

-- lists that the catalogue allows are read again
pub lists_read : (cat : Catalogue) → IsKnown cat → (st : State) (lists : List (List ClassPart)) → takes_lists st.place ≡ true
    → AreValidLists cat lists
    → AreListed cat st (at st st.place [] (length cat.classes)) (map line_bytes (flat_map list_lines lists)) lists
lists_read cat k st lists t v = lists_chain cat k st lists st.place [] (length cat.classes) t
    (recursion_from_All (IsValidClass cat) (joined lists) v.classes) v.names (omega (arith, v.few_lists))
    v.few_classes
