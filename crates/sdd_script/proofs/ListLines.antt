-- How the lines of a class list add themselves to the lines before.
use Rattle.sdd_script.proofs.All.{Catalogue, ClassPart, Event, List, None, OpenClass, OpenList, Option, Place, ReadPart, RelNo, Some, Stmt, TmNo, Txn, Value, Word, [], append-nil, append_assoc, arith, class_lines, class_so_far, class_words, classes_in, done_words, eqb-true, flat_map, flat_map-append, length, list_words, map, map-append, no_classes, reads_words, refl, takes_lists, takes_reads_in as takes_reads, takes_writes_in as takes_writes, true, with_class, with_read, with_write, writes_words, ℕ, ◌++◌, ◌==◌, ◌∷◌, ◌≡◌}
use Rattle.sdd_script.proofs.SoFar.{lines_at, InOrder}
use Rattle.sdd_script.specs.declared.place.Place.TheVariants as places

-- ---- a list begins

begins_in : (cat : Catalogue) (rows : List (RelNo × List Value)) (txns : List Txn)
    (lists : List (List ClassPart)) (statements : List Stmt) (events : List Event) → events ≡ []
    → lines_at cat rows txns lists (places.Listing no_classes) statements events ≡ lines_at cat rows txns
    lists places.Declared statements events ++ list_words ∷ []
begins_in cat rows txns lists statements events q = rw q (simp append-nil)

pub list_more : (cat : Catalogue) (rows : List (RelNo × List Value)) (txns : List Txn)
    (lists : List (List ClassPart)) (place : Place) (statements : List Stmt) (events : List Event)
    → takes_lists place ≡ true → InOrder place txns lists statements events
    → lines_at cat rows txns lists (places.Listing no_classes) statements events ≡ lines_at cat rows txns lists place statements events ++ list_words ∷ []
list_more cat rows txns lists places.Rows statements events t o = begins_in cat rows txns lists statements events o.3
list_more cat rows txns lists places.Between statements events t o = begins_in cat rows txns lists statements events o.2
list_more cat rows txns lists places.Declared statements events t o = begins_in cat rows txns lists statements events o.1
list_more cat rows txns lists _ statements events t o = absurd cc

-- ---- a line inside a list

-- the lines of classes, with one more
abbrev pub AddsLine : OpenList → OpenList → List Word → Type 0
AddsLine l new w = flat_map class_lines (classes_in new) ≡ flat_map class_lines (classes_in l) ++ w ∷ []

pub listing_more : (cat : Catalogue) (rows : List (RelNo × List Value)) (txns : List Txn)
    (lists : List (List ClassPart)) (l new : OpenList) (w : List Word) (statements : List Stmt)
    (events : List Event) → AddsLine l new w → events ≡ []
    → lines_at cat rows txns lists (places.Listing new) statements events ≡ lines_at cat rows txns lists (places.Listing l) statements events ++ w ∷ []
listing_more cat rows txns lists l new w statements events a q = rw (q, a) (simp (append-nil, append_assoc))

pub class_more : (l : OpenList) (name : List ℕ) (tm : TmNo) → AddsLine l (with_class l name tm)
    (class_words (class_so_far (record { name = name; tm = tm; reads = []; writes = [] })))
class_more l name tm = flat_map-append class_lines (classes_in l) (class_so_far (record { name = name; tm = tm; reads = []; writes = [] }) ∷ [])

none_written : (writes : List (List ℕ)) → (length writes == 0) ≡ true → writes ≡ []
none_written [] e = refl
none_written (w ∷ writes) e = let n : length (w ∷ writes) ≡ 0 = eqb-true (length (w ∷ writes)) 0 e in absurd (omega (arith, n))

read_lines : (h : List Word) (reads : List ReadPart) (r : ReadPart) (writes : List (List ℕ)) → writes ≡ []
    → h ∷ (map reads_words (reads ++ r ∷ []) ++ map writes_words writes) ≡ (h ∷ (map reads_words reads ++ map writes_words writes)) ++ reads_words r ∷ []
read_lines h reads r writes none = grind (arith, append-nil, map-append)

last_read : (cs : List ClassPart) (last : Option OpenClass) (r : ReadPart)
    → takes_reads (record { classes = cs; last = last }) ≡ true → AddsLine (record {
      classes = cs;
      last = last;
    }) (with_read (record { classes = cs; last = last }) r) (reads_words r)
last_read cs None r t = absurd cc
last_read cs (Some c) r t =
    (simp (flat_map-append, (read_lines (class_words (class_so_far c)) c.reads r c.writes (none_written c.writes t)), append-nil, append_assoc))

pub read_more : (l : OpenList) (r : ReadPart) → takes_reads l ≡ true → AddsLine l (with_read l r) (reads_words r)
read_more l r t = last_read l.classes l.last r t

write_lines : (h : List Word) (rs : List (List Word)) (writes : List (List ℕ)) (f : List ℕ)
    → h ∷ (rs ++ map writes_words (writes ++ f ∷ [])) ≡ (h ∷
    (rs ++ map writes_words writes)) ++ writes_words f ∷ []
write_lines h rs writes f = simp (map-append, append_assoc)

last_write : (cs : List ClassPart) (last : Option OpenClass) (f : List ℕ)
    → takes_writes (record { classes = cs; last = last }) ≡ true → AddsLine (record {
      classes = cs;
      last = last;
    }) (with_write (record { classes = cs; last = last }) f) (writes_words f)
last_write cs None f t = absurd cc
last_write cs (Some c) f t =
    (simp (flat_map-append, (write_lines (class_words (class_so_far c)) (map reads_words c.reads) c.writes f), append-nil, append_assoc))

pub write_more : (l : OpenList) (f : List ℕ) → takes_writes l ≡ true → AddsLine l (with_write l f) (writes_words f)
write_more l f t = last_write l.classes l.last f t

-- ---- a list ends

pub listed_more : (cat : Catalogue) (rows : List (RelNo × List Value)) (txns : List Txn)
    (lists : List (List ClassPart)) (l : OpenList) (statements : List Stmt) (events : List Event)
    → events ≡ [] → lines_at cat rows txns (lists ++ classes_in l ∷ []) places.Declared statements events ≡ lines_at cat
    rows txns lists (places.Listing l) statements events ++ done_words ∷ []
listed_more cat rows txns lists l statements events q = rw q (simp (flat_map-append, append-nil, append_assoc))
