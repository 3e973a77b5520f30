-- The classes that lists declare, with one class more, or with one read or write more of the last one.
use Rattle.sdd_script.proofs.All.{All, All-from_recursion, AllByRecursion, Catalogue, ClassPart, IsFragment, IsFrom1To, IsName, IsValidClass, IsValidRead, List, MAX_CLASSES, MAX_READS, None, OpenClass, OpenList, Option, ReadPart, Some, TmNo, [], ap, append_assoc, arith, bytes_eq, class_names, class_so_far, classes_in, false, has_name, joined, length, map, map-append, part_names, read_names, reads_in, recursion_from_All, refl, repeats, subst, sym, with_class, with_read, with_write, writes_in, ℕ, ◌++◌, ◌+◌, ◌<◌, ◌∙◌, ◌∷◌, ◌≡◌}
use Rattle.sdd_script.proofs.NamePlaces.{none_any, repeats_not}
use Rattle.sdd_script.proofs.SoundStates.{Declares, all_more, one_longer}

-- ---- a class more

abbrev new_class : List ℕ → TmNo → ClassPart
new_class name tm = class_so_far (record { name = name; tm = tm; reads = []; writes = [] })

class_valid : (cat : Catalogue) (name : List ℕ) (tm : TmNo) → IsName name → IsFrom1To cat.tms tm.0 → IsValidClass cat (new_class name tm)
class_valid cat name tm named there = grind arith

pub names_parted : (cat : Catalogue) (front : List ClassPart) (c : ClassPart) (cs : List ClassPart)
    → class_names cat ++ part_names (front ++ c ∷ cs) ≡ (class_names cat ++ part_names front) ++ c.name ∷ part_names cs
names_parted cat front c cs = simp (map-append, append_assoc)

declares_more : (cat : Catalogue) (classes : List ClassPart) (c : ClassPart) (n : ℕ)
    → Declares cat classes n → IsValidClass cat c
    → has_name (class_names cat ++ part_names classes) c.name ≡ false → n < MAX_CLASSES
    → Declares cat (classes ++ c ∷ []) (n + 1)
declares_more cat classes c n d valid other room = record {
  valid = all_more (IsValidClass cat) classes c d.valid valid;
  names = subst (λ (l : List (List ℕ)). repeats l ≡ false) (sym (names_parted cat classes c []))
      (repeats_not (class_names cat ++ part_names classes) c.name d.names
      (none_any (bytes_eq c.name) (class_names cat ++ part_names classes) other));
  counted = omega (arith, d.counted, one_longer classes c);
  few = omega (arith, room);
}

pub class_declared : (cat : Catalogue) (lists : List (List ClassPart)) (l : OpenList) (n : ℕ)
    (name : List ℕ) (tm : TmNo) → Declares cat (joined lists ++ classes_in l) n → IsName name
    → IsFrom1To cat.tms tm.0
    → has_name (class_names cat ++ part_names (joined lists ++ classes_in l)) name ≡ false → n < MAX_CLASSES
    → Declares cat (joined lists ++ classes_in (with_class l name tm)) (n + 1)
class_declared cat lists l n name tm d named there other room =
    let c : ClassPart = new_class name tm in
    subst (λ (cs : List ClassPart). Declares cat cs (n + 1)) (append_assoc (joined lists) (classes_in l)
    (c ∷ [])) (declares_more cat (joined lists ++ classes_in l) c n d
    (class_valid cat name tm named there) other room)

-- ---- the last class changes

last_of : {A : Type 0} (P : A → Type 0) (xs : List A) (x : A) → AllByRecursion P (xs ++ x ∷ []) → AllByRecursion P xs × P x
last_of P [] x h = (tt, h.0)
last_of P (y ∷ xs) x h = let r = last_of P xs x h.1 in ((h.0, r.0), r.1)

all_changed : {A : Type 0} (P : A → Type 0) (xs : List A) (x y : A) → All P (xs ++ x ∷ []) → (P x → P y) → All P (xs ++ y ∷ [])
all_changed P xs x y h f = let r = last_of P xs x (recursion_from_All P (xs ++ x ∷ []) h) in all_more P xs y (All-from_recursion P xs r.0) (f r.1)

declares_changed : (cat : Catalogue) (classes : List ClassPart) (c d : ClassPart) (n : ℕ)
    → Declares cat (classes ++ c ∷ []) n → c.name ≡ d.name → (IsValidClass cat c → IsValidClass cat d)
    → Declares cat (classes ++ d ∷ []) n
declares_changed cat classes c d n h same f = record {
  valid = all_changed (IsValidClass cat) classes c d h.valid f;
  names = subst (λ (l : List (List ℕ)). repeats l ≡ false) (names_parted cat classes c []
      ∙ ap (λ (name : List ℕ). (class_names cat ++ part_names classes) ++ name ∷ []) same
      ∙ sym (names_parted cat classes d [])) h.names;
  counted = omega (arith, h.counted, one_longer classes c, one_longer classes d);
  few = h.few;
}

last_changed : (cat : Catalogue) (front cs : List ClassPart) (c d : ClassPart) (n : ℕ)
    → Declares cat (front ++ (cs ++ c ∷ [])) n → c.name ≡ d.name → (IsValidClass cat c → IsValidClass cat d)
    → Declares cat (front ++ (cs ++ d ∷ [])) n
last_changed cat front cs c d n h same f =
    subst (λ (l : List ClassPart). Declares cat l n) (append_assoc front cs (d ∷ []))
    (declares_changed cat (front ++ cs) c d n (subst (λ (l : List ClassPart). Declares cat l n)
    (sym (append_assoc front cs (c ∷ []))) h) same f)

names_more : {A : Type 0} (f : A → List ℕ) (xs : List A) (x : A) → repeats (map f xs) ≡ false
    → has_name (map f xs) (f x) ≡ false → repeats (map f (xs ++ x ∷ [])) ≡ false
names_more f xs x once other = grind (arith, map-append, repeats_not, none_any, bytes_eq)

read_valid : (cat : Catalogue) (c : ClassPart) (r : ReadPart) → IsValidRead cat r
    → has_name (read_names c.reads) r.fragment ≡ false → length c.reads < MAX_READS → IsValidClass cat c
    → IsValidClass cat (record c { reads = c.reads ++ r ∷ [] })
read_valid cat c r valid other room h = record {
  named = h.named;
  module_is_there = h.module_is_there;
  reads = all_more (IsValidRead cat) c.reads r h.reads valid;
  reads_once = names_more (λ (x : ReadPart). x.fragment) c.reads r h.reads_once other;
  few_reads = omega (arith, room, one_longer c.reads r);
  writes = h.writes;
  writes_once = h.writes_once;
}

last_read : (cat : Catalogue) (front cs : List ClassPart) (last : Option OpenClass) (n : ℕ) (r : ReadPart)
    → Declares cat (front ++ classes_in (record { classes = cs; last = last })) n → IsValidRead cat r
    → has_name (read_names (reads_in (record { classes = cs; last = last }))) r.fragment ≡ false
    → length (reads_in (record { classes = cs; last = last })) < MAX_READS
    → Declares cat (front ++ classes_in (with_read (record { classes = cs; last = last }) r)) n
last_read cat front cs None n r d valid other room = d
last_read cat front cs (Some c) n r d valid other room =
    last_changed cat front cs (class_so_far c) (class_so_far (record c { reads = c.reads ++ r ∷ [] })) n d
    refl (read_valid cat (class_so_far c) r valid other room)

pub read_declared : (cat : Catalogue) (front : List ClassPart) (l : OpenList) (n : ℕ) (r : ReadPart)
    → Declares cat (front ++ classes_in l) n → IsValidRead cat r
    → has_name (read_names (reads_in l)) r.fragment ≡ false → length (reads_in l) < MAX_READS
    → Declares cat (front ++ classes_in (with_read l r)) n
read_declared cat front l n r d valid other room = last_read cat front l.classes l.last n r d valid other room

write_valid : (cat : Catalogue) (c : ClassPart) (f : List ℕ) → IsFragment cat f
    → has_name c.writes f ≡ false → IsValidClass cat c → IsValidClass cat (record c { writes = c.writes ++ f ∷ [] })
write_valid cat c f valid other h = record {
  named = h.named;
  module_is_there = h.module_is_there;
  reads = h.reads;
  reads_once = h.reads_once;
  few_reads = h.few_reads;
  writes = all_more (IsFragment cat) c.writes f h.writes valid;
  writes_once = repeats_not c.writes f h.writes_once (none_any (bytes_eq f) c.writes other);
}

last_write : (cat : Catalogue) (front cs : List ClassPart) (last : Option OpenClass) (n : ℕ) (f : List ℕ)
    → Declares cat (front ++ classes_in (record { classes = cs; last = last })) n → IsFragment cat f
    → has_name (writes_in (record { classes = cs; last = last })) f ≡ false
    → Declares cat (front ++ classes_in (with_write (record { classes = cs; last = last }) f)) n
last_write cat front cs None n f d valid other = d
last_write cat front cs (Some c) n f d valid other =
    last_changed cat front cs (class_so_far c) (class_so_far (record c { writes = c.writes ++ f ∷ [] })) n d
    refl (write_valid cat (class_so_far c) f valid other)

pub write_declared : (cat : Catalogue) (front : List ClassPart) (l : OpenList) (n : ℕ) (f : List ℕ)
    → Declares cat (front ++ classes_in l) n → IsFragment cat f → has_name (writes_in l) f ≡ false
    → Declares cat (front ++ classes_in (with_write l f)) n
write_declared cat front l n f d valid other = last_write cat front l.classes l.last n f d valid other

-- ---- the list ends
