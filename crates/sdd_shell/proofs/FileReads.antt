-- What reading a file says of what is in it.
use Rattle.sdd_shell.proofs.All.{BlamesCatalogue, BlamesWorkload, Catalogue, ComesOfFiles, Err, Explains, HasReadOf, IfErr, IfSome, IsErrOf, IsRead, IsReadTo, IsSome, List, MAX_CATALOGUE_BYTES, MAX_WORKLOAD_BYTES, MatchResult, None, Ok, OnOk, Opened, Option, ReadsTo, Result, ShelfFile, ShelfState, Some, Status, ToItsEnd, ToItsLimit, TooLong, Usage, Workload, [], ap, arith, broken, cases_lt, catalogue_named, drop, find_file, inl, inr, length, lt-ltb, nat_lt, option_map, refl, subst, sym, take, top, true, workload, workload_named, ℕ, ◌+◌, ◌<◌, ◌∙◌, ◌≡◌, ◌≤◌}
use Rattle.sdd_catread.specs.Reading.{catalogue_in, parts_in}
use Rattle.sdd_script.specs.declared.fault.WorkRule.TheVariants as work_rules

-- more than 1 MiB are too long
pub too_long : (bytes : List ℕ) → MAX_CATALOGUE_BYTES < length bytes → catalogue_in bytes ≡ Err (broken top TooLong)
unfolding catalogue_in parts_in
too_long bytes long =
    let yes : nat_lt MAX_CATALOGUE_BYTES (length bytes) ≡ true = lt-ltb MAX_CATALOGUE_BYTES (length bytes) long in
    rw yes refl

-- an accepted file has at most 1 MiB
pub accepted_small : (bytes : List ℕ) (cat : Catalogue) → catalogue_in bytes ≡ Ok cat → length bytes ≤ MAX_CATALOGUE_BYTES
accepted_small bytes cat ok =
    elim (cases_lt MAX_CATALOGUE_BYTES (length bytes)) [
      | inl past ↦ let bad = too_long bytes past in absurd cc
      | inr within ↦ omega arith
    ]

-- what all files past a limit give alike, and what was read of one up to a byte past it

named_past : {A : Type 0} (limit : ℕ) (give : List ℕ → A) (alike : (a b : List ℕ) → limit < length a
    → limit < length b → give a ≡ give b) (file : Option (List ℕ)) (read : List ℕ)
    → IsSome file → IfSome file (λ bytes. (read ≡ take (limit + 1) bytes) × (limit < length bytes))
    → limit < length read → option_map give file ≡ Some (give read)
named_past limit give alike None read some p past = absurd cc
named_past limit give alike (Some bytes) read some p past = ap (λ r. Some r) (alike bytes read p.1 past)

-- what was read of a file gives what the file gives
pub read_gives : {A : Type 0} (limit : ℕ) (give : List ℕ → A) → ((a b : List ℕ) → limit < length a
    → limit < length b → give a ≡ give b) → (file : Option (List ℕ)) (read : List ℕ)
    → ReadsTo limit file read → option_map give file ≡ Some (give read)
read_gives limit give alike file read r =
    elim (cases_lt limit (length read)) [
      | inl past ↦ named_past limit give alike file read r.found (r.past past) past
      | inr within ↦ rw (r.whole (omega arith)) refl
    ]

-- catalogues past their limit are alike, and so are workloads
pub long_catalogues : (a b : List ℕ) → MAX_CATALOGUE_BYTES < length a → MAX_CATALOGUE_BYTES < length b → catalogue_in a ≡ catalogue_in b
long_catalogues a b la lb = too_long a la ∙ sym (too_long b lb)

long_workload : (cat : Catalogue) (bytes : List ℕ) → MAX_WORKLOAD_BYTES < length bytes
    → workload cat bytes ≡ Err (record { line = 0; rule = work_rules.TooLong })
long_workload cat bytes long = let yes : nat_lt MAX_WORKLOAD_BYTES (length bytes) ≡ true = lt-ltb MAX_WORKLOAD_BYTES (length bytes) long in rw yes refl

pub long_workloads : (cat : Catalogue) (a b : List ℕ) → MAX_WORKLOAD_BYTES < length a → MAX_WORKLOAD_BYTES < length b → workload cat a ≡ workload cat b
long_workloads cat a b la lb = long_workload cat a la ∙ sym (long_workload cat b lb)

-- an accepted workload has at most 64 MiB
pub accepted_short : (cat : Catalogue) (bytes : List ℕ) (w : Workload) → workload cat bytes ≡ Ok w → length bytes ≤ MAX_WORKLOAD_BYTES
accepted_short cat bytes w ok =
    elim (cases_lt MAX_WORKLOAD_BYTES (length bytes)) [
      | inl past ↦ let bad = long_workload cat bytes past in absurd cc
      | inr within ↦ omega arith
    ]

-- what the bytes were judged to give is what the file gives

pub catalogue_gives : (result : Result Catalogue Status) (fs : List ShelfFile) (name bytes : List ℕ) → ReadsTo MAX_CATALOGUE_BYTES (find_file fs name) bytes
    → MatchResult result (λ cat. catalogue_in bytes ≡ Ok cat) (λ s. Explains s (BlamesCatalogue (Some (catalogue_in bytes))))
    → MatchResult result (λ cat. catalogue_named fs name ≡ Some (Ok cat)) (λ s. Explains s (BlamesCatalogue (catalogue_named fs name)))
catalogue_gives (Ok cat) fs name bytes reads e = read_gives MAX_CATALOGUE_BYTES catalogue_in long_catalogues
    (find_file fs name) bytes reads ∙ ap (λ r. Some r) e
catalogue_gives (Err s) fs name bytes reads e =
    subst (λ r. Explains s (BlamesCatalogue r)) (sym (read_gives MAX_CATALOGUE_BYTES catalogue_in long_catalogues (find_file fs name) bytes reads)) e

pub workload_gives : (result : Result Workload Status) (fs : List ShelfFile) (cat : Catalogue)
    (name bytes : List ℕ) → ReadsTo MAX_WORKLOAD_BYTES (find_file fs name) bytes
    → MatchResult result (λ w. workload cat bytes ≡ Ok w) (λ s. Explains s (BlamesWorkload (Some (workload cat bytes))))
    → MatchResult result (λ w. workload_named fs cat name ≡ Some (Ok w)) (λ s. Explains s (BlamesWorkload (workload_named fs cat name)))
workload_gives (Ok w) fs cat name bytes reads e =
    read_gives MAX_WORKLOAD_BYTES (workload cat) (long_workloads cat) (find_file fs name) bytes reads ∙ ap (λ r. Some r) e
workload_gives (Err s) fs cat name bytes reads e =
    subst (λ r. Explains s (BlamesWorkload r)) (sym (read_gives MAX_WORKLOAD_BYTES (workload cat) (long_workloads cat) (find_file fs name) bytes reads)) e

-- a file that was read and has at most as many bytes as the limit was read to its end
pub read_to_end : (before after : ShelfState) (limit : ℕ) (name read : List ℕ) (f : ℕ) → HasReadOf limit name read before after f → length read ≤ limit
    → IsRead before after (ToItsEnd name) f
read_to_end before after limit name read f h few =
    record { fresh = h.fresh; opened = h.opened; ended = of_known (after.opened f) h.named (h.ended few) }
  where
    of_known : (opened : Option Opened) → IfSome opened (λ file. file.name ≡ name)
        → IfSome opened (λ file. file.unread ≡ []) → IsReadTo before.files (ToItsEnd name) opened
    of_known None named ended = tt
    of_known (Some file) named ended = (named, ended)

-- and any other exactly one byte past the limit
pub read_to_limit : (before after : ShelfState) (limit : ℕ) (name read : List ℕ) (f : ℕ) → HasReadOf limit name read before after f
    → IsRead before after (ToItsLimit limit name) f
read_to_limit before after limit name read f h =
    record { fresh = h.fresh; opened = h.opened; ended = of_known (after.opened f) h.named h.rest }
  where
    of_known : (opened : Option Opened) → IfSome opened (λ file. file.name ≡ name)
        → IfSome before.files (λ fs. IfSome (find_file fs name) (λ bytes. IfSome opened (λ file. file.unread ≡ drop (limit + 1) bytes)))
        → IsReadTo before.files (ToItsLimit limit name) opened
    of_known None named rest = tt
    of_known (Some file) named rest = (named, rest)

-- what follows where a call went well
pub on_ok_by : {T : Type 0} (r : Result T Status) (P : T → Type 0) (Q : Status → Type 0) (R : Type 0) → MatchResult r P Q → ((v : T) → P v → R) → OnOk r R
on_ok_by (Ok v) P Q R p f = f v p
on_ok_by (Err s) P Q R p f = tt

pub if_err_more : {T : Type 0} (r : Result T Status) (P Q : Status → Type 0) → IfErr r P → ((s : Status) → P s → Q s) → IfErr r Q
if_err_more (Ok v) P Q p f = tt
if_err_more (Err s) P Q p f = f s p

pub one_error : {T : Type 0} (s t : Status) → IsErrOf {T = T} (Err s) t → s ≡ t
one_error {T} s t e = cc

-- a status that comes of files isn't Usage
pub not_usage : {T : Type 0} (r : Result T Status) → IfErr r ComesOfFiles → IsErrOf r Usage → ⊥
not_usage (Ok v) p e = absurd cc
not_usage {T} (Err s) p e = subst ComesOfFiles (one_error {T = T} s Usage e) p
