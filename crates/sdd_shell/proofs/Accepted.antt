-- What is accepted of a file that was read, and how that leaves the shelf.
use Rattle.sdd_shell.proofs.All.{AcceptsCatalogue, AcceptsWorkload, BlamesCatalogue, BlamesWorkload, Catalogue, ComesOfFiles, Err, Explains, HasReadOf, IfErr, List, MAX_CATALOGUE_BYTES, MAX_WORKLOAD_BYTES, MatchResult, NoMemory, None, Ok, Option, ReadFault, ReadsOne, ReadsTo, Result, ShelfFile, ShelfState, Some, Status, TellsOfFile, TellsOfRead, Workload, ap, catalogue_in, catalogue_named, find_file, length, option_map, refl, sym, workload, workload_named, ℕ, ◌<◌, ◌∙◌, ◌≡◌}
use Rattle.sdd_shell.proofs.AtFault.{catalogue_at, err_by, silent_at, workload_at}
use Rattle.sdd_shell.proofs.FileReads.{accepted_short, accepted_small, catalogue_gives, if_err_more, on_ok_by, read_gives, read_to_end, read_to_limit, workload_gives}
use Rattle.sdd_shell.proofs.Verdicts.{explains_more}

-- what is made of the bytes that were read leaves the shelf as reading did
pub made_of_read : {A B : Type 0} (name : List ℕ) (before after : ShelfState) (v : A) (r : Result B Status) → ReadsOne name before after (Ok v)
    → IfErr r ComesOfFiles → IfErr r (λ s. s ≡ ReadFault → ⊥) → ReadsOne name before after r
made_of_read name before after v r k errors read = record {
  others = k.others;
  files = k.files;
  later = k.later;
  fault = if_err_more r (λ s. s ≡ ReadFault → ⊥) _ read (λ s no is. absurd (no is));
  errors = errors;
  surely = λ free fs sure known some. let s = k.surely free fs sure known some in (read, s.1, s.2);
}

-- and so does a reading that failed
pub not_read : {A B : Type 0} (name : List ℕ) (before after : ShelfState) (s : Status) → ReadsOne {T = A} name before after (Err s)
    → ReadsOne {T = B} name before after (Err s)
not_read name before after s k = record {
  others = k.others;
  files = k.files;
  later = k.later;
  fault = k.fault;
  errors = k.errors;
  surely = k.surely;
}

-- a catalogue

pub catalogue_not_read : {A : Type 0} (name : List ℕ) (before after : ShelfState) (s : Status) → Explains s (λ _. ⊥)
    → ReadsOne {T = A} name before after (Err s) → AcceptsCatalogue name before after (Err s)
catalogue_not_read name before after s silent k = record {
  answered = λ fs known. explains_more s (λ _. ⊥) (BlamesCatalogue (catalogue_named fs name)) (λ v no. absurd no) silent;
  ended = tt;
  at_fault = silent_at _ _ s silent;
  leaves = not_read name before after s k;
}

pub catalogue_read : {A : Type 0} (name bytes : List ℕ) (before after : ShelfState) (v : A) (f : ℕ) (r : Result Catalogue Status)
    → ((fs : List ShelfFile) → before.files ≡ Some fs → ReadsTo MAX_CATALOGUE_BYTES (find_file fs name) bytes)
    → HasReadOf MAX_CATALOGUE_BYTES name bytes before after f → ReadsOne name before after (Ok v)
    → MatchResult r (λ cat. catalogue_in bytes ≡ Ok cat) (λ s. Explains s (BlamesCatalogue (Some (catalogue_in bytes))))
    → IfErr r ComesOfFiles → IfErr r (λ s. s ≡ ReadFault → ⊥) → AcceptsCatalogue name before after r
catalogue_read name bytes before after v f r reads has k judged errors no_fault = record {
  answered = λ fs known. catalogue_gives r fs name bytes (reads fs known) judged;
  ended = on_ok_by r (λ cat. catalogue_in bytes ≡ Ok cat) (λ s. Explains s (BlamesCatalogue (Some (catalogue_in bytes)))) _ judged
      (λ cat ok. (f, read_to_end before after MAX_CATALOGUE_BYTES name bytes f has (accepted_small bytes cat ok)));
  at_fault = err_by r (λ cat. catalogue_in bytes ≡ Ok cat) (λ s. Explains s (BlamesCatalogue (Some (catalogue_in bytes)))) _ judged
      (λ s told. catalogue_at _ (Some (catalogue_in bytes)) s (f, read_to_limit before after MAX_CATALOGUE_BYTES name bytes f has) told);
  leaves = made_of_read name before after v r k errors no_fault;
}

-- a workload

pub workload_not_read : {A : Type 0} (cat : Catalogue) (name : List ℕ) (before after : ShelfState) (s : Status) → Explains s (λ _. ⊥)
    → ReadsOne {T = A} name before after (Err s) → AcceptsWorkload cat name before after (Err s)
workload_not_read cat name before after s silent k = record {
  answered = λ fs known. explains_more s (λ _. ⊥) (BlamesWorkload (workload_named fs cat name)) (λ v no. absurd no) silent;
  ended = tt;
  at_fault = silent_at _ _ s silent;
  leaves = not_read name before after s k;
}

pub workload_read : {A : Type 0} (cat : Catalogue) (name bytes : List ℕ) (before after : ShelfState) (v : A) (f : ℕ) (r : Result Workload Status)
    → ((fs : List ShelfFile) → before.files ≡ Some fs → ReadsTo MAX_WORKLOAD_BYTES (find_file fs name) bytes)
    → HasReadOf MAX_WORKLOAD_BYTES name bytes before after f → ReadsOne name before after (Ok v)
    → MatchResult r (λ work. workload cat bytes ≡ Ok work) (λ s. Explains s (BlamesWorkload (Some (workload cat bytes))))
    → IfErr r ComesOfFiles → IfErr r (λ s. s ≡ ReadFault → ⊥) → AcceptsWorkload cat name before after r
workload_read cat name bytes before after v f r reads has k judged errors no_fault = record {
  answered = λ fs known. workload_gives r fs cat name bytes (reads fs known) judged;
  ended = on_ok_by r (λ work. workload cat bytes ≡ Ok work) (λ s. Explains s (BlamesWorkload (Some (workload cat bytes)))) _ judged
      (λ work ok. (f, read_to_end before after MAX_WORKLOAD_BYTES name bytes f has (accepted_short cat bytes work ok)));
  at_fault = err_by r (λ work. workload cat bytes ≡ Ok work) (λ s. Explains s (BlamesWorkload (Some (workload cat bytes)))) _ judged
      (λ s told. workload_at _ (Some (workload cat bytes)) s (f, read_to_limit before after MAX_WORKLOAD_BYTES name bytes f has) told);
  leaves = made_of_read name before after v r k errors no_fault;
}

-- a report, of which all of those past the limit are told the same

pub report_not_read : {A : Type 0} (limit : ℕ) (name : List ℕ) (said_of : List ℕ → List ℕ) (before after : ShelfState) (s : Status) → Explains s (λ _. ⊥)
    → ReadsOne {T = A} name before after (Err s) → TellsOfRead limit name said_of before after (Err s)
report_not_read limit name said_of before after s silent k = record {
  answered = λ fs known. tt;
  ended = tt;
  silent = silent;
  leaves = not_read name before after s k;
}

tells_of : (fs : List ShelfFile) (name : List ℕ) (said_of : List ℕ → List ℕ) (text : List ℕ) (file : Option (List ℕ)) → find_file fs name ≡ file
    → option_map said_of file ≡ Some text → TellsOfFile fs name said_of text
tells_of fs name said_of text None is e = absurd cc
tells_of fs name said_of text (Some bytes) is e = record { bytes = bytes; there = is; text_is = one_text (said_of bytes) text e }
  where
    one_text : (a b : List ℕ) → Some a ≡ Some b → b ≡ a
    one_text a b e = cc

pub report_told : {A : Type 0} (limit : ℕ) (name bytes : List ℕ) (said_of : List ℕ → List ℕ) (before after : ShelfState) (v : A) (f : ℕ) (text : List ℕ)
    → ((a b : List ℕ) → limit < length a → limit < length b → said_of a ≡ said_of b)
    → ((fs : List ShelfFile) → before.files ≡ Some fs → ReadsTo limit (find_file fs name) bytes)
    → HasReadOf limit name bytes before after f → ReadsOne name before after (Ok v) → text ≡ said_of bytes
    → TellsOfRead limit name said_of before after (Ok text)
report_told limit name bytes said_of before after v f text alike reads has k told = record {
  answered = λ fs known.
      tells_of fs name said_of text (find_file fs name) refl
      (read_gives limit said_of alike (find_file fs name) bytes (reads fs known) ∙ ap (λ t. Some t) (sym told));
  ended = (f, read_to_limit before after limit name bytes f has);
  silent = tt;
  leaves = made_of_read name before after v (Ok text) k tt tt;
}

-- memory ran out before it was told
pub report_untold : {A : Type 0} (limit : ℕ) (name : List ℕ) (said_of : List ℕ → List ℕ) (before after : ShelfState) (v : A)
    → ReadsOne name before after (Ok v) → TellsOfRead limit name said_of before after (Err NoMemory)
report_untold limit name said_of before after v k = record {
  answered = λ fs known. tt;
  ended = tt;
  silent = tt;
  leaves = made_of_read name before after v (Err NoMemory) k tt (λ is. absurd cc);
}
