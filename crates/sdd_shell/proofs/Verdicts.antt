-- What a call comes to, from what was read of its files; that it comes to one status.
use Rattle.sdd_shell.proofs.All.{BadCatalogue, BadWorkload, BlamesCatalogue, BlamesWorkload, Catalogue, Done, Err, Explains, FaultyCatalogue, FaultyWorkload, HasFiles, IsRefusal, IsSome, Limit, List, MakesNoRun, NoForm, NoMemory, None, Ok, Option, OverCatalogue, OverWorkload, PastLimit, Prints, ReadFault, Request, Result, ShelfFile, Some, Status, TellsOfFile, Usage, Verdict, WorkFault, Workload, about_catalogue, about_report, about_workload, ap, catalogue_in, catalogue_named, find_file, inl, inr, option_map, refl, status_of, subst, sym, workload, workload_named, ℕ, ◌∙◌, ◌≡◌, ◌⊎◌}
use Rattle.sdd_shell.specs.OverCatalogue.{faulty_catalogue, printed}
use Rattle.sdd_shell.specs.OverWorkload as work

-- a status tells what follows from what it tells
pub explains_more : (s : Status) (P Q : Verdict → Type 0) → ((v : Verdict) → P v → Q v) → Explains s P → Explains s Q
explains_more Usage P Q more e = more NoForm e
explains_more (BadCatalogue f) P Q more e = more (FaultyCatalogue f) e
explains_more (BadWorkload f) P Q more e = more (FaultyWorkload f) e
explains_more Limit P Q more e = more PastLimit e
explains_more _ P Q more e = e

-- the fault of a catalogue is what a call over it comes to

pub blamed : (fs : List ShelfFile) (name : List ℕ) (T : Catalogue → List ℕ → Type 0) (v : Verdict)
    → BlamesCatalogue (catalogue_named fs name) v → OverCatalogue fs name T v
blamed fs name T (FaultyCatalogue f) e = faulty_catalogue f e
blamed fs name T _ e = absurd e

module _ (fs : List ShelfFile) (c w : List ℕ) (T : Catalogue → Workload → List ℕ → Type 0) (L : Catalogue → Workload → Type 0) where
  pub blamed_first : (v : Verdict) → BlamesCatalogue (catalogue_named fs c) v → OverWorkload fs c w T L v
  blamed_first (FaultyCatalogue f) e = work.faulty_catalogue f e
  blamed_first _ e = absurd e

  -- and that of a workload, over a sound catalogue
  pub blamed_second : (cat : Catalogue) (v : Verdict) → catalogue_named fs c ≡ Some (Ok cat) → BlamesWorkload (workload_named fs cat w) v
      → OverWorkload fs c w T L v
  blamed_second cat (FaultyWorkload f) sound e = work.faulty_workload cat f sound e
  blamed_second cat _ sound e = absurd e

-- a reading gives one thing

one_fault : {A F : Type 0} (r : Option (Result A F)) (f g : F) → r ≡ Some (Err f) → r ≡ Some (Err g) → f ≡ g
one_fault r f g p q = cc

one_sound : {A F : Type 0} (r : Option (Result A F)) (a b : A) → r ≡ Some (Ok a) → r ≡ Some (Ok b) → a ≡ b
one_sound r a b p q = cc

not_both : {A F : Type 0} (r : Option (Result A F)) (a : A) (f : F) → r ≡ Some (Ok a) → r ≡ Some (Err f) → ⊥
not_both r a f p q = absurd cc

is_there : {A : Type 0} (give : List ℕ → A) (file : Option (List ℕ)) (a : A) → option_map give file ≡ Some a → IsSome file
is_there give None a e = absurd cc
is_there give (Some bytes) a e = refl

-- What is proved of a request: it comes to one status, and where it comes to something its files are there.
pub record IsDecided (request : Request) : Type 0 where
  pub one : (fs : List ShelfFile) (v w : Verdict) → request.comes_to fs v → request.comes_to fs w → status_of v ≡ status_of w
  pub there : (fs : List ShelfFile) (v : Verdict) → request.comes_to fs v → request.has_files fs

-- one for a text about a catalogue

module _ (fs : List ShelfFile) (name : List ℕ) (T : Catalogue → List ℕ → Type 0) where
  one_catalogue : (v w : Verdict) → OverCatalogue fs name T v → OverCatalogue fs name T w → status_of v ≡ status_of w
  one_catalogue _ _ (faulty_catalogue f e) (faulty_catalogue g h) = ap (λ x. BadCatalogue x) (one_fault (catalogue_named fs name) f g e h)
  one_catalogue _ _ (faulty_catalogue f e) (printed cat text h p) = absurd (not_both (catalogue_named fs name) cat f h e)
  one_catalogue _ _ (printed cat text e p) (faulty_catalogue f h) = absurd (not_both (catalogue_named fs name) cat f e h)
  one_catalogue _ _ (printed cat text e p) (printed cat2 text2 h q) = refl

  catalogue_there : (v : Verdict) → OverCatalogue fs name T v → IsSome (find_file fs name)
  catalogue_there _ (faulty_catalogue f e) = is_there catalogue_in (find_file fs name) (Err f) e
  catalogue_there _ (printed cat text e p) = is_there catalogue_in (find_file fs name) (Ok cat) e

pub catalogue_decided : (name : List ℕ) (T : Catalogue → List ℕ → Type 0) → IsDecided (about_catalogue name T)
catalogue_decided name T = record { one = λ fs v w p q. one_catalogue fs name T v w p q; there = λ fs v p. catalogue_there fs name T v p }

-- and for one about a workload: no run of which a text tells is ended by the limit

module _ (fs : List ShelfFile) (c w : List ℕ) (T : Catalogue → Workload → List ℕ → Type 0) (L : Catalogue → Workload → Type 0) where
  first_there : (v : Verdict) → OverWorkload fs c w T L v → IsSome (find_file fs c)
  first_there _ (work.faulty_catalogue f e) = is_there catalogue_in (find_file fs c) (Err f) e
  first_there _ (work.faulty_workload cat f e h) = is_there catalogue_in (find_file fs c) (Ok cat) e
  first_there _ (work.printed cat k text e h p) = is_there catalogue_in (find_file fs c) (Ok cat) e
  first_there _ (work.past_limit cat k e h p) = is_there catalogue_in (find_file fs c) (Ok cat) e

  read_there : (cat says : Catalogue) (r : Result Workload WorkFault) → catalogue_named fs c ≡ Some (Ok cat) → catalogue_named fs c ≡ Some (Ok says)
      → workload_named fs cat w ≡ Some r → IsSome (find_file fs w)
  read_there cat says r e says_is h = is_there (workload cat) (find_file fs w) r h

  second_there : (says : Catalogue) (v : Verdict) → catalogue_named fs c ≡ Some (Ok says) → OverWorkload fs c w T L v → IsSome (find_file fs w)
  second_there says _ is (work.faulty_catalogue f e) = absurd (not_both (catalogue_named fs c) says f is e)
  second_there says _ is (work.faulty_workload cat f e h) = read_there cat says (Err f) e is h
  second_there says _ is (work.printed cat k text e h p) = read_there cat says (Ok k) e is h
  second_there says _ is (work.past_limit cat k e h p) = read_there cat says (Ok k) e is h

  workload_there : (v : Verdict) → OverWorkload fs c w T L v → HasFiles fs c w
  workload_there v p = (first_there v p, λ says is. second_there says v is p)

  -- what is known of the second file, for the one catalogue
  same_work : (cat other : Catalogue) → catalogue_named fs c ≡ Some (Ok cat) → catalogue_named fs c ≡ Some (Ok other)
      → workload_named fs cat w ≡ workload_named fs other w
  same_work cat other e h = ap (λ x. workload_named fs x w) (one_sound (catalogue_named fs c) cat other e h)

  both_faulty : (cat other : Catalogue) (f g : WorkFault) → catalogue_named fs c ≡ Some (Ok cat) → catalogue_named fs c ≡ Some (Ok other)
      → workload_named fs cat w ≡ Some (Err f) → workload_named fs other w ≡ Some (Err g) → f ≡ g
  both_faulty cat other f g e h p q = one_fault (workload_named fs other w) f g (sym (same_work cat other e h) ∙ p) q

  not_faulty : (cat other : Catalogue) (k : Workload) (f : WorkFault) → catalogue_named fs c ≡ Some (Ok cat) → catalogue_named fs c ≡ Some (Ok other)
      → workload_named fs cat w ≡ Some (Ok k) → workload_named fs other w ≡ Some (Err f) → ⊥
  not_faulty cat other k f e h p q = not_both (workload_named fs other w) k f (sym (same_work cat other e h) ∙ p) q

  both_sound : (cat other : Catalogue) (k l : Workload) → catalogue_named fs c ≡ Some (Ok cat) → catalogue_named fs c ≡ Some (Ok other)
      → workload_named fs cat w ≡ Some (Ok k) → workload_named fs other w ≡ Some (Ok l) → k ≡ l
  both_sound cat other k l e h p q = one_sound (workload_named fs other w) k l (sym (same_work cat other e h) ∙ p) q

  module _ (apart : (cat : Catalogue) (k : Workload) (text : List ℕ) → T cat k text → L cat k → ⊥) where
    not_past : (cat other : Catalogue) (k l : Workload) (text : List ℕ) → catalogue_named fs c ≡ Some (Ok cat) → catalogue_named fs c ≡ Some (Ok other)
        → workload_named fs cat w ≡ Some (Ok k) → workload_named fs other w ≡ Some (Ok l) → T cat k text → L other l → ⊥
    not_past cat other k l text e h p q told past =
        let cats = one_sound (catalogue_named fs c) cat other e h in
        apart other l text (subst (λ x. T other x text) (both_sound cat other k l e h p q) (subst (λ x. T x k text) cats told)) past

    one_workload : (v u : Verdict) → OverWorkload fs c w T L v → OverWorkload fs c w T L u → status_of v ≡ status_of u
    one_workload _ _ (work.faulty_catalogue f e) (work.faulty_catalogue g h) = ap (λ x. BadCatalogue x) (one_fault (catalogue_named fs c) f g e h)
    one_workload _ _ (work.faulty_catalogue f e) (work.faulty_workload cat g h q) = absurd (not_both (catalogue_named fs c) cat f h e)
    one_workload _ _ (work.faulty_catalogue f e) (work.printed cat k text h q t) = absurd (not_both (catalogue_named fs c) cat f h e)
    one_workload _ _ (work.faulty_catalogue f e) (work.past_limit cat k h q t) = absurd (not_both (catalogue_named fs c) cat f h e)
    one_workload _ _ (work.faulty_workload cat g h q) (work.faulty_catalogue f e) = absurd (not_both (catalogue_named fs c) cat f h e)
    one_workload _ _ (work.faulty_workload cat f e p) (work.faulty_workload other g h q) = ap (λ x. BadWorkload x) (both_faulty cat other f g e h p q)
    one_workload _ _ (work.faulty_workload cat f e p) (work.printed other k text h q t) = absurd (not_faulty other cat k f h e q p)
    one_workload _ _ (work.faulty_workload cat f e p) (work.past_limit other k h q t) = absurd (not_faulty other cat k f h e q p)
    one_workload _ _ (work.printed cat k text h q t) (work.faulty_catalogue f e) = absurd (not_both (catalogue_named fs c) cat f h e)
    one_workload _ _ (work.printed cat k text e p t) (work.faulty_workload other f h q) = absurd (not_faulty cat other k f e h p q)
    one_workload _ _ (work.printed cat k text e p t) (work.printed other l text2 h q u) = refl
    one_workload _ _ (work.printed cat k text e p t) (work.past_limit other l h q u) = absurd (not_past cat other k l text e h p q t u)
    one_workload _ _ (work.past_limit cat k h q t) (work.faulty_catalogue f e) = absurd (not_both (catalogue_named fs c) cat f h e)
    one_workload _ _ (work.past_limit cat k e p t) (work.faulty_workload other f h q) = absurd (not_faulty cat other k f e h p q)
    one_workload _ _ (work.past_limit cat k e p t) (work.printed other l text h q u) = absurd (not_past other cat l k text h e q p u t)
    one_workload _ _ (work.past_limit cat k e p t) (work.past_limit other l h q u) = refl

pub workload_decided : (c w : List ℕ) (T : Catalogue → Workload → List ℕ → Type 0) (L : Catalogue → Workload → Type 0)
    → ((cat : Catalogue) (k : Workload) (text : List ℕ) → T cat k text → L cat k → ⊥) → IsDecided (about_workload c w T L)
workload_decided c w T L apart = record {
  one = λ fs v u p q. one_workload fs c w T L apart v u p q;
  there = λ fs v p. workload_there fs c w T L v p;
}

-- and for one about a report

file_there : (file : Option (List ℕ)) (bytes : List ℕ) → file ≡ Some bytes → IsSome file
file_there file bytes e = rw e refl

module _ (fs : List ShelfFile) (c w r : List ℕ) (said_of : Catalogue → Workload → List ℕ → List ℕ) where
  abbrev Told : Verdict → Type 0
  Told v = OverWorkload fs c w (λ cat k. TellsOfFile fs r (said_of cat k)) MakesNoRun v

  third_there : (says : Catalogue) (asks : Workload) (v : Verdict) → catalogue_named fs c ≡ Some (Ok says) → workload_named fs says w ≡ Some (Ok asks)
      → Told v → IsSome (find_file fs r)
  third_there says asks _ is reads (work.faulty_catalogue f e) = absurd (not_both (catalogue_named fs c) says f is e)
  third_there says asks _ is reads (work.faulty_workload cat f e h) =
      absurd (not_faulty fs c w (λ cat k. TellsOfFile fs r (said_of cat k)) MakesNoRun says cat asks f is e reads h)
  third_there says asks _ is reads (work.printed cat k text e h p) = file_there (find_file fs r) p.bytes p.there
  third_there says asks _ is reads (work.past_limit cat k e h p) = absurd p

pub report_decided : (limit : ℕ) (c w r : List ℕ) (said_of : Catalogue → Workload → List ℕ → List ℕ) → IsDecided (about_report limit c w r said_of)
report_decided limit c w r said_of = record {
  one = λ fs v u p q. one_workload fs c w (λ cat k. TellsOfFile fs r (said_of cat k)) MakesNoRun (λ cat k text t no. no) v u p q;
  there = λ fs v p. (
    workload_there fs c w (λ cat k. TellsOfFile fs r (said_of cat k)) MakesNoRun v p,
    λ says asks is reads. third_there fs c w r said_of says asks v is reads p,
  );
}

-- a call that printed no text reported what it comes to, unless the shelf failed or memory ran out
pub by_status : (s : Status) (P : Verdict → Type 0) (v : Verdict) → ((w : Verdict) → P w → status_of w ≡ status_of v) → Explains s P → (s ≡ ReadFault → ⊥)
    → (s ≡ status_of v) ⊎ (s ≡ NoMemory)
by_status Usage P v one e read = inl (one NoForm e)
by_status (BadCatalogue f) P v one e read = inl (one (FaultyCatalogue f) e)
by_status (BadWorkload f) P v one e read = inl (one (FaultyWorkload f) e)
by_status ReadFault P v one e read = absurd (read refl)
by_status NoMemory P v one e read = inr refl
by_status Limit P v one e read = inl (one PastLimit e)
by_status _ P v one e read = absurd e

pub done_refuses : (v : Verdict) → IsRefusal v → Done ≡ status_of v → ⊥
done_refuses (Prints text) r e = r
done_refuses _ r e = absurd cc
