-- What a call comes to that prints a text about a workload: the files of these names have its catalogue and the workload.
use Rattle.std.specs.Prelude.{◌≡◌, refl, ℕ, List, [], ◌∷◌, codes, Some, Ok, Err}
use Rattle.sdd_lang.specs.base.declared.files.ShelfFile.{ShelfFile}
use Rattle.sdd_lang.specs.base.Outside.{find_file}
use Rattle.sdd_lang.specs.All.{CatFault, Catalogue}
use Rattle.sdd_catread.specs.Reading.{catalogue_in}
use Rattle.sdd_script.specs.Walk.{workload}
use Rattle.sdd_script.specs.declared.fault.WorkFault.{WorkFault}
use Rattle.sdd_script.specs.declared.workload.Workload.{Workload}
use Rattle.sdd_shell.specs.NamedFiles.{catalogue_named, workload_named}
use Rattle.sdd_shell.specs.Verdict.{Verdict, Prints, FaultyCatalogue, FaultyWorkload, PastLimit}

pub data OverWorkload (files : List ShelfFile) (cat_name work_name : List ℕ) (IsText : Catalogue → Workload → List ℕ → Type 0)
    (EndsAtLimit : Catalogue → Workload → Type 0) : Verdict → Type 0 where
  -- the catalogue has this first fault
  faulty_catalogue : (fault : CatFault) → catalogue_named files cat_name ≡ Some (Err fault)
      → OverWorkload files cat_name work_name IsText EndsAtLimit (FaultyCatalogue fault)
  -- the catalogue is sound, and the workload has this first fault
  faulty_workload : (cat : Catalogue) (fault : WorkFault) → catalogue_named files cat_name ≡ Some (Ok cat)
      → workload_named files cat work_name ≡ Some (Err fault) → OverWorkload files cat_name work_name IsText EndsAtLimit (FaultyWorkload fault)
  -- both are sound, and such a text about them is printed
  printed : (cat : Catalogue) (work : Workload) (text : List ℕ) → catalogue_named files cat_name ≡ Some (Ok cat)
      → workload_named files cat work_name ≡ Some (Ok work) → IsText cat work text
      → OverWorkload files cat_name work_name IsText EndsAtLimit (Prints text)
  -- both are sound, and the limit ends the run of the workload
  past_limit : (cat : Catalogue) (work : Workload) → catalogue_named files cat_name ≡ Some (Ok cat)
      → workload_named files cat work_name ≡ Some (Ok work) → EndsAtLimit cat work
      → OverWorkload files cat_name work_name IsText EndsAtLimit PastLimit

-- of a call that makes no run
abbrev pub MakesNoRun : Catalogue → Workload → Type 0
MakesNoRun cat work = ⊥

-- The text is what is said of the bytes of the file of this name, which is there.
pub record TellsOfFile (files : List ShelfFile) (name : List ℕ) (said_of : List ℕ → List ℕ) (text : List ℕ) : Type 0 where
  pub bytes : List ℕ
  pub there : find_file files name ≡ Some bytes
  pub text_is : text ≡ said_of bytes

-- worked: each way, over files `c` and `w` of such bytes
module _ (c w : List ℕ) (IsText : Catalogue → Workload → List ℕ → Type 0) (EndsAtLimit : Catalogue → Workload → Type 0) where
  abbrev files : List ShelfFile
  files = record { name = codes "c"; bytes = c } ∷ record { name = codes "w"; bytes = w } ∷ []

  abbrev Comes : Verdict → Type 0
  Comes verdict = OverWorkload files (codes "c") (codes "w") IsText EndsAtLimit verdict

  pub faulty_catalogue_example : (fault : CatFault) → catalogue_in c ≡ Err fault → Comes (FaultyCatalogue fault)
  faulty_catalogue_example fault e = faulty_catalogue fault (cc)

  pub faulty_workload_example : (cat : Catalogue) (fault : WorkFault) → catalogue_in c ≡ Ok cat → workload cat w ≡ Err fault → Comes (FaultyWorkload fault)
  faulty_workload_example cat fault e h = faulty_workload cat fault (cc) (cc)

  pub printed_example : (cat : Catalogue) (work : Workload) (text : List ℕ) → catalogue_in c ≡ Ok cat → workload cat w ≡ Ok work → IsText cat work text
      → Comes (Prints text)
  printed_example cat work text e h told = printed cat work text (cc) (cc) told

  pub past_limit_example : (cat : Catalogue) (work : Workload) → catalogue_in c ≡ Ok cat → workload cat w ≡ Ok work → EndsAtLimit cat work → Comes PastLimit
  past_limit_example cat work e h ends = past_limit cat work (cc) (cc) ends

-- worked: what is said of a file `r` is that its bytes are these
pub told_example : (bytes : List ℕ) → TellsOfFile (record { name = codes "r"; bytes = bytes } ∷ []) (codes "r") (λ read. read) bytes
told_example bytes = record { bytes = bytes; there = refl; text_is = refl }
