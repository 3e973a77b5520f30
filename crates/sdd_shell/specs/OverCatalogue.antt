-- What a call comes to that prints a text about the catalogue in the file of this name.
use Rattle.std.specs.Prelude.{◌≡◌, ℕ, List, [], ◌∷◌, codes, Some, Ok, Err}
use Rattle.sdd_lang.specs.base.declared.files.ShelfFile.{ShelfFile}
use Rattle.sdd_lang.specs.All.{CatFault, Catalogue}
use Rattle.sdd_catread.specs.Reading.{catalogue_in}
use Rattle.sdd_shell.specs.NamedFiles.{catalogue_named}
use Rattle.sdd_shell.specs.Verdict.{Verdict, Prints, FaultyCatalogue}

pub data OverCatalogue (files : List ShelfFile) (name : List ℕ) (IsText : Catalogue → List ℕ → Type 0) : Verdict → Type 0 where
  -- the catalogue has this first fault
  faulty_catalogue : (fault : CatFault) → catalogue_named files name ≡ Some (Err fault) → OverCatalogue files name IsText (FaultyCatalogue fault)
  -- the catalogue is sound, and such a text about it is printed
  printed : (cat : Catalogue) (text : List ℕ) → catalogue_named files name ≡ Some (Ok cat) → IsText cat text → OverCatalogue files name IsText (Prints text)

-- worked: each way, over a file `c` of such bytes
module _ (bytes : List ℕ) (IsText : Catalogue → List ℕ → Type 0) where
  abbrev files : List ShelfFile
  files = record { name = codes "c"; bytes = bytes } ∷ []

  pub faulty_catalogue_example : (fault : CatFault) → catalogue_in bytes ≡ Err fault → OverCatalogue files (codes "c") IsText (FaultyCatalogue fault)
  faulty_catalogue_example fault e = faulty_catalogue fault (cc)

  pub printed_example : (cat : Catalogue) (text : List ℕ) → catalogue_in bytes ≡ Ok cat → IsText cat text → OverCatalogue files (codes "c") IsText (Prints text)
  printed_example cat text e told = printed cat text (cc) told
