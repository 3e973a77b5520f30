-- Which files a call opens, and how far it has read them.
use Rattle.std.specs.Prelude.{◌≡◌, ℕ, zero, suc, ◌+◌, List, [], ◌∷◌, drop, Option, IfSome}
use Rattle.sdd_lang.specs.base.declared.files.ShelfFile.{ShelfFile}
use Rattle.sdd_lang.specs.base.Outside.{HasRead, Opened, find_file}
use Rattle.sdd_shell.specs.States.{ShelfState}

pub data Ending : Type 0 where
  -- to the end of the file of this name
  ToItsEnd : List ℕ → Ending
  -- to the end of the file of this name, or exactly one byte past so many
  ToItsLimit : ℕ → List ℕ → Ending

-- by the name that the file was opened by, and what is unread of it, where the shelf tells them
abbrev pub IsReadTo : Option (List ShelfFile) → Ending → Option Opened → Type 0
IsReadTo files (ToItsEnd name) known = IfSome known (λ file. (file.name ≡ name) × (file.unread ≡ []))
IsReadTo files (ToItsLimit limit name) known =
    IfSome known (λ file. (file.name ≡ name)
    × IfSome files (λ fs. IfSome (find_file fs name) (λ bytes. file.unread ≡ drop (limit + 1) bytes)))

-- The file of this number was opened in this call by this name, and these bytes were read of it, at most one past the limit.
abbrev pub HasReadOf : ℕ → List ℕ → List ℕ → ShelfState → ShelfState → ℕ → Type 0
HasReadOf limit name read before after file = HasRead limit before.files before.is_open after.is_open after.opened name read file

-- the file of this number was opened in this call, and read so far
pub record IsRead (before after : ShelfState) (ending : Ending) (file : ℕ) : Type 0 where
  pub fresh : before.is_open file → ⊥
  pub opened : after.is_open file
  pub ended : IsReadTo before.files ending (after.opened file)

-- a file is none of others
abbrev pub IsNoneOf : ℕ → List ℕ → Type 0
IsNoneOf file [] = Unit {0}
IsNoneOf file (other ∷ others) = (file ≡ other → ⊥) × IsNoneOf file others

-- so many different files, each read as far as its ending says
abbrev pub AreRead : ShelfState → ShelfState → List Ending → List ℕ → Type 0
AreRead before after [] [] = Unit {0}
AreRead before after [] (file ∷ files) = ⊥
AreRead before after (ending ∷ endings) [] = ⊥
AreRead before after (ending ∷ endings) (file ∷ files) = IsRead before after ending file × IsNoneOf file files × AreRead before after endings files

-- there are such files
pub record FilesRead (before after : ShelfState) (endings : List Ending) : Type 0 where
  pub files : List ℕ
  pub read : AreRead before after endings files

-- The shelf is sure to have a place for each of n files and for so many more; where n is 0, nothing is required of it.
abbrev pub HasRoom : (ℕ → Type 0) → ℕ → ℕ → Type 0
HasRoom sure free zero = Unit {0}
HasRoom sure free (suc n) = sure (free + suc n)
