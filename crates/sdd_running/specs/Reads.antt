-- The READs of an attempt, as a site makes them.
use Rattle.std.specs.Prelude.{ℕ, suc, ◌<◌, ◌^◌, ◌≡◌, List, map, Option, Some, None}
use Rattle.std.specs.List.{All}
use Rattle.sdd_module.specs.All.{Catalogue, FragNo, Msg, Site, Use, ascending, fragments_in}
use Rattle.sdd_rules.specs.graph.Edges.{IsClassOf}
use Rattle.sdd_module.specs.protocol.declared.entry.Entry as line
use Rattle.sdd_rules.specs.All.{Queued, modules_of, read_to}
use Rattle.sdd_rules.specs.attempt.Acts.{AreThere}

-- what they have in common: of whom they are, its uses, its timestamp, and the bound of the clock before it
pub record Beginning : Type 0 where
  pub catalogue : Catalogue
  pub table : List line.Entry
  pub class : ℕ
  pub queued : Queued
  pub uses : List Use
  pub own : ℕ
  pub p2 : ℕ

-- a declared class has a table, and only undeclared transactions have none
abbrev pub IsDeclared : Catalogue → ℕ → Option (List line.Entry) → Type 0
IsDeclared cat c None = c ≡ 0
IsDeclared cat c (Some table) = IsClassOf cat c

-- the uses with their fragments
pub record IsBeginning (cat : Catalogue) (table : Option (List line.Entry)) (c count : ℕ) (uses : List Use) (frags : List FragNo) : Type 0 where
  pub declared : IsDeclared cat c table
  pub tries : suc count < 2 ^ 64
  pub uses_there : All (λ u. AreThere cat u.frags) uses
  pub frags_are : map (λ f. f.0) frags ≡ ascending (fragments_in uses)
  pub frags_there : AreThere cat frags

-- those to these modules
abbrev pub reads_to : Beginning → List ℕ → List (Site × Msg)
reads_to b dms = map (read_to b.catalogue b.table b.class b.queued b.uses b.own b.p2) dms

abbrev pub reads_of : Beginning → List (Site × Msg)
reads_of b = reads_to b (modules_of b.catalogue b.class (ascending (fragments_in b.uses)))
