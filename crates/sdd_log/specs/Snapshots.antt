-- The database that an attempt reads: at each module that it asks the copies of the fragments of its READ, as they are
-- just before its Answer there.
use Rattle.std.specs.Prelude.{ℕ, ◌==◌, Bool, false, if◌then◌else◌, List, [], ◌∷◌, map, fold, Option, Some}
use Rattle.std.specs.List.{flat_map}
use Rattle.sdd_rules.specs.All.{Answer, Bases, Catalogue, D, Database, Did, Item, Msg, Read, Records, Row, Setting, ascending, dm_no, fragment_at, fragments_in, numbers_to, with_row}
use Rattle.sdd_rules.specs.site_module.SiteLog as site
use Rattle.sdd_rules.specs.copy.Contents.{Dated, contents}
use Rattle.sdd_rules.specs.pipe.Pipe.{head}
use Rattle.sdd_rules.specs.dm.Pipes.{pipe}
use Rattle.sdd_rules.specs.dm.Copies.{dated}
use Rattle.sdd_log.specs.Entries.{Input, Log}
use Rattle.sdd_log.specs.Locals.{local_of, setting_of}

-- the fragments that a READ names
abbrev pub frags_asked : Option Msg → List ℕ
frags_asked (Some (Read ts class txn attempt conds uses)) = ascending (fragments_in uses)
frags_asked _ = []

-- whether the message is the READ of the attempt with this timestamp
abbrev pub is_at : ℕ → Option Msg → Bool
is_at ts (Some (Read t class txn attempt conds uses)) = t.0 == ts
is_at ts _ = false

-- the copy of fragment f, by items
abbrev pub items_of : Catalogue → Dated → ℕ → Database
items_of cat xs f = map (λ e. (((fragment_at cat f).rel.0, e.0), e.1)) (contents f xs)

-- what the attempt with timestamp ts reads at one data module, by the module's log
abbrev pub snapshots : Setting → ℕ → site.Log → Database
snapshots s ts [] = []
snapshots s ts (Did (Records k (Answer txn attempt dm) sends) ∷ log) =
    if is_at ts (head (pipe k log)) then flat_map (items_of s.catalogue (dated s log)) (frags_asked (head (pipe k log))) else snapshots s ts log
snapshots s ts (_ ∷ log) = snapshots s ts log

abbrev pub with_item : Database → Item × Row → Database
with_item db e = with_row db e.0 e.1

abbrev pub snapshots_at : Input → Log → ℕ → ℕ → Database
snapshots_at g log ts d = snapshots (setting_of g (D (dm_no d))) ts (local_of g (D (dm_no d)) log)

-- the database of all its snapshots
abbrev pub base_of : Input → Log → Bases
base_of g log ts = fold with_item [] (flat_map (snapshots_at g log ts) (numbers_to g.catalogue.dms))
