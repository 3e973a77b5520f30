-- Which modules a class needs: where one of them is down, an attempt of the class may not end, or others may wait until it
-- is up.
use Rattle.std.specs.Prelude.{ℕ, ◌≡◌, true, List, Contains}
use Rattle.sdd_base.specs.declared.site.Site.{Site}
use Rattle.sdd_base.specs.declared.site.Site.TheVariants.{T, D}
use Rattle.sdd_catalog.specs.Catalogue.{Catalogue, class_at}
use Rattle.sdd_catalog.specs.declared.resolved.Read.{Read}
use Rattle.sdd_graph.specs.Edges.{IsClassOf}
use Rattle.sdd_protocol.specs.declared.entry.Entry.{Entry}
use Rattle.sdd_outage.specs.Tasks.{Task, attempt, passing}
use Rattle.sdd_outage.specs.Waiting.{waits_for}

-- The least sets of modules with these rules:
pub data Needs (cat : Catalogue) (entries : List Entry) : Task → Site → Type 0 where
  -- an attempt needs the transaction module of its class, and each data module at which the class reads
  runs_at : (c : ℕ) → IsClassOf cat c → Needs cat entries (attempt c) (T (class_at cat c).tm)
  reads_at : (c : ℕ) (read : Read) → IsClassOf cat c → Contains (class_at cat c).reads read
      → Needs cat entries (attempt c) (D read.at)
  -- and what the passing of each class needs for which its reads wait
  waits : (c j : ℕ) (s : Site) → waits_for entries c j ≡ true → Needs cat entries (passing j) s
      → Needs cat entries (attempt c) s
  -- a read queues behind the writes of its own class: where another class reads at that module, and waits for this class and
  -- for a third one, its read there holds them until the third has passed
  queues : (c m reader : ℕ) (own other : Read) (s : Site)
      → Contains (class_at cat c).reads own → Contains (class_at cat reader).reads other → own.at ≡ other.at
      → waits_for entries reader c ≡ true → waits_for entries reader m ≡ true → Needs cat entries (passing m) s
      → Needs cat entries (attempt c) s
  -- a class passes a time once its attempt has ended
  attempts : (j : ℕ) (s : Site) → Needs cat entries (attempt j) s → Needs cat entries (passing j) s
  -- and once no read holds its writes back: a read that waits for it and for another class holds them until the other has
  -- passed
  holds : (j m reader : ℕ) (s : Site) → waits_for entries reader j ≡ true → waits_for entries reader m ≡ true
      → Needs cat entries (passing m) s → Needs cat entries (passing j) s
