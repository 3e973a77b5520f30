-- What the catalogue in force and its protocol table say of the transactions. Modules are those of the catalogue of all
-- classes.
use Rattle.std.specs.Prelude.{ℕ, ◌<◌, ◌≤◌, ◌≡◌, ◌↔◌, true, List, length, map, Contains, Some, is_some}
use Rattle.sdd_base.specs.Words.{contains}
use Rattle.sdd_base.specs.declared.condition.Cond.{Cond}
use Rattle.sdd_base.specs.declared.number.FragNo.{FragNo}
use Rattle.sdd_catalog.specs.Catalogue.{Catalogue, reads_at, writes, has_copy}
use Rattle.sdd_graph.specs.Edges.{IsClassOf}
use Rattle.sdd_protocol.specs.Conditions.{conditions}
use Rattle.sdd_protocol.specs.declared.entry.Entry.{Entry}
use Rattle.sdd_acyclic.specs.System.{System}

-- the number of one of the catalogue's fragments
pub record IsFragmentOf (cat : Catalogue) (f : ℕ) : Type 0 where
  pub from : 1 ≤ f
  pub to : f ≤ length cat.fragments

-- transactions have declared classes, and read and write what these may
pub record FitsSystem {T : Type 0} (cat : Catalogue) (S : System T) : Type 0 where
  pub class : (x : T) → IsClassOf cat (S.class x)
  pub fragment_read : (x : T) (f : ℕ) → S.Reads x f → IsFragmentOf cat f
  pub fragment_changed : (x : T) (f : ℕ) → S.Changes x f → IsFragmentOf cat f
  pub reads : (x : T) (f : ℕ) → S.Reads x f → is_some (reads_at cat (S.class x) f) ≡ true
  pub changes : (x : T) (f : ℕ) → S.Changes x f → writes cat (S.class x) f ≡ true

-- each read condition of a committed attempt was met: of the transactions of its class that change one of its fragments
-- with a copy at the module it saw those below its time, and no others
pub record Meets {T : Type 0} (cat : Catalogue) (entries : List Entry) (S : System T) (frags : T → List FragNo) : Type 0 where
  pub class : (x : T) → IsClassOf cat (S.class x)
  pub reads : (x : T) (f : ℕ) → S.Reads x f → contains (map (λ g. g.0) (frags x)) f ≡ true
  pub dm : (x : T) (f : ℕ) → S.Reads x f → reads_at cat (S.class x) f ≡ Some (S.dm (S.class x) f)
  pub copies : (x : T) (f : ℕ) → S.Reads x f → has_copy cat (S.dm (S.class x) f) f ≡ true
  pub met : (x y : T) (f g : ℕ) (c : Cond) → S.Reads y f
      → Contains (conditions cat entries (S.class y) (S.dm (S.class y) f) (frags y) (S.ts y) (S.p2 y)) c
      → c.class.0 ≡ S.class x → S.Changes x g → contains (map (λ f. f.0) c.frags) g ≡ true
      → has_copy cat (S.dm (S.class y) f) g ≡ true
      → S.Seen x (S.dm (S.class y) f) y ↔ (S.ts x < c.time.0)
