-- The law of read conditions (H4): of the writers that a condition names a reader sees exactly those before its time.
use Rattle.std.specs.Prelude.{ℕ, ◌<◌, ◌≡◌, ◌==◌, ◌↔◌, if◌then◌else◌, List, Contains, map}
use Rattle.sdd_lang.specs.All.{Catalogue, Cond, ascending, frag_no, fragments_in}
use Rattle.sdd_history.specs.Records.{History}
use Rattle.sdd_protocol.specs.Conditions.{conditions, undeclared_conditions}
use Rattle.sdd_protocol.specs.Protocols.{IsTable}
use Rattle.sdd_protocol.specs.declared.entry.Entry.{Entry}
use Rattle.sdd_links.specs.Attempts.{Attempt, Committed, IsAttempt, IsCommitted, p2_time}
use Rattle.sdd_links.specs.Places.{event_at}
use Rattle.sdd_laws.specs.Deeds.{AppliedBefore, IsAnswered, TouchesOne}
use Rattle.sdd_laws.specs.Eras.{Eras, catalogue_at}

-- the conditions of an attempt at module d, by a protocol table
abbrev pub conditions_of : Catalogue → List Entry → Attempt → ℕ → List Cond
conditions_of cat table a d =
    if a.class == 0 then undeclared_conditions cat a.ts
    else conditions cat table a.class d (map frag_no (ascending (fragments_in a.uses))) a.ts (p2_time a)

-- a condition of an attempt at module d, by the table of the catalogue in force at its Start
pub record IsConditionOf (cat : Catalogue) (eras : Eras) (h : History) (a : Attempt) (d : ℕ) (c : Cond) : Type 0 where
  pub table : List Entry
  pub table_is : IsTable (catalogue_at cat eras (event_at h a.place)) table
  pub there : Contains (conditions_of cat table a d) c

-- Each attempt that is answered, committed or not: a transaction of the class, committed anywhere in the history, that
-- changes one of the fragments with a copy at the module is applied there before exactly where it is before the time.
pub record KeepsConditions (cat : Catalogue) (eras : Eras) (h : History) : Type 0 where
  pub met : (a : Attempt) (d k : ℕ) (c : Cond) (x : Committed)
      → IsAttempt h a → IsAnswered h a d k → IsConditionOf cat eras h a d c
      → IsCommitted h x → x.start.class ≡ c.class.0 → TouchesOne cat x d c.frags
      → AppliedBefore h x.start.txn d k ↔ (x.start.ts < c.time.0)
