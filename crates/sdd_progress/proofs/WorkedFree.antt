-- Worked logs of a free class: a query is answered and a put applied before the event is over in which it is handed over.
use Rattle.sdd_progress.proofs.AllWaits.{AreBlocks, Catalogue, Change, D, Deliver, EndsAnEvent, Era, Hand, Input, Int, IsAnsweredIn, IsAppliedIn, IsEra, IsFree, IsFreeClass, IsRejectedAfter, IsSimpleCycle, IsSoundCatalogue, IsTable, Joins, List, Log, Msg, P1, Put, Query, Read, Some, Step, Submit, T, Txn, Use, Vertical, Write, [], arith, class_no, dm_no, extended, frag_no, inl, lit≤, local_of, negsuc, one_at_most, pos, queue, refl, rel_no, setting_of, slice_get, subst, suc, sym, take, time_at, tm_no, txn_no, ℕ, ◌++◌, ◌==◌, ◌∙◌, ◌∷◌, ◌≡◌, ◌⊎◌}
use Rattle.sdd_obligations.specs.catalog.Rules.{faults_of}
use Rattle.sdd_progress.proofs.OfLawful.{answered_by_end, answered_or_rejected, applied_by_end, idle_starts}
use Rattle.sdd_progress.proofs.WorkedLogs.{made_lawful}
use Rattle.sdd_obligations.specs.catalog.declared.parts.Kind.TheVariants as kinds
use Rattle.sdd_obligations.specs.protocol.declared.entry.Entry as line

-- what is given: one class, which reads and writes the one fragment

abbrev alone : Catalogue
alone = record {
  tms = 1;
  dms = 1;
  relations =
      (record { name = 105 ∷ []; columns = (record { name = 107 ∷ []; kind = kinds.Int }) ∷ (record { name = 118 ∷ []; kind = kinds.Int }) ∷ []; key = 1 })
      ∷ [];
  fragments = (record { name = 97 ∷ []; rel = rel_no 1; least = negsuc 9223372036854775807; greatest = pos 9223372036854775807; copies = dm_no 1 ∷ [] }) ∷ [];
  classes = (record { name = 112 ∷ []; tm = tm_no 1; reads = (record { fragment = frag_no 1; at = dm_no 1 }) ∷ []; writes = frag_no 1 ∷ [] }) ∷ [];
}

abbrev table : List line.Entry
table = (record { edge = Vertical (class_no 1); block = 0; protocol = P1 }) ∷ []

abbrev current_era : Era
current_era = record { catalogue = alone; table = table }

abbrev query : Txn
query = record { name = []; tm = tm_no 1; statements = Query ((record { part = 1; column = 2 }) ∷ []) (rel_no 1 ∷ []) [] ∷ [] }

abbrev put : Txn
put = record { name = []; tm = tm_no 1; statements = Put (rel_no 1) (Int (pos 1) ∷ Int (pos 1) ∷ []) ∷ [] }

abbrev given_by : Txn → Input
given_by txn =
    record { catalogue = alone; eras = current_era ∷ []; rows = [] ∷ []; txns = txn ∷ []; events = Submit (txn_no 1) ∷ Deliver (T (tm_no 1)) (D (dm_no 1)) 1 ∷ [] }

sound : IsSoundCatalogue alone
unfolding faults_of
sound = record { valid = refl; same = refl }

-- one edge makes no simple cycle

abbrev one_edge : List (ℕ × ℕ)
one_edge = (0, 1) ∷ []

only_edge : (k a b : ℕ) → Joins one_edge k a b → k ≡ 0
only_edge k a b h4 = grind (arith)

no_simple_cycle : (start : ℕ) (steps : List Step) → IsSimpleCycle one_edge start steps → ⊥
no_simple_cycle start (s ∷ t ∷ steps) c = c.edges_differ.0 (inl (only_edge t.edge s.to t.to c.closed.1.0 ∙ sym (only_edge s.edge start s.to c.closed.0)))
no_simple_cycle start _ c = let l = c.long in omega arith

number_zero : (k b : ℕ) → slice_get (0 ∷ []) k ≡ Some b → b ≡ 0
number_zero k b e = grind arith

blocks : AreBlocks one_edge (0 ∷ [])
blocks = record {
  one_each = refl;
  none = λ k e c. (no_simple_cycle c.start c.steps c.cycle);
  some = λ k b e. let z = number_zero k (suc b) e in cc;
  same = λ j k a b e f n. absurd (n (number_zero j a e));
  in_order = λ k b e. let z = number_zero k (suc (suc b)) e in cc;
}

tabled : IsTable alone table
tabled = grind (arith, blocks, table)

free_alone : IsFree alone 1
free_alone = record { on_none = λ k e there at c. (no_simple_cycle c.start c.steps c.cycle) }

the_era : (P : Era → Type 0) (k : ℕ) (f : Era) → slice_get (current_era ∷ []) k ≡ Some f → P current_era → P f
the_era P k f e h = grind (arith, current_era)

free : (txn : Txn) → IsFreeClass (given_by txn) 1
free txn = record {
  class = record { from = lit≤ tt; to = lit≤ tt };
  tabled = λ k f e. the_era IsEra k f e (record { table = tabled });
  free = λ k f e. the_era (λ x. IsFree x.catalogue 1) k f e free_alone;
}

ends : (txn : Txn) (log : Log) → log ≡ extended 7 (given_by txn) [] → EndsAnEvent (given_by txn) (extended 7 (given_by txn) []) → EndsAnEvent (given_by txn) log
ends txn log e h = subst (EndsAnEvent (given_by txn)) (sym e) h

-- the query

abbrev of_query : List Use
of_query = (record { number = 1; rel = rel_no 1; frags = frag_no 1 ∷ []; restrictions = [] }) ∷ []

abbrev asked : Input
asked = given_by query

abbrev read : Msg
read = Read (time_at 65) (class_no 1) (txn_no 1) 1 [] of_query

pub worked_answer : IsAnsweredIn (dm_no 1) 1 (txn_no 1) 1 (take 2 (extended 7 asked []))
worked_answer =
    answered_by_end asked 1 (dm_no 1) (T (tm_no 1)) 1 (take 2 (extended 7 asked [])) (extended 4 asked []) (time_at 65) (class_no 1) (txn_no 1) 1 [] of_query
    (free query) (lit≤ tt) (lit≤ tt) refl
    (ends query (take 2 (extended 7 asked []) ++ Hand (T (tm_no 1)) (D (dm_no 1)) 1 read ∷ extended 4 asked []) refl (record { sound = sound; once = λ n. (let h = one_at_most (1 == n) in omega arith); lawful = made_lawful 7 asked [] tt; over = refl }))

-- at once, since it doesn't wait and isn't spoilt
pub worked_judged : IsAnsweredIn (dm_no 1) 1 (txn_no 1) 1 (take 1 (extended 7 asked [])) ⊎ IsRejectedAfter asked (extended 6 asked []) (dm_no 1) 1
    (txn_no 1) 1 [] (take 1 (extended 7 asked []))
worked_judged =
    answered_or_rejected asked (dm_no 1) 1 (take 1 (extended 7 asked [])) (extended 6 asked []) (time_at 65) (class_no 1) (txn_no 1) 1 [] of_query
    (ends query (take 1 (extended 7 asked []) ++ extended 6 asked []) refl (record { sound = sound; once = λ n. (let h = one_at_most (1 == n) in omega arith); lawful = made_lawful 7 asked [] tt; over = refl })) (lit≤ tt) (lit≤ tt) (lit≤ tt) refl refl refl refl

-- the put

abbrev putting : Input
putting = given_by put

abbrev row_put : List Change
row_put = (record { frag = frag_no 1; key = pos 1; row = Some (Int (pos 1) ∷ Int (pos 1) ∷ []) }) ∷ []

pub worked_apply : IsAppliedIn (dm_no 1) 1 (txn_no 1) (time_at 65) (take 1 (extended 7 putting []))
worked_apply =
    applied_by_end putting 1 (dm_no 1) (T (tm_no 1)) 1 (take 1 (extended 7 putting [])) (extended 5 putting []) (time_at 65) (class_no 1) (txn_no 1) row_put
    (free put) (lit≤ tt) (lit≤ tt) refl
    (ends put (take 1 (extended 7 putting []) ++ Hand (T (tm_no 1)) (D (dm_no 1)) 1 (Write (time_at 65) (class_no 1) (txn_no 1) row_put) ∷ extended 5 putting []) refl (record { sound = sound; once = λ n. (let h = one_at_most (1 == n) in omega arith); lawful = made_lawful 7 putting [] tt; over = refl }))

-- the class is idle then, and nothing is queued
pub worked_idle : queue (setting_of putting (T (tm_no 1))) 1 (local_of putting (T (tm_no 1)) (extended 7 putting [])) ≡ []
worked_idle = idle_starts putting 1 (extended 7 putting []) (record { sound = sound; once = λ n. (let h = one_at_most (1 == n) in omega arith); lawful = made_lawful 7 putting [] tt; over = refl }) (record { from = lit≤ tt; to = lit≤ tt }) refl refl refl
