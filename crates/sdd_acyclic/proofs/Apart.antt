-- No cycle of precedence, where what one era submits is done before what a later one submits starts.
use Rattle.sdd_acyclic.proofs.All.{Applies, Catalogue, Declared, Deeds, Entry, ErasApart, FitsSystem, FragNo, HasBarriers, IsOrderly, IsTable, List, Meets, Precedes, Ranked, Starts, Touches, Txn, ZeroAlone, arith, blocks_of, by_class, by_seen, by_unseen, by_writes, cases_lt, conflict_graph, declared, inl, inr, of_era, path_as, system, ℕ, ◌<◌, ◌≡◌, ◌≤◌}
use Rattle.sdd_acyclic.proofs.Barriers.{orderly_with_barriers}
use Rattle.sdd_acyclic.proofs.ByRank.{orderly_by_rank}
use Rattle.sdd_acyclic.proofs.Covers.{covers}
use Rattle.sdd_acyclic.proofs.Deeds.{facts, bounds_rise, barriers}
use Rattle.sdd_acyclic.proofs.Orderly.{orderly}
use Rattle.sdd_acyclic.proofs.Over.{precedes_over, precedes_from_over, facts_over}
use Rattle.sdd_acyclic.proofs.EachTable.{each_table}
use Rattle.sdd_acyclic.proofs.Splits.{waits}

module _ {K : Type 0} (D : Deeds K) (starts : Starts D) (applies : Applies D) (era : K → ℕ) (apart : ErasApart D era) where
  -- what a later era submits doesn't precede what an earlier one did
  never_back : (x y : Txn D) → era x.no < era y.no → ¬ Precedes (system D) y x
  never_back x y l (by_class n e t) = let s = apart.time x y l in omega arith
  never_back x y l (by_writes n f a b t) = let s = apart.time x y l in omega arith
  never_back x y l (by_unseen n f r w unseen) =
      let d = D.dm (D.class y.no) f in
      let answer = starts.answered y f r in
      let touches : Touches D x.no d = record { fragment = f; changes = w; copy = starts.copied y f r } in
      let applied = apart.applies x y d l touches in
      let before = applied.before in
      grind arith
  never_back x y l (by_seen n f w r seen) = grind arith

  era_rises : (x y : Txn D) → Precedes (system D) x y → era x.no ≤ era y.no
  era_rises x y p = elim (cases_lt (era y.no) (era x.no)) [ inl l ↦ absurd (never_back y x l p) | inr l ↦ l ]

  module _ (zero : ZeroAlone D) (cat : Catalogue) (catalogue_of : ℕ → Catalogue) (frags : K → List FragNo)
      (fits : (n : ℕ) → FitsSystem (catalogue_of n) (declared (of_era D era n)))
      (meets : (n : ℕ) (entries : List Entry) → IsTable (catalogue_of n) entries → Meets cat entries (declared (of_era D era n)) (λ x. frags x.txn.item.no))
    where
      -- the transactions of one era have no cycle
      of_one_era : (n : ℕ) → IsOrderly (λ (a b : Ranked (λ (x : Txn D). era x.no) n). Precedes (system D) a.item b.item)
      of_one_era n x m p =
          let t = each_table (catalogue_of n) in
          let S = of_era D era n in
          let is_facts = facts_over (λ r. r.txn) S (facts_over (λ r. r.item) (system D) (facts D starts applies)) in
          let rises : (a b : Declared S) → S.class a.txn ≡ S.class b.txn → S.ts a.txn ≤ S.ts b.txn → S.p2 a.txn ≤ S.p2 b.txn =
          λ a b c l. bounds_rise D starts applies a.txn.item b.txn.item c a.class l in
          let is_declared : IsOrderly (Precedes (declared S)) =
          orderly (declared S) (conflict_graph (catalogue_of n)) is_facts (covers (catalogue_of n) (declared S) (fits n)) (blocks_of t.0) t.1.blocks
          (waits (catalogue_of n) t.0 t.1 cat (declared S) (fits n) (λ a. frags a.txn.item.no) (meets n t.0 t.1) rises) in
          let is_barriers : HasBarriers S =
          record {
            barrier = λ u a b c l h q.
                (barriers D starts applies zero).barrier u.item a.item b.item c l h (precedes_from_over (λ r. r.item) (system D) b a q);
          } in
          orderly_with_barriers S is_barriers is_declared x m
          (path_as (λ a b. Precedes (system D) a.item b.item) (Precedes S) (λ a b. precedes_over (λ r. r.item) (system D) a b) x m x p)

      pub orderly_in_eras : IsOrderly (Precedes (system D))
      orderly_in_eras = orderly_by_rank (Precedes (system D)) (λ x. era x.no) era_rises of_one_era
