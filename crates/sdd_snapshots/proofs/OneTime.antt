-- A run under snapshot isolation keeps the facts of committed transactions, and P2 for every reader.
use Rattle.sdd_snapshots.proofs.All.{Declared, Edge, Facts, HasBarriers, HasSessions, IsDiagonal, List, SnapshotRun, Waits, ap, arith, declared, false, inl, inr, lt-ltb, ltb-true, refl, slice_index, system_of, true, ℕ, ◌-◌, ◌<◌, ◌==◌, ◌≡◌, ◌≢◌, ◌≤◌, ◌⊎◌}

module _ (r : SnapshotRun) (s : HasSessions r) where
  abbrev T : Type 0
  T = Declared (system_of r)

  -- of one class the one that ends first has ended when the other begins
  apart : (x y : T) → r.class x.txn.no ≡ r.class y.txn.no → r.end x.txn.no < r.end y.txn.no → r.end x.txn.no < r.begin y.txn.no
  apart x y same less =
      elim (s.in_turn x.txn.no y.txn.no x.txn.is y.txn.is same (λ e. let z = ap r.end e in absurd (omega arith))) [
        | inl l ↦ l
        | inr l ↦ (let f = s.forward x.txn.no x.txn.is in let h = s.forward y.txn.no y.txn.is in absurd (omega arith))
      ]

  same_or_earlier : (x y : T) → r.end x.txn.no ≤ r.end y.txn.no → (x.txn.no ≡ y.txn.no) ⊎ (r.end x.txn.no < r.end y.txn.no)
  same_or_earlier x y le =
      elim (r.end x.txn.no == r.end y.txn.no) as (λ b. (r.end x.txn.no == r.end y.txn.no) ≡ b → (x.txn.no ≡ y.txn.no) ⊎ (r.end x.txn.no < r.end y.txn.no)) [
        | true ↦ λ e. inl (s.one_end x.txn.no y.txn.no x.txn.is y.txn.is (grind (arith)))
        | false ↦ λ e. inr (grind (arith))
      ] refl

  pub facts : Facts (declared (system_of r))
  facts =
      record {
        one_time = λ x y e. s.one_end x.txn.no y.txn.no x.txn.is y.txn.is e;
        own_earlier = λ x y f same less c d. lt-ltb (r.end x.txn.no) (r.begin y.txn.no) (apart x y same less);
        own_later = λ x y f same le d seen.
            let l = ltb-true (r.end x.txn.no) (r.begin y.txn.no) seen in
            let h = s.forward y.txn.no y.txn.is in absurd (omega arith);
        writers_below = λ x z y f below c d seen.
            let l = ltb-true (r.end z.txn.no) (r.begin y.txn.no) seen in
            let t = below.time in
            lt-ltb (r.end x.txn.no) (r.begin y.txn.no) (omega arith);
        readers_above = λ x y z f below d e seen.
            let l = ltb-true (r.end x.txn.no) (r.begin y.txn.no) seen in
            lt-ltb (r.end x.txn.no) (r.begin z.txn.no)
            (elim (same_or_earlier y z below.time) [
              | inl same ↦ (let b = ap r.begin same in omega arith)
              | inr less ↦ (let a = apart y z below.class less in let h = s.forward y.txn.no y.txn.is in omega arith)
            ]);
      }

  module _ (graph : List Edge) (blocks : List ℕ)
      (none : (y : T) (k j f : ℕ) → IsDiagonal graph k (r.class y.txn.no) j f → slice_index blocks k ≢ 0
      → (slice_index blocks (r.class y.txn.no - 1) == slice_index blocks k) ≡ false) where
    -- each reader waits for the time of P2: it sees those that ended before it began
    pub waits : Waits (declared (system_of r)) graph blocks
    waits =
        record {
          split = λ x y f k differ d c diagonal block.
              let own = none y k (r.class x.txn.no) f diagonal block in
              rw own ((λ seen. ltb-true (r.end x.txn.no) (r.begin y.txn.no) seen), (λ l. lt-ltb (r.end x.txn.no) (r.begin y.txn.no) l));
          rises = λ x y same le.
              elim (same_or_earlier x y le) [
                | inl e ↦ (let b = ap r.begin e in omega arith)
                | inr less ↦ (let a = apart x y same less in let f = s.forward x.txn.no x.txn.is in omega arith)
              ];
        }

  -- none is undeclared
  pub no_barriers : HasBarriers (system_of r)
  no_barriers = record { barrier = λ u x y zero a b p. let c = s.of_class u.no u.is in absurd (omega arith) }
