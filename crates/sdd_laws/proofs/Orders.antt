-- A serial order of a history agrees with what its transactions did.
use Rattle.sdd_laws.proofs.All.{All, AreEras, Catalogue, Change, Committed, Contains, Contains-cases, Contains-here, Contains-later, Contains-nil, Eras, FitsTxn, History, IsCommitted, IsSerial, IsSoundCatalogue, KeepsAnswers, KeepsApplies, KeepsStarts, List, MayComeFirst, PutsHeld, Reads, RelNo, Row, Txn, TxnNo, [], and_of, ap, arith, both_write, cases_Bool, changes, committed, eqb-true, false, fragments_in, from_committed, in_committed, inl, inr, is_overwritten, is_read_by, list_any, member_passes, misses, module_of, nat_lt, nat_tests, not, passes_member, precedes, reads_write, subst, sym, true, txn_no, was_seen, writes_read, ℕ, ◌&&◌, ◌==◌, ◌∙◌, ◌∷◌, ◌≡◌, ◌≢◌}
use Rattle.sdd_laws.proofs.NumberedStarts.{one_start}
use Rattle.sdd_laws.proofs.Deeds.{same_txn}
use Rattle.sdd_laws.proofs.Precedes.{changes_member}
use Rattle.sdd_laws.proofs.Recorded.{ledger, reads_by_start}
use Rattle.sdd_order.specs.Orders.{IsAlong}
use Rattle.sdd_laws.specs.Order as agreeing

-- two different ones, of which the second doesn't precede the first

module _ (cat : Catalogue) (h : History) (x y : Committed) (other : y.start.txn ≢ x.start.txn) (behind : precedes cat h y x ≡ false) where
  not_overwritten : is_overwritten y x ≡ true → ⊥
  not_overwritten e = grind arith

  not_missed : misses cat h y x ≡ true → ⊥
  not_missed e = grind arith

  not_read : is_read_by cat h y x ≡ true → ⊥
  not_read e = grind arith

  -- so the first may stand before the second

  writes_in_order : (c d : Change) → Contains x.changes c → Contains y.changes d → c.frag.0 ≡ d.frag.0
      → (x.start.ts ≡ y.start.ts → ⊥) → nat_lt x.start.ts y.start.ts ≡ true
  writes_in_order c d m n same apart =
      elim (cases_Bool (nat_lt x.start.ts y.start.ts)) [
        | inl less ↦ less
        | inr not_less ↦ elim (cases_Bool (nat_lt y.start.ts x.start.ts)) [
          | inl more ↦
              let changed : changes x d.frag.0 ≡ true = subst (λ g. changes x g ≡ true) same (changes_member x c m) in
              absurd
              (not_overwritten
              (and_of (list_any (λ (e : Change). changes x e.frag.0) y.changes) (nat_lt y.start.ts x.start.ts)
              (passes_member (λ (e : Change). changes x e.frag.0) y.changes d n changed) more))
          | inr not_more ↦ absurd (apart (grind (arith, nat_tests)))
        ]
      ]

  read_sees : (f : ℕ) → changes x f ≡ true → Contains (fragments_in y.start.uses) f
      → was_seen h x (module_of cat y.start.class f) y ≡ true
  read_sees f c m =
      elim (cases_Bool (was_seen h x (module_of cat y.start.class f) y)) [
        | inl seen ↦ seen
        | inr unseen ↦
            absurd
            (not_missed
            (passes_member (λ f. changes x f && not (was_seen h x (module_of cat y.start.class f) y))
            (fragments_in y.start.uses) f m
            (and_of (changes x f) (not (was_seen h x (module_of cat y.start.class f) y)) c (ap not unseen))))
      ]

  read_misses : (f : ℕ) → changes y f ≡ true → Contains (fragments_in x.start.uses) f
      → not (was_seen h y (module_of cat x.start.class f) x) ≡ true
  read_misses f c m =
      elim (cases_Bool (was_seen h y (module_of cat x.start.class f) x)) [
        | inl seen ↦
            absurd
            (not_read
            (passes_member (λ f. changes y f && was_seen h y (module_of cat x.start.class f) x)
            (fragments_in x.start.uses) f m
            (and_of (changes y f) (was_seen h y (module_of cat x.start.class f) x) c seen)))
        | inr unseen ↦ ap not unseen
      ]

-- the transactions of an order

module _ (h : History) where
  abbrev pub OfEach : List TxnNo → Type 0
  OfEach order = (n : TxnNo) → Contains order n → (t : Committed) × IsCommitted h t × (t.start.txn ≡ n.0)

  abbrev pub rest_of : (n : TxnNo) (rest : List TxnNo) → OfEach (n ∷ rest) → OfEach rest
  rest_of n rest of = λ m k. of m (Contains-later n rest m k)

  abbrev pub listed : (order : List TxnNo) → OfEach order → List Committed
  listed [] of = []
  listed (n ∷ rest) of = (of n (Contains-here n rest)).0 ∷ listed rest (rest_of n rest of)

  pub in_listed : (order : List TxnNo) (of : OfEach order) (n : TxnNo) → Contains order n
      → (t : Committed) × Contains (listed order of) t × IsCommitted h t × (t.start.txn ≡ n.0)
  in_listed [] of n m = absurd (Contains-nil n m)
  in_listed (k ∷ rest) of n m =
      elim (Contains-cases k rest n m) as (λ s. (t : Committed) × Contains (listed (k ∷ rest) of) t × IsCommitted h t × (t.start.txn ≡ n.0)) [
        | inl e ↦
            let t = of k (Contains-here k rest) in
            (t.0, Contains-here t.0 (listed rest (rest_of k rest of)), t.1, t.2 ∙ ap (λ (z : TxnNo). z.0) (sym e))
        | inr later ↦
            let r = in_listed rest (rest_of k rest of) n later in
            (r.0, Contains-later (of k (Contains-here k rest)).0 (listed rest (rest_of k rest of)) r.0 r.1, r.2, r.3)
      ]

  pub from_listed : (order : List TxnNo) (of : OfEach order) (t : Committed) → Contains (listed order of) t
      → IsCommitted h t × Contains order (txn_no t.start.txn)
  from_listed [] of t m = absurd (Contains-nil t m)
  from_listed (k ∷ rest) of t m =
      elim (Contains-cases (of k (Contains-here k rest)).0 (listed rest (rest_of k rest of)) t m) as (λ s.
      IsCommitted h t × Contains (k ∷ rest) (txn_no t.start.txn)) [
        | inl e ↦
            let u = of k (Contains-here k rest) in
            let number : k ≡ txn_no t.start.txn = ap txn_no (sym u.2 ∙ ap (λ (z : Committed). z.start.txn) (sym e)) in
            (subst (IsCommitted h) (sym e) u.1, subst (Contains (k ∷ rest)) number (Contains-here k rest))
        | inr later ↦
            let r = from_listed rest (rest_of k rest of) t later in
            (r.0, Contains-later k rest (txn_no t.start.txn) r.1)
      ]

module _ (cat : Catalogue) (sound : IsSoundCatalogue cat) (eras : Eras) (are : AreEras cat eras) (rows : List (RelNo × Row)) (txns : List Txn) (h : History)
    (fit : All (FitsTxn cat) txns) (held : All (λ (t : Txn). All PutsHeld t.statements) txns)
    (starting : KeepsStarts cat eras txns h) (answering : KeepsAnswers cat rows txns h)
    (applying : KeepsApplies cat h)
  where
    -- a fragment that a transaction reads by its text is one of its Start's uses
    used : (t : Committed) → IsCommitted h t → (f : ℕ) → Reads cat (ledger cat txns h) t f
        → Contains (fragments_in t.start.uses) f
    used t c f r =
        let m =
        member_passes (λ x. x == f) (fragments_in t.start.uses)
        (reads_by_start cat sound eras are rows txns h fit held starting answering applying t c f r) in
        subst (Contains (fragments_in t.start.uses)) (eqb-true m.0 f m.2) m.1

    apart : (t u : Committed) → IsCommitted h t → IsCommitted h u → u.start.txn ≢ t.start.txn
        → t.start.ts ≡ u.start.ts → ⊥
    apart t u c b other e = grind arith

    may_join : (x y : Committed) → IsCommitted h x → IsCommitted h y → y.start.txn ≢ x.start.txn
        → precedes cat h y x ≡ false → MayComeFirst cat (ledger cat txns h) x y
    may_join x y a b other behind m (both_write c d p q same) =
        writes_in_order cat h x y other behind c d p q same (λ e. apart x y a b other e)
    may_join x y a b other behind m (writes_read c p r) =
        read_sees cat h x y other behind c.frag.0 (changes_member x c p) (used y b c.frag.0 r)
    may_join x y a b other behind m (reads_write c p r) =
        read_misses cat h x y other behind c.frag.0 (changes_member y c p) (used x a c.frag.0 r)

    along_listed : (order : List TxnNo) (of : OfEach h order) → IsAlong cat h order
        → agreeing.IsAlong cat (ledger cat txns h) (listed h order of)
    along_listed [] of along = tt
    along_listed (n ∷ rest) of along =
        let x = of n (Contains-here n rest) in (
          (λ y m.
              let r = from_listed h rest (rest_of h n rest of) y m in
              let other : y.start.txn ≢ (x.0).start.txn = λ e. along.0.other (txn_no y.start.txn) r.1 (e ∙ x.2) in
              may_join x.0 y x.1 r.0 other (along.0.first x.0 y x.1 r.0 x.2 r.1)),
          along_listed rest (rest_of h n rest of) along.1,
        )

    pub agrees : (order : List TxnNo) (serial : IsSerial cat h order)
        → agreeing.IsOrder cat (ledger cat txns h) (committed h) (listed h order serial.committed)
    agrees order serial =
        record {
          same = λ t. (
            (λ m.
                let c = from_committed h t m in
                let r = in_listed h order serial.committed (txn_no t.start.txn) (serial.whole t c) in
                subst (Contains (listed h order serial.committed))
                (same_txn cat sound eras are rows txns h starting answering applying r.0 t r.2 c r.3) r.1),
            (λ m. in_committed h (one_start h starting.numbered) t (from_listed h order serial.committed t m).0),
          );
          along = along_listed order serial.committed serial.along;
        }
