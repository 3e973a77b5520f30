-- A READ of a free class has no conditions, and no condition of another declared class names it.
use Rattle.sdd_progress.proofs.AllWaits.{ClassNo, Cond, DmNo, Era, FragNo, Input, IsDiagonalIn, IsFreeClass, IsFromTable, IsPermitted, List, Log, P1, P2, P3, Protocol, Read, Some, Ts, TxnNo, Use, [], all_of, ap, arith, inl, inr, nth_era, pipe_at, refl, slice_get, slice_index_or, subst, suc, zero, ℕ, ◌∷◌, ◌≡◌, ◌≢◌}
use Rattle.sdd_progress.proofs.FreeBlocks.{none_from, none_to}
use Rattle.sdd_progress.proofs.FromTable.{conditions_of}

third_not : {A : Type 0} → P3 ≡ P1 → A
third_not e = cc

second_not : {A : Type 0} → P2 ≡ P1 → A
second_not e = cc

-- a class list that is given, or none
pub data IsListed (g : Input) (f : Era) : Type 0 where
  given : (k : ℕ) → slice_get g.eras k ≡ Some f → IsListed g f
  no_table : f.table ≡ [] → IsListed g f

listed_in : (g : Input) (fs : List Era) (k : ℕ) (f0 : Era) → ((j : ℕ) (f : Era) → slice_get fs j ≡ Some f → (n : ℕ) × (slice_get g.eras n ≡ Some f))
    → f0.table ≡ [] → IsListed g (slice_index_or fs k f0)
listed_in g [] k f0 h e = no_table e
listed_in g (f ∷ fs) zero f0 h e = let i = h 0 f refl in given i.0 i.1
listed_in g (f ∷ fs) (suc k) f0 h e = listed_in g fs k f0 (λ j x p. h (suc j) x p) e

pub listed : (g : Input) (k : ℕ) → IsListed g (nth_era g k)
listed g k = listed_in g g.eras k (record { catalogue = g.catalogue; table = [] }) (λ j f e. (j, e)) refl

no_diagonal_from : (g : Input) (i : ℕ) (x : Era) (p : Protocol) (j : ℕ) (f : FragNo) → IsFreeClass g i → IsListed g x → IsDiagonalIn x.table p i j f → p ≡ P1
no_diagonal_from g i x p j f free (given k h) d = none_from x.catalogue x.table p i j f (free.tabled k x h).table (free.free k x h) d
no_diagonal_from g i x p j f free (no_table e) d =
    (let h : slice_get [] d.place ≡ Some d.entry = subst (λ t. slice_get t d.place ≡ Some d.entry) e d.there in cc)

no_diagonal_to : (g : Input) (i : ℕ) (x : Era) (p : Protocol) (c : ℕ) (f : FragNo) → IsFreeClass g i → IsListed g x → IsDiagonalIn x.table p c i f → p ≡ P1
no_diagonal_to g i x p c f free (given k h) d = none_to x.catalogue x.table p c i f (free.tabled k x h).table (free.free k x h) d
no_diagonal_to g i x p c f free (no_table e) d = (let h : slice_get [] d.place ≡ Some d.entry = subst (λ t. slice_get t d.place ≡ Some d.entry) e d.there in cc)

none_by : (g : Input) (i : ℕ) (x : Era) (own p2 : ℕ) (q : Cond) → IsFreeClass g i → IsListed g x → IsFromTable x.table i own p2 q → ⊥
none_by g i x own p2 q free l t =
    let h = (ap (λ l. slice_get l 0) t.names) in
    elim t.by [
      | inl b ↦ third_not (no_diagonal_from g i x P3 q.class.0 t.first free l (b.1 0 t.first h))
      | inr b ↦ second_not (no_diagonal_from g i x P2 q.class.0 t.first free l (b.1 0 t.first h))
    ]

none_on : (g : Input) (i : ℕ) (x : Era) (c own p2 : ℕ) (q : Cond) → IsFreeClass g i → IsListed g x → IsFromTable x.table c own p2 q → q.class.0 ≡ i → ⊥
none_on g i x c own p2 q free l t e =
    let h = (ap (λ l. slice_get l 0) t.names) in
    elim t.by [
      | inl b ↦ third_not (no_diagonal_to g i x P3 c t.first free l (subst (λ j. IsDiagonalIn x.table P3 c j t.first) e (b.1 0 t.first h)))
      | inr b ↦ second_not (no_diagonal_to g i x P2 c t.first free l (subst (λ j. IsDiagonalIn x.table P2 c j t.first) e (b.1 0 t.first h)))
    ]

no_members : (ds : List Cond) → ((k : ℕ) (d : Cond) → slice_get ds k ≡ Some d → ⊥) → ds ≡ []
no_members [] f = refl
no_members (d ∷ ds) f = absurd (f 0 d refl)

pub declared : (g : Input) (i : ℕ) → IsFreeClass g i → i ≢ 0
declared g i free z = let l = free.class.from in omega arith

-- a READ of the class
pub unconditional : (g : Input) (log : Log) (i : ℕ) (d : DmNo) (k : ℕ) (ts : Ts) (of : ClassNo) (txn : TxnNo) (attempt : ℕ) (conds : List Cond)
    (uses : List Use)
    → IsPermitted g log → IsFreeClass g i → slice_get (all_of (pipe_at g i d log)) k ≡ Some (Read ts of txn attempt conds uses) → conds ≡ []
unconditional g log i d k ts of txn attempt conds uses h free e =
    let a = conditions_of g log i d k ts of txn attempt conds uses h (declared g i free) e in
    no_members conds (λ n q m. none_by g i (nth_era g _) ts.0 _ q free (listed g _) (a.from_table n q m))

-- a READ of any declared class
pub names_none : (g : Input) (log : Log) (i c : ℕ) (d : DmNo) (k : ℕ) (ts : Ts) (of : ClassNo) (txn : TxnNo) (attempt : ℕ) (conds : List Cond)
    (uses : List Use) (n : ℕ) (q : Cond)
    → IsPermitted g log → IsFreeClass g i → c ≢ 0 → slice_get (all_of (pipe_at g c d log)) k ≡ Some (Read ts of txn attempt conds uses)
    → slice_get conds n ≡ Some q → q.class.0 ≢ i
names_none g log i c d k ts of txn attempt conds uses n q h free nz e m p =
    none_on g i (nth_era g _) c ts.0 _ q free (listed g _) ((conditions_of g log c d k ts of txn attempt conds uses h nz e).from_table n q m) p
