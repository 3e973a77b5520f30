-- Under snapshot isolation with the first committer's rule, a cycle of precedence has a pivot: a run that missed a change of
-- the member of the cycle that ended first, and of whose changes another member missed one.
use Rattle.sdd_robust_laws.proofs.All.{Contains, Contains-cases, Contains-here, Contains-later, Contains-nil, IsOrderly, IsPath, List, arith, cases_lt, inl, inr, length, length-append, path_join, refl, subst, suc, sym, zero, ℕ, [], ◌++◌, ◌+◌, ◌<◌, ◌∙◌, ◌∷◌, ◌≡◌, ◌≢◌, ◌≤◌, ◌⊎◌}

-- runs that ended, by numbers: when each began and ended, which rows it changed, and which cells it may have read or touched
pub record Ended : Type 1 where
  pub Is : ℕ → Type 0
  pub begin : ℕ → ℕ
  pub end : ℕ → ℕ
  pub Item : Type 0
  pub Changes : ℕ → Item → Type 0
  pub Cell : Type 0
  pub Reads : ℕ → Cell → Type 0
  pub Touches : ℕ → Cell → Type 0

-- each begins before it ends, and of two that change one item the one has ended when the other begins
pub record IsKept (R : Ended) : Type 0 where
  pub forward : (n : ℕ) → R.Is n → R.begin n < R.end n
  pub first_wins : (m n : ℕ) (i : R.Item) → R.Is m → R.Is n → m ≢ n → R.Changes m i → R.Changes n i
      → (R.end m < R.begin n) ⊎ (R.end n < R.begin m)

-- the first has to stand before the second: it changed what the second changed later; or the second read its change; or it
-- read what the second changed, before that
pub data Comes (R : Ended) (m n : ℕ) : Type 0 where
  both_change : (i : R.Item) → R.Is m → R.Is n → R.Changes m i → R.Changes n i → R.end m < R.end n → Comes R m n
  sees : (i : R.Cell) → R.Is m → R.Is n → R.Touches m i → R.Reads n i → R.end m < R.begin n → Comes R m n
  misses : (i : R.Cell) → R.Is m → R.Is n → m ≢ n → R.Reads m i → R.Touches n i → R.begin m ≤ R.end n → Comes R m n

-- two that changed no item both
abbrev pub AreBeside : Ended → ℕ → ℕ → Type 0
AreBeside R m n = (i : R.Item) → R.Changes m i → R.Changes n i → ⊥

-- a path of such as are beside a pivot
pub data Leads (R : Ended) (pivot : ℕ) : ℕ → ℕ → Type 0 where
  ends_at : (c : ℕ) → R.Is c → AreBeside R pivot c → Leads R pivot c c
  goes_on : (c d a : ℕ) → R.Is c → AreBeside R pivot c → Comes R c d → Leads R pivot d a → Leads R pivot c a

pub record HasPivot (R : Ended) : Type 0 where
  pub pivot : ℕ
  pub missed : ℕ
  pub missing : ℕ
  pub is : R.Is pivot
  pub leads : Leads R pivot missed missing
  pub unread : R.Cell
  pub reads : R.Reads pivot unread
  pub was_touched : R.Touches missed unread
  pub cell : R.Cell
  pub touches : R.Touches pivot cell
  pub was_read : R.Reads missing cell

module _ (R : Ended) (kept : IsKept R) where
  abbrev Path : ℕ → List ℕ → ℕ → Type 0
  Path = IsPath (Comes R)

  first_is : (m n : ℕ) → Comes R m n → R.Is m
  first_is m n (both_change i a b c d l) = a
  first_is m n (sees i a b c d l) = a
  first_is m n (misses i a b o c d l) = a

  second_is : (m n : ℕ) → Comes R m n → R.Is n
  second_is m n (both_change i a b c d l) = b
  second_is m n (sees i a b c d l) = b
  second_is m n (misses i a b o c d l) = b

  not_itself : (m n : ℕ) → Comes R m n → m ≡ n → ⊥
  not_itself m n (both_change i a b c d l) e = let same : R.end m ≡ R.end n = subst (λ z. R.end m ≡ R.end z) e refl in omega arith
  not_itself m n (sees i a b c d l) e =
      let same : R.end m ≡ R.end n = subst (λ z. R.end m ≡ R.end z) e refl in
      let f = kept.forward n b in omega arith
  not_itself m n (misses i a b o c d l) e = o e

  path_begins : (x : ℕ) (m : List ℕ) (y : ℕ) → Path x m y → R.Is x
  path_begins x [] y p = first_is x y p
  path_begins x (z ∷ m) y p = first_is x z p.0

  -- a path parted at a member
  record Parts (x : ℕ) (m : List ℕ) (y z : ℕ) : Type 0 where
    before : List ℕ
    after : List ℕ
    to : Path x before z
    from : Path z after y
    count : suc (length before + length after) ≡ length m

  parted : (x : ℕ) (m : List ℕ) (y z : ℕ) → Path x m y → Contains m z → Parts x m y z
  parted x [] y z p h = absurd (Contains-nil z h)
  parted x (w ∷ m) y z p h =
      elim (Contains-cases w m z h) [
        | inl e ↦ record { before = []; after = m; to = subst (Comes R x) (sym e) p.0; from = subst (λ v. Path v m y) (sym e) p.1; count = omega arith }
        | inr k ↦
            let r = parted w m y z p.1 k in
            let c = r.count in
            record { before = w ∷ r.before; after = r.after; to = (p.0, r.to); from = r.from; count = omega arith }
      ]

  -- its last step
  record Ending (x : ℕ) (m : List ℕ) (y : ℕ) : Type 0 where
    last : ℕ
    before : List ℕ
    to : Path x before last
    step : Comes R last y
    count : suc (length before) ≡ length m

  ending : (x w : ℕ) (m : List ℕ) (y : ℕ) → Path x (w ∷ m) y → Ending x (w ∷ m) y
  ending x w [] y p = record { last = w; before = []; to = p.0; step = p.1; count = omega arith }
  ending x w (v ∷ m) y p =
      let r = ending w v m y p.1 in
      let c = r.count in
      record { last = r.last; before = w ∷ r.before; to = (p.0, r.to); step = r.step; count = omega arith }

  -- to the last member before the pivot
  record Led (b c : ℕ) (m : List ℕ) : Type 0 where
    last : ℕ
    member : Contains (c ∷ m) last
    leads : Leads R b c last
    step : Comes R last b

  led : (b c : ℕ) (m : List ℕ) → Path c m b → ((z : ℕ) → Contains (c ∷ m) z → AreBeside R b z) → Led b c m
  led b c [] p beside =
      let here = Contains-here c [] in
      record { last = c; member = here; leads = ends_at c (first_is c b p) (beside c here); step = p }
  led b c (d ∷ m) p beside =
      let r = led b d m p.1 (λ z h. beside z (Contains-later c (d ∷ m) z h)) in
      record {
        last = r.last;
        member = Contains-later c (d ∷ m) r.last r.member;
        leads = goes_on c d r.last (first_is c d p.0) (beside c (Contains-here c (d ∷ m))) p.0 r.leads;
        step = r.step;
      }

  abbrev NoneBelow : ℕ → Type 0
  NoneBelow n = (x : ℕ) (m : List ℕ) → length m < n → ¬ Path x m x

  -- A cycle than which none is shorter, by its step to the member c that ended first, from b.
  module _ (none : ¬ HasPivot R) (b c : ℕ) (m : List ℕ) (path : Path c m b) (step : Comes R b c)
      (shorter : NoneBelow (suc (length m))) (early : (z : ℕ) → Contains (c ∷ m) z → R.end c ≤ R.end z) (early_b : R.end c ≤ R.end b) where
    -- b missed a change of c
    record Missed : Type 0 where
      unread : R.Cell
      reads : R.Reads b unread
      touched : R.Touches c unread
      began : R.begin b ≤ R.end c

    missed_by : Comes R b c → Missed
    missed_by (both_change i p q x y l) = absurd (omega arith)
    missed_by (sees i p q x y l) = let f = kept.forward c q in absurd (omega arith)
    missed_by (misses i p q o x y l) = record { unread = i; reads = x; touched = y; began = l }

    member_is : (m : List ℕ) (c : ℕ) → Path c m b → (z : ℕ) → Contains (c ∷ m) z → R.Is z
    member_is [] c p z h =
        elim (Contains-cases c [] z h) [ inl e ↦ subst R.Is (sym e) (first_is c b p) | inr k ↦ absurd (Contains-nil z k) ]
    member_is (w ∷ m) c p z h =
        elim (Contains-cases c (w ∷ m) z h) [ inl e ↦ subst R.Is (sym e) (first_is c w p.0) | inr k ↦ member_is m w p.1 z k ]

    -- a later member doesn't stand behind b as well, which is no member
    no_shortcut : (z : ℕ) → Contains (c ∷ m) z → R.end b < R.end z → b ≢ z → (i : R.Item) → R.Changes b i → R.Changes z i → ⊥
    no_shortcut z h later other i x y =
        elim (Contains-cases c m z h) [
          | inl e ↦ let same : R.end z ≡ R.end c = subst (λ v. R.end z ≡ R.end v) e refl in omega arith
          | inr k ↦
              let r = parted c m b z path k in
              let count = r.count in
              let is_z = path_begins z r.after b r.from in
              let on : Comes R b z = both_change i (first_is b c step) is_z x y later in
              shorter b (z ∷ r.after) (omega arith) (on, r.from)
        ]

    b_is_none : (z : ℕ) → Contains (c ∷ m) z → b ≡ z → ⊥
    b_is_none z h e =
        elim (Contains-cases c m z h) [
          | inl f ↦ not_itself b c step (e ∙ f)
          | inr k ↦
              let r = parted c m b z path k in
              let count = r.count in
              shorter b r.after (omega arith) (subst (λ v. Path v r.after b) (sym e) r.from)
        ]

    beside : (z : ℕ) → Contains (c ∷ m) z → AreBeside R b z
    beside z h i x y =
        let other : b ≢ z = b_is_none z h in
        let is_z = member_is m c path z h in
        let first = early z h in
        let began = (missed_by step).began in
        elim (kept.first_wins b z i (first_is b c step) is_z other x y) [
          | inl l ↦ let f = kept.forward z is_z in no_shortcut z h (omega arith) other i x y
          | inr l ↦ omega arith
        ]

    pivot_of : (r : Led b c m) → Comes R r.last b → ⊥
    pivot_of r (both_change i p q x y l) = beside r.last r.member i y x
    pivot_of r (sees i p q x y l) =
        let first = early r.last r.member in
        let began = (missed_by step).began in omega arith
    pivot_of r (misses i p q o x y l) =
        let s = missed_by step in
        none (record {
          pivot = b;
          missed = c;
          missing = r.last;
          is = q;
          leads = r.leads;
          unread = s.unread;
          reads = s.reads;
          was_touched = s.touched;
          cell = i;
          touches = y;
          was_read = x;
        })

    no_such : ⊥
    no_such = let r = led b c m path beside in pivot_of r r.step

  module _ (none : ¬ HasPivot R) where
    -- of cycles of one length those of which each member ended at some time or later are considered first
    none_at : (n : ℕ) → NoneBelow n → (k x : ℕ) (m : List ℕ) → length m ≡ n → R.end x < k → ¬ Path x m x
    none_at n shorter zero x m e l p = omega arith
    none_at n shorter (suc k) x [] e l p = not_itself x x p refl
    none_at n shorter (suc k) x (w ∷ m) e l p =
        let r = ending x w m x p in
        let count = r.count in
        let early_last : R.end x ≤ R.end r.last =
        elim (cases_lt (R.end r.last) (R.end x)) [
          | inl h ↦ absurd (none_at n shorter k r.last (x ∷ r.before) (omega arith) (omega arith) (r.step, r.to))
          | inr h ↦ omega arith
        ] in
        let early : (z : ℕ) → Contains (x ∷ r.before) z → R.end x ≤ R.end z =
        λ z h. elim (Contains-cases x r.before z h) [
          | inl f ↦ (let same : R.end z ≡ R.end x = subst (λ v. R.end z ≡ R.end v) f refl in omega arith)
          | inr i ↦ elim (cases_lt (R.end z) (R.end x)) [
            | inl g ↦
                let s = parted x r.before r.last z r.to i in
                let total = s.count in
                let long = length-append s.after (r.last ∷ x ∷ s.before) in
                absurd
                (none_at n shorter k z (s.after ++ r.last ∷ x ∷ s.before) (omega arith) (omega arith)
                (path_join (Comes R) z s.after r.last (x ∷ s.before) z s.from (r.step, s.to)))
            | inr g ↦ omega arith
          ]
        ] in
        no_such none r.last x r.before r.to r.step (subst NoneBelow (omega arith) shorter) early early_last

    none_below : (n : ℕ) → NoneBelow n
    none_below zero x m l p = omega arith
    none_below (suc n) x m l p =
        elim (cases_lt (length m) n) [
          | inl h ↦ none_below n x m h p
          | inr h ↦ none_at n (none_below n) (suc (R.end x)) x m (omega arith) (omega arith) p
        ]

    -- where there is no pivot there is no cycle
    pub no_cycle : IsOrderly (Comes R)
    no_cycle x m p = none_below (suc (length m)) x m (omega arith) p
