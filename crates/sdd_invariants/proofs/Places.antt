-- Two places of one log; and a class that is idle stays so until it records something.
use Rattle.sdd_invariants.proofs.All.{Attempt, Entry, List, Log, Msg, NoRecord, None, Option, Setting, Site, Some, [], active, active_handed, active_sent, ap, arith, false, inl, inr, is_recorded, length, length-append, refl, subst, sym, ℕ, ◌++◌, ◌<◌, ◌∙◌, ◌∷◌, ◌≡◌, ◌⊎◌}

abbrev pub AreSame : {A : Type 0} → A → A → List A → List A → Type 0
AreSame x y b1 b2 = (b1 ≡ b2) × (x ≡ y)

-- the place x ∷ b1 is after y ∷ b2
pub record IsBehind {A : Type 0} (x y : A) (l1 l2 b1 b2 : List A) : Type 0 where
  pub between : List A
  pub is : b2 ≡ between ++ x ∷ b1
  pub front : l1 ≡ l2 ++ y ∷ between

pub compare : {A : Type 0} (l1 l2 : List A) (x y : A) (b1 b2 : List A) → l1 ++ x ∷ b1 ≡ l2 ++ y ∷ b2
    → AreSame x y b1 b2 ⊎ (IsBehind x y l1 l2 b1 b2 ⊎ IsBehind y x l2 l1 b2 b1)
compare [] [] x y b1 b2 e = inl (cc, cc)
compare [] (v ∷ l2) x y b1 b2 e = grind arith
compare (u ∷ l1) [] x y b1 b2 e =
    let p : u ≡ y = cc in let q : l1 ++ x ∷ b1 ≡ b2 = cc in
    inr (inl (record { between = l1; is = sym q; front = ap (λ z. z ∷ l1) p }))
compare (u ∷ l1) (v ∷ l2) x y b1 b2 e =
    let p : u ≡ v = cc in let q : l1 ++ x ∷ b1 ≡ l2 ++ y ∷ b2 = cc in
    elim (compare l1 l2 x y b1 b2 q) [
      | inl r ↦ inl r
      | inr r ↦ grind arith
    ]

pub longer : {A : Type 0} (z : List A) (x : A) (b : List A) → length b < length (z ++ x ∷ b)
longer z x b = omega (arith, length-append z (x ∷ b))

pub none_handed : (c : ℕ) (from : Site) (m : Msg) (o : Option Attempt) → o ≡ None → active_handed c from m o ≡ None
none_handed c from m o e = grind arith

pub none_sent : (c : ℕ) (m : Msg) (o : Option Attempt) → o ≡ None → active_sent c m o ≡ None
none_sent c m o e = rw e refl

pub idle_stays : (s : Setting) (c : ℕ) (later log : Log) → NoRecord c later → active s c log ≡ None → active s c (later ++ log) ≡ None
idle_stays s c [] log h e = e
idle_stays s c (entry ∷ later) log h e = grind (arith, none_handed, active, none_sent, (idle_stays s c later log h.1 e))

none_in : (c : ℕ) (z : Log) (y : Entry) (w : Log) → NoRecord c (z ++ y ∷ w) → NoRecord c z × (is_recorded c y ≡ false)
none_in c [] y w h = (tt, h.0)
none_in c (x ∷ z) y w h = let i = none_in c z y w h.1 in ((h.0, i.0), i.1)

none_front : (c : ℕ) (z : Log) (y : Entry) → NoRecord c z → is_recorded c y ≡ false → NoRecord c (z ++ y ∷ [])
none_front c [] y h e = (e, tt)
none_front c (x ∷ z) y h e = (h.0, none_front c z y h.1 e)

one_front : (z : Log) (y : Entry) (b : Log) → (z ++ y ∷ []) ++ b ≡ z ++ y ∷ b
one_front [] y b = refl
one_front (x ∷ z) y b = ap (λ l. x ∷ l) (one_front z y b)

-- where the class is idle after the Start of an attempt, that attempt's Commit, if it comes anywhere, stands before
pub committed_by : (s : Setting) (c : ℕ) (l2 l3 later b1 b2 b3 z : Log) (a : Attempt) (start commit y : Entry)
    → l3 ++ commit ∷ b3 ≡ l2 ++ y ∷ b2 → active s c b3 ≡ Some a → b3 ≡ later ++ start ∷ b1 → NoRecord c later
    → b2 ≡ z ++ start ∷ b1 → active s c b2 ≡ None → (w : Log) × (b2 ≡ w ++ commit ∷ b3)
committed_by s c l2 l3 later b1 b2 b3 z a start commit y e f g n p idle =
    elim (compare l3 l2 commit y b3 b2 e) [
      | inl q ↦ absurd (let q : ◌≡◌ {A = Option Attempt} None (Some a) = sym idle ∙ (subst (λ l. active s c l ≡ Some a) q.0 f) in cc)
      | inr q ↦ elim q [
        | inl r ↦ (r.between, r.is)
        | inr r ↦ absurd (elim (compare later r.between start y b1 b2 (sym g ∙ r.is)) [
          | inl u ↦ (let i = longer z start b1 in let j : length b1 ≡ length b2 = ap length u.0 in
              let k : length b2 ≡ length (z ++ start ∷ b1) = ap length p in absurd (omega arith))
          | inr u ↦ elim u [
            | inl v ↦ (let i = none_in c r.between y v.between (subst (NoRecord c) v.front n) in
                let stays = idle_stays s c (r.between ++ y ∷ []) b2 (none_front c r.between y i.0 i.1) idle in
                (let q : ◌≡◌ {A = Option Attempt} None (Some a) = sym (subst (λ l. active s c l ≡ None) (one_front r.between y b2 ∙ sym r.is) stays) ∙ f in cc))
            | inr v ↦ (let i = longer z start b1 in let j = longer v.between y b2 in let k : length b2 ≡ length (z ++ start ∷ b1) = ap length p in
                let m : length b1 ≡ length (v.between ++ y ∷ b2) = ap length v.is in absurd (omega arith))
          ]
        ])
      ]
    ]
