-- Lists of different classes to whose write nodes no arcs lead: there are no more of these than classes.
use Rattle.sdd_progress.proofs.AllWaits.{AllByRecursion, IsClass, IsDistinct-cons, List, Path, WaitGraph, [], arith, cases_Bool, eqb, eqb-true, false, go, inl, inr, length, length-le_from_distinct_below, list_any, ne_eqb, stop, subst, sym, true, ℕ, ◌+◌, ◌∷◌, ◌≡◌, ◌≤◌}
use Rattle.std.specs.List.{IsDistinct}

-- the class is one, and no arcs lead from the node to its write node
pub record IsCutOff (G : WaitGraph) (x j : ℕ) : Type 0 where
  pub class : IsClass G j
  pub no_path : ¬ Path G x (G.write j)

pub record AreCutOff (G : WaitGraph) (x : ℕ) (classes : List ℕ) : Type 0 where
  pub differ : IsDistinct eqb classes
  pub each : AllByRecursion (IsCutOff G x) classes

pub none_cut_off : (G : WaitGraph) (x : ℕ) → AreCutOff G x []
unfolding IsDistinct
none_cut_off G x = record { differ = tt; each = tt }

pub each_weaker : {P Q : ℕ → Type 0} → ((j : ℕ) → P j → Q j) → (js : List ℕ) → AllByRecursion P js → AllByRecursion Q js
each_weaker f [] all = tt
each_weaker f (j ∷ js) all = (f j all.0, each_weaker f js all.1)

pub member_is : (P : ℕ → Type 0) (js : List ℕ) (i : ℕ) → AllByRecursion P js → list_any (eqb i) js ≡ true → P i
member_is P [] i all e = absurd (cc)
member_is P (j ∷ js) i all e =
    elim (cases_Bool (eqb i j)) [
      | inl same ↦ subst P (sym (eqb-true i j same)) all.0
      | inr other ↦ member_is P js i all.1 (rw other at e)
    ]

pub few_cut_off : (G : WaitGraph) (x : ℕ) (classes : List ℕ) → AreCutOff G x classes → length classes ≤ G.classes + 1
few_cut_off G x classes cut = grind (arith, length-le_from_distinct_below, member_is, IsCutOff)

pub path_on : (G : WaitGraph) (x y z : ℕ) → Path G x y → Path G y z → Path G x z
path_on G x y z (stop e) p = subst (λ u. Path G u z) (sym e) p
path_on G x y z (go {y = u} a p) q = go a (path_on G u y z p q)

-- they stay cut off further on
pub cut_off_on : (G : WaitGraph) (x y : ℕ) (classes : List ℕ) → Path G x y → AreCutOff G x classes → AreCutOff G y classes
cut_off_on G x y classes p cut = grind (arith, each_weaker, path_on)

-- a class to which arcs led till now isn't among them
pub one_more_cut_off : (G : WaitGraph) (x y j : ℕ) (classes : List ℕ) → AreCutOff G x classes
    → Path G x (G.write j) → Path G x y → IsCutOff G y j → AreCutOff G y (j ∷ classes)
one_more_cut_off G x y j classes cut there p new =
    let apart : AllByRecursion (λ i. eqb j i ≡ false) classes =
    each_weaker (λ i c. ne_eqb j i (λ e. c.no_path (subst (λ k. Path G x (G.write k)) e there))) classes cut.each in
    let on = cut_off_on G x y classes p cut in
    record { differ = IsDistinct-cons eqb j classes apart on.differ; each = (new, on.each) }
