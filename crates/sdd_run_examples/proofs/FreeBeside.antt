-- A class is free beside a cycle: no edge at one of its nodes lies on one.
use Rattle.std.proofs.Common.{ap, arith, eq-eqb, inl, inr, subst, sym, ◌∙◌}
use Rattle.std.proofs.lemmas.Bool.{false≢true}
use Rattle.std.proofs.lemmas.List.Elements.{All-cons, All-head, All-nil, All-tail}
use Rattle.std.proofs.lemmas.Option.{slice_get-map}
use Rattle.std.specs.Prelude.{ℕ, zero, suc, ◌==◌, ◌≡◌, ◌≢◌, true, false, List, [], ◌∷◌, map, option_map, slice_get, Some, refl}
use Rattle.sdd_blocks.specs.Blocks.{OnACycle}
use Rattle.sdd_blocks.specs.Graph.{IsSimpleCycle, Step}
use Rattle.sdd_run_examples.proofs.Crossing.{crosses_alone}
use Rattle.sdd_run.specs.progress.obligations.All.{Catalogue, Vertical, class_no, conflict_graph}
use Rattle.sdd_run.specs.progress.obligations.graph.Graph.{ends}
use Rattle.sdd_run.specs.progress.Free.{IsFree, ends_at}
use Rattle.sdd_run.specs.Runs.{IsFreeInEach}
use Rattle.sdd_run_examples.specs.Catalogues.{crosses_later, later_classes, three_classes}

true_false : true ≢ false
true_false e = false≢true (sym e)

-- each edge of a list that ends at class i lies on no cycle
abbrev AllOnNone : List (ℕ × ℕ) → ℕ → Type 0
AllOnNone edges i = (k : ℕ) (e : ℕ × ℕ) → slice_get edges k ≡ Some e → ends_at i e ≡ true → ¬ OnACycle edges k

free_by : (cat : Catalogue) (edges : List (ℕ × ℕ)) (i : ℕ) → map ends (conflict_graph cat) ≡ edges → AllOnNone edges i → IsFree cat i
free_by cat edges i is none = record {
  on_none = λ k e there at c.
      (none k (ends e) (ap (λ es. slice_get es k) (sym is) ∙ slice_get-map ends (conflict_graph cat) k ∙ ap (option_map ends) there) at
      (subst (λ es. OnACycle es k) is c));
}

-- edges of which one alone ends at class 3

other : (x e : ℕ × ℕ) → ends_at 3 x ≡ false → Some x ≡ Some e → ends_at 3 e ≡ true → ⊥
other x e none same at = let s : x ≡ e = cc in true_false (sym (sym none ∙ ap (ends_at 3) s ∙ at))

abbrev first_edges : List (ℕ × ℕ)
first_edges = (0, 1) ∷ (2, 3) ∷ (4, 5) ∷ (0, 3) ∷ (2, 1) ∷ []

free_in_first : AllOnNone first_edges 3
free_in_first zero e there at = absurd (other (0, 1) e refl there at)
free_in_first (suc zero) e there at = absurd (other (2, 3) e refl there at)
free_in_first (suc (suc zero)) e there at = crosses_alone (λ n. n == 4) first_edges 2 4 5 refl refl true_false
free_in_first (suc (suc (suc zero))) e there at = absurd (other (0, 3) e refl there at)
free_in_first (suc (suc (suc (suc zero)))) e there at = absurd (other (2, 1) e refl there at)
free_in_first (suc (suc (suc (suc (suc k))))) e there at = absurd cc

abbrev second_edges : List (ℕ × ℕ)
second_edges = (0, 1) ∷ (2, 3) ∷ (4, 5) ∷ (6, 7) ∷ (8, 9) ∷ (6, 9) ∷ (8, 7) ∷ []

free_in_second : AllOnNone second_edges 3
free_in_second zero e there at = absurd (other (0, 1) e refl there at)
free_in_second (suc zero) e there at = absurd (other (2, 3) e refl there at)
free_in_second (suc (suc zero)) e there at = crosses_alone (λ n. n == 4) second_edges 2 4 5 refl refl true_false
free_in_second (suc (suc (suc zero))) e there at = absurd (other (6, 7) e refl there at)
free_in_second (suc (suc (suc (suc zero)))) e there at = absurd (other (8, 9) e refl there at)
free_in_second (suc (suc (suc (suc (suc zero))))) e there at = absurd (other (6, 9) e refl there at)
free_in_second (suc (suc (suc (suc (suc (suc zero)))))) e there at = absurd (other (8, 7) e refl there at)
free_in_second (suc (suc (suc (suc (suc (suc (suc k))))))) e there at = absurd cc

pub third_is_free : IsFree three_classes 3
third_is_free = free_by three_classes first_edges 3 refl free_in_first

pub free_in_each : IsFreeInEach three_classes crosses_later 3
free_in_each =
    All-cons (λ c. IsFree c 3) three_classes (later_classes ∷ []) third_is_free
    (All-cons (λ c. IsFree c 3) later_classes [] (free_by later_classes second_edges 3 refl free_in_second) (All-nil (λ c. IsFree c 3)))

-- the cycle of the first two classes, and that of the two of the further list

abbrev around : List Step
around = record { edge = 0; to = 1 } ∷ record { edge = 4; to = 2 } ∷ record { edge = 1; to = 3 } ∷ record { edge = 3; to = 0 } ∷ []

is_around : IsSimpleCycle first_edges 0 around
is_around = grind (arith, eq-eqb)

pub first_is_not : IsFree three_classes 1 → ⊥
first_is_not free =
    free.on_none 0 (Vertical (class_no 1)) refl refl (record { start = 0; steps = around; cycle = is_around; first = inl refl; second = inl refl })

pub second_is_not : IsFree three_classes 2 → ⊥
second_is_not free =
    free.on_none 1 (Vertical (class_no 2)) refl refl
    (record { start = 0; steps = around; cycle = is_around; first = inr (inr (inl refl)); second = inr (inr (inl refl)) })

abbrev around_later : List Step
around_later = record { edge = 3; to = 7 } ∷ record { edge = 6; to = 8 } ∷ record { edge = 4; to = 9 } ∷ record { edge = 5; to = 6 } ∷ []

is_around_later : IsSimpleCycle second_edges 6 around_later
is_around_later = grind (arith, eq-eqb)

pub fourth_is_not : IsFreeInEach three_classes crosses_later 4 → ⊥
fourth_is_not free =
    let later = All-head (λ c. IsFree c 4) later_classes [] (All-tail (λ c. IsFree c 4) three_classes (later_classes ∷ []) free) in
    later.on_none 3 (Vertical (class_no 4)) refl refl
    (record { start = 6; steps = around_later; cycle = is_around_later; first = inl refl; second = inl refl })
