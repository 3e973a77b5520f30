-- The place of a class by its number.
use Rattle.sdd_tm.proofs.All.{AreApart, Bool, ClassState, List, Log, None, Setting, Some, [], ap, arith, cond, eqb-false, eqb-true, false, map, map_is_set, map_same, of_map, place_of, position_from, position_from-zero, refl, slice_get, slice_set, some_is, state_of, subst, suc, sym, true, zero, ℕ, ◌+◌, ◌==◌, ◌∙◌, ◌∷◌, ◌≡◌, ◌≢◌}
use Rattle.sdd_tm.proofs.ClassNumbers.{runs_apart}

-- the first member that passes

nowhere_from : {A : Type 0} (p : A → Bool) (n : ℕ) (xs : List A) → position_from p n xs ≡ None → (i : ℕ) (x : A) → slice_get xs i ≡ Some x → p x ≡ false
nowhere_from p n [] e i x f = absurd cc
nowhere_from p n (y ∷ xs) e i x f =
    elim (p y) as (λ b. p y ≡ b → cond b (Some n) (position_from p (n + 1) xs) ≡ None → p x ≡ false) [
      | true ↦ λ g h. absurd cc
      | false ↦ λ g h. at i f g (λ j k. nowhere_from p (n + 1) xs h j x k)
    ] refl e
  where
    at : (i : ℕ) → slice_get (y ∷ xs) i ≡ Some x → p y ≡ false → ((j : ℕ) → slice_get xs j ≡ Some x → p x ≡ false) → p x ≡ false
    at zero f g rest = ap p (sym (some_is f)) ∙ g
    at (suc j) f g rest = rest j f

record IsAtFrom {A : Type 0} (p : A → Bool) (n place : ℕ) (xs : List A) : Type 0 where
  at : ℕ
  member : A
  place_is : place ≡ n + at
  there : slice_get xs at ≡ Some member
  passes : p member ≡ true

somewhere_from : {A : Type 0} (p : A → Bool) (n place : ℕ) (xs : List A) → position_from p n xs ≡ Some place → IsAtFrom p n place xs
somewhere_from p n place [] e = absurd cc
somewhere_from p n place (x ∷ xs) e =
    elim (p x) as (λ b. p x ≡ b → cond b (Some n) (position_from p (n + 1) xs) ≡ Some place → IsAtFrom p n place (x ∷ xs)) [
      | true ↦ λ g h. let same : n ≡ place = some_is h in record { at = 0; member = x; place_is = omega arith; there = refl; passes = g }
      | false ↦ λ g h. let r = somewhere_from p (n + 1) place xs h in let is : place ≡ n + 1 + r.at = r.place_is in
          record { at = suc r.at; member = r.member; place_is = omega arith; there = r.there; passes = r.passes }
    ] refl e

-- a class

pub nowhere : (classes : List ClassState) (c : ℕ) → place_of classes c ≡ None → (i : ℕ) (k : ClassState) → slice_get classes i ≡ Some k → k.line.class ≢ c
nowhere classes c e i k f = grind (arith, eqb-false, nowhere_from, position_from-zero)

pub record IsPlaceOf (classes : List ClassState) (c place : ℕ) : Type 0 where
  pub class : ClassState
  pub there : slice_get classes place ≡ Some class
  pub is : class.line.class ≡ c

pub somewhere : (classes : List ClassState) (c place : ℕ) → place_of classes c ≡ Some place → IsPlaceOf classes c place
somewhere classes c place e =
    let r = somewhere_from (λ (k : ClassState). k.line.class == c) 0 place classes
    (sym (position_from-zero (λ (k : ClassState). k.line.class == c) classes) ∙ e) in
    let at : place ≡ r.at = let f : place ≡ 0 + r.at = r.place_is in omega arith in
    record { class = r.member; there = subst (λ n. slice_get classes n ≡ Some r.member) (sym at) r.there; is = eqb-true r.member.line.class c r.passes }

-- a class that is looked up by its number changes alone

itself : (xs : List ClassState) → map (λ k. k) xs ≡ xs
itself [] = refl
itself (x ∷ xs) = ap (λ rest. x ∷ rest) (itself xs)

pub named_nowhere : (f : ClassState → ClassState) (classes : List ClassState) (c : ℕ)
    → ((k : ClassState) → k.line.class ≢ c → f k ≡ k) → place_of classes c ≡ None → map f classes ≡ classes
named_nowhere f classes c others e = map_same f (λ k. k) classes (λ i k g. others k (nowhere classes c e i k g)) ∙ itself classes

pub named_alone : (f : ClassState → ClassState) (classes : List ClassState) (c place : ℕ) (k new : ClassState)
    → AreApart classes → ((x : ClassState) → x.line.class ≢ c → f x ≡ x)
    → slice_get classes place ≡ Some k → k.line.class ≡ c → f k ≡ new → slice_set classes place new ≡ map f classes
named_alone f classes c place k new apart others here is e =
    ap (λ xs. slice_set xs place new) (sym (itself classes))
    ∙ sym (map_is_set f (λ x. x) classes place k new here e (λ i x g h. others x (λ q. apart i place x k g here h (q ∙ sym is))))

-- the classes that are kept of a log
pub classes_apart : (s : Setting) (log : Log) → AreApart (state_of s log).classes
classes_apart s log i j x y e f apart = grind (arith, of_map, runs_apart)
