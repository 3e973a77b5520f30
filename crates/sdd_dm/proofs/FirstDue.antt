-- What the first head may do is what is due next, where nothing is left to answer.
use Rattle.sdd_dm.proofs.All.{Act, Bool, ClassNo, Digest, Home, List, Log, Msg, None, Option, Setting, Shows, Some, State, Step, act_by, act_where, ap, arith, class_view, due, first_map, first_none, first_range, first_some, first_step, found_first, head, head_at, head_due, length, nat_tests, of_class, or_else, pipe, range_with_len, refl, step_at, step_by, suc, sym, view_of, zero, ℕ, ◌+◌, ◌<◌, ◌∙◌, ◌≡◌, ◌≤◌}
use Rattle.sdd_dm.proofs.Shown.{step_is, head_shown}

-- where nothing is left to answer, the heads are next

-- the act of the head that may do something

abbrev pub act_of : Home → Setting → Log → Option (ClassNo × Step) → Option Act
act_of h s log None = None
act_of h s log (Some p) = act_where h (view_of s log) p.0.0 (head (pipe p.0.0 log)) (Some p.1)

-- a head that may do something is there
head_there : (pipes : List Digest) (flags : List Bool) (c : ℕ) (w : Bool) (o : Option Msg) (step : Step) → step_by pipes flags c w o ≡ Some step
    → (m : Msg) × (o ≡ Some m)
head_there pipes flags c w o step e = grind arith

abbrev IsThere : Home → Setting → Log → Option (ClassNo × Step) → Type 0
IsThere h s log None = Unit {0}
IsThere h s log (Some p) = (a : Act) × (act_of h s log (Some p) ≡ Some a)

there : (h : Home) (s : Setting) (st : State) (log : Log) (c : ℕ) → Shows s st log → c ≤ length s.catalogue.classes
    → IsThere h s log (of_class c (step_at st.pipes st.waits c))
there h s st log c shows l =
    elim (step_at st.pipes st.waits c) as (λ o. step_at st.pipes st.waits c ≡ o → IsThere h s log (of_class c o)) [
      | None ↦ λ e. tt
      | Some step ↦ λ e.
          let m = head_there st.pipes st.waits c _ (head_at st.pipes c) step e in
          (act_by h (view_of s log) c m.0 step, (rw (sym (head_shown s st log c shows l) ∙ m.1) refl))
    ] refl

-- the act of the first is the first act
first_act : (h : Home) (s : Setting) (log : Log) (f : ℕ → Option (ClassNo × Step)) (a n : ℕ) → ((c : ℕ) → c < a + n → IsThere h s log (f c))
    → first_some (λ c. act_of h s log (f c)) (range_with_len a n) ≡ act_of h s log (first_some f (range_with_len a n))
first_act h s log f a zero all = refl
first_act h s log f a (suc n) all = grind (arith, nat_tests, IsThere, or_else, act_of, first_some, range_with_len, (first_act h s log f (a + 1) n (λ c l. all c (omega arith))))

pub due_is : (h : Home) (s : Setting) (st : State) (log : Log) → Shows s st log → due h (view_of s log) ≡ act_of h s log (first_step st.pipes st.waits)
due_is h s st log shows =
    (grind (arith, first_none, first_map))
    ∙ first_range (λ c. head_due h (view_of s log) (class_view s log c)) (λ c. act_of h s log (of_class c (step_at st.pipes st.waits c))) 0
    (suc (length s.catalogue.classes)) (λ c l. (grind (arith, step_is)))
    ∙ first_act h s log (λ c. of_class c (step_at st.pipes st.waits c)) 0 (suc (length s.catalogue.classes)) (λ c l. there h s st log c shows (omega arith))
    ∙ ap (λ n. act_of h s log (first_some (λ c. of_class c (step_at st.pipes st.waits c)) (range_with_len 0 n))) (sym shows.pipes)

-- the first step is that of a head

pub record IsFirst (st : State) (p : ClassNo × Step) : Type 0 where
  pub known : p.0.0 < length st.pipes
  pub step : step_at st.pipes st.waits p.0.0 ≡ Some p.1
  pub msg : Msg
  pub head : head_at st.pipes p.0.0 ≡ Some msg

pub first_is : (st : State) (p : ClassNo × Step) → first_step st.pipes st.waits ≡ Some p → IsFirst st p
first_is st p e =
    found_first (λ c. of_class c (step_at st.pipes st.waits c)) (IsFirst st) 0 (length st.pipes) p
    (λ c l q. (grind (arith, head_there, IsFirst))) e

-- what is due, where a head may do something
pub next_act : (h : Home) (s : Setting) (st : State) (log : Log) (p : ClassNo × Step) → Shows s st log → first_step st.pipes st.waits ≡ Some p
    → (f : IsFirst st p) → due h (view_of s log) ≡ Some (act_by h (view_of s log) p.0.0 f.msg p.1)
next_act h s st log p shows e f =
    let few : p.0.0 ≤ length s.catalogue.classes = omega (arith, f.known, shows.pipes) in
    due_is h s st log shows ∙ ap (act_of h s log) e
    ∙ (rw (sym (head_shown s st log p.0.0 shows few) ∙ f.head) refl)
