-- Where nothing is due at a data module, the head of each pipe is stuck.
use Rattle.std.proofs.Common.{arith}
use Rattle.sdd_progress.proofs.AllWaits.{Bool, Handed, IsClassHere, IsStuck, List, Msg, None, Option, Setting, Some, View, [], act_where, all_handed, all_there, ap, class_there, class_view, due, first_some, goes_through, head, head_due, head_place, home_of, if◌then◌else◌, list_all, neither_some, open_due, pipe, refl, slice_get, step_on, subst, suc, sym, true, view_of, waits, zero, ℕ, ◌++◌, ◌∙◌, ◌∷◌, ◌≡◌}
use Rattle.sdd_obligations.specs.site_module.SiteLog.{Log}

-- options of which none is there

pub none_at : {A B : Type 0} (f : A → Option B) (xs : List A) (k : ℕ) (x : A) → first_some f xs ≡ None → slice_get xs k ≡ Some x → f x ≡ None
none_at f [] k x e g = cc
none_at {A = A} f (y ∷ xs) zero x e g = let p : ◌≡◌ {A = A} y x = cc in ap f (sym p) ∙ (neither_some (f y) (first_some f xs) e).0
none_at f (y ∷ xs) (suc k) x e g = none_at f xs k x (neither_some (f y) (first_some f xs) e).1 g

-- a pipe has messages of its class only

pushed_through : (c : ℕ) (b : Bool) (xs : List Msg) (m : Msg) → b ≡ goes_through c m
    → ((k : ℕ) (x : Msg) → slice_get xs k ≡ Some x → goes_through c x ≡ true) → (k : ℕ) (x : Msg)
    → slice_get (if b then xs ++ m ∷ [] else xs) k ≡ Some x → goes_through c x ≡ true
pushed_through c true [] m e f zero x g = let p : m ≡ x = cc in subst (λ y. goes_through c y ≡ true) p (sym e)
pushed_through c true [] m e f (suc k) x g = cc
pushed_through c true (y ∷ xs) m e f (suc k) x g = pushed_through c true xs m e (λ n z q. f (suc n) z q) k x g
pushed_through c _ _ m e f k x g = f k x g

all_through : (c : ℕ) (log : Log) (k : ℕ) (x : Msg) → slice_get (all_handed c log) k ≡ Some x → goes_through c x ≡ true
all_through c [] k x e = cc
all_through c (Handed from m ∷ log) k x e = pushed_through c (goes_through c m) (all_handed c log) m refl (all_through c log) k x e
all_through c (_ ∷ log) k x e = all_through c log k x e

pub head_through : (c : ℕ) (log : Log) (m : Msg) → head (pipe c log) ≡ Some m → goes_through c m ≡ true
head_through c log m e = grind (arith, all_through, slice_get, all_there, head_place)

-- a head for which nothing is due

stuck : (s : Setting) (log : Log) (c : ℕ) (b : Bool) (m : Msg) → waits c log ≡ b → goes_through c m ≡ true
    → step_on (view_of s log) c b (Some m) ≡ None → IsStuck s log c (Some m)
stuck s log c b m w i e = grind (arith, list_all)

stuck_at : (s : Setting) (log : Log) (c : ℕ) (o : Option Msg) → head (pipe c log) ≡ o
    → act_where (home_of s) (view_of s log) c o (step_on (view_of s log) c (waits c log) o) ≡ None → IsStuck s log c o
stuck_at s log c o h e = grind (arith, stuck, head_through)

pub head_stuck : (s : Setting) (log : Log) (c : ℕ) → IsClassHere s c → due (home_of s) (view_of s log) ≡ None → IsStuck s log c (head (pipe c log))
head_stuck s log c l e =
    let v : View = view_of s log in
    let none = (neither_some (first_some (open_due (home_of s) v) v.classes) (first_some (head_due (home_of s) v) v.classes) e).1 in
    stuck_at s log c (head (pipe c log)) refl (none_at (head_due (home_of s) v) v.classes c (class_view s log c) none (class_there s log c l))
