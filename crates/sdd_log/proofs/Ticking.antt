-- A tick of a clock makes nothing due at its site, nor does another class list.
use Rattle.sdd_log.proofs.All.{Bases, Bool, Catalogue, Era, List, None, Option, Redeclared, Setting, Some, Ticked, Ticking, [], ap, arith, first_some, if◌then◌else◌, list_all, nat_lt, or_else, or_none, refl, view_step, ℕ, ◌∙◌, ◌∷◌, ◌≡◌}
use Rattle.sdd_rules.specs.site_module.SiteLog as site
use Rattle.sdd_rules.specs.tm.Due as tm
use Rattle.sdd_rules.specs.tm.Views as views

pub or_both : {A : Type 0} (x y : Option A) → x ≡ None → y ≡ None → or_else x y ≡ None
or_both x y e f = rw e f

pub first_none : {A B : Type 0} (f h : A → Option B) (xs : List A) → ((a : A) → f a ≡ None → h a ≡ None) → first_some f xs ≡ None → first_some h xs ≡ None
first_none f h [] k e = refl
first_none f h (x ∷ xs) k e = let p = or_none (f x) (first_some f xs) e in or_both (h x) (first_some h xs) (k x p.0) (first_none f h xs k p.1)

pub none_instead : {A : Type 0} (b : Bool) (x y : A) → (if b then Some x else None) ≡ None → (if b then Some y else None) ≡ None
none_instead b x y e = grind arith

-- of a view whose clock and class list alone are other ones
abbrev with_both : views.View → Ticking → Era → views.View
with_both v k f = record v { clock = k; era = f }

start_none : (cat : Catalogue) (v : views.View) (k : Ticking) (f : Era) (c : views.ClassView)
    → tm.start_due cat v c ≡ None → tm.start_due cat (with_both v k f) c ≡ None
start_none cat v k f c e = grind (arith, with_both)

held_none : (v : views.View) (k : Ticking) (f : Era) → tm.held_due v ≡ None → tm.held_due (with_both v k f) ≡ None
held_none v k f e = grind (arith, none_instead, list_all, nat_lt)

pub none_by_tick : (s : Setting) (bases : Bases) (l : site.Log) (n : ℕ) → tm.next s bases l ≡ None → tm.next s bases (Ticked n ∷ l) ≡ None
none_by_tick s bases l n e =
    let v = views.view_of s l in
    ap (tm.due s.catalogue bases) (view_step s (Ticked n) l) ∙ (grind (arith, or_none, with_both, or_both, first_none, held_none, start_none))

pub none_by_redeclare : (s : Setting) (bases : Bases) (l : site.Log) (era : Era) (t : ℕ)
    → tm.next s bases l ≡ None → tm.next s bases (Redeclared era t ∷ l) ≡ None
none_by_redeclare s bases l era t e =
    let v = views.view_of s l in
    ap (tm.due s.catalogue bases) (view_step s (Redeclared era t) l) ∙ (grind (arith, or_none, with_both, or_both, first_none, held_none, start_none))
