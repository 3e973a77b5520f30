-- The form that words have, and the words of a form.
use Rattle.sdd_commands.proofs.All.{Advise, Bool, Check, Control, Form, Graph, IsForm, IsNoForm, List, Make, None, Option, Plain, Run, Some, Table, Verify, [], ap, arith, bytes_eq, bytes_eq-Decides, codes, cond, count_in, decimal, false, made, refl, report, subst, sym, true, words_of, ℕ, ◌^◌, ◌∙◌, ◌∷◌, ◌≡◌}
use Rattle.sdd_commands.specs.Command.{form_in}
use Rattle.sdd_commands.proofs.Counts.{counted, spelled}

-- the words of a form have it
pub form_found : (form : Form) → IsForm form → form_in (words_of form) ≡ Some form
unfolding form_in
form_found (Make seed count) is = rw (counted (2 ^ 31) seed is.0 (omega (arith, is.0)), counted 2049 count (omega (arith, is.1)) (omega (arith, is.1))) refl
form_found _ is = refl

-- words that have a form are its words
record Has (ws : List (List ℕ)) (form : Form) : Type 0 where
  pub is : IsForm form
  pub words : ws ≡ words_of form

one_form : (x y : Form) → Some x ≡ Some y → x ≡ y
one_form x y e = cc

named : (word name : List ℕ) → bytes_eq word name ≡ true → word ≡ name
named word name e = (bytes_eq-Decides word name).0 e

-- where one of the tests holds, the words are those of its form
has_so : (ws : List (List ℕ)) (x form : Form) → IsForm x → ws ≡ words_of x → Some x ≡ Some form → Has ws form
has_so ws x form is words e = subst (λ f. Has ws f) (one_form x form e) (record { is = is; words = words })

made_so : (first second : List ℕ) (seed count : Option ℕ) (form : Form) → count_in (2 ^ 31) first ≡ seed
    → count_in 2049 second ≡ count → made seed count ≡ Some form
    → Has (codes "make" ∷ first ∷ second ∷ []) form
made_so first second (Some s) (Some n) form p q e =
    let seed = spelled (2 ^ 31) first s p in
    let count = spelled 2049 second n q in
    has_so (codes "make" ∷ first ∷ second ∷ []) (Make s n) form (seed.1, omega (arith, count.1))
    (ap (λ w. codes "make" ∷ w ∷ second ∷ []) seed.0
    ∙ ap (λ w. codes "make" ∷ decimal s ∷ w ∷ []) count.0) e
made_so first second _ _ form p q e = absurd cc

two_so : (name cat : List ℕ) (form : Form) (x y z u v : Bool) → bytes_eq name (codes "check") ≡ x
    → bytes_eq name (codes "graph") ≡ y → bytes_eq name (codes "table") ≡ z
    → bytes_eq name (codes "control") ≡ u → bytes_eq name (codes "advise") ≡ v
    → cond x (Some (Check cat)) (cond y (Some (Graph cat))
    (cond z (Some (Table cat)) (cond u (Some (Control cat)) (cond v (Some (Advise cat)) None)))) ≡ Some
    form
    → Has (name ∷ cat ∷ []) form
two_so name cat form true y z u v p q r t s e = has_so (name ∷ cat ∷ []) (Check cat) form tt (ap (λ w. w ∷ cat ∷ []) (named name (codes "check") p)) e
two_so name cat form false true z u v p q r t s e = has_so (name ∷ cat ∷ []) (Graph cat) form tt (ap (λ w. w ∷ cat ∷ []) (named name (codes "graph") q)) e
two_so name cat form false false true u v p q r t s e = has_so (name ∷ cat ∷ []) (Table cat) form tt (ap (λ w. w ∷ cat ∷ []) (named name (codes "table") r)) e
two_so name cat form false false false true v p q r t s e =
    has_so (name ∷ cat ∷ []) (Control cat) form tt (ap (λ w. w ∷ cat ∷ []) (named name (codes "control") t))
    e
two_so name cat form false false false false true p q r t s e =
    has_so (name ∷ cat ∷ []) (Advise cat) form tt (ap (λ w. w ∷ cat ∷ []) (named name (codes "advise") s)) e
two_so name cat form false false false false false p q r t s e = absurd cc

three_so : (name first second : List ℕ) (form : Form) (x y z : Bool) → bytes_eq name (codes "run") ≡ x
    → bytes_eq name (codes "plain") ≡ y → bytes_eq name (codes "make") ≡ z
    → cond x (Some (Run first second)) (cond y (Some (Plain first second)) (cond z (made (count_in (2 ^ 31) first) (count_in 2049 second)) None)) ≡ Some form
    → Has (name ∷ first ∷ second ∷ []) form
three_so name first second form true y z p q r e =
    has_so (name ∷ first ∷ second ∷ []) (Run first second) form tt (ap (λ w. w ∷ first ∷ second ∷ [])
    (named name (codes "run") p)) e
three_so name first second form false true z p q r e =
    has_so (name ∷ first ∷ second ∷ []) (Plain first second) form tt (ap (λ w. w ∷ first ∷ second ∷ [])
    (named name (codes "plain") q)) e
three_so name first second form false false true p q r e =
    subst (λ w. Has (w ∷ first ∷ second ∷ []) form) (sym (named name (codes "make") r))
    (made_so first second (count_in (2 ^ 31) first) (count_in 2049 second) form refl refl e)
three_so name first second form false false false p q r e = absurd cc

four_so : (name cat work report : List ℕ) (form : Form) (x : Bool) → bytes_eq name (codes "verify") ≡ x
    → cond x (Some (Verify cat work report)) None ≡ Some form → Has (name ∷ cat ∷ work ∷ report ∷ []) form
four_so name cat work report form true p e =
    has_so (name ∷ cat ∷ work ∷ report ∷ []) (Verify cat work report) form tt (ap (λ w. w ∷ cat ∷ work ∷ report ∷ []) (named name (codes "verify") p)) e
four_so name cat work report form false p e = absurd cc

form_has : (ws : List (List ℕ)) (form : Form) → form_in ws ≡ Some form → Has ws form
unfolding form_in
form_has (name ∷ cat ∷ []) form e =
    two_so name cat form (bytes_eq name (codes "check")) (bytes_eq name (codes "graph"))
    (bytes_eq name (codes "table")) (bytes_eq name (codes "control")) (bytes_eq name (codes "advise")) refl
    refl refl refl refl e
form_has (name ∷ first ∷ second ∷ []) form e = three_so name first second form (bytes_eq name (codes "run"))
    (bytes_eq name (codes "plain")) (bytes_eq name (codes "make")) refl refl refl e
form_has (name ∷ cat ∷ work ∷ report ∷ []) form e = four_so name cat work report form (bytes_eq name (codes "verify")) refl e
form_has _ form e = absurd cc

pub form_spelled : (ws : List (List ℕ)) (form : Form) → form_in ws ≡ Some form → IsForm form × (ws ≡ words_of form)
form_spelled ws form e = let h = form_has ws form e in (h.is, h.words)

no_form_at : (ws : List (List ℕ)) (found : Option Form) → form_in ws ≡ found → IsNoForm ws → found ≡ None
no_form_at ws None e none = refl
no_form_at ws (Some form) e none = let h = form_has ws form e in absurd (none form h.is h.words)

-- words of no form have none
pub no_form : (ws : List (List ℕ)) → IsNoForm ws → form_in ws ≡ None
no_form ws none = no_form_at ws (form_in ws) refl none

pub found_form : (ws : List (List ℕ)) (form : Form) → IsForm form → ws ≡ words_of form → form_in ws ≡ Some form
found_form ws form is words = rw words (form_found form is)
