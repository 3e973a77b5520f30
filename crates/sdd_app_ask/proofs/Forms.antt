-- The form that words have, and the words of a form.
use Rattle.std.proofs.Common.{Bool, List, None, Option, Some, [], ap, bytes_eq, codes, cond, false, refl, true, ℕ, ◌∙◌, ◌∷◌, ◌≡◌}
use Rattle.std.proofs.lemmas.Slice.Eq.{bytes_eq-Decides}
use Rattle.sdd_app_ask.specs.Forms.{Certify, Form, IsNoForm, OfCatalogue, RobustWorkload, form_in, words_of}
use Rattle.sdd_app_ask.specs.declared.asked.Question.TheVariants.{Needs, Robust}

-- the words of a form have it
form_found : (form : Form) → form_in (words_of form) ≡ Some form
unfolding form_in
form_found (OfCatalogue Robust cat) = refl
form_found (OfCatalogue Needs cat) = refl
form_found (RobustWorkload cat work) = refl
form_found (Certify cat work report) = refl

pub found_form : (words : List (List ℕ)) (form : Form) → words ≡ words_of form → form_in words ≡ Some form
found_form words form is = ap form_in is ∙ form_found form

named : (word name : List ℕ) → bytes_eq word name ≡ true → word ≡ name
named word name e = (bytes_eq-Decides word name).0 e

two_none : (word cat : List ℕ) (x y : Bool) → bytes_eq word (codes "robust") ≡ x → bytes_eq word (codes "needs") ≡ y
    → IsNoForm (word ∷ cat ∷ [])
    → cond {A = Option Form} x (Some (OfCatalogue Robust cat)) (cond {A = Option Form} y (Some (OfCatalogue Needs cat)) None) ≡ None
two_none word cat true y p q none = absurd (none (OfCatalogue Robust cat) (ap (λ w. w ∷ cat ∷ []) (named word (codes "robust") p)))
two_none word cat false true p q none = absurd (none (OfCatalogue Needs cat) (ap (λ w. w ∷ cat ∷ []) (named word (codes "needs") q)))
two_none word cat false false p q none = refl

three_none : (word cat work : List ℕ) (x : Bool) → bytes_eq word (codes "robust") ≡ x → IsNoForm (word ∷ cat ∷ work ∷ [])
    → cond {A = Option Form} x (Some (RobustWorkload cat work)) None ≡ None
three_none word cat work true p none =
    absurd (none (RobustWorkload cat work) (ap (λ w. w ∷ cat ∷ work ∷ []) (named word (codes "robust") p)))
three_none word cat work false p none = refl

four_none : (word cat work report : List ℕ) (x : Bool) → bytes_eq word (codes "certify") ≡ x → IsNoForm (word ∷ cat ∷ work ∷ report ∷ [])
    → cond {A = Option Form} x (Some (Certify cat work report)) None ≡ None
four_none word cat work report true p none =
    absurd (none (Certify cat work report) (ap (λ w. w ∷ cat ∷ work ∷ report ∷ []) (named word (codes "certify") p)))
four_none word cat work report false p none = refl

-- and words of no form have none
pub no_form : (words : List (List ℕ)) → IsNoForm words → form_in words ≡ None
unfolding form_in
no_form (word ∷ cat ∷ []) none = two_none word cat (bytes_eq word (codes "robust")) (bytes_eq word (codes "needs")) refl refl none
no_form (word ∷ cat ∷ work ∷ []) none = three_none word cat work (bytes_eq word (codes "robust")) refl none
no_form (word ∷ cat ∷ work ∷ report ∷ []) none = four_none word cat work report (bytes_eq word (codes "certify")) refl none
no_form _ none = refl
