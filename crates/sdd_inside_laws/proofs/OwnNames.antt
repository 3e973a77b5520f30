-- The classes of a catalogue have names of their own, and that of undeclared transactions has one that none of them has.
use Rattle.std.proofs.Common.{ap, arith, get_or, ne_eqb, subst, sym, ◌∙◌}
use Rattle.std.proofs.lemmas.List.Elements.{All-head, All-tail}
use Rattle.std.specs.List.{All, position}
use Rattle.std.specs.Option.{option_map_or}
use Rattle.std.specs.Prelude.{ℕ, zero, suc, ◌-◌, ◌<◌, ◌≡◌, ◌≤◌, if◌then◌else◌, List, [], ◌∷◌, codes, length, map, slice_get, Some, refl}
use Rattle.std.specs.Str.{bytes_eq}
use Rattle.sdd_inside_laws.specs.TextReader.{HaveOwnNames}
use Rattle.sdd_app_inside.specs.watch.obligations.All.{Catalogue, Class, IsSoundCatalogue}
use Rattle.sdd_app_inside.specs.watch.obligations.base.Name.{IsName}
use Rattle.sdd_app_inside.specs.watch.obligations.catalog.Naming.{AreNamed}
use Rattle.sdd_app_inside.proofs.run.script.ClassNames.{class_names_differ}
use Rattle.sdd_app_inside.proofs.run.script.NamePlaces.{place_of_name}
use Rattle.sdd_app_inside.specs.run.report.Names.{class_name, class_word}
use Rattle.sdd_app_inside.specs.run.script.Naming.{class_names}

-- the name of a class by its place

name_at : (cs : List Class) (i : ℕ) → option_map_or (λ (k : Class). k.name) (slice_get cs i) [] ≡ get_or (map (λ (k : Class). k.name) cs) i []
name_at [] zero = refl
name_at [] (suc i) = refl
name_at (c ∷ cs) zero = refl
name_at (c ∷ cs) (suc i) = name_at cs i

word_at : (cat : Catalogue) (i : ℕ) → class_word cat (suc i) ≡ get_or (class_names cat) i []
word_at cat i =
    let place : suc i - 1 ≡ i = omega arith in
    ap (λ b. if b then codes "-" else class_name cat (suc i)) (ne_eqb (suc i) 0 (λ e. omega (arith, e)))
    ∙ ap (λ n. option_map_or (λ (k : Class). k.name) (slice_get cat.classes n) []) place ∙ name_at cat.classes i

is_name_at : (cs : List Class) (i : ℕ) → All (λ (k : Class). IsName k.name) cs → i < length cs → IsName (get_or (map (λ (k : Class). k.name) cs) i [])
is_name_at [] i h l = absurd (omega (arith, l))
is_name_at (c ∷ cs) zero h l = All-head (λ (k : Class). IsName k.name) c cs h
is_name_at (c ∷ cs) (suc i) h l = is_name_at cs i (All-tail (λ (k : Class). IsName k.name) c cs h) (omega (arith, l))

no_dash : (cat : Catalogue) (i : ℕ) → AreNamed cat → suc i ≤ length cat.classes → codes "-" ≡ class_word cat (suc i) → ⊥
no_dash cat i named l e =
    let is : IsName (codes "-") = subst IsName (sym (e ∙ word_at cat i)) (is_name_at cat.classes i named.classes (omega (arith, l))) in cc

as_many : (cs : List Class) → length (map (λ (k : Class). k.name) cs) ≡ length cs
as_many [] = refl
as_many (c ∷ cs) = ap suc (as_many cs)

same_place : (cat : Catalogue) (i j : ℕ) → IsSoundCatalogue cat → suc i ≤ length cat.classes → suc j ≤ length cat.classes
    → class_word cat (suc i) ≡ class_word cat (suc j) → i ≡ j
same_place cat i j sound l m e =
    let names : List (List ℕ) = class_names cat in
    let size = as_many cat.classes in
    let same : get_or names i [] ≡ get_or names j [] = sym (word_at cat i) ∙ e ∙ word_at cat j in
    let one = place_of_name names i (class_names_differ cat sound) (omega (arith, size, l)) in
    let other = place_of_name names j (class_names_differ cat sound) (omega (arith, size, m)) in
    let both : Some i ≡ Some j = sym one ∙ ap (λ n. position (bytes_eq n) names) same ∙ other in cc

pub own_names : (cat : Catalogue) → IsSoundCatalogue cat → AreNamed cat → HaveOwnNames cat
own_names cat sound named zero zero l m e = refl
own_names cat sound named zero (suc j) l m e = absurd (no_dash cat j named m e)
own_names cat sound named (suc i) zero l m e = absurd (no_dash cat i named l (sym e))
own_names cat sound named (suc i) (suc j) l m e = ap suc (same_place cat i j sound l m e)
