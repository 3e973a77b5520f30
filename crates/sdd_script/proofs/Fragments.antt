-- Fragments by their names: what is read is there, and what is there is read.
use Rattle.sdd_script.proofs.All.{Catalogue, IsFragment, List, Ok, Option, Plain, Quoted, Some, Word, ap, arith, false, fragment_named, fragment_of, has_copy, is_kept_at, is_some, name_in, ok_is, option_map_or, subst, true, ℕ, ◌≡◌}
use Rattle.sdd_script.proofs.StepLaws.{known_then}
use Rattle.sdd_script.proofs.SoundStates.{named_takes}

abbrev named : List ℕ → ℕ → List ℕ × ℕ
named name frag = (name, frag)

pub record IsFragmentWord (cat : Catalogue) (w : Word) (f : List ℕ × ℕ) : Type 0 where
  pub spelled : w ≡ Plain f.0
  pub there : IsFragment cat f.0
  pub number : fragment_named cat f.0 ≡ Some f.1

there_if : {A : Type 0} (o : Option A) (x : A) → o ≡ Some x → is_some o ≡ true
there_if o x e = ap is_some e

pub fragment_takes : (cat : Catalogue) (w : Word) (f : List ℕ × ℕ) → fragment_of cat w ≡ Ok f → IsFragmentWord cat w f
fragment_takes cat (Quoted text) f e = absurd cc
fragment_takes cat (Plain bytes) f e =
    let a = known_then _ (name_in bytes) _ f e in
    let b = known_then _ (fragment_named cat a.0) _ f a.2 in
    let n = named_takes bytes a.0 a.1 in
    subst (λ (x : List ℕ × ℕ). IsFragmentWord cat (Plain bytes) x) (ok_is (named a.0 b.0) f b.2) (record {
      spelled = ap (λ (l : List ℕ). Plain l) n.1;
      there = (n.0, there_if (fragment_named cat a.0) b.0 b.1);
      number = b.1;
    })

pub some_there : {A : Type 0} (o : Option A) → is_some o ≡ true → (x : A) × (o ≡ Some x)
some_there o e = grind arith

pub record IsReadFragment (cat : Catalogue) (name : List ℕ) : Type 0 where
  pub number : ℕ
  pub named : fragment_named cat name ≡ Some number
  pub read : fragment_of cat (Plain name) ≡ Ok (name, number)

pub fragment_again : (cat : Catalogue) (name : List ℕ) → IsFragment cat name → IsReadFragment cat name
fragment_again cat name h = grind (arith, some_there, named)

-- a copy of the fragment with the name is one of the fragment with its number
pub kept_at : (cat : Catalogue) (dm : ℕ) (name : List ℕ) (frag : ℕ) → fragment_named cat name ≡ Some frag
    → is_kept_at cat dm name ≡ has_copy cat dm frag
kept_at cat dm name frag e = ap (λ (o : Option ℕ). option_map_or (has_copy cat dm) o false) e
