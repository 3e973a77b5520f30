-- A name put into a set of names, seen by its bytes.
use Rattle.sdd_script.proofs.All.{Bool, List, ap, arith, is_some, list_any, map, not, position, sym, ◌∙◌, ◌≡◌}
use Rattle.sdd_script.proofs.Marks.{position-map}
use Rattle.sdd_script.proofs.NamePlaces.{none_any, any_none, none_found, found_none}

-- it is new exactly where no place has it
pub fresh : {A B : Type 0} (p : B → Bool) (f : A → B) (xs : List A) → not (list_any (λ x. p (f x)) xs) ≡ not (is_some (position p (map f xs)))
fresh p f xs = ap not (sym ((grind (arith, found_none, none_any, list_any, any_none, none_found))) ∙ ap is_some (sym (position-map p f xs)))
