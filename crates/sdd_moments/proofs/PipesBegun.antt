-- The pipes before the first event: a pipe more of a data module, and a data module more.
use Rattle.sdd_moments.proofs.All.{ClassNo, D, DmNo, Input, List, Site, WatchedPipe, [], ap, arith, length, map, map-append, map-range_with_len_more, numbers_to, range_with_len, source, suc, sym, watched_pipe, watched_pipes, ℕ, ◌++◌, ◌+◌, ◌-◌, ◌∙◌, ◌∷◌, ◌≡◌, ◌≤◌}

-- of a data module those of the first so many classes, counted from 0
abbrev pub first_classes : ℕ → ℕ → List (ℕ × ℕ)
first_classes d n = map (λ c. (d, c)) (range_with_len 0 n)

abbrev empty_pipe : DmNo → ClassNo → Site → WatchedPipe
empty_pipe d c at = record { dm = d; class = c; source = at; unprocessed = 0 }

pub class_more : (g : Input) (d : DmNo) (c : ClassNo) (at : Site) (old new : List WatchedPipe) → at ≡ source g d.0 c.0
    → old ≡ map (watched_pipe g []) (first_classes d.0 c.0)
    → new ≡ old ++ record { dm = d; class = c; source = at; unprocessed = 0 } ∷ []
    → new ≡ map (watched_pipe g []) (first_classes d.0 (c.0 + 1))
class_more g d c at old new is e push =
    let f = watched_pipe g [] in
    let further : first_classes d.0 (c.0 + 1) ≡ first_classes d.0 c.0 ++ (d.0, c.0) ∷ [] =
    map-range_with_len_more (λ (k : ℕ). (d.0, k)) 0 c.0 c.0 (omega arith) in
    push ∙ (λ i. e i ++ empty_pipe d c (is i) ∷ [])
    ∙ sym (map-append f (first_classes d.0 c.0) ((d.0, c.0) ∷ [])) ∙ ap (map f) (sym further)

abbrev with_pipes : DmNo → List WatchedPipe → Site × List WatchedPipe
with_pipes d pipes = (D d, pipes)

pub classes_done : (g : Input) (d : DmNo) (n : ℕ) (now : List WatchedPipe) → n ≡ suc (length g.catalogue.classes)
    → now ≡ map (watched_pipe g []) (first_classes d.0 n) → with_pipes d now ≡ watched_pipes g [] d.0
classes_done g d n now all e = ap (with_pipes d) (e ∙ ap (λ k. map (watched_pipe g []) (first_classes d.0 k)) all)

pub module_more : (g : Input) (number : ℕ) (old new : List (Site × List WatchedPipe)) (more : Site × List WatchedPipe) → 1 ≤ number
    → more ≡ watched_pipes g [] number → new ≡ old ++ more ∷ []
    → old ≡ map (watched_pipes g []) (numbers_to (number - 1)) → new ≡ map (watched_pipes g []) (numbers_to (number + 1 - 1))
module_more g number old new more some is push e =
    let n : ℕ = number - 1 in
    let next : 1 + n ≡ number = omega (arith, some) in
    let whole : number + 1 - 1 ≡ n + 1 = omega (arith, some) in
    push ∙ (λ i. e i ++ is i ∷ []) ∙ sym (map-range_with_len_more (watched_pipes g []) 1 n number next)
    ∙ ap (λ k. map (watched_pipes g []) (numbers_to k)) (sym whole)

pub modules_done : (g : Input) (number : ℕ) (now : List (Site × List WatchedPipe)) → number ≡ suc g.catalogue.dms
    → now ≡ map (watched_pipes g []) (numbers_to (number - 1)) → now ≡ map (watched_pipes g []) (numbers_to g.catalogue.dms)
modules_done g number now all e =
    let last : number - 1 ≡ g.catalogue.dms = omega (arith, all) in
    e ∙ ap (λ k. map (watched_pipes g []) (numbers_to k)) last
