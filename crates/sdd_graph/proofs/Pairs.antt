-- The diagonal edges from one class to another.
use Rattle.sdd_graph.proofs.All.{Catalogue, Diagonal, Edge, List, [], ap, class_no, diagonals_between, eq-eqb, filter, frag_no, fragments_of, is_some, length, map, ne_eqb, not, reads_at, reads_of, sym, take, take_all, writes, ℕ, ◌&&◌, ◌++◌, ◌∙◌, ◌≡◌, ◌≢◌, ◌≤◌}
use Rattle.sdd_graph.proofs.Lists.{filter_both, filter_none}

-- the diagonal edge of a fragment
abbrev pub diagonal : ℕ → ℕ → ℕ → Edge
diagonal i j f = Diagonal (class_no i) (class_no j) (frag_no f)

-- no diagonal leads from a class to itself
pub none_to_itself : (cat : Catalogue) (i j : ℕ) → i ≡ j → diagonals_between cat i j ≡ []
none_to_itself cat i j e =
    ap (λ b. map (diagonal i j) (filter (λ f. not b && (is_some (reads_at cat i f) && writes cat j f)) (fragments_of cat))) (eq-eqb i j e)
    ∙ ap (map (diagonal i j)) (filter_none (fragments_of cat))

-- one leads to another class for each fragment that is read and that the other writes
pub between_others : (cat : Catalogue) (i j : ℕ) (reads : List ℕ) (k : ℕ) (old edges : List Edge)
    → i ≢ j → reads ≡ reads_of cat i → length reads ≤ k
    → edges ≡ old ++ map (diagonal i j) (filter (writes cat j) (take k reads))
    → edges ≡ old ++ diagonals_between cat i j
between_others cat i j reads k old edges others e done made =
    let all : filter (writes cat j) (take k reads) ≡ filter (λ f. is_some (reads_at cat i f) && writes cat j f) (fragments_of cat) =
    ap (filter (writes cat j)) (take_all k reads done ∙ e) ∙ sym (filter_both (λ f. is_some (reads_at cat i f)) (writes cat j) (fragments_of cat)) in
    let pair : diagonals_between cat i j ≡ map (diagonal i j) (filter (λ f. is_some (reads_at cat i f) && writes cat j f) (fragments_of cat)) =
    ap (λ b. map (diagonal i j) (filter (λ f. not b && (is_some (reads_at cat i f) && writes cat j f)) (fragments_of cat))) (ne_eqb i j others) in
    made ∙ ap (λ fs. old ++ map (diagonal i j) fs) all ∙ ap (λ es. old ++ es) (sym pair)
