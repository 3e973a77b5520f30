-- The entries of a table are edges of its catalogue.
use Rattle.sdd_ask.proofs.All.{All, All-cons, All-contains, All-head, All-nil, All-tail, Bool, Catalogue, Diagonal, Edge, Entry, HasNoP3, Horizontal, IsClassOf, IsEdgeOf, IsTable, IsWhole, List, NamesClasses, None, Some, Vertical, [], and_parts, arith, asks, cond, edges_known, edges_named, eqb-true, false, find, first_p3, is_between, is_wait, map, member_passes, nat_tests, same_Some, subst, suc, sym, true, waits_for, zero, ℕ, ◌==◌, ◌∷◌, ◌≡◌}

-- what holds of each edge of the entries holds of each entry
all_of_edges : (P : Edge → Type 0) (entries : List Entry) → All P (map (λ (e : Entry). e.edge) entries)
    → All (λ (e : Entry). P e.edge) entries
all_of_edges P [] all = All-nil (λ (e : Entry). P e.edge)
all_of_edges P (e ∷ entries) all =
    let edges : List Edge = map (λ (d : Entry). d.edge) entries in
    All-cons (λ (d : Entry). P d.edge) e entries (All-head P e.edge edges all) (all_of_edges P entries (All-tail P e.edge edges all))

pub entries_known : (cat : Catalogue) (entries : List Entry) → IsTable cat entries → All (λ (e : Entry). IsEdgeOf cat e.edge) entries
entries_known cat entries t =
    all_of_edges (IsEdgeOf cat) entries (subst (λ (edges : List Edge). All (IsEdgeOf cat) edges) (sym t.edges) (edges_known cat))

pub entries_named : (cat : Catalogue) (entries : List Entry) → IsWhole cat → IsTable cat entries → All (λ (e : Entry). NamesClasses e.edge) entries
entries_named cat entries whole t =
    all_of_edges NamesClasses entries (subst (λ (edges : List Edge). All NamesClasses edges) (sym t.edges) (edges_named cat whole))

between : (cat : Catalogue) (i j : ℕ) (e : Edge) → IsEdgeOf cat e → is_between i j e ≡ true → IsClassOf cat i × IsClassOf cat j
between cat i j (Vertical c) is e = absurd cc
between cat i j (Horizontal c d) is e = absurd cc
between cat i j (Diagonal c d f) is e =
    let p = and_parts (c.0 == i) (d.0 == j) e in
    (subst (IsClassOf cat) (eqb-true c.0 i p.0) is.reader, subst (IsClassOf cat) (eqb-true d.0 j p.1) is.writer)

-- one that waits is a class, and so is the one for which it waits
pub waiting_classes : (cat : Catalogue) (entries : List Entry) → IsTable cat entries → (i j : ℕ) → waits_for entries i j ≡ true
    → IsClassOf cat i × IsClassOf cat j
waiting_classes cat entries t i j e =
    let x = member_passes (is_wait i j) entries e in
    between cat i j (x.0).edge (All-contains (λ (e : Entry). IsEdgeOf cat e.edge) entries x.0 (entries_known cat entries t) x.1)
    (and_parts (is_between i j (x.0).edge) (asks (x.0).protocol) x.2).0

-- what holds of all entries holds of the first that passes a test
pub found_has : (P : Entry → Type 0) (test : Entry → Bool) (entries : List Entry) (x : Entry) → All P entries → find test entries ≡ Some x → P x
found_has P test [] x all e = absurd cc
found_has P test (y ∷ entries) x all e =
    elim (test y) as (λ b. cond b (Some y) (find test entries) ≡ Some x → P x) [
      | true ↦ λ s. subst P (same_Some y x s) (All-head P y entries all)
      | false ↦ λ s. found_has P test entries x (All-tail P y entries all) s
    ] e

-- where none has P3
pub none_found : (entries : List Entry) → first_p3 entries ≡ None → HasNoP3 entries
none_found [] e k x s = absurd cc
none_found (y ∷ entries) e zero x s = grind (arith, nat_tests, same_Some)
none_found (y ∷ entries) e (suc k) x s = none_found entries (grind (arith, nat_tests)) k x s
