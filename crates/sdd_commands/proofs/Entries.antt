-- The entries of a table are edges of its catalogue.
use Rattle.sdd_commands.proofs.All.{All, All-cons, All-head, All-nil, All-tail, Catalogue, Edge, Entry, IsEdgeOf, IsTable, List, [], edges_known, map, subst, sym, ◌∷◌}

-- what holds of each edge of the entries holds of each entry
all_of_edges : (P : Edge → Type 0) (entries : List Entry) → All P (map (λ (e : Entry). e.edge) entries) → All (λ (e : Entry). P e.edge) entries
all_of_edges P [] all = All-nil (λ (e : Entry). P e.edge)
all_of_edges P (e ∷ entries) all =
    let edges : List Edge = map (λ (d : Entry). d.edge) entries in
    All-cons (λ (d : Entry). P d.edge) e entries (All-head P e.edge edges all) (all_of_edges P entries (All-tail P e.edge edges all))

pub entries_known : (cat : Catalogue) (entries : List Entry) → IsTable cat entries → All (λ (e : Entry). IsEdgeOf cat e.edge) entries
entries_known cat entries t = all_of_edges (IsEdgeOf cat) entries (subst (λ (edges : List Edge). All (IsEdgeOf cat) edges) (sym t.edges) (edges_known cat))
