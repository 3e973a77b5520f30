-- A read condition names another class than the attempt's own.
use Rattle.sdd_progress.proofs.All.{All-contains, Bool, Catalogue, Cond, Contains, Contains-from_filter_map, Contains-from_map, Contains-here, Contains-map, Diagonal, Edge, FragNo, IsEdgeOf, IsTable, List, P2, P3, Protocol, Some, and_parts, ap, arith, ascending, asked_by, asked_in, class_no, cond, cond_of, condition_class, condition_is, condition_on, conditions, conditions_of, conflict_graph, each_to, edges_known, eqb-true, false, frag_no, fragments_in, fragments_of, inl, inr, is_asked, length, map, p2_time, refl, subst, sym, true, undeclared_conditions, ℕ, ◌==◌, ◌∙◌, ◌∷◌, ◌≡◌, ◌≢◌, ◌≤◌}
use Rattle.sdd_obligations.specs.All.{classes_of}
use Rattle.sdd_obligations.specs.protocol.declared.entry.Entry.{Entry}
use Rattle.sdd_obligations.specs.links.Attempts.{Attempt}

-- a diagonal of the table from the one class to the other
pub record HasDiagonal (entries : List Entry) (i j : ℕ) : Type 0 where
  pub entry : Entry
  pub there : Contains entries entry
  pub fragment : FragNo
  pub edge_is : entry.edge ≡ Diagonal (class_no i) (class_no j) fragment

some_asked : (p : Protocol) (test : ℕ → Bool) (entries : List Entry) (i j : ℕ) (f : FragNo) (rest : List FragNo)
    → asked_by p test entries i j ≡ f ∷ rest → HasDiagonal entries i j
some_asked p test entries i j f rest e =
    let r = Contains-from_filter_map (asked_in p test i j) entries f (subst (λ xs. Contains xs f) (sym e) (Contains-here f rest)) in
    record { entry = r.0; there = r.1; fragment = f; edge_is = (grind (arith, and_parts, eqb-true)) }

diagonal_of : (test : ℕ → Bool) (entries : List Entry) (i own p2 j : ℕ) (c : Cond)
    → condition_on test entries i own p2 j ≡ Some c → HasDiagonal entries i j
diagonal_of test entries i own p2 j c e = elim (condition_is test entries i own p2 j c e) [
  | inl a ↦ some_asked P3 test entries i j a.first a.more a.some
  | inr a ↦ some_asked P2 test entries i j a.first a.more a.some
]

-- a diagonal joins two classes
pub two_classes : (cat : Catalogue) (entries : List Entry) (i j : ℕ) → IsTable cat entries → HasDiagonal entries i j → i ≢ j
two_classes cat entries i j table d =
    let edge : Edge = Diagonal (class_no i) (class_no j) d.fragment in
    let mapped : Contains (map (λ (e : Entry). e.edge) entries) d.entry.edge = Contains-map (λ (e : Entry). e.edge) entries d.entry d.there in
    let in_graph : Contains (conflict_graph cat) edge =
    subst (Contains (conflict_graph cat)) d.edge_is (subst (λ xs. Contains xs d.entry.edge) table.edges mapped) in
    (All-contains (IsEdgeOf cat) (conflict_graph cat) edge (edges_known cat) in_graph).others

pub other_class : (era cat : Catalogue) (table : List Entry) (a : Attempt) (d : ℕ) (c : Cond) → IsTable era table
    → Contains (conditions_of cat table a d) c → c.class.0 ≢ a.class
other_class era cat table a d c is =
    let frags = map frag_no (ascending (fragments_in a.uses)) in
    elim (a.class == 0) as (λ b. (a.class == 0) ≡ b
    → Contains (cond b (undeclared_conditions cat a.ts) (conditions cat table a.class d frags a.ts
    (p2_time a))) c → c.class.0 ≢ a.class) [
      | true ↦ λ z m e.
          let of = Contains-from_map (λ k. cond_of k a.ts (map frag_no (fragments_of cat))) (classes_of cat) c m in
          let class : c.class.0 ≡ of.0 = ap (λ (z : Cond). z.class.0) of.2 in
          let none = eqb-true a.class 0 z in
          absurd (omega (arith, (All-contains (λ k. (1 ≤ k) × (k ≤ length cat.classes)) (classes_of cat) of.0 (each_to (length cat.classes)) of.1).0))
      | false ↦ λ z m e.
          let test = is_asked cat a.class d frags in
          let of = Contains-from_filter_map (condition_on test table a.class a.ts (p2_time a)) (classes_of cat) c m in
          let on = condition_class test table a.class a.ts (p2_time a) of.0 c of.2 in
          two_classes era table a.class of.0 is (diagonal_of test table a.class a.ts (p2_time a) of.0 c of.2) (sym e ∙ on)
    ] refl
