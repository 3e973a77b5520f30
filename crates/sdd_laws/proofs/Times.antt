-- The times of read conditions.
use Rattle.sdd_laws.proofs.All.{Attempt, Catalogue, Cond, Contains, Contains-from_filter_map, Contains-from_map, Entry, List, Option, Some, Ts, ap, ascending, asked_time, classes_of, cond, cond_of, condition_on, conditions, conditions_of, false, frag_no, fragments_in, fragments_of, inl, inr, is_asked, is_some, map, not, option_map, p2_time, rules, true, undeclared_conditions, unwrap_or, ℕ, ◌==◌, ◌∙◌, ◌≡◌, ◌⊎◌}

p2_there : (o : Option Ts) → is_some o ≡ true → (t : Ts) × (o ≡ Some t) × (unwrap_or (option_map (λ (z : Ts). z.0) o) 0 ≡ t.0)
p2_there o e = search rules

-- a condition of an attempt is up to its timestamp or up to its time of P2
pub condition_time : (cat : Catalogue) (table : List Entry) (a : Attempt) (d : ℕ) (c : Cond)
    → Contains (conditions_of cat table a d) c → is_some a.p2 ≡ not (a.class == 0)
    → (c.time.0 ≡ a.ts) ⊎ ((t : Ts) × (a.p2 ≡ Some t) × (c.time.0 ≡ t.0))
condition_time cat table a d c =
    let frags = map frag_no (ascending (fragments_in a.uses)) in
    elim (a.class == 0) as
    (λ b. Contains (cond b (undeclared_conditions cat a.ts)
    (conditions cat table a.class d frags a.ts (p2_time a))) c → is_some a.p2 ≡ not b → (c.time.0 ≡ a.ts) ⊎
    ((t : Ts) × (a.p2 ≡ Some t) × (c.time.0 ≡ t.0))) [
      | true ↦ λ m e.
          inl (ap (λ (z : Cond). z.time.0) (Contains-from_map (λ k. cond_of k a.ts (map frag_no (fragments_of cat))) (classes_of cat) c m).2)
      | false ↦ λ m e.
          let of = Contains-from_filter_map (condition_on (is_asked cat a.class d frags) table a.class a.ts (p2_time a)) (classes_of cat) c m in
          let time = asked_time (is_asked cat a.class d frags) table a.class a.ts (p2_time a) of.0 c of.2 in
          let there = p2_there a.p2 e in
          elim time [ inl t ↦ inl t | inr t ↦ inr (there.0, there.1, t ∙ there.2) ]
    ]
