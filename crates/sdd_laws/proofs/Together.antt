-- A database that is put together of copies of some fragments has in each of these fragments what its copy has.
use Rattle.sdd_laws.proofs.All.{Catalogue, Contains, Contains-nil, Database, Decides-eqb, IsStrictlySortedBy, Item, List, Row, [], ap, filtered_sorted, fold, fragment_of, inl, inr, item_cmp, item_cmp_exact, item_cmp_total, keys_of, rows_in_fragment, sorted_nil, subst, sym, ℕ, ◌==◌, ◌∙◌, ◌≡◌}
use Rattle.sdd_laws.proofs.Gathered.{with_entry, gathered_from, gathered_there, gathered_sorted}
use Rattle.sdd_laws.proofs.LookUps.{one_entry, same_members}
use Rattle.sdd_laws.proofs.Members.{Contains-filter, Contains-from_filter}

abbrev pub together : List (Item × Row) → Database
together es = fold (with_entry item_cmp item_cmp_total item_cmp_exact) [] es

module _ (cat : Catalogue) (Asked : ℕ → Type 0) (held : ℕ → Database) (pieces : List (Item × Row))
    -- the pieces are the entries of the copies of these fragments
    (each : (f : ℕ) (e : Item × Row) → Asked f → Contains (held f) e → Contains pieces e)
    (of : (e : Item × Row) → Contains pieces e → (f : ℕ) × Asked f × Contains (held f) e)
    -- which are each of its fragment, and in order
    (lies : (f : ℕ) (e : Item × Row) → Contains (held f) e → fragment_of cat e.0.0 e.0.1 ≡ f)
    (ascends : (f : ℕ) → IsStrictlySortedBy item_cmp (keys_of (held f))) where
  one_piece : (d e : Item × Row) → Contains pieces d → Contains pieces e → d.0 ≡ e.0 → d ≡ e
  one_piece d e h k same =
      let a = of d h in
      let b = of e k in
      let one : b.0 ≡ a.0 =
      sym (lies b.0 e b.2) ∙ ap (λ (i : Item). fragment_of cat i.0 i.1) (sym same) ∙ lies a.0 d a.2 in
      let rows : d.1 ≡ e.1 =
      one_entry item_cmp item_cmp_total item_cmp_exact (held a.0) e.0 d.1 e.1 (ascends a.0)
      (subst (λ i. Contains (held a.0) (i, d.1)) same a.2) (subst (λ n. Contains (held n) e) one b.2) in
      ap (λ i. (i, d.1)) same ∙ ap (λ r. (e.0, r)) rows

  pub has_copy : (f : ℕ) → Asked f → rows_in_fragment cat (together pieces) f ≡ held f
  has_copy f asked =
      same_members item_cmp item_cmp_total item_cmp_exact (rows_in_fragment cat (together pieces) f) (held f)
      (filtered_sorted item_cmp (λ e. fragment_of cat e.0.0 e.0.1 == f) (together pieces)
      (gathered_sorted item_cmp item_cmp_total item_cmp_exact [] pieces (sorted_nil item_cmp)))
      (ascends f) forth back
    where
      forth : (e : Item × Row) → Contains (rows_in_fragment cat (together pieces) f) e → Contains (held f) e
      forth e h =
          let k =
          Contains-from_filter (λ (e : Item × Row). fragment_of cat e.0.0 e.0.1 == f) (together pieces) e h in
          let piece : Contains pieces e =
          elim (gathered_from item_cmp item_cmp_total item_cmp_exact [] pieces e (sorted_nil item_cmp) k.0) [
            | inl nothing ↦ absurd (Contains-nil e nothing)
            | inr there ↦ there
          ] in
          let g = of e piece in
          let same : g.0 ≡ f = sym (lies g.0 e g.2) ∙ (Decides-eqb (fragment_of cat e.0.0 e.0.1) f).0 k.1 in
          subst (λ n. Contains (held n) e) same g.2

      back : (e : Item × Row) → Contains (held f) e → Contains (rows_in_fragment cat (together pieces) f) e
      back e h =
          let piece : Contains pieces e = each f e asked h in
          let there : Contains (together pieces) e =
          gathered_there item_cmp item_cmp_total item_cmp_exact [] pieces e (sorted_nil item_cmp)
          (λ d i same. one_piece d e i piece same) piece in
          Contains-filter (λ (e : Item × Row). fragment_of cat e.0.0 e.0.1 == f) (together pieces) e there
          ((Decides-eqb (fragment_of cat e.0.0 e.0.1) f).1 (lies f e h))
