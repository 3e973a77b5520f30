-- What stands at an item after changes.
use Rattle.sdd_laws.proofs.All.{Catalogue, Change, Contains, Contains-cases, Contains-here, Contains-later, Contains-nil, Database, IsStrictlySortedBy, Item, List, None, Option, Row, Some, [], after_changes, ap, arith, changed_by, cond, inl, inr, inserted_sorted, item_cmp, item_cmp_exact, item_cmp_total, item_of, keys_of, nat_tests, refl, removed_sorted, row_at, rules, set_to, subst, sym, ◌∙◌, ◌∷◌, ◌≡◌, ◌⊎◌}
use Rattle.sdd_laws.proofs.LookUps.{key_or_not, test_own, test_other, put_in, taken_out}

abbrev pub Ascends : Database → Type 0
Ascends db = IsStrictlySortedBy item_cmp (keys_of db)

pub item_or_not : (a b : Item) → (a ≡ b) ⊎ (a ≡ b → ⊥)
item_or_not a b = key_or_not item_cmp item_cmp_total item_cmp_exact a b

-- one item is set

set_here : (db : Database) (item at : Item) (r : Option Row) → Ascends db → item ≡ at → row_at (set_to db item r) at ≡ r
set_here db item at None s e =
    taken_out item_cmp item_cmp_total item_cmp_exact db item at s
    ∙ ap (λ b. cond b None (row_at db at)) (test_own item_cmp item_cmp_total item_cmp_exact item at e)
set_here db item at (Some row) s e =
    put_in item_cmp item_cmp_total item_cmp_exact db item row at
    ∙ ap (λ b. cond b (Some row) (row_at db at)) (test_own item_cmp item_cmp_total item_cmp_exact at item (sym e))

set_other : (db : Database) (item at : Item) (r : Option Row) → Ascends db → (item ≡ at → ⊥)
    → row_at (set_to db item r) at ≡ row_at db at
set_other db item at None s n =
    taken_out item_cmp item_cmp_total item_cmp_exact db item at s
    ∙ ap (λ b. cond b None (row_at db at)) (test_other item_cmp item_cmp_total item_cmp_exact item at n)
set_other db item at (Some row) s n =
    put_in item_cmp item_cmp_total item_cmp_exact db item row at
    ∙ ap (λ b. cond b (Some row) (row_at db at))
    (test_other item_cmp item_cmp_total item_cmp_exact at item (λ e. n (sym e)))

module _ (cat : Catalogue) where
  -- none of these is of the item
  abbrev pub Untouched : List Change → Item → Type 0
  Untouched cs item = (c : Change) → Contains cs c → item_of cat c ≡ item → ⊥

  pub some_change : (cs : List Change) (item : Item)
      → ((c : Change) × Contains cs c × (item_of cat c ≡ item)) ⊎ Untouched cs item
  some_change [] item = inr (λ c h e. Contains-nil c h)
  some_change (c ∷ cs) item =
      elim (item_or_not (item_of cat c) item) [
        | inl e ↦ inl (c, Contains-here c cs, e)
        | inr n ↦ grind (arith, Contains-later, Contains-cases, item_of, (some_change cs item))
      ]

  pub untouched_at : (db : Database) (cs : List Change) (item : Item) → Ascends db → Untouched cs item
      → row_at (after_changes cat db cs) item ≡ row_at db item
  untouched_at db [] item s n = refl
  untouched_at db (c ∷ cs) item s n = grind (arith, rules, removed_sorted, inserted_sorted, item_cmp_total, Contains-later, set_other, Contains-here, (untouched_at (changed_by cat db c) cs item (search (rules, removed_sorted, inserted_sorted, item_cmp_total)) (λ d h e. n d (Contains-later c cs d h) e)))

  pub changed_at : (db : Database) (cs : List Change) (c : Change) → Ascends db
      → ((d e : Change) → Contains cs d → Contains cs e → item_of cat d ≡ item_of cat e → d ≡ e) → Contains cs c
      → row_at (after_changes cat db cs) (item_of cat c) ≡ c.row
  changed_at db [] c s once h = absurd (Contains-nil c h)
  changed_at db (x ∷ cs) c s once h =
      let next : Ascends (changed_by cat db x) = (search (rules, removed_sorted, inserted_sorted, item_cmp_total)) in
      let rest : (d e : Change) → Contains cs d → Contains cs e → item_of cat d ≡ item_of cat e → d ≡ e = grind (arith, nat_tests, Contains-later) in
      elim (some_change cs (item_of cat c)) [
        | inl later ↦
            let same : c ≡ later.0 = once c later.0 h (Contains-later x cs later.0 later.1) (sym later.2) in
            changed_at (changed_by cat db x) cs c next rest (subst (Contains cs) (sym same) later.1)
        | inr none ↦
            grind (arith, Contains-cases, row_at, after_changes, changed_by, item_of, untouched_at, set_here)
      ]
