-- The database that is put together of the copies which an attempt reads has these copies.
use Rattle.sdd_serving.proofs.All.{ArePlaced, Catalogue, Contains, Contains-nil, Database, Dated, FragNo, Has, HasCopies, IsDatabase, IsStrictlySortedBy, Item, List, None, Option, Row, Some, Txn, Use, [], ap, arith, contents, entries_ascend, entries_of, fragment_of, has_copy, is_read_at, item_cmp, keys_of, lies_there, option_eq, reads_at, refl, sorted_nil, subst, sym, together, true, uses_of, ℕ, ◌==◌, ◌∙◌, ◌≡◌}

-- a use of the transaction is of the fragment
pub record IsUsed (cat : Catalogue) (txn : Txn) (f : ℕ) : Type 0 where
  pub usage : Use
  pub frag : FragNo
  pub there : Has (uses_of cat txn) usage
  pub among : Has usage.frags frag
  pub number : frag.0 ≡ f

-- an entry of the copy of a fragment that a use is of, at the module where the class reads it
pub record IsPiece (cat : Catalogue) (c : ℕ) (txn : Txn) (dated : ℕ → Dated) (e : Item × Row) : Type 0 where
  pub frag : ℕ
  pub module_no : ℕ
  pub used : IsUsed cat txn frag
  pub read : is_read_at cat c module_no frag ≡ true
  pub there : Contains (entries_of cat frag (contents frag (dated module_no))) e

-- a class reads a fragment at one module

read_where : (o : Option ℕ) (d : ℕ) → option_eq ◌==◌ o (Some d) ≡ true → o ≡ Some d
read_where o d e = grind arith

module _ (cat : Catalogue) (c : ℕ) (txn : Txn) (dms : List ℕ) (dated : ℕ → Dated) (placed : (d : ℕ) → ArePlaced cat (dated d)) where
  -- the copy of a fragment where the class reads it
  abbrev copy_where : ℕ → Option ℕ → Database
  copy_where f None = []
  copy_where f (Some d) = entries_of cat f (contents f (dated d))

  copy_there : (d f : ℕ) → is_read_at cat c d f ≡ true → copy_where f (reads_at cat c f) ≡ entries_of cat f (contents f (dated d))
  copy_there d f read = ap (copy_where f) (read_where (reads_at cat c f) d read)

  ascends : (f : ℕ) (o : Option ℕ) → IsStrictlySortedBy item_cmp (keys_of (copy_where f o))
  ascends f o = grind (arith, sorted_nil, entries_ascend)

  lies : (f : ℕ) (o : Option ℕ) (e : Item × Row) → Contains (copy_where f o) e → fragment_of cat e.0.0 e.0.1 ≡ f
  lies f None e h = absurd (Contains-nil e h)
  lies f (Some d) e h = lies_there cat f (dated d) e (placed d) h

  module _ (place : (u : Use) (f : FragNo) → Has (uses_of cat txn) u → Has u.frags f → (d : ℕ) × Has dms d × (is_read_at cat c d f.0 ≡ true))
      -- the pieces are the entries of these copies
      (pieces : List (Item × Row)) (each : (e : Item × Row) → IsPiece cat c txn dated e → Contains pieces e)
      (of : (e : Item × Row) → Contains pieces e → IsPiece cat c txn dated e) where
    read_there : (f : ℕ) → IsUsed cat txn f → (d : ℕ) × (is_read_at cat c d f ≡ true)
    read_there f used = grind arith

    each_piece : (f : ℕ) (e : Item × Row) → IsUsed cat txn f → Contains (copy_where f (reads_at cat c f)) e → Contains pieces e
    each_piece f e used h = grind (arith, read_there, copy_there)

    of_piece : (e : Item × Row) → Contains pieces e → (f : ℕ) × IsUsed cat txn f × Contains (copy_where f (reads_at cat c f)) e
    of_piece e h =
        let p = of e h in
        (p.frag, p.used, subst (λ z. Contains z e) (sym (copy_there p.module_no p.frag p.read)) p.there)

    pub has_copies : IsDatabase cat (together pieces) → HasCopies cat c txn dms (λ d f. contents f (dated d)) (together pieces)
    has_copies is =
        record {
          is = is;
          rows = λ d u f there among read.
              has_copy cat (IsUsed cat txn) (λ n. copy_where n (reads_at cat c n)) pieces each_piece of_piece
              (λ n e h. lies n (reads_at cat c n) e h) (λ n. ascends n (reads_at cat c n)) f.0
              (record { usage = u; frag = f; there = there; among = among; number = refl }) ∙ copy_there d f.0 read;
          place = place;
        }
