-- The value of an item: there is one, only changes of the item count, and the copy of its fragment holds it.
use Rattle.sdd_laws.proofs.All.{ArePlaced, Catalogue, Change, Contains, Dated, Decides-eqb, IsValue, Item, LeaveOneRow, None, Option, Row, Some, ap, arith, contents, false, fragment_at, fragment_of, item_of, latest, nat_lt, nat_tests, of_fragment, refl, sym, untouched, written, ℕ, ℤ, ◌==◌, ◌∙◌, ◌≡◌, ◌≤◌}
use Rattle.sdd_laws.proofs.Latest.{contents_left, left_there}
use Rattle.sdd_laws.proofs.Members.{Contains-filter, Contains-from_filter}
use Rattle.sdd_laws.specs.Values.{IsLatest}
use Rattle.sdd_copy.proofs.Order as latest_of

pub one_value : (cat : Catalogue) (xs : Dated) (item : Item) (v w : Option Row) → LeaveOneRow cat xs
    → IsValue cat xs item v → IsValue cat xs item w → v ≡ w
one_value cat xs item v w one e f = grind arith

-- the value is the same by other changes, where those of the item are the same
pub same_value : (cat : Catalogue) (xs ys : Dated) (item : Item) (v : Option Row)
    → ((x : ℕ × Change) → item_of cat x.1 ≡ item → Contains xs x → Contains ys x)
    → ((x : ℕ × Change) → item_of cat x.1 ≡ item → Contains ys x → Contains xs x)
    → IsValue cat xs item v → IsValue cat ys item v
same_value cat xs ys item v there back (written x l e) =
    written x (record { there = there x l.of l.there; of = l.of; newest = λ y h o. l.newest y (back y o h) o }) e
same_value cat xs ys item v there back (untouched n e) = untouched (λ x h o. n x (back x o h) o) e

-- changes of a fragment

in_mine : (f : ℕ) (xs : Dated) (x : ℕ × Change) → Contains (of_fragment f xs) x → Contains xs x × (x.1.frag.0 ≡ f)
in_mine f xs x h =
    let k = Contains-from_filter (λ (z : ℕ × Change). z.1.frag.0 == f) xs x h in
    (k.0, (Decides-eqb x.1.frag.0 f).0 k.1)

mine_in : (f : ℕ) (xs : Dated) (x : ℕ × Change) → Contains xs x → x.1.frag.0 ≡ f → Contains (of_fragment f xs) x
mine_in f xs x h e = Contains-filter (λ (z : ℕ × Change). z.1.frag.0 == f) xs x h ((Decides-eqb x.1.frag.0 f).1 e)

item_at : (cat : Catalogue) (x : ℕ × Change) (f : ℕ) (k : ℤ) → x.1.frag.0 ≡ f → x.1.key ≡ k
    → item_of cat x.1 ≡ ((fragment_at cat f).rel.0, k)
item_at cat x f k e h = ap (λ z. ((fragment_at cat z).rel.0, x.1.key)) e ∙ ap (λ z. ((fragment_at cat f).rel.0, z)) h

-- a change of an item is of its fragment
pub fragment_is : (cat : Catalogue) (xs : Dated) (item : Item) (x : ℕ × Change) → ArePlaced cat xs → Contains xs x
    → item_of cat x.1 ≡ item → x.1.frag.0 ≡ fragment_of cat item.0 item.1
fragment_is cat xs item x placed h e = sym (placed x h) ∙ ap (λ (i : Item). fragment_of cat i.0 i.1) e

not_before : (x y : ℕ × Change) → nat_lt x.0 y.0 ≡ false → y.0 ≤ x.0
not_before x y e = grind (arith, nat_tests)

-- of the changes of a key in an item's fragment the latest is the item's
latest_is : (cat : Catalogue) (xs : Dated) (f : ℕ) (k : ℤ) (x : ℕ × Change) → ArePlaced cat xs
    → fragment_of cat (fragment_at cat f).rel.0 k ≡ f → latest_of.IsLatest k (of_fragment f xs) x
    → IsLatest cat xs ((fragment_at cat f).rel.0, k) x
latest_is cat xs f k x placed holder l =
    let here = in_mine f xs x l.among in
    record {
      there = here.0;
      of = item_at cat x f k here.1 l.own;
      newest =
          λ y there e.
          not_before x y
          (grind (arith, mine_in, fragment_is, fragment_at));
    }

-- what a copy holds is the value of the item, which lies in its fragment
pub contents_value : (cat : Catalogue) (xs : Dated) (f : ℕ) (k : ℤ) (row : Row) → ArePlaced cat xs
    → Contains (contents f xs) (k, row)
    → IsValue cat xs ((fragment_at cat f).rel.0, k) (Some row) × (fragment_of cat (fragment_at cat f).rel.0 k ≡ f)
contents_value cat xs f k row placed h =
    let l = contents_left f xs k row h in
    let x : ℕ × Change = l.0 in
    let here = in_mine f xs x l.1.among in
    let holder : fragment_of cat (fragment_at cat f).rel.0 k ≡ f = grind (arith, nat_tests, fragment_is, fragment_at, item_at) in
    (written x (latest_is cat xs f k x placed holder l.1) l.2, holder)

-- and each value is held by the copy of its fragment
pub value_contents : (cat : Catalogue) (xs : Dated) (item : Item) (row : Row) → ArePlaced cat xs → LeaveOneRow cat xs
    → IsValue cat xs item (Some row) → Contains (contents (fragment_of cat item.0 item.1) xs) (item.1, row)
value_contents cat xs item row placed one (untouched n e) = cc
value_contents cat xs item row placed one (written x l e) =
    let f : ℕ = fragment_of cat item.0 item.1 in
    let here : x.1.frag.0 ≡ f = fragment_is cat xs item x placed l.there l.of in
    let key : x.1.key ≡ item.1 = ap (λ (i : Item). i.1) l.of in
    let same : (y : ℕ × Change) → Contains (of_fragment f xs) y → y.1.key ≡ item.1 → item_of cat y.1 ≡ item =
    λ y h k. item_at cat y f item.1 (in_mine f xs y h).1 k ∙ sym (item_at cat x f item.1 here key) ∙ l.of in
    left_there f xs item.1 row x (mine_in f xs x l.there here) key e
    (λ y h k. l.newest y (in_mine f xs y h).0 (same y h k))
    (λ y h k d. one y x (in_mine f xs y h).0 l.there (same y h k ∙ sym l.of) d)

-- each item of a fragment has a value
pub some_value : (cat : Catalogue) (xs : Dated) (f : ℕ) (k : ℤ) → ArePlaced cat xs
    → fragment_of cat (fragment_at cat f).rel.0 k ≡ f
    → (v : Option Row) × IsValue cat xs ((fragment_at cat f).rel.0, k) v
some_value cat xs f k placed holder = by (latest k (of_fragment f xs)) (latest_of.latest_answers k (of_fragment f xs))
  where
    by : (o : Option (ℕ × Change)) → latest_of.Answers k (of_fragment f xs) o
        → (v : Option Row) × IsValue cat xs ((fragment_at cat f).rel.0, k) v
    by None none =
        (None, untouched (λ x h e. none x (mine_in f xs x h (fragment_is cat xs ((fragment_at cat f).rel.0, k) x placed h e ∙ holder)) (ap (λ (i : Item). i.1) e)) refl)
    by (Some x) l = (x.1.row, written x (latest_is cat xs f k x placed holder l) refl)
