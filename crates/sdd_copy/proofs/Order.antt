-- The contents of changes are determined by which changes there are, not by their order.
use Rattle.sdd_copy.proofs.All.{AreSame, Bool, Change, Contains, Contains-cases, Contains-here, Contains-later, Contains-nil, Dated, DatesDiffer, Equal, Greater, Items, Less, List, None, Option, Some, Value, [], ap, arith, cond, contents, entries_in, false, if◌then◌else◌, inl, inr, int_cmp, is_at, is_eq, items_of, latest, lookup, nat_lt, nat_tests, newer, of_fragment, refl, sym, true, ℕ, ℤ, ◌==◌, ◌∙◌, ◌∷◌, ◌≡◌}
use Rattle.sdd_copy.proofs.Contents.{Above, Ascends, Keeps, same_key, flipped, is_own, eq_is, above_none, above_all, items_keep, shown, items_tell}

-- the change x is one of key, and none of key in xs has a greater date
pub record IsLatest (key : ℤ) (xs : Dated) (x : ℕ × Change) : Type 0 where
  pub among : Contains xs x
  pub own : x.1.key ≡ key
  pub last : (y : ℕ × Change) → Contains xs y → y.1.key ≡ key → nat_lt x.0 y.0 ≡ false

abbrev NoneOf : ℤ → Dated → Type 0
NoneOf key xs = (y : ℕ × Change) → Contains xs y → y.1.key ≡ key → ⊥

-- what latest answers
abbrev pub Answers : ℤ → Dated → Option (ℕ × Change) → Type 0
Answers key xs None = NoneOf key xs
Answers key xs (Some x) = IsLatest key xs x

not_before : (n : ℕ) → nat_lt n n ≡ false
not_before n = grind (arith, nat_tests)

less_than_latest : (a b c : ℕ) → nat_lt a b ≡ false → nat_lt b c ≡ false → nat_lt a c ≡ false
less_than_latest a b c e f = grind (arith, nat_tests)

-- a change of another key in front
other_front : (key : ℤ) (x : ℕ × Change) (xs : Dated) (o : Option (ℕ × Change)) → (x.1.key ≡ key → ⊥) → Answers key xs o
    → Answers key (x ∷ xs) o
other_front key x xs None other h = λ y in_it own. elim (Contains-cases x xs y in_it) as (λ s. ⊥) [
  | inl e ↦ other (ap (λ z. z.1.key) (sym e) ∙ own)
  | inr later ↦ h y later own
]
other_front key x xs (Some z) other h = grind (arith, Contains-later, Contains-cases, nat_lt)

-- a change of this key in front: the newer of the two
later_one : (key : ℤ) (x z : ℕ × Change) (xs : Dated) (b : Bool) → nat_lt x.0 z.0 ≡ b → x.1.key ≡ key → IsLatest key xs z
    → Answers key (x ∷ xs) (cond b (Some z) (Some x))
later_one key x z xs b e own h = grind (arith, Contains-later, Contains-cases, nat_lt, nat_tests, Contains-here, not_before, less_than_latest)

own_front : (key : ℤ) (x : ℕ × Change) (xs : Dated) (o : Option (ℕ × Change)) → x.1.key ≡ key → Answers key xs o
    → Answers key (x ∷ xs) (newer x o)
own_front key x xs None own h = record {
  among = Contains-here x xs;
  own = own;
  last = λ y in_it is. elim (Contains-cases x xs y in_it) as (λ s. nat_lt x.0 y.0 ≡ false) [
    | inl same ↦ rw same (not_before x.0)
    | inr later ↦ absurd (h y later is)
  ];
}
own_front key x xs (Some z) own h = later_one key x z xs (nat_lt x.0 z.0) refl own h

front : (key : ℤ) (x : ℕ × Change) (xs : Dated) (b : Bool) → is_eq (int_cmp x.1.key key) ≡ b → Answers key xs (latest key xs)
    → Answers key (x ∷ xs) (if b then newer x (latest key xs) else latest key xs)
front key x xs b e h = grind (arith, own_front, same_key, eq_is, int_cmp, other_front, is_own)

pub latest_answers : (key : ℤ) (xs : Dated) → Answers key xs (latest key xs)
latest_answers key [] = λ y in_it own. Contains-nil y in_it
latest_answers key (x ∷ xs) = front key x xs (is_eq (int_cmp x.1.key key)) refl (latest_answers key xs)

not_either : (a b : ℕ) → nat_lt a b ≡ false → nat_lt b a ≡ false → a ≡ b
not_either a b e f = grind (arith, nat_tests)

-- changes of one fragment: two different ones of one key have different dates
abbrev Differ : Dated → Type 0
Differ xs = (x y : ℕ × Change) → Contains xs x → Contains xs y → x.1.key ≡ y.1.key → x.0 ≡ y.0 → x ≡ y

one_answer : (key : ℤ) (xs ys : Dated) (o p : Option (ℕ × Change)) → Differ xs → AreSame xs ys → Answers key xs o → Answers key ys p → o ≡ p
one_answer key xs ys None None d s g h = refl
one_answer key xs ys None (Some y) d s g h = absurd (g y ((s y).1 h.among) h.own)
one_answer key xs ys (Some x) None d s g h = absurd (h x ((s x).0 g.among) g.own)
one_answer key xs ys (Some x) (Some y) d s g h =
    ap Some (d x y g.among ((s y).1 h.among) (g.own ∙ sym h.own) (not_either x.0 y.0 (g.last y ((s y).1 h.among) h.own) (h.last x ((s x).0 g.among) g.own)))

-- ascending items are determined by what they hold at each key
abbrev Held : ℤ → Items → Option (ℕ × Option (List Value))
Held k es = lookup (is_at (int_cmp k)) es

abbrev Item : Type 0
Item = ℤ × (ℕ × Option (List Value))

at_first : (e : Item) (es : Items) → Held e.0 (e ∷ es) ≡ Some e.1
at_first e es = rw (is_own e.0) refl

first_missing : (e : Item) (es fs : Items) → Above e.0 fs → Held e.0 (e ∷ es) ≡ Held e.0 fs → ⊥
first_missing e es fs a h = grind (arith, Held, at_first, above_none)

rest_same : (k : ℤ) (e f : Item) (es fs : Items) (b : Bool) → is_eq (int_cmp k e.0) ≡ b → e.0 ≡ f.0 → Above e.0 es → Above f.0 fs
    → cond b (Some e.1) (Held k es) ≡ cond b (Some f.1) (Held k fs) → Held k es ≡ Held k fs
rest_same k e f es fs b own same a c h = grind (arith, same_key, eq_is, int_cmp, Held, above_none)

split_same : (k : ℤ) (e f : Item) (es fs : Items) → e.0 ≡ f.0 → Held k (e ∷ es) ≡ Held k (f ∷ fs)
    → cond (is_eq (int_cmp k e.0)) (Some e.1) (Held k es) ≡ cond (is_eq (int_cmp k e.0)) (Some f.1) (Held k fs)
split_same k e f es fs same h = h ∙ ap (λ j. cond (is_eq (int_cmp k j)) (Some f.1) (Held k fs)) (sym same)

first_same : (e f : Item) (es fs : Items) → e.0 ≡ f.0 → Held e.0 (e ∷ es) ≡ Held e.0 (f ∷ fs) → e ≡ f
first_same e f es fs same h =
    let one : Some e.1 ≡ Some f.1 = sym (at_first e es) ∙ h ∙ ap (λ j. Held j (f ∷ fs)) same ∙ at_first f fs in
    let item : e.1 ≡ f.1 = cc in
    pair_same e f same item
  where
    pair_same : (e f : Item) → e.0 ≡ f.0 → e.1 ≡ f.1 → e ≡ f
    pair_same (a, b) (c, d) p q = rw (p, q) refl

same_items : (es fs : Items) → Ascends es → Ascends fs → ((k : ℤ) → Held k es ≡ Held k fs) → es ≡ fs
same_items [] [] s t h = refl
same_items [] (f ∷ fs) s t h = absurd (first_missing f fs [] tt (sym (h f.0)))
same_items (e ∷ es) [] s t h = absurd (first_missing e es [] tt (h e.0))
same_items (e ∷ es) (f ∷ fs) s t h =
    elim (int_cmp e.0 f.0) as (λ o. int_cmp e.0 f.0 ≡ o → e ∷ es ≡ f ∷ fs) [
      | Less ↦ λ p. absurd (first_missing e es (f ∷ fs) (p, above_all e.0 f.0 fs p t.0) (h e.0))
      | Greater ↦ λ p. let q = flipped e.0 f.0 p in absurd (first_missing f fs (e ∷ es) (q, above_all f.0 e.0 es q s.0) (sym (h f.0)))
      | Equal ↦ λ p.
          let same : e.0 ≡ f.0 = same_key e.0 f.0 p in
          let rest : es ≡ fs = same_items es fs s.1 t.1
          (λ k. rest_same k e f es fs (is_eq (int_cmp k e.0)) refl same s.0 t.0 (split_same k e f es fs same (h k))) in
          joined e f es fs (first_same e f es fs same (h e.0)) rest
    ] refl
  where
    joined : (e f : Item) (es fs : Items) → e ≡ f → es ≡ fs → e ∷ es ≡ f ∷ fs
    joined e f es fs p q = rw (p, q) refl

-- members of a part
part_more : (x y : ℕ × Change) (b : Bool) (f : ℕ) (xs : Dated) → (x.1.frag.0 == f) ≡ b
    → Contains (cond b (x ∷ of_fragment f xs) (of_fragment f xs)) y → (Contains (of_fragment f xs) y → Contains xs y × ((y.1.frag.0 == f) ≡ true))
    → Contains (x ∷ xs) y × ((y.1.frag.0 == f) ≡ true)
part_more x y b f xs e h g = grind (arith, Contains-cases, Contains-here, Contains-later)

of_part : (f : ℕ) (xs : Dated) (y : ℕ × Change) → Contains (of_fragment f xs) y → Contains xs y × ((y.1.frag.0 == f) ≡ true)
of_part f [] y h = absurd (Contains-nil y h)
of_part f (x ∷ xs) y h = part_more x y (x.1.frag.0 == f) f xs refl h (of_part f xs y)

part_later : (x y : ℕ × Change) (b : Bool) (f : ℕ) (xs : Dated) → Contains (of_fragment f xs) y
    → Contains (cond b (x ∷ of_fragment f xs) (of_fragment f xs)) y
part_later x y true f xs h = Contains-later x (of_fragment f xs) y h
part_later x y false f xs h = h

in_part : (f : ℕ) (xs : Dated) (y : ℕ × Change) → Contains xs y → (y.1.frag.0 == f) ≡ true → Contains (of_fragment f xs) y
in_part f [] y h e = absurd (Contains-nil y h)
in_part f (x ∷ xs) y h e = elim (Contains-cases x xs y h) as (λ s. Contains (of_fragment f (x ∷ xs)) y) [
  | inl same ↦ grind (arith, of_fragment, Contains-here)
  | inr later ↦ part_later x y (x.1.frag.0 == f) f xs (in_part f xs y later e)
]

one_number : (a b f : ℕ) → (a == f) ≡ true → (b == f) ≡ true → a ≡ b
one_number a b f e g = grind (arith, nat_tests)

pub same_items_left : (f : ℕ) (xs ys : Dated) → DatesDiffer xs → AreSame xs ys → items_of (of_fragment f xs) ≡ items_of (of_fragment f ys)
same_items_left f xs ys d s =
    let own : Differ (of_fragment f xs) = λ x y a b. d x y (of_part f xs x a).0 (of_part f xs y b).0
    (one_number x.1.frag.0 y.1.frag.0 f (of_part f xs x a).1 (of_part f xs y b).1) in
    let same : AreSame (of_fragment f xs) (of_fragment f ys) = λ x.
    (λ a. in_part f ys x ((s x).0 (of_part f xs x a).0) (of_part f xs x a).1, λ a. in_part f xs x ((s x).1 (of_part f ys x a).0) (of_part f ys x a).1) in
    (grind (arith, Keeps, items_keep, same_items, shown, one_answer, latest, latest_answers))

pub order_tells_nothing : (f : ℕ) (xs ys : Dated) → DatesDiffer xs → AreSame xs ys → contents f xs ≡ contents f ys
order_tells_nothing f xs ys d s = sym (items_tell f xs) ∙ ap entries_in (same_items_left f xs ys d s) ∙ items_tell f ys
