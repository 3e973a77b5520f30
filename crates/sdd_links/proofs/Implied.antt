-- Each link is a precedence.
use Rattle.sdd_links.proofs.All.{AreMarks, Bool, Catalogue, Committed, Contains, History, IsCommitted, IsOrderable, List, Marks, None, Some, and_from, ap, arith, changes, eqb-true, false, fragments_in, get_or as slice_index_or, has_seen, is_earlier, is_overwritten, is_read_by, list_any, lt-ltb, misses, module_of, nat_lt, not, precedes, rules, sees, slice_get, sym, true, was_seen, ℕ, ◌&&◌, ◌-◌, ◌<◌, ◌==◌, ◌∙◌, ◌≡◌, ◌≢◌}
use Rattle.sdd_links.proofs.Members.{passes_member, member_passes}
use Rattle.sdd_links.proofs.Firsts.{comes_before_is}
use Rattle.sdd_links.proofs.Places.{one_of_txn}

-- what a kind of precedence asks for
pub overwrites : (x y : Committed) (f : ℕ) → changes x f ≡ true → changes y f ≡ true → x.start.ts < y.start.ts → is_overwritten x y ≡ true
overwrites x y f a b l =
    let r = member_passes (λ c. c.frag.0 == f) x.changes a in
    let frag : r.0.frag.0 ≡ f = eqb-true r.0.frag.0 f r.2 in
    and_from (list_any (λ c. changes y c.frag.0) x.changes) (nat_lt x.start.ts y.start.ts)
    (passes_member (λ c. changes y c.frag.0) x.changes r.0 r.1 (ap (changes y) frag ∙ b)) (lt-ltb x.start.ts y.start.ts l)

pub goes_before : (x y : Committed) → x.start.class ≡ y.start.class → x.start.ts < y.start.ts → is_earlier x y ≡ true
goes_before x y e l = grind arith

module _ (cat : Catalogue) (h : History) where
  pub reads_from : (x y : Committed) (f : ℕ) → Contains (fragments_in y.start.uses) f → changes x f ≡ true
      → was_seen h x (module_of cat y.start.class f) y ≡ true → is_read_by cat h x y ≡ true
  reads_from x y f c b s = search (rules, passes_member, and_from)

  pub misses_it : (x y : Committed) (f : ℕ) → Contains (fragments_in x.start.uses) f → changes y f ≡ true
      → was_seen h y (module_of cat x.start.class f) x ≡ false → misses cat h x y ≡ true
  misses_it x y f c b s =
      passes_member (λ g. changes y g && not (was_seen h y (module_of cat x.start.class g) x)) (fragments_in x.start.uses) f c
      (and_from (changes y f) (not (was_seen h y (module_of cat x.start.class f) x)) b (ap not s))

  module _ (x y : Committed) (d : x.start.txn ≢ y.start.txn) where
    pub by_class_order : is_earlier x y ≡ true → precedes cat h x y ≡ true
    by_class_order e = grind arith

    pub by_writing : is_overwritten x y ≡ true → precedes cat h x y ≡ true
    by_writing e = grind arith

    pub by_missing : misses cat h x y ≡ true → precedes cat h x y ≡ true
    by_missing e = grind arith

    pub by_reading : is_read_by cat h x y ≡ true → precedes cat h x y ≡ true
    by_reading e = grind arith

-- The transactions of an orderable history in the order of their timestamps.
pub record AreInOrder (h : History) (txns : List Committed) : Type 0 where
  pub committed : (i : ℕ) (x : Committed) → slice_get txns i ≡ Some x → IsCommitted h x
  pub rise : (i j : ℕ) (x y : Committed) → slice_get txns i ≡ Some x → slice_get txns j ≡ Some y → i < j → x.start.ts < y.start.ts

-- two of them, of which the first precedes the second
pub record Precedence (cat : Catalogue) (h : History) (txns : List Committed) (i j : ℕ) : Type 0 where
  pub first : Committed
  pub second : Committed
  pub first_is : slice_get txns i ≡ Some first
  pub second_is : slice_get txns j ≡ Some second
  pub precedes : precedes cat h first second ≡ true

-- of a transaction of an orderable history one attempt is committed, once
pub one_txn : (cat : Catalogue) (h : History) → IsOrderable cat h → (t u : Committed) → IsCommitted h t → IsCommitted h u → t.start.txn ≡ u.start.txn
    → t ≡ u
one_txn cat h o = one_of_txn h o.one_commit o.one_start

module _ (cat : Catalogue) (h : History) (o : IsOrderable cat h) (marks : Marks) (are : AreMarks h marks) (txns : List Committed)
    (ordered : AreInOrder h txns) where
  -- those with different timestamps, and those of which one changes what the other doesn't, are of two transactions
  pub other_time : (x y : Committed) → x.start.ts < y.start.ts → IsCommitted h x → IsCommitted h y → x.start.txn ≢ y.start.txn
  other_time x y l p q e = let same : x.start.ts ≡ y.start.ts = ap (λ (t : Committed). t.start.ts) (one_txn cat h o x y p q e) in absurd (omega arith)

  pub other_changes : (x y : Committed) (f : ℕ) → changes x f ≡ true → changes y f ≡ false → IsCommitted h x → IsCommitted h y
      → x.start.txn ≢ y.start.txn
  other_changes x y f a b p q e =
      let wrong : true ≡ false = sym a ∙ ap (λ t. changes t f) (one_txn cat h o x y p q e) ∙ b in
      absurd (cc)

  pub sees_is : (w : Committed) (d : ℕ) (t : Committed) → sees marks w.start.txn d t.start.txn t.start.number ≡ was_seen h w d t
  sees_is w d t = grind (arith, comes_before_is)

  pub seen_is : (d : ℕ) (t : Committed) (writers : List ℕ) (k : ℕ) (w : Committed) → slice_get txns (slice_index_or writers k 0) ≡ Some w
      → has_seen marks txns d t writers k ≡ was_seen h w d t
  seen_is d t writers k w e = ap (λ z. elim z as (λ y. Bool) [ None ↦ false | Some x ↦ sees marks x.start.txn d t.start.txn t.start.number ]) e ∙ sees_is w d t
