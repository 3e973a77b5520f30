-- What holds of transactions holds of some of them.
use Rattle.sdd_acyclic.proofs.All.{Facts, Precedes, System, by_class, by_seen, by_unseen, by_writes, over, rules}

module _ {A B : Type 0} (f : B → A) (S : System A) where
  -- precedence among them is the same
  pub precedes_over : (x y : B) → Precedes S (f x) (f y) → Precedes (over f S) x y
  precedes_over x y (by_class n c l) = by_class n c l
  precedes_over x y (by_writes n g a b l) = by_writes n g a b l
  precedes_over x y (by_unseen n g a b u) = by_unseen n g a b u
  precedes_over x y (by_seen n g a b s) = by_seen n g a b s

  pub precedes_from_over : (x y : B) → Precedes (over f S) x y → Precedes S (f x) (f y)
  precedes_from_over x y (by_class n c l) = by_class n c l
  precedes_from_over x y (by_writes n g a b l) = by_writes n g a b l
  precedes_from_over x y (by_unseen n g a b u) = by_unseen n g a b u
  precedes_from_over x y (by_seen n g a b s) = by_seen n g a b s

  pub facts_over : Facts S → Facts (over f S)
  facts_over h = search rules
