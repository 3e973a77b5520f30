-- How the order is found.
use Rattle.std.specs.Prelude.{ℕ, nat_lt, ◌≡◌, Bool, false, List, find, Option, Some, None, option_map, reverse}
use Rattle.std.specs.declared.cmp.Ordering.{Ordering}
use Rattle.std.specs.Ordering.{nat_cmp, ordering_then}
use Rattle.std.specs.BTreeMap.{get}
use Rattle.sdd_history.specs.declared.record.Rec.{Rec}
use Rattle.sdd_history.specs.declared.record.Rec.TheVariants.{Answer, Apply}
use Rattle.sdd_history.specs.Records.{History}
use Rattle.sdd_links.specs.declared.seen.Marks.{Marks}
use Rattle.sdd_links.specs.Places.{placed}
use Rattle.sdd_links.specs.Precedence.{is_answer, is_apply}

-- the order of pairs and of triples of numbers
abbrev pub pair_cmp : ℕ × ℕ → ℕ × ℕ → Ordering
pair_cmp a b = ordering_then (nat_cmp a.0 b.0) (nat_cmp a.1 b.1)

abbrev pub triple_cmp : ℕ × ℕ × ℕ → ℕ × ℕ × ℕ → Ordering
triple_cmp a b = ordering_then (pair_cmp (a.0, a.1) (b.0, b.1)) (nat_cmp a.2 b.2)

-- the first and the last place of a record that passes a test

abbrev pub first_place : (Rec → Bool) → History → Option ℕ
first_place p h = option_map (λ e. e.0) (find (λ e. p e.1) (placed 0 h))

abbrev pub last_place : (Rec → Bool) → History → Option ℕ
last_place p h = option_map (λ e. e.0) (find (λ e. p e.1) (reverse (placed 0 h)))

-- the transaction and the module of an Apply, and the attempt and the module of an Answer

abbrev pub apply_key : Rec → Option (ℕ × ℕ)
apply_key (Apply txn class dm ts) = Some (txn.0, dm.0)
apply_key _ = None

abbrev pub answer_key : Rec → Option (ℕ × ℕ × ℕ)
answer_key (Answer txn attempt dm) = Some (txn.0, attempt, dm.0)
answer_key _ = None

-- of each transaction and module the place of its first Apply there, and of each attempt that of its last Answer

abbrev pub Applied : (ℕ → ℕ → Option ℕ) → History → Type 0
Applied made h = (n d : ℕ) → made n d ≡ first_place (is_apply n d) h

abbrev pub Answered : (ℕ → ℕ → ℕ → Option ℕ) → History → Type 0
Answered made h = (n k d : ℕ) → made n k d ≡ last_place (is_answer n k d) h

pub record AreMarks (h : History) (marks : Marks) : Type 0 where
  pub applied : Applied (λ n d. get pair_cmp marks.applied (n, d)) h
  pub answered : Answered (λ n k d. get triple_cmp marks.answered (n, k, d)) h

-- of two places that may be there the first below the second
abbrev pub is_below : Option ℕ → Option ℕ → Bool
is_below (Some a) (Some b) = nat_lt a b
is_below None o = false
is_below (Some a) None = false

-- whether the marks say that n was applied at d before attempt k of m was answered there
abbrev pub sees : Marks → ℕ → ℕ → ℕ → ℕ → Bool
sees marks n d m k = is_below (get pair_cmp marks.applied (n, d)) (get triple_cmp marks.answered (m, k, d))
