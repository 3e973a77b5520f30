-- Sets of places among members, as words of 64 bits, and what a flood along conflicts leaves of one.
use Rattle.std.specs.Prelude.{ℕ, ◌%◌, ◌*◌, ◌-◌, ◌/◌, ◌==◌, ◌&&◌, ◌≡◌, ◌⊎◌, Bool, Contains, List, Option, None, Some, filter, length, slice_index, slice_index_or, false, true}
use Rattle.std.specs.Int.{bit_at}
use Rattle.std.specs.List.{range_with_len}
use Rattle.sdd_robust_laws.specs.Accesses.{conflict}
use Rattle.sdd_robust.specs.declared.member.Member.{Member}

-- the bit of a place, 0 where there is no word for it
abbrev pub place_bit : List ℕ → ℕ → ℕ
place_bit words place = bit_at (slice_index words (place / 64)) (place % 64)

abbrev pub Has : List ℕ → ℕ → Type 0
Has words place = place_bit words place ≡ 1

abbrev pub Lacks : List ℕ → ℕ → Type 0
Lacks words place = place_bit words place ≡ 0

abbrev pub has : List ℕ → ℕ → Bool
has words place = place_bit words place == 1

-- the places of a set, ascending; and those that two sets have
abbrev pub places_of : List ℕ → List ℕ
places_of words = filter (has words) (range_with_len 0 (64 * length words))

abbrev pub common : List ℕ → List ℕ → List ℕ
common words others = filter (λ place. has words place && has others place) (range_with_len 0 (64 * length words))

-- the places of the bits of a word, ascending, of which the first one is told
abbrev pub word_places : ℕ → ℕ → List ℕ
word_places word first = filter (λ place. bit_at word (place - first) == 1) (range_with_len first 64)

-- the set has the place of each member of which the test is true
abbrev pub HasEach : (Member → Bool) → List Member → List ℕ → Type 0
HasEach test members words = (m : Member) (at : Contains members m) → test m ≡ true → Has words at.0

-- those that the others have too are taken out of a set, and stand in the queue
pub record TakesOut (old others new before after : List ℕ) : Type 0 where
  pub fewer : (place : ℕ) → Has new place → Has old place
  pub apart : (place : ℕ) → Has new place → Lacks others place
  pub kept : (place : ℕ) → Contains before place → Contains after place
  pub queued : (place : ℕ) → Has old place → Lacks new place → Contains after place

-- The rows that are known have the places of those with which the member at the row's place conflicts.
abbrev pub AreRows : List Member → List (Option (List ℕ)) → Type 0
AreRows members rows =
    (m : Member) (at : Contains members m) (row : List ℕ) → slice_index_or rows at.0 None ≡ Some row
    → HasEach (λ other. conflict m.accesses other.accesses) members row

-- conflicts lead from the member at a place to none of the set
abbrev pub LeadsToNone : List Member → List ℕ → ℕ → Type 0
LeadsToNone members words place =
    (m k : Member) (at : Contains members m) (there : Contains members k) → at.0 ≡ place → Has words there.0
    → conflict m.accesses k.accesses ≡ false

-- Those with which the member at a place conflicts are taken out of a set, and stand in the queue. The place is no end.
pub record Spreads (members : List Member) (place : ℕ) (ends old new before after : List ℕ) : Type 0 where
  pub no_end : Lacks ends place
  pub fewer : (other : ℕ) → Has new other → Has old other
  pub leads : LeadsToNone members new place
  pub kept : (other : ℕ) → Contains before other → Contains after other
  pub queued : (other : ℕ) → Has old other → Lacks new other → Contains after other

-- What is left of a set: of those that were taken out none is an end, and conflicts lead from them to none that is left.
abbrev pub IsRest : List Member → List ℕ → List ℕ → List ℕ → Type 0
IsRest members left ends rest = (place : ℕ) → Lacks rest place → Lacks left place ⊎ (Lacks ends place × LeadsToNone members rest place)
