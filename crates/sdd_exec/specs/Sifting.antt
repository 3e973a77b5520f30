-- Sifting choices: what of the choices of some parts, a group, has to be kept.
use Rattle.std.specs.Prelude.{ℕ, ◌-◌, ◌<◌, ◌≡◌, ◌⊎◌, nat_lt, Bool, not, ◌==◌, cond, List, [], Option, Some, None, length, map, filter_map, slice_index, slice_index_or}
use Rattle.std.specs.HashMap as hash
use Rattle.std.specs.List.{flat_map, list_all}
use Rattle.std.specs.Option.{option_map_or}
use Rattle.sdd_lang.specs.declared.condition.Ref.{Ref}
use Rattle.sdd_lang.specs.declared.condition.Condition.{Condition}
use Rattle.sdd_lang.specs.declared.condition.Condition.TheVariants.{Const, Same}
use Rattle.sdd_lang.specs.All.{Row, distinct, product, projection, selection, value_at, within}
use Rattle.sdd_exec.specs.declared.tie.Tie.{Tie}
use Rattle.sdd_exec.specs.declared.sieve.Mesh.{Mesh}
use Rattle.sdd_exec.specs.declared.sieve.Sieve.{Sieve}
use Rattle.sdd_exec.specs.Choices.{Choice, picked, placed, is_taken, same_row, key_of, keyed, ties_of, places, extended, row_from, NoRepeats}
use Rattle.sdd_shipped.specs.Members.{Has}
use Rattle.sdd_exec.specs.Splicing.{Answers}

-- of two columns the one of a group, where the other is outside of it
abbrev pub link_between : List ℕ → Ref → Ref → Option Ref
link_between group left right =
    cond (is_taken group (left.part - 1)) (cond (is_taken group (right.part - 1)) None (Some left)) (cond (is_taken group (right.part - 1)) (Some right) None)

-- the column of a group that a condition ties to a column outside of it
abbrev pub link_of : List ℕ → Condition → Option Ref
link_of group (Const left op value) = None
link_of group (Same left right) = link_between group left right

abbrev pub links_of : List ℕ → List Condition → List Ref
links_of group conds = filter_map (link_of group) conds

-- a column, where it is one of a group
abbrev pub out_in : List ℕ → Ref → Option Ref
out_in group r = cond (is_taken group (r.part - 1)) (Some r) None

-- the listed columns of a group
abbrev pub outs_of : List ℕ → List Ref → List Ref
outs_of group out = filter_map (out_in group) out

-- what a choice has in these columns
abbrev pub values_of : List (List Row) → List Ref → Choice → Row
values_of parts columns choice = map (value_at (picked parts choice)) columns

-- there are more rows of which P holds than there is room for
abbrev pub TooMany : ℕ → (Row → Type 0) → Type 0
TooMany room P = (rows : List Row) × (room < length rows) × NoRepeats rows × ((row : Row) → Has rows row → P row)

-- a kept choice has the values of c in the linked columns, and this row in the listed ones
abbrev pub HasLike : List (List Row) → List Ref → List Ref → List Choice → Row → Row → Type 0
HasLike parts links outs kept l o = (d : Choice) × Has kept d × (values_of parts links d ≡ l) × (values_of parts outs d ≡ o)

-- a choice needn't be kept beside these: one of them has its values in the linked and the listed columns, or else more than there is
-- room for have its values in the linked columns and differ in the listed ones
abbrev pub IsCovered : List (List Row) → List Ref → List Ref → ℕ → List Choice → Choice → Type 0
IsCovered parts links outs room kept c =
    HasLike parts links outs kept (values_of parts links c) (values_of parts outs c) ⊎ TooMany room (HasLike parts links outs kept (values_of parts links c))

-- what a sieve has found in the listed columns with these values in the linked ones
abbrev pub found_with : Sieve → Row → List Row
found_with sieve links = option_map_or (λ rows. rows) (hash.get same_row sieve.found links) []

-- what a sieve has found, it has from choices that it keeps
abbrev pub IsSieve : List (List Row) → Mesh → Sieve → Type 0
IsSieve parts mesh sieve = (l o : Row) → Has (found_with sieve l) o → HasLike parts mesh.links.items mesh.outs.items sieve.kept.items l o

-- a sieve that choices were offered to: it covers each of them, keeps what it kept, and nothing else but some of these
pub record Offered (parts : List (List Row)) (mesh : Mesh) (old new : Sieve) (choices : List Choice) : Type 0 where
  pub sieve : IsSieve parts mesh new
  pub covered : (c : Choice) → Has choices c → IsCovered parts mesh.links.items mesh.outs.items mesh.room new.kept.items c
  pub still : (c : Choice) → Has old.kept.items c → Has new.kept.items c
  pub only : (c : Choice) → Has new.kept.items c → Has old.kept.items c ⊎ Has choices c

-- of choices of a group all that have to be kept are kept, and no others
pub record IsSifted (parts : List (List Row)) (conds : List Condition) (out : List Ref) (room : ℕ) (group : List ℕ) (choices kept : List Choice) : Type 0 where
  pub covered : (c : Choice) → Has choices c → IsCovered parts (links_of group conds) (outs_of group out) room kept c
  pub only : (c : Choice) → Has kept c → Has choices c

-- the choices of one part: its rows that meet the conditions which name no other part
abbrev pub choices_of_part : List (List Row) → List Condition → ℕ → List Choice
choices_of_part parts conds part = map (placed (length parts) [] part) (places (keyed part conds [] 0 (slice_index_or parts part [])) [])

-- the place that a choice has in a part, with its row's values in the tied columns
abbrev pub pair_of : List (List Row) → List Tie → ℕ → Choice → Option (Row × ℕ)
pair_of parts ties part c =
    let rows : List Row = slice_index_or parts part [] in
    let place : ℕ = slice_index c part in
    cond (nat_lt place (length rows)) (Some (key_of ties (slice_index_or rows place []), place)) None

abbrev pub pairs_of : List (List Row) → List Tie → ℕ → List Choice → List (Row × ℕ)
pairs_of parts ties part choices = filter_map (pair_of parts ties part) choices

-- choices with each place of one more part that stands with the key which the ties demand
abbrev pub extended_by : List (List Row) → ℕ → List Tie → List (Row × ℕ) → List Choice → List Choice
extended_by parts part ties pairs kept = flat_map (extended parts part ties pairs) kept

-- whether none of these columns is one of a part
abbrev pub is_apart : ℕ → List Ref → Bool
is_apart part columns = list_all (λ r. not (r.part - 1 == part)) columns

-- the choices of a group with each of these of one more part that the ties allow
abbrev pub joined : List (List Row) → List Condition → List ℕ → ℕ → List Choice → List Choice → List Choice
joined parts conds taken part thin kept =
    let ties : List Tie = ties_of taken part conds in
    extended_by parts part ties (pairs_of parts ties part thin) kept

-- the rows that a query defines, with repeats
abbrev pub all_rows : List (List Row) → List Condition → List Ref → List Row
all_rows parts conds out = projection out (selection conds (product parts))

-- a row is answered by a choice that agrees with a kept one in the parts that were taken
abbrev pub IsAnswered : List (List Row) → List Condition → List Ref → List ℕ → List Choice → Row → Type 0
IsAnswered parts conds out taken kept row = Answers parts conds out (λ t. Unit {0}) taken kept row

-- the kept choices are enough to tell the answer: each of its rows stands, or else more than there is room for
abbrev pub AreEnough : List (List Row) → List Condition → List Ref → ℕ → List ℕ → List Choice → Type 0
AreEnough parts conds out room taken kept =
    ((row : Row) → Has (all_rows parts conds out) row → IsAnswered parts conds out taken kept row) ⊎ TooMany room (IsAnswered parts conds out taken kept)

-- the rows of these choices are the answer where there is room for it, and more than there is room for where there isn't
abbrev pub TellsAnswer : List (List Row) → List Condition → List Ref → ℕ → List Choice → Type 0
TellsAnswer parts conds out room kept =
    within room (distinct (filter_map (row_from parts out conds) kept)) ≡ within room (distinct (all_rows parts conds out))
