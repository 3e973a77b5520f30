-- Exploring choices part by part: the nodes of a plan, and what a search has found.
use Rattle.std.specs.Prelude.{ℕ, ◌-◌, ◌<◌, ◌≡◌, ◌++◌, ◌∷◌, Bool, true, false, List, [], length, map, slice_get, slice_index, slice_index_or, Some}
use Rattle.std.specs.HashMap as hash
use Rattle.std.specs.HashSet.{contains}
use Rattle.std.specs.List.{list_all}
use Rattle.std.specs.Option.{option_map_or}
use Rattle.sdd_lang.specs.declared.condition.Ref.{Ref}
use Rattle.sdd_lang.specs.declared.condition.Condition.{Condition}
use Rattle.sdd_lang.specs.All.{Row, distinct, meets_all}
use Rattle.sdd_exec.specs.declared.known.Explored.{Explored}
use Rattle.sdd_exec.specs.declared.plan.Made.{Made}
use Rattle.sdd_exec.specs.declared.plan.Next.{Next}
use Rattle.sdd_exec.specs.declared.plan.Node.{Node}
use Rattle.sdd_exec.specs.declared.tie.Tie.{Tie}
use Rattle.sdd_exec.specs.Choices.{Choice, picked, is_there, is_taken, keyed, places, same_row, ties_of}
use Rattle.sdd_shipped.specs.Members.{Has}
use Rattle.sdd_exec.specs.Sifting.{all_rows, links_of, outs_of, values_of}
use Rattle.sdd_exec.specs.Splicing.{Agrees, AllInside, IsThereIn}

-- what can come of a choice of a group is told by its values in these columns
abbrev pub marks_of : List Condition → List Ref → List ℕ → List Ref
marks_of conds out group = links_of group conds ++ outs_of group out

-- whether all columns are of a group
abbrev pub are_taken : List ℕ → List Ref → Bool
are_taken group columns = list_all (λ r. is_taken group (r.part - 1)) columns

-- the places that the index of a part has with a key
abbrev pub places_with : Next → Row → List ℕ
places_with next key = option_map_or (λ v. v.items) (hash.get same_row next.rows.value key) []

abbrev pub places_made : Made → Row → List ℕ
places_made made key = option_map_or (λ v. v.items) (hash.get same_row made.rows.value key) []

-- a part that may be taken behind these: it isn't one of them, and its rows stand by its ties to them
pub record IsNext (parts : List (List Row)) (conds : List Condition) (taken : List ℕ) (next : Next) : Type 0 where
  pub within : next.part < length parts
  pub new : is_taken taken next.part ≡ false
  pub tied : next.ties.items ≡ ties_of taken next.part conds
  pub indexed : (key : Row) → places_with next key ≡ places (keyed next.part conds next.ties.items 0 (slice_index_or parts next.part [])) key

abbrev pub AreNexts : List (List Row) → List Condition → List ℕ → List Next → Type 0
AreNexts parts conds taken nexts = (next : Next) → Has nexts next → IsNext parts conds taken next

-- the parts of a node: what tells their choices apart, whether they are all, and which may be taken behind them
pub record IsNode (parts : List (List Row)) (conds : List Condition) (out : List Ref) (node : Node) : Type 0 where
  pub linked : node.links.items ≡ links_of node.taken.items conds
  pub marked : node.marks.items ≡ marks_of conds out node.taken.items
  pub whole : node.is_whole ≡ true → (p : ℕ) → p < length parts → is_taken node.taken.items p ≡ true
  pub listed : node.is_listed ≡ true → are_taken node.taken.items out ≡ true
  pub next : AreNexts parts conds node.taken.items node.nexts.items

abbrev pub AreNodes : List (List Row) → List Condition → List Ref → List Node → Type 0
AreNodes parts conds out nodes = (node : Node) → Has nodes node → IsNode parts conds out node

-- an index that was made serves all ties of its part in these columns
abbrev pub IsMade : List (List Row) → List Condition → Made → Type 0
IsMade parts conds made =
    (ties : List Tie) → map (λ t. t.column) ties ≡ made.columns.items
    → (key : Row) → places_made made key ≡ places (keyed made.part conds ties 0 (slice_index_or parts made.part [])) key

abbrev pub AreMade : List (List Row) → List Condition → List Made → Type 0
AreMade parts conds list = (made : Made) → Has list made → IsMade parts conds made

-- of each choice of all parts whose rows are there and meet the conditions, and which agrees with this one in the group, the row is found
abbrev pub IsExplored : List (List Row) → List Condition → List Ref → List ℕ → Choice → List Row → Type 0
IsExplored parts conds out group c found =
    (t : Choice) → is_there parts t ≡ true → meets_all conds (picked parts t) ≡ true → Agrees parts group c t → Has found (values_of parts out t)

-- no choice of all parts whose rows are there and meet the conditions agrees with this one in the group
abbrev pub NoneComes : List (List Row) → List Condition → List ℕ → Choice → Type 0
NoneComes parts conds group c = (t : Choice) → is_there parts t ≡ true → meets_all conds (picked parts t) ≡ true → Agrees parts group c t → ⊥

-- of those among them that have one of these places in a part
abbrev pub IsExploredBy : List (List Row) → List Condition → List Ref → List ℕ → Choice → ℕ → List ℕ → List Row → Type 0
IsExploredBy parts conds out group c part done found =
    (t : Choice) → is_there parts t ≡ true → meets_all conds (picked parts t) ≡ true → Agrees parts group c t → Has done (slice_index t part)
    → Has found (values_of parts out t)

-- none that agrees has one of these places in a part
abbrev pub NoneComesBy : List (List Row) → List Condition → List ℕ → Choice → ℕ → List ℕ → Type 0
NoneComesBy parts conds group c part done =
    (t : Choice) → is_there parts t ≡ true → meets_all conds (picked parts t) ≡ true → Agrees parts group c t → Has done (slice_index t part) → ⊥

-- of each choice of all parts whose rows are there and meet the conditions, and which has these values in these columns, the row is found
abbrev pub IsDone : List (List Row) → List Condition → List Ref → List Ref → Row → List Row → Type 0
IsDone parts conds out columns values found =
    (t : Choice) → is_there parts t ≡ true → meets_all conds (picked parts t) ≡ true → values_of parts columns t ≡ values → Has found (values_of parts out t)

-- no choice of all parts whose rows are there and meet the conditions has these values in these columns
abbrev pub IsDead : List (List Row) → List Condition → List Ref → Row → Type 0
IsDead parts conds columns values =
    (t : Choice) → is_there parts t ≡ true → meets_all conds (picked parts t) ≡ true → values_of parts columns t ≡ values → ⊥

-- whether a search remembers of the node at a place that a choice with these marks was explored
abbrev pub is_seen : Explored → ℕ → Row → Bool
is_seen state place marks = option_map_or (λ set. contains same_row set marks) (slice_get state.seen.items place) false

-- whether a search remembers of the node at a place that no row of the answer comes of a choice with these links
abbrev pub is_dead : Explored → ℕ → Row → Bool
is_dead state place links = option_map_or (λ set. contains same_row set links) (slice_get state.dead.items place) false

-- what a search remembers is so, and what it has found are different rows of the answer, ascending
pub record IsKept (parts : List (List Row)) (conds : List Condition) (out : List Ref) (nodes : List Node) (state : Explored) : Type 0 where
  pub done : (place : ℕ) (node : Node) (marks : Row) → slice_get nodes place ≡ Some node → is_seen state place marks ≡ true
      → IsDone parts conds out node.marks.items marks state.found
  pub dead : (place : ℕ) (node : Node) (links : Row) → slice_get nodes place ≡ Some node → is_dead state place links ≡ true
      → IsDead parts conds node.links.items links
  pub known : (row : Row) → contains same_row state.told row ≡ true → Has state.found row
  pub answers : (row : Row) → Has state.found row → Has (all_rows parts conds out) row
  pub alone : distinct state.found ≡ state.found

-- the rows of a choice are there, and meet the conditions on the parts of the node at a place alone
abbrev pub IsSoundAt : List (List Row) → List Condition → List Node → ℕ → Choice → Type 0
IsSoundAt parts conds nodes place c =
    (node : Node) → slice_get nodes place ≡ Some node → IsThereIn parts node.taken.items c × AllInside parts node.taken.items c conds

abbrev pub IsExploredAt : List (List Row) → List Condition → List Ref → List Node → ℕ → Choice → List Row → Type 0
IsExploredAt parts conds out nodes place c found = (node : Node) → slice_get nodes place ≡ Some node → IsExplored parts conds out node.taken.items c found

abbrev pub NoneComesAt : List (List Row) → List Condition → List Node → ℕ → Choice → Type 0
NoneComesAt parts conds nodes place c = (node : Node) → slice_get nodes place ≡ Some node → NoneComes parts conds node.taken.items c

-- each node at the place of a part that may be taken is that of the parts of this one with the part
abbrev pub IsLed : List Node → Node → Next → Type 0
IsLed nodes node next = (led : Node) → slice_get nodes next.node ≡ Some led → led.taken.items ≡ node.taken.items ++ next.part ∷ []

-- a later list of rows has each row of an earlier one
abbrev pub StillHas : List Row → List Row → Type 0
StillHas old new = (row : Row) → Has old row → Has new row
