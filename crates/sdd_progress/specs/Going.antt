-- An exchange that is not over waits for the answer of a module: it goes on as long as answers come.
use Rattle.std.specs.Prelude.{ℕ, ◌≡◌, ◌≤◌, false, List, [], ◌∷◌, filter_map, cond, Some, None}
use Rattle.sdd_obligations.specs.All.{Asking, Condition, Const, Exchange, Fetching, Over, Phase, Reading, Reducing, Same, Shipping, contains, is_empty, is_over}

-- the modules that read a use, and that there is one
abbrev pub readers : List (ℕ × List ℕ) → ℕ → List ℕ
readers modules use_no = filter_map (λ m. cond (contains m.1 use_no) (Some m.0) None) modules

abbrev pub IsRead : List (ℕ × List ℕ) → ℕ → Type 0
IsRead modules use_no = is_empty (readers modules use_no) ≡ false

-- the use that is reduced by the move under way is read
abbrev pub ReducesRead : List (ℕ × List ℕ) → Phase → Type 0
ReducesRead modules Reading = Unit {0}
ReducesRead modules (Fetching m) = IsRead modules m.target.part
ReducesRead modules (Reducing m) = IsRead modules m.target.part
ReducesRead modules Shipping = Unit {0}
ReducesRead modules Over = Unit {0}

-- each use of which rows are counted is read
abbrev pub CountsRead : List (ℕ × List ℕ) → List ((ℕ × ℕ) × ℕ) → Type 0
CountsRead modules [] = Unit {0}
CountsRead modules (e ∷ counts) = IsRead modules e.0.0 × CountsRead modules counts

-- the parts of a query count from 1
abbrev pub HasParts : Condition → Type 0
HasParts (Const left op value) = Unit {0}
HasParts (Same left right) = (1 ≤ left.part) × (1 ≤ right.part)

abbrev pub AllHaveParts : List Condition → Type 0
AllHaveParts [] = Unit {0}
AllHaveParts (q ∷ conds) = HasParts q × AllHaveParts conds

abbrev pub AllAskParts : List Asking → Type 0
AllAskParts [] = Unit {0}
AllAskParts (q ∷ queries) = AllHaveParts q.conds × AllAskParts queries

-- what an exchange keeps beside the answers that lack
pub record IsCounted (x : Exchange) : Type 0 where
  pub modules : is_over x.phase ≡ false → is_empty x.modules ≡ false
  pub reduces : ReducesRead x.modules x.phase
  pub counts : CountsRead x.modules x.counts
  pub left : AllAskParts x.left

-- and with these
pub record IsGoing (x : Exchange) : Type 0 where
  pub counted : IsCounted x
  pub lacks : is_over x.phase ≡ false → is_empty x.lacks ≡ false
