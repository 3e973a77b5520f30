-- Why the numbers of an exchange stay within what a program has room for.
use Rattle.std.specs.Prelude.{ℕ, ◌+◌, ◌*◌, ◌^◌, ◌<◌, ◌≤◌, ◌≡◌, ◌==◌, ◌&&◌, Bool, true, false, List, [], ◌∷◌, length}
use Rattle.std.specs.List.{All}
use Rattle.sdd_module.specs.All.{Condition, Const, Delete, Msg, Put, Query, Same, Stmt, Txn, Update, Values, contains}
use Rattle.sdd_rules.specs.All.{Asking, Exchange, Move, Phase, Step}
use Rattle.sdd_semijoin.specs.Undone.{undone}
use Rattle.sdd_rules.specs.attempt.Exchange.{Fetching}

-- the columns of a join are of uses whose numbers, counted from this one, have room
abbrev pub JoinsWithin : ℕ → ℕ → Condition → Type 0
JoinsWithin before most (Const left op value) = Unit {0}
JoinsWithin before most (Same left right) = (before + left.part ≤ most) × (before + right.part ≤ most)

-- a query has at most 6 uses and 16 conditions
abbrev pub IsSmallStatement : Stmt → Type 0
IsSmallStatement (Put rel row) = Unit {0}
IsSmallStatement (Query out rels conds) = (length rels ≤ 6) × (length conds ≤ 16) × All (JoinsWithin 0 6) conds
IsSmallStatement (Update rel sets conds) = Unit {0}
IsSmallStatement (Delete rel conds) = Unit {0}

-- a transaction has at most 32 statements
pub record IsSmallText (text : Txn) : Type 0 where
  pub few : length text.statements ≤ 32
  pub statements : All IsSmallStatement text.statements

-- so its uses are at most 192
pub record IsSmallQuery (q : Asking) : Type 0 where
  pub uses : q.before + q.uses ≤ 192
  pub conds : length q.conds ≤ 16
  pub joins : All (JoinsWithin q.before 192) q.conds

abbrev pub AreSmall : List Asking → Type 0
AreSmall queries = All IsSmallQuery queries

-- a move between uses of a query, where so many uses stand before the query
pub record FitsMove (before : ℕ) (m : Move) : Type 0 where
  pub source : before + m.source.part ≤ 192
  pub target : before + m.target.part ≤ 192

-- how many moves there may still be: of the first query those that aren't done, of the others all
abbrev pub moves_left : List Asking → List Step → ℕ
moves_left [] done = 0
moves_left (q ∷ rest) done = undone q.conds done + moves_left rest []

-- How many values may still be counted. One VALUES carries fewer than 2^64, and one REDUCE what all VALUES before it
-- carried together; each goes at most to each module.

abbrev pub most_values : ℕ → ℕ
most_values messages = messages * 2 ^ 64

-- by the REDUCEs of a move, where there are so many modules
abbrev pub for_reduce : ℕ → ℕ
for_reduce modules = most_values modules * modules

-- by a whole move
abbrev pub for_move : ℕ → ℕ
for_move modules = most_values modules + for_reduce modules

-- by the move under way, where so many answers are missing
abbrev pub for_phase : ℕ → ℕ → Phase → ℕ
for_phase lacks modules (Fetching m) = most_values lacks + for_reduce modules
for_phase lacks modules _ = 0

-- that there are not more values of it yet than came
abbrev pub HasUnion : ℕ → ℕ → ℕ → Phase → Type 0
HasUnion union lacks modules (Fetching m) = union + most_values lacks ≤ most_values modules
HasUnion union lacks modules _ = Unit {0}

-- All that may still be counted has room, since a query has few moves and none is done twice; and the rows that are
-- counted are those that came.
pub record HasRoom (x : Exchange) : Type 0 where
  pub small : AreSmall x.left
  pub values : x.values + for_phase (length x.lacks) (length x.modules) x.phase + moves_left x.left x.done * for_move (length x.modules) < 2 ^ 128
  pub union : HasUnion (length x.union) (length x.lacks) (length x.modules) x.phase
  pub rows : x.rows ≡ length x.found

-- whether values are awaited
abbrev pub is_fetching : Phase → Bool
is_fetching (Fetching m) = true
is_fetching _ = false

-- Values come only where they are awaited, and in a list that a program holds.
abbrev pub AreAwaited : ℕ → ℕ → ℕ → Msg → Exchange → Type 0
AreAwaited ts c d (Values t k u values) x =
    ((t.0 == ts) && (k.0 == c)) ≡ true → (is_fetching x.phase ≡ true) × (contains x.lacks d ≡ true)
AreAwaited ts c d _ x = Unit {0}

abbrev pub CarriesFew : Msg → Type 0
CarriesFew (Values t k u values) = length values < 2 ^ 64
CarriesFew _ = Unit {0}
