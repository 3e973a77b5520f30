-- Orders of submitted transactions.
use Rattle.std.specs.Prelude.{ℕ, ◌==◌, List, [], ◌∷◌, Result, Ok}
use Rattle.std.specs.List.{slice_split}
use Rattle.sdd_script.specs.All.{Txn, TxnNo, along, must, require, tail_of, ◌>>=◌}
use Rattle.sdd_turns.specs.Turns.{is_in_turn}
use Rattle.sdd_verify.specs.Submitted.{named}

-- the words of a line, cut at each space
abbrev pub words_of : List ℕ → List (List ℕ)
words_of line = slice_split (λ c. c == 32) line

-- the words of a text in which each stands after a space
abbrev pub words_behind : List ℕ → List (List ℕ)
words_behind [] = []
words_behind (space ∷ text) = words_of text

-- the names on an order line, which are its words but the first
abbrev pub names_on : List ℕ → List (List ℕ)
names_on line = tail_of (words_of line)

-- the order that an order line with this number gives; the line is at fault where it names what isn't submitted, or one
-- that may not stand there
abbrev pub order_on : List Txn → List ℕ → ℕ → List ℕ → Result (List TxnNo) ℕ
order_on txns classes number line = do
  order ← along (λ _ name. require number (named txns name)) 0 (names_on line)
  _ ← must number (is_in_turn classes order)
  Ok order
