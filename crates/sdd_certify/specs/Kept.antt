-- What it means that a report is complete, and that it is strict.
use Rattle.std.specs.Prelude.{ℕ, ◌≡◌, ◌≢◌, ◌≤◌, ◌<◌, true, false, length, Contains, List, [], ◌∷◌, ◌++◌, Some, slice_index_or}
use Rattle.std.specs.List.{All}
use Rattle.sdd_script.specs.All.{AreLines, HasNoNewline, spelled_lines}
use Rattle.sdd_verify.specs.Lines.{is_order_line}
use Rattle.sdd_verify.specs.Orders.{names_on}
use Rattle.sdd_verify.specs.declared.limits.TheConstants.{MAX_REPORT_BYTES}
use Rattle.sdd_certify.specs.Places.{place_of}
use Rattle.sdd_certify.specs.Told.{commit_on, submission_on}

-- A report that isn't too long, with its first order line and the lines before it.
pub record HasOrder (report : List ℕ) : Type 0 where
  pub small : length report ≤ MAX_REPORT_BYTES
  pub before : List (List ℕ)
  pub before_lines : AreLines before
  pub before_order : All (λ line. is_order_line line ≡ false) before
  pub order : List ℕ
  pub order_line : HasNoNewline order
  pub order_is : is_order_line order ≡ true
  pub rest : List ℕ
  pub text_is : report ≡ spelled_lines before ++ (order ++ 10 ∷ rest)

-- a line by how many stand before it
abbrev pub line_at : List (List ℕ) → ℕ → List ℕ
line_at lines i = slice_index_or lines i []

-- Nobody whose commit is told is missing: a client that was told it finds its transaction in the order.
pub record IsComplete (report : List ℕ) : Type 0 where
  pub parts : HasOrder report
  pub named : (line name : List ℕ) → Contains parts.before line → commit_on line ≡ Some name → Contains (names_on parts.order) name

-- one transaction stands in the order before another
pub record StandsBefore (names : List (List ℕ)) (first later : List ℕ) : Type 0 where
  pub stands : place_of names (Some first) ≢ 0
  pub before : place_of names (Some first) < place_of names (Some later)

-- What was over before another transaction began stands before it: of two transactions, of which one stands before the other in
-- the order, the commit of the later one is never told before a submission of the first.
pub record IsStrict (report : List ℕ) : Type 0 where
  pub parts : HasOrder report
  pub strict : (first later : List ℕ) → StandsBefore (names_on parts.order) first later → (i k : ℕ) → i < k → k < length parts.before
      → commit_on (line_at parts.before i) ≡ Some later → submission_on (line_at parts.before k) ≡ Some first → ⊥
