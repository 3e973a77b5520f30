-- What a line of a report tells of a transaction: its second word says what happened, its third to which one.
use Rattle.std.specs.Prelude.{ℕ, ◌==◌, List, [], ◌∷◌, Option, Some, None, codes, take, if◌then◌else◌, ◌≡◌, refl}
use Rattle.std.specs.List.{position_or_len}
use Rattle.std.specs.Str.{bytes_eq}
use Rattle.sdd_verify.specs.Orders.{words_of}

-- the name of the transaction in `NAME#A`, its attempt number A: what stands before the first `#`, or the whole word
abbrev pub name_in : List ℕ → List ℕ
name_in word = take (position_or_len (λ c. c == 35) word) word

-- the transaction in the third of these words, where the second is this verb
abbrev pub named_behind : List ℕ → List (List ℕ) → Option (List ℕ)
named_behind verb (event ∷ second ∷ third ∷ more) = if bytes_eq second verb then Some (name_in third) else None
named_behind verb words = None

-- the transaction of which a line tells this
abbrev pub told : List ℕ → List ℕ → Option (List ℕ)
told verb line = named_behind verb (words_of line)

-- the transaction whose submission a line tells, and the one whose commit
abbrev pub submission_on : List ℕ → Option (List ℕ)
submission_on line = told (codes "submit") line

abbrev pub commit_on : List ℕ → Option (List ℕ)
commit_on line = told (codes "commit") line

-- worked

pub commit_of_raise : commit_on (codes "1 commit raise#1") ≡ Some (codes "raise")
commit_of_raise = refl

pub commit_without_attempt : commit_on (codes "1 commit raise") ≡ Some (codes "raise")
commit_without_attempt = refl

pub submission_of_raise : submission_on (codes "1 submit raise") ≡ Some (codes "raise")
submission_of_raise = refl

pub no_commit : commit_on (codes "8 apply raise D1") ≡ None
no_commit = refl

pub no_third_word : commit_on (codes "1 commit") ≡ None
no_third_word = refl
