-- What an attempt makes due, by what its line does next.
use Rattle.sdd_attempt.proofs.All.{Act, Attempt, Bases, Catalogue, D, List, Msg, None, Option, Over, Phase, Sends, Some, ToCommit, ToSend, [], arith, attempt_due, commit_act, dm_no, false, first_send, is_over, line_step, refl, send_due, step_by, true, ℕ, ◌∷◌, ◌≡◌}

sends_by : (ms : List (ℕ × Msg)) (p : Phase) → step_by ms p ≡ Some ToSend → (act : Act) × (first_send ms ≡ Some act)
sends_by [] Over e = absurd cc
sends_by [] _ e = absurd cc
sends_by (m ∷ ms) p e = (Sends (D (dm_no m.0)) m.1 None, refl)

pub none_due : (cat : Catalogue) (bases : Bases) (c : ℕ) (o : Option Attempt) → line_step o ≡ None → attempt_due cat bases c o ≡ None
none_due cat bases c o e = grind arith

-- an attempt with a message to send
pub record HasToSend (o : Option Attempt) : Type 0 where
  pub attempt : Attempt
  pub act : Act
  pub active : o ≡ Some attempt
  pub send : send_due attempt.exchange ≡ Some act
  pub due : (cat : Catalogue) (bases : Bases) (c : ℕ) → attempt_due cat bases c o ≡ Some act

pub has_to_send : (o : Option Attempt) → line_step o ≡ Some ToSend → HasToSend o
has_to_send o e = grind (arith, sends_by)

-- one that commits
pub record Commits (o : Option Attempt) : Type 0 where
  pub attempt : Attempt
  pub active : o ≡ Some attempt
  pub over : is_over attempt.exchange.phase ≡ true
  pub due : (cat : Catalogue) (bases : Bases) (c : ℕ) → attempt_due cat bases c o ≡ Some (commit_act cat bases c attempt)

pub commits : (o : Option Attempt) → line_step o ≡ Some ToCommit → Commits o
commits None e = cc
commits (Some a) e = grind arith

-- one that does nothing by itself
pub not_over : (a : Attempt) → line_step (Some a) ≡ None → is_over a.exchange.phase ≡ false
not_over a e = grind arith
