-- Tests that together tell that a history keeps all laws.
use Rattle.sdd_history_examples.proofs.All.{AllByRecursion, AreSound, Attempt, Catalogue, Entry, Eras, History, KeepsAll, KeepsOthers, KeepsRejections, List, RelNo, Row, Txn, attempts, false≢true, in_attempts, list_all, lt-ltb, nat_lt, not, not-true, sym, true, ℕ, ◌∙◌, ◌≡◌}
use Rattle.sdd_history_examples.proofs.Answers.{PassAnswers, keeps_answers}
use Rattle.sdd_history_examples.proofs.Applies.{PassApplies, keeps_applies}
use Rattle.sdd_history_examples.proofs.Conditions.{HasTable, conditions_met, keeps_conditions}
use Rattle.sdd_history_examples.proofs.Each.{each}
use Rattle.sdd_history_examples.proofs.Eras.{PassEras, keeps_eras}
use Rattle.sdd_history_examples.proofs.Fitting.{PassFit, fit_together}
use Rattle.sdd_history_examples.proofs.Starts.{PassStarts, keeps_starts, there}
use Rattle.sdd_history_examples.proofs.Undeclared.{run_alone, keeps_undeclared}

pub record Passes (cat : Catalogue) (eras : Eras) (rows : List (RelNo × Row)) (txns : List Txn) (h : History) : Type 0 where
  pub sound : AreSound cat eras
  pub fit : PassFit cat eras rows txns h
  pub starts : PassStarts cat eras txns h
  pub answers : PassAnswers cat rows txns h
  pub applies : PassApplies cat h
  pub alone : run_alone cat h ≡ true
  pub lists : PassEras cat eras h

-- where no transaction starts again there are no rejections to speak of
pub no_rejections : (cat : Catalogue) (eras : Eras) (h : History) → list_all (λ a. not (nat_lt 1 a.number)) (attempts h) ≡ true → KeepsRejections cat eras h
no_rejections cat eras h e =
    record {
      again = λ a p l.
          let n = each (λ (a : Attempt). not (nat_lt 1 a.number)) (attempts h) a e (in_attempts h a p) in
          absurd (false≢true (sym (not-true (nat_lt 1 a.number) n) ∙ lt-ltb 1 a.number l));
    }

module _ (cat : Catalogue) (eras : Eras) (rows : List (RelNo × Row)) (txns : List Txn) (h : History) (pass : Passes cat eras rows txns h) where
  pub keeps_others : KeepsRejections cat eras h → KeepsOthers cat eras rows txns h
  keeps_others rejections =
      record {
        sound = pass.sound;
        fit = fit_together cat eras rows txns h pass.fit;
        starts = keeps_starts cat eras txns h pass.starts;
        answers = keeps_answers cat rows txns h (there cat eras txns h pass.starts) pass.answers;
        applies = keeps_applies cat h (there cat eras txns h pass.starts) pass.applies;
        undeclared = keeps_undeclared cat h (there cat eras txns h pass.starts) pass.alone;
        redeclares = keeps_eras cat eras h (there cat eras txns h pass.starts) pass.lists;
        rejections = rejections;
      }

  pub keeps_all : (table : ℕ → List Entry) → AllByRecursion (HasTable cat eras h table) (attempts h) → conditions_met cat table h ≡ true → KeepsRejections cat eras h
      → KeepsAll cat eras rows txns h
  keeps_all table is met rejections =
      let others = keeps_others rejections in
      record {
        sound = others.sound;
        fit = others.fit;
        laws = record {
          starts = others.starts;
          answers = others.answers;
          applies = others.applies;
          conditions = keeps_conditions cat eras table h is (there cat eras txns h pass.starts) met;
          undeclared = others.undeclared;
          redeclares = others.redeclares;
        };
        rejections = rejections;
      }
