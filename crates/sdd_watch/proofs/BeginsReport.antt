-- What is reported before the first event, and of all events.
use Rattle.sdd_watch.proofs.All.{Input, IsTextOf, IsTheLog, List, Log, Represents, Teller, Tells, Watches, World, [], ap, beginning, tables_of, ℕ, ◌++◌, ◌∙◌, ◌≡◌}
use Rattle.sdd_watch.proofs.TextSoFar.{text_begins}

-- the first line
pub begins_report : (g : Input) (t : Teller) (empty line : List ℕ) → t.catalogue.now ≡ g.catalogue → empty ≡ []
    → line ≡ beginning g.catalogue g.txns (tables_of g []) → t.text.items ≡ empty ++ line → Watches g [] t.watch → Tells g [] t
begins_report g t empty line cat none first text watches = record {
  catalogue_is = cat;
  text_is = text ∙ ap (λ xs. xs ++ line) none ∙ first ∙ text_begins g;
  watches = watches;
}

-- a world that has carried out all that it is given has come to *the* log
pub log_at_end : (g : Input) (w : World) (log : Log) → Represents w g log → IsTheLog g log
log_at_end g w log r = record { lawful = r.calm.rests.lawful; within = r.calm.rests.within; complete = r.complete }

-- what was told of it is its text
pub text_at_end : (g : Input) (log : Log) (t : Teller) (text : List ℕ) → text ≡ t.text.items → IsTheLog g log → Tells g log t → IsTextOf g text
text_at_end g log t text same is tells = record { log = log; log_is = is; text_is = same ∙ tells.text_is }
