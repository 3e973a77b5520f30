use Rattle.sdd_copy.proofs.All.{Dated, IfOk-weaker, ap, items_of, map, rows_in, rows_left, ◌∙◌, ◌≡◌}
use Rattle.sdd_copy.proofs.Contents.{rows_are_left}
use Rattle.sdd_copy.proofs.frag_copy.FragCopy.rows.Goals as goal

pub returns-clause-contents : goal.returns-clause-contents
returns-clause-contents c =
    IfOk-weaker c.kept_rows.result (λ rows. rows.items ≡ rows_in c.self.inside.items)
    (λ rows. (xs : Dated) → c.args.self.now.value ≡ items_of xs → rows.items ≡ map (λ e. e.1) (rows_left xs))
    (λ rows rows_is xs is. rows_are_left c.self.inside.items xs rows.items rows_is (ap (λ v. v.value) c.self.view_is ∙ is)) c.kept_rows.ensures
