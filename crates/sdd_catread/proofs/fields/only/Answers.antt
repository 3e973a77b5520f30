use Rattle.std.proofs.Common.{refl, sym, ◌∙◌}
use Rattle.sdd_catread.proofs.Views.{has_only_keys}
use Rattle.sdd_catread.proofs.fields.only.Goals as goal

pub returns-then-has_only : goal.returns-then-has_only
returns-then-has_only c = rw (sym (has_only_keys c.args.names.now c.args.table.now.entries) ∙ (sym c.has_only.ensures ∙ c.if-has_only.true)) refl

pub returns-else-has_only : goal.returns-else-has_only
returns-else-has_only c =
    rw (c.breaks.ensures, sym (has_only_keys c.args.names.now c.args.table.now.entries) ∙ (sym c.has_only.ensures ∙ c.if-has_only.false)) refl
