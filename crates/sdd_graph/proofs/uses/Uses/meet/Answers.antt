use Rattle.sdd_graph.proofs.All.{Bool, ClassUses, List, ap, list_any, written_by, zip, ◌&&◌, ◌∙◌, ◌≡◌}
use Rattle.sdd_graph.proofs.Tables.{flags_meet}
use Rattle.sdd_graph.proofs.uses.Uses.meet.Goals as goal

pub returns : goal.returns
returns c =
    let one : c.as_slice.result.now ≡ written_by c.args.self.now c.args.one = c.as_slice.ensures ∙ ap (λ (u : ClassUses). u.written) c.class.ensures in
    let other : c.as_slice-2.result.now ≡ written_by c.args.self.now c.args.other = c.as_slice-2.ensures
    ∙ ap (λ (u : ClassUses). u.written) c.class-2.ensures in
    c.have_common.ensures
    ∙ ap (λ (bs : List Bool). list_any (λ (x : Bool × Bool). x.0 && x.1) (zip bs c.as_slice-2.result.now)) one
    ∙ ap (λ (bs : List Bool). list_any (λ (x : Bool × Bool). x.0 && x.1) (zip (written_by c.args.self.now c.args.one) bs)) other
    ∙ flags_meet c.args.self.now c.args.one c.args.other
