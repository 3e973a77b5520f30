use Rattle.sdd_graph.proofs.All.{Bool, ClassUses, List, ap, arith, false, get_or, length, written_by, ◌-◌, ◌∙◌, ◌≡◌}
use Rattle.sdd_graph.proofs.Tables.{written_long, written_at}
use Rattle.sdd_graph.proofs.uses.Uses.writes.Goals as goal

pub bounds-as_slice-frag : goal.bounds-as_slice-frag
bounds-as_slice-frag c =
    let is : c.as_slice.result.now ≡ written_by c.args.self.now c.args.class = c.as_slice.ensures ∙ ap (λ (u : ClassUses). u.written) c.class.ensures in
    let long : length c.as_slice.result.now ≡ length c.args.self.now.fragments = ap length is ∙ written_long c.args.self.now c.args.class in
    omega arith

pub returns : goal.returns
returns c =
    let is : c.as_slice.result.now ≡ written_by c.args.self.now c.args.class = c.as_slice.ensures ∙ ap (λ (u : ClassUses). u.written) c.class.ensures in
    ap (λ (bs : List Bool). get_or bs (c.args.frag - 1) false) is ∙ written_at c.args.self.now c.args.class c.args.frag false c.requires.from c.requires.to
