use Rattle.sdd_protocol.proofs.All.{AreMarks, Bool, FragNo, List, ap, arith, false, get_or, is_asked, is_read_at, length, length-set, set, subst, sym, take, true, ◌+◌, ◌<◌, ◌∙◌, ◌≡◌}
use Rattle.sdd_protocol.proofs.Marks.{marks_more, marks_same}
use Rattle.sdd_protocol.proofs.asked.Asked.of.Goals.{then-is_read_at, else-is_read_at}
use Rattle.sdd_protocol.proofs.asked.Asked.of.Goals as goal

pub loop-frag-preserved : goal.loop-frag-preserved
loop-frag-preserved c =
    let cat = c.args.catalogue.now in
    let frags = c.args.frags.now in
    let i = c.args.class.0 in
    let dm = c.args.dm.0 in
    let k = c.loop-frag.frag-index in
    let none : FragNo = record { 0 = 0 } in
    let marks = c.loop-frag.marks.items in
    let next = c.if-is_read_at.marks.items in
    let frag = (get_or frags k none).0 in
    let now : List Bool → Type 0 = AreMarks (is_asked cat i dm (take (k + 1) frags)) in
    let index = c.loop-frag.invariant.0 in
    let within : frag < length marks = let f = c.requires.frags k none c.loop-frag-test.true in omega arith in
    elim c.if-is_read_at.branch [
      | then-is_read_at w ↦
          let next_is : next ≡ set marks frag true = ap (λ z. z.items) w.marks-is in
          let read : is_read_at cat i dm frag ≡ true = sym c.is_read_at.ensures ∙ w.if-is_read_at.true in (
            ap length next_is ∙ length-set marks frag true ∙ index,
            subst (λ z. now z) (sym next_is) (marks_more cat i dm frags k none c.loop-frag-test.true marks c.loop-frag.invariant.1 read within),
          )
      | else-is_read_at w ↦
          let next_is : next ≡ marks = ap (λ z. z.items) w.marks-is in
          let read : is_read_at cat i dm frag ≡ false = sym c.is_read_at.ensures ∙ w.if-is_read_at.false in (
            ap length next_is ∙ index,
            subst (λ z. now z) (sym next_is) (marks_same cat i dm frags k none c.loop-frag-test.true marks c.loop-frag.invariant.1 read),
          )
    ]
