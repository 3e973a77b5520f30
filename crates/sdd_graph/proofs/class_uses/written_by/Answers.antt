use Rattle.sdd_graph.proofs.All.{FragNo, ap, arith, class_at, false, frag_no, get_or, length, length-map-range_with_len, length-range_with_len, numbers_to, replicate, set, splat_is_map, take, take_more, true, ℕ, ◌-◌, ◌∙◌, ◌≡◌, ◌≤◌}
use Rattle.sdd_graph.proofs.Lists.{is_among, mark_more}
use Rattle.sdd_graph.proofs.Tables.{writes_within, written_all}
use Rattle.sdd_graph.proofs.class_uses.written_by.Goals as goal

pub loop-frag-init : goal.loop-frag-init
loop-frag-init c =
    let n : ℕ = length c.args.catalogue.now.fragments in
    c.in_ok-written.ensures.items_if_clones_equal (λ y e. e)
    ∙ ap (λ m. replicate m false) c.fragments.ensures
    ∙ splat_is_map (numbers_to n) n false (length-range_with_len 1 n)

pub index_mut-requires : goal.index_mut-requires
index_mut-requires c =
    let cat = c.args.catalogue.now in
    let class = c.args.class.0 in
    let items = c.as_slice-frag-items.result.now in
    let k : ℕ = c.loop-frag.frag-index in
    let f : FragNo = get_or items k (frag_no 0) in
    let n : ℕ = length cat.fragments in
    let written : items ≡ (class_at cat class).writes = c.as_slice-frag-items.ensures ∙ ap (λ z. z.writes) c.class.ensures in
    let within : (1 ≤ f.0) × (f.0 ≤ n) = writes_within cat class _ c.law_is_sound.ensures.whole c.requires written k (frag_no 0) c.loop-frag-test.true in
    let from : 1 ≤ f.0 = within.0 in
    let to : f.0 ≤ n = within.1 in
    let long : length c.loop-frag.written.items ≡ n = ap length c.loop-frag.invariant ∙ length-map-range_with_len (is_among (take k items)) 1 n in
    omega arith

pub loop-frag-preserved : goal.loop-frag-preserved
loop-frag-preserved c =
    let cat = c.args.catalogue.now in
    let class = c.args.class.0 in
    let items = c.as_slice-frag-items.result.now in
    let k : ℕ = c.loop-frag.frag-index in
    let f : FragNo = get_or items k (frag_no 0) in
    let n : ℕ = length cat.fragments in
    let written : items ≡ (class_at cat class).writes = c.as_slice-frag-items.ensures ∙ ap (λ z. z.writes) c.class.ensures in
    let within : (1 ≤ f.0) × (f.0 ≤ n) = writes_within cat class _ c.law_is_sound.ensures.whole c.requires written k (frag_no 0) c.loop-frag-test.true in
    ap (λ bs. set bs (f.0 - 1) true) c.loop-frag.invariant
    ∙ mark_more (take k items) _ n f (take_more items k (frag_no 0) c.loop-frag-test.true) within.0

pub returns : goal.returns
returns c =
    let cat = c.args.catalogue.now in
    let class = c.args.class.0 in
    c.from_vec.ensures
    ∙ written_all cat class c.as_slice-frag-items.result.now c.loop-frag.frag-index c.loop-frag.written.items c.requires
    (c.as_slice-frag-items.ensures ∙ ap (λ z. z.writes) c.class.ensures) c.loop-frag-test.false c.loop-frag.invariant
