use Rattle.std.proofs.lemmas.Grind.{common_steps}
use Rattle.sdd_protocol.proofs.All.{All, AreBlocks, AreEntries, HasCell, HasVertical, IsTable, arith, ends, length, length-map, map, subst, sym, ◌+◌, ◌∙◌, ◌≡◌}
use Rattle.sdd_protocol.proofs.MadeTable.{readers_there, cells_there, is_table}
use Rattle.sdd_protocol.proofs.making.table.Goals as goal

pub entries-requires-clause-readers : goal.entries-requires-clause-readers
entries-requires-clause-readers c =
    let edges = c.deref.result.now in
    let numbers = c.deref-3.result.now in
    let blocks : AreBlocks (map ends edges) numbers = subst (λ z. AreBlocks (map ends edges) z) (sym c.deref-3.ensures.value) c.in_ok-numbers.ensures in
    let same : c.deref-2.result.now ≡ edges = c.deref-2.ensures.value ∙ sym c.deref.ensures.value in
    subst (λ z. All (HasVertical (length numbers)) z) (sym same)
    (readers_there c.args.catalogue.now edges (length numbers) (c.deref.ensures.value ∙ c.in_ok-edges.ensures.edges) (blocks.one_each ∙ length-map edges ends))

pub of-requires-clause-cells : goal.of-requires-clause-cells
of-requires-clause-cells c =
    let cat = c.args.catalogue.now in
    let edges = c.deref-2.result.now in
    subst (λ n. All (λ e. HasCell (n + 1) e.edge) c.deref-4.result.now) (sym c.classes-2.ensures)
    (subst (λ z. All (λ e. HasCell (length cat.classes + 1) e.edge) z) (sym c.deref-4.ensures.value)
    (cells_there cat edges c.deref-3.result.now c.in_ok-entries.entries.items (c.deref-2.ensures.value ∙ c.in_ok-edges.ensures.edges) c.in_ok-entries.ensures))

pub returns : goal.returns
returns c =
    let cat = c.args.catalogue.now in
    let edges = c.in_ok-edges.edges.items in
    let numbers = c.in_ok-numbers.numbers.items in
    let entries = c.in_ok-entries.entries.items in
    let blocks : AreBlocks (map ends edges) numbers = subst (λ z. AreBlocks (map ends z) numbers) c.deref.ensures.value c.in_ok-numbers.ensures in
    let made : AreEntries edges numbers (length edges) entries =
    subst (λ z. AreEntries edges z (length edges) entries) c.deref-3.ensures.value
    (subst (λ z. AreEntries z c.deref-3.result.now (length z) entries) c.deref-2.ensures.value c.in_ok-entries.ensures) in
    subst (λ z. IsTable cat z) (sym c.new.ensures) (is_table cat edges numbers entries c.in_ok-edges.ensures.edges blocks made)

pub entries-requires-clause-one_each : goal.entries-requires-clause-one_each
entries-requires-clause-one_each c = grind (arith, common_steps)

pub new-requires : goal.new-requires
new-requires c = grind (arith, common_steps)

pub of-requires-clause-few : goal.of-requires-clause-few
of-requires-clause-few c = grind (arith, common_steps)
