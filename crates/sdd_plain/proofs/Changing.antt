-- One change of a database.
use Rattle.sdd_plain.proofs.All.{Catalogue, Change, Database, None, ap, changed_by, fragment_at, set_to, sym, without_row, ℕ, ◌∙◌, ◌≡◌}

pub change_to_none : (cat : Catalogue) (db : Database) (c : Change) (rel : ℕ) → rel ≡ (fragment_at cat c.frag.0).rel.0 → c.row ≡ None
    → without_row db (rel, c.key) ≡ changed_by cat db c
change_to_none cat db c rel is none = ap (λ n. without_row db (n, c.key)) is ∙ ap (set_to db ((fragment_at cat c.frag.0).rel.0, c.key)) (sym none)
