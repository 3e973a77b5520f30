-- What stands in a pipe was handed.
use Rattle.sdd_dm.proofs.All.{EachHanded, List, Log, Msg, Some, [], all_handed, all_there, head, head_of, pipe, rules, subst, sym, ℕ, ◌++◌, ◌∷◌, ◌≡◌}

-- P holds of each of some messages
abbrev pub Every : (Msg → Type 0) → List Msg → Type 0
Every P [] = Unit {0}
Every P (m ∷ ms) = P m × Every P ms

every_append : (P : Msg → Type 0) (ms more : List Msg) → Every P ms → Every P more → Every P (ms ++ more)
every_append P [] more e f = f
every_append P (m ∷ ms) more e f = (e.0, every_append P ms more e.1 f)

every_later : (P : Msg → Type 0) (ms more : List Msg) → Every P (ms ++ more) → Every P more
every_later P [] more e = e
every_later P (m ∷ ms) more e = every_later P ms more e.1

every_handed : (P : Msg → Type 0) (c : ℕ) (log : Log) → EachHanded P log → Every P (all_handed c log)
every_handed P c [] e = tt
every_handed P c (x ∷ log) e = search (rules, every_append, every_handed P c log)

every_head : (P : Msg → Type 0) (ms : List Msg) (m : Msg) → Every P ms → head_of ms ≡ Some m → P m
every_head P ms m e h = search rules

-- what holds of each handed message holds of the head of a pipe
pub head_handed : (P : Msg → Type 0) (c : ℕ) (log : Log) (m : Msg) → EachHanded P log → head (pipe c log) ≡ Some m → P m
head_handed P c log m e h =
    every_head P (pipe c log).unprocessed m
    (every_later P (pipe c log).processed (pipe c log).unprocessed (subst (Every P) (sym (all_there c log)) (every_handed P c log e))) h
