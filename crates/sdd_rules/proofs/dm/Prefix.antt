-- What is processed of a pipe is a prefix of what was handed for it.
use Rattle.sdd_rules.proofs.All.{Handed, List, Log, Msg, [], append_assoc, goes_through, if◌then◌else◌, pipe, refl, rules, ℕ, ◌++◌, ◌∷◌, ◌≡◌}

-- the messages for the pipe of class c, in the order of their hands
abbrev pub all_handed : ℕ → Log → List Msg
all_handed c [] = []
all_handed c (Handed from m ∷ log) = if goes_through c m then all_handed c log ++ m ∷ [] else all_handed c log
all_handed c (_ ∷ log) = all_handed c log

pub all_there : (c : ℕ) (log : Log) → (pipe c log).processed ++ (pipe c log).unprocessed ≡ all_handed c log
all_there c [] = refl
all_there c (e ∷ log) = search (rules, append_assoc, all_there c log)
