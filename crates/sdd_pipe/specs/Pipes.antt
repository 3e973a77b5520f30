-- What is kept of all pipes of a data module, by class from 0 on.
use Rattle.std.specs.Prelude.{ℕ, zero, suc, List, [], ◌∷◌, slice_index_or}
use Rattle.sdd_pipe.specs.Digest.{Digest, empty_digest}

-- the list with f done to the element at place k, counted from 0
abbrev pub update : {A : Type 0} → ℕ → (A → A) → List A → List A
update k f [] = []
update zero f (x ∷ xs) = f x ∷ xs
update (suc k) f (x ∷ xs) = x ∷ update k f xs

-- of the pipe of class c; a class without a pipe has no messages
abbrev pub pipe_at : List Digest → ℕ → Digest
pipe_at pipes c = slice_index_or pipes c empty_digest
