-- What a read of one of the system's files gives.
use Rattle.std.specs.Prelude.{◌≡◌, ◌<◌, ℕ, List, Option, MatchOption, IfSome, length, take}
use Rattle.std.specs.Io.KnownBytes.{Consumes, IsAtEnd}

-- The bytes that came into the buffer were unread in this file, as far as its unread bytes are known, and aren't any
-- more. Where no byte came, the buffer is empty or the file is at its end. Where the system refuses, the result is None,
-- and nothing is said of the file.
abbrev pub ReadsOf : {F : Type 0} → (F → Option (List ℕ)) → Option F → Option F → Option ℕ → List ℕ → Type 0
ReadsOf unread before after result buf =
    IfSome result (λ n. MatchOption before ⊥ (λ was. MatchOption after ⊥ (λ is.
    Consumes (unread was) (unread is) (take n buf) × (n ≡ 0 → 0 < length buf → IsAtEnd (unread is)))))
