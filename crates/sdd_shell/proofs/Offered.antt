-- What a stream took, where it took nothing before.
use Rattle.sdd_shell.proofs.All.{List, None, Option, Some, refl, subst, ℕ, ◌∙◌}
use Rattle.std.proofs.Common.{Err, Ok, Result}
use Rattle.std.specs.Io.KnownBytes.{Keeps, WriteAppends}

pub keeps_all : (known : Option (List ℕ)) → Keeps known known
keeps_all None = tt
keeps_all (Some xs) = refl

pub keeps_on : (a b c : Option (List ℕ)) → Keeps a b → Keeps b c → Keeps a c
keeps_on None b c h k = tt
keeps_on (Some xs) (Some ys) (Some zs) h k = k ∙ h
keeps_on (Some xs) (Some ys) None h k = absurd k
keeps_on (Some xs) None c h k = absurd h

pub takes_on : {E : Type 0} (a b c : Option (List ℕ)) (r : Result ℕ E) (bytes : List ℕ) → Keeps a b → WriteAppends b c r bytes → WriteAppends a c r bytes
takes_on None b c (Ok n) bytes h k = tt
takes_on None b c (Err e) bytes h k = tt
takes_on (Some xs) (Some ys) c r bytes h k = subst (λ zs. WriteAppends (Some zs) c r bytes) h k
takes_on (Some xs) None c r bytes h k = absurd h
