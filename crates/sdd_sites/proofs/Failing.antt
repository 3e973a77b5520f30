-- An end that a `?` hands on.
use Rattle.sdd_sites.proofs.All.{Err, IsErrAnd, IsErrOf, Limit, Ok, Result, WorldEnd, ap, sym, ◌∙◌, ◌≡◌}
use Rattle.sdd_sites.specs.declared.ends.WorldEnd.TheVariants.{NoMemory}

pub handed_on : {T U : Type 0} (r : Result T WorldEnd) (e : WorldEnd) → IsErrAnd r (λ y. y ≡ e) → IsErrOf r Limit → IsErrOf {T = U} (Err e) Limit
handed_on (Ok v) e h k = absurd h
handed_on (Err y) e h k = let same : y ≡ Limit = cc in ap (λ x. Err x) (sym h ∙ same)

-- running out of memory is no limit
pub no_limit : {T : Type 0} (P : Type 0) (r : Result T WorldEnd) → IsErrAnd r (λ y. y ≡ NoMemory) → IsErrOf r Limit → P
no_limit P (Ok v) h k = absurd h
no_limit P (Err y) h k = let same : y ≡ Limit = cc in let e : NoMemory ≡ Limit = sym h ∙ same in cc

-- a call that went well ended at no limit
pub no_end : {T : Type 0} (P : Type 0) (v : T) → IsErrOf {T = T} {E = WorldEnd} (Ok v) Limit → P
no_end P v e = absurd cc
