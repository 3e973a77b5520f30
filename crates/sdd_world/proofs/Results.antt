-- What a call ensures, handed on.
use Rattle.sdd_world.proofs.All.{Err, IfOk, Ok, OnOk, Result}

pub after_ok : {T E : Type 0} (r : Result T E) (P Q : Type 0) → OnOk r P → (P → Q) → OnOk r Q
after_ok (Ok x) P Q h f = f h
after_ok (Err e) P Q h f = tt

pub of_ok : {T E : Type 0} (r : Result T E) (P Q : T → Type 0) → IfOk r P → ((x : T) → P x → Q x) → IfOk r Q
of_ok (Ok x) P Q h f = f x h
of_ok (Err e) P Q h f = tt

pub both_ok : {T E : Type 0} (r : Result T E) (P Q R : Type 0) → OnOk r P → OnOk r Q → (P → Q → R) → IfOk r (λ _. R)
both_ok (Ok x) P Q R h k f = f h k
both_ok (Err e) P Q R h k f = tt

pub on_ok_of : {T E : Type 0} (r : Result T E) (P Q : Type 0) → IfOk r (λ _. P) → (P → Q) → OnOk r Q
on_ok_of (Ok x) P Q h f = f h
on_ok_of (Err e) P Q h f = tt
