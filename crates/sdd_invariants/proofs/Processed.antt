-- The records of a pipe belong to its messages, in order.
use Rattle.sdd_invariants.proofs.All.{Act, AllZip, Bool, Cond, Did, Each, Handed, IsClassHere, IsDueEach, IsMatched, IsOf, IsReadStep, IsReadWith, List, Log, May, Msg, None, Pipe, Rec, Records, Setting, Site, Some, [], ap, arith, by_record, by_wait, false, head, head_processed, in_passing, inl, inr, is_moving, is_processing, is_wait, one_or_none, pipe, refl, results, slice_get, spoiler, subst, suc, sym, true, view_of, waits, ℕ, ◌&&◌, ◌++◌, ◌==◌, ◌∙◌, ◌∷◌, ◌≡◌, ◌⊎◌}
use Rattle.sdd_invariants.proofs.AreReadSteps.{d_step}
use Rattle.sdd_invariants.proofs.Bools.{if_way, neither_left, neither_right, same_number, same_or_not}

-- what holds of each kind of step holds of an act that is one
pub read_step_way : (s : Setting) (log : Log) (act : Act) (P : Act → Type 0) → (is_moving act ≡ false → P act)
    → ((c : ℕ) (conds : List Cond) (r : Rec)
    (sends : List (Site × Msg)) → IsClassHere s c → is_processing r ≡ false → is_wait r ≡ true → IsReadWith conds (head (pipe c log))
    → spoiler (view_of s log) conds ≡ None → P (Records c r sends))
    → ((c : ℕ) (m : Msg) (r : Rec) (sends : List (Site × Msg)) → IsClassHere s c → is_processing r ≡ true → head (pipe c log) ≡ Some m → May
    (view_of s log) c (waits c log) m r → P (Records c r sends))
    → IsReadStep s log act → P act
read_step_way s log act P f g h (in_passing e) = f e
read_step_way s log act P f g h (by_wait c conds r sends l p w i j e) = subst P (sym e) (g c conds r sends l p w i j)
read_step_way s log act P f g h (by_record c m r sends l p i j e) = subst P (sym e) (h c m r sends l p i j)

-- a record of another class, or one that processes nothing
pub record IsSame (c : ℕ) (log more : Log) : Type 0 where
  pub pipe_same : pipe c more ≡ pipe c log
  pub results_same : results c more ≡ results c log

pub and_false : (a : Bool) → (a && false) ≡ false
and_false a = grind arith

pub not_own : (c k : ℕ) (r : Rec) (sends : List (Site × Msg)) (log : Log) → ((k == c) ≡ false) ⊎ (is_processing r ≡ false)
    → IsSame c log (Did (Records k r sends) ∷ log)
not_own c k r sends log h6 = grind (arith, and_false)

pub passing : (c : ℕ) (act : Act) (log : Log) → is_moving act ≡ false → IsSame c log (Did act ∷ log) × (waits c (Did act ∷ log) ≡ waits c log)
passing c act log e = grind (arith, neither_left, neither_right, not_own, if_way)

pub own_record : (c : ℕ) (r : Rec) (sends : List (Site × Msg)) (log : Log) → is_processing r ≡ true
    → (pipe c (Did (Records c r sends) ∷ log) ≡ head_processed (pipe c log)) × (results c (Did (Records c r sends) ∷ log) ≡ results c log ++ r ∷ [])
own_record c r sends log e = (rw (same_number c, e) refl, rw (same_number c, e) refl)

-- once its head is processed
pub processed_more : (p : Pipe) (m : Msg) → head p ≡ Some m → (head_processed p).processed ≡ p.processed ++ m ∷ []
processed_more p m e = ap (λ o. p.processed ++ one_or_none o) e

pub processed_handed : (c : ℕ) (from : Site) (m : Msg) (log : Log) → (pipe c (Handed from m ∷ log)).processed ≡ (pipe c log).processed
processed_handed c from m log = (grind arith)

zip_push : {A B : Type 0} (R : A → B → Type 0) (xs : List A) (ys : List B) (x : A) (y : B) → AllZip R xs ys → R x y → AllZip R (xs ++ x ∷ []) (ys ++ y ∷ [])
zip_push R [] [] x y h r = (r, tt)
zip_push R (a ∷ xs) (b ∷ ys) x y h r = (h.0, zip_push R xs ys x y h.1 r)
zip_push R _ _ x y h r = absurd h

matched_as : (c : ℕ) (log more : Log) → results c more ≡ results c log → (pipe c more).processed ≡ (pipe c log).processed → IsMatched c log → IsMatched c more
matched_as c log more r q h =
    record { matched = subst (λ rs. AllZip IsOf rs (pipe c more).processed) (sym r) (subst (AllZip IsOf (results c log)) (sym q) h.matched) }

matched_same : (c : ℕ) (log more : Log) → IsSame c log more → IsMatched c log → IsMatched c more
matched_same c log more q h = matched_as c log more q.results_same (ap (λ p. p.processed) q.pipe_same) h

matched_own : (s : Setting) (c : ℕ) (m : Msg) (r : Rec) (sends : List (Site × Msg)) (log : Log) → is_processing r ≡ true
    → head (pipe c log) ≡ Some m → May (view_of s log) c (waits c log) m r → IsMatched c log → IsMatched c (Did (Records c r sends) ∷ log)
matched_own s c m r sends log p e i h =
    let o = own_record c r sends log p in
    let d : (pipe c (Did (Records c r sends) ∷ log)).processed ≡ (pipe c log).processed ++ m ∷ [] = ap (λ q. q.processed) o.0
    ∙ processed_more (pipe c log) m e in
    record { matched = rw (o.1, d) (zip_push IsOf (results c log) (pipe c log).processed r m h.matched (grind arith)) }

pub matched : (s : Setting) (c : ℕ) (log : Log) → Each (IsDueEach s) log → IsMatched c log
matched s c [] h = record { matched = tt }
matched s c (Handed from m ∷ log) h = matched_as c log (Handed from m ∷ log) refl (processed_handed c from m log) (matched s c log h.1)
matched s c (Did act ∷ log) h =
    let i = matched s c log h.1 in
    read_step_way s log act (λ x. IsMatched c (Did x ∷ log)) (λ e. matched_same c log (Did act ∷ log) (passing c act log e).0 i)
    (λ k conds r sends l p w a b. matched_same c log (Did (Records k r sends) ∷ log) (not_own c k r sends log (inr p)) i)
    (λ k m r sends l p e j. elim (same_or_not k c) [
      | inl q ↦ subst (λ x. IsMatched c (Did (Records x r sends) ∷ log)) (sym q)
          (matched_own s c m r sends log p (rw q at e) (subst (λ x. May (view_of s log) x (waits x log) m r) q j) i)
      | inr q ↦ matched_same c log (Did (Records k r sends) ∷ log) (not_own c k r sends log (inl q)) i
    ]) (d_step s log act h.0)
matched s c (x ∷ log) h = matched_as c log (x ∷ log) refl refl (matched s c log h.1)

-- the k-th record with the k-th message
pub zip_at : {A B : Type 0} (R : A → B → Type 0) (xs : List A) (ys : List B) (k : ℕ) (y : B) → AllZip R xs ys
    → slice_get ys k ≡ Some y → (x : A) × (slice_get xs k ≡ Some x) × R x y
zip_at R (a ∷ xs) (b ∷ ys) (suc k) y h e = zip_at R xs ys k y h.1 e
zip_at R xs ys k y h e = grind arith

pub zip_back : {A B : Type 0} (R : A → B → Type 0) (xs : List A) (ys : List B) (k : ℕ) (x : A) → AllZip R xs ys
    → slice_get xs k ≡ Some x → (y : B) × (slice_get ys k ≡ Some y) × R x y
zip_back R (a ∷ xs) (b ∷ ys) (suc k) x h e = zip_back R xs ys k x h.1 e
zip_back R xs ys k x h e = grind arith
