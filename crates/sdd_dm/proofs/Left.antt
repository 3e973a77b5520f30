-- Each step of a head leaves fewer steps: it processes a message, or lets a READ wait that didn't wait before.
use Rattle.sdd_dm.proofs.All.{Bool, ClassNo, Digest, IsTrue, List, Msg, Some, State, Step, ap, arith, false, first_step, head_at, length, length-update, nat_tests, pipe_at, state_after, state_handed, steps_in, steps_left, subst, suc, sym, take_digest, true, update, waits, waits_at, zero, ℕ, ◌<◌, ◌∙◌, ◌∷◌, ◌≡◌}
use Rattle.sdd_dm.proofs.FirstDue.{first_is}

-- one class less

taken_less : (f : Digest → Digest) (g : Bool → Bool) (pipes : List Digest) (waits : List Bool) (k : ℕ) → k < length pipes → k < length waits
    → steps_in (f (pipe_at pipes k)) (g (waits_at waits k)) < steps_in (pipe_at pipes k) (waits_at waits k)
    → steps_left (update k f pipes) (update k g waits) < steps_left pipes waits
taken_less f g (p ∷ pipes) (w ∷ waits) zero l m h = omega arith
taken_less f g (p ∷ pipes) (w ∷ waits) (suc k) l m h = grind (arith, nat_tests, steps_left, update, (taken_less f g pipes waits k (omega arith) (omega arith) h))
taken_less f g _ _ k l m h = absurd (omega arith)

waits_less : (pipes : List Digest) (waits : List Bool) (k : ℕ) → k < length pipes → k < length waits → waits_at waits k ≡ false
    → steps_left pipes (update k (λ w. true) waits) < steps_left pipes waits
waits_less (p ∷ pipes) (w ∷ waits) zero l m h = let e : w ≡ false = h in rw e (omega arith)
waits_less (p ∷ pipes) (w ∷ waits) (suc k) l m h = grind (arith, nat_tests, steps_left, update, (waits_less pipes waits k (omega arith) (omega arith) h))
waits_less _ _ k l m h = absurd (omega arith)

-- a READ that begins to wait didn't wait

pub steps_fall : (st new : State) (p : ClassNo × Step) → first_step st.pipes st.waits ≡ Some p → length st.waits ≡ length st.pipes
    → new ≡ state_after st p.0.0 (head_at st.pipes p.0.0) p.1
    → steps_left new.pipes new.waits < steps_left st.pipes st.waits
steps_fall st new p e same is =
    let f = first_is st p e in
    grind (arith, taken_less, waits_less, is ∙ ap (λ o. state_after st p.0.0 o p.1) f.head)

-- what stays: the copies and the pipes live, and there are as many flags as pipes

pub record IsWhole (st : State) : Type 0 where
  pub live : IsTrue st.copies.live
  pub pipes_live : IsTrue st.pipes_live
  pub flags : length st.waits ≡ length st.pipes

abbrev taken_whole : (st : State) (c : ℕ) → IsWhole st → length (update c (λ w. false) st.waits) ≡ length (update c take_digest st.pipes)
taken_whole st c w = length-update c (λ x. false) st.waits ∙ w.flags ∙ sym (length-update c take_digest st.pipes)

pub whole_on : (st new : State) (p : ClassNo × Step) → new ≡ state_after st p.0.0 (head_at st.pipes p.0.0) p.1 → IsWhole st → IsWhole new
whole_on st new p e w = subst IsWhole (sym e) (grind (arith, taken_whole, length-update))

pub whole_handed : (m : Msg) (st new : State) → new ≡ state_handed m st → IsWhole st → IsWhole new
whole_handed m st new e w = subst IsWhole (sym e) (grind (arith, length-update))
