-- The DONEs that were handed to the module for undeclared transactions are those that its own log has.
use Rattle.sdd_watch.proofs.All.{AreDones, Bool, Calm, D, Done, Dones, Input, IsLinkOf, IsPermitted, Kept, List, Log, Message, Msg, Site, U, World, [], ap, arith, cond, contains, d_site, dm_no, false, filter, handed, hands_from, if◌then◌else◌, in_order, is_done_at, lawful_permitted, list_any, list_any-append, local_of, map, not, numbered, numbers_to, pair_cmp, range_with_len, refl, says_applied, sent, sent_is, setting_of, suc, sym, take, true, unapplied_of, zero, ℕ, ◌&&◌, ◌++◌, ◌+◌, ◌<◌, ◌==◌, ◌||◌, ◌∙◌, ◌∷◌, ◌≡◌, ◌≤◌}
use Rattle.sdd_moments.specs.obligations.All.{Handed}
use Rattle.sdd_moments.specs.schedule.world.u_module.Represents.{Represents}
use Rattle.sdd_moments.specs.obligations.umod.State.{State}
use Rattle.sdd_moments.specs.Moments.{handed_on}
use Rattle.sdd_moments.proofs.Numbered.{take_numbered}
use Rattle.sdd_moments.proofs.progress.obligations.invariants.HoldChain.{same_turned as turned}
use Rattle.sdd_moments.specs.obligations.site_module.SiteLog as site

-- by messages

abbrev is_done : ℕ → Msg → Bool
is_done t (Done ts) = ts.0 == t
is_done t _ = false

done_message : (t k : ℕ) (m : Msg) → is_done_at t (Message k m) ≡ is_done t m
done_message t k (Done ts) = refl
done_message t k _ = refl

among_numbered : (t k : ℕ) (ms : List Msg) → list_any (is_done_at t) (numbered k ms) ≡ list_any (is_done t) ms
among_numbered t k [] = refl
among_numbered t k (m ∷ ms) =
    ap (λ b. b || list_any (is_done_at t) (numbered (k + 1) ms)) (done_message t (k + 1) m) ∙ ap (λ b. is_done t m || b) (among_numbered t (k + 1) ms)

-- by the entries of the log

and_false : (x : Bool) → false ≡ (x && false)
and_false true = refl
and_false false = refl

says_message : (t d n : ℕ) (m : Msg) → says_applied t d (Handed (D (dm_no n)) m) ≡ ((n == d) && is_done t m)
says_message t d n (Done ts) = refl
says_message t d n _ = and_false (n == d)

or_last : (x y : Bool) → (x || y) ≡ (y || (x || false))
or_last true true = refl
or_last true false = refl
or_last false true = refl
or_last false false = refl

one_more : (t : ℕ) (b : Bool) (m : Msg) (hands : List Msg) (rest : Bool) → rest ≡ list_any (is_done t) hands
    → ((b && is_done t m) || rest) ≡ list_any (is_done t) (if b then hands ++ m ∷ [] else hands)
one_more t true m hands rest e =
    ap (λ r. is_done t m || r) e ∙ or_last (is_done t m) (list_any (is_done t) hands) ∙ sym (list_any-append (is_done t) hands (m ∷ []))
one_more t false m hands rest e = e

said_by_log : (t d : ℕ) (log : site.Log) → list_any (says_applied t d) log ≡ list_any (is_done t) (hands_from (D (dm_no d)) log)
said_by_log t d [] = refl
said_by_log t d (Handed (D n) m ∷ log) =
    ap (λ b. b || list_any (says_applied t d) log) (says_message t d n.0 m ∙ ap (λ b. b && is_done t m) (turned n.0 d))
    ∙ one_more t (d == n.0) m (hands_from (D (dm_no d)) log) (list_any (says_applied t d) log) (said_by_log t d log)
said_by_log t d (_ ∷ log) = said_by_log t d log

handed_says : (g : Input) (log : Log) (t d : ℕ) → IsPermitted g log
    → list_any (is_done_at t) (handed_on (D (dm_no d)) U log) ≡ list_any (says_applied t d) (local_of g U log)
handed_says g log t d permitted =
    let a : Site = D (dm_no d) in
    let h : ℕ = handed a U log in
    ap (list_any (is_done_at t)) (take_numbered h 0 (sent a U log))
    ∙ among_numbered t 0 (take h (sent a U log))
    ∙ ap (λ ms. list_any (is_done t) (take h ms)) (sent_is g a U log)
    ∙ ap (list_any (is_done t)) (sym (in_order g log a U permitted))
    ∙ sym (said_by_log t d (local_of g U log))

-- numbers that two tests tell alike

alike : (p q : ℕ → Bool) (k n : ℕ) → ((d : ℕ) → k ≤ d → d < k + n → p d ≡ q d) → filter p (range_with_len k n) ≡ filter q (range_with_len k n)
alike p q k zero same = refl
alike p q k (suc n) same =
    ap (λ b. cond b (k ∷ filter p (range_with_len (k + 1) n)) (filter p (range_with_len (k + 1) n))) (same k (omega arith) (omega arith))
    ∙ ap (λ (dms : List ℕ). cond (q k) (k ∷ dms) dms) (alike p q (k + 1) n (λ d low high. same d (omega arith) (omega arith)))

done_link : (g : Input) (d : ℕ) → 1 ≤ d → d ≤ g.catalogue.dms → IsLinkOf g (D (dm_no d)) U
done_link g d low high = ap (λ b. b && true) (d_site g.catalogue d (low, high))

-- so what is kept tells which data modules haven't said that they applied what was committed last
pub unapplied_is : (g : Input) (w : World) (log : Log) (dones : Dones) (k : Kept State) (ts dms : ℕ) → Calm w g log
    → Represents k (setting_of g U) (local_of g U log) → AreDones g log dones → ts ≡ k.value.served.ts → dms ≡ g.catalogue.dms
    → map dm_no (filter (λ d. not (contains pair_cmp dones.said (ts, d))) (numbers_to dms)) ≡ unapplied_of g log
unapplied_is g w log dones k ts dms calm represents known last count =
    let own : site.Log = local_of g U log in
    let permitted = lawful_permitted g log calm.parts.good.once calm.rests.lawful in
    let heard : (d : ℕ) → 1 ≤ d → d < 1 + g.catalogue.dms → not (contains pair_cmp dones.said (ts, d)) ≡ not (list_any (says_applied ts d) own) =
    λ d low high. ap not (known ts d (done_link g d low (omega arith)) ∙ handed_says g log ts d permitted) in
    ap (λ n. map dm_no (filter (λ d. not (contains pair_cmp dones.said (ts, d))) (numbers_to n))) count
    ∙ ap (map dm_no) (alike (λ d. not (contains pair_cmp dones.said (ts, d))) (λ d. not (list_any (says_applied ts d) own)) 1 g.catalogue.dms heard)
    ∙ ap (λ t. map dm_no (filter (λ d. not (list_any (says_applied t d) own)) (numbers_to g.catalogue.dms)))
    (last ∙ ap (λ (v : State). v.served.ts) (sym represents.state_is))
