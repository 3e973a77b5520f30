-- A READY or REJECT that is next to be handed over answers a READ of the site, and is the first that does.
use Rattle.sdd_obligations.proofs.All.{Act, AnswersRead, Bool, D, Did, DmNo, Does, Handed, Input, IsPermitted, List, Log, Msg, Read, Site, Some, [], all_handed, and_left, and_right, ap, append_assoc, arith, at_site, both, false, handed, hands_from, head_put, home, if◌then◌else◌, in_order, inl, inr, is_read, is_verdict, list_any, local_grows, local_of, number_of, one_if, only_right, or_left, or_right, own_act, permitted_before, push_more, put_in_by_d, puts_to, refl, same_number, same_site, sends_of_act, setting_of, site_is, site_self, slice_get, subst, suc, sym, take, take_one_more, tally, tally_append, tally_take, to_site, true, true_or_false, ℕ, ◌&&◌, ◌++◌, ◌+◌, ◌<◌, ◌∙◌, ◌∷◌, ◌≡◌, ◌≤◌}
use Rattle.sdd_obligations.proofs.Verdicts.{in_class, one_verdict, verdict_by}
use Rattle.sdd_invariants.specs.attempt.Fits.{sent}
use Rattle.sdd_invariants.specs.site_module.SiteLog as site

-- the READ was sent

any_left : (f : Site × Msg → Bool) (xs ys : List (Site × Msg)) → list_any f xs ≡ true → list_any f (xs ++ ys) ≡ true
any_left f [] ys e = cc
any_left f (x ∷ xs) ys e = elim (true_or_false (f x)) [
  | inl p ↦ or_left (f x) (list_any f (xs ++ ys)) p
  | inr p ↦ or_right (f x) (list_any f (xs ++ ys)) (any_left f xs ys (only_right (f x) (list_any f xs) p e))
]

any_right : (f : Site × Msg → Bool) (xs ys : List (Site × Msg)) → list_any f ys ≡ true → list_any f (xs ++ ys) ≡ true
any_right f [] ys e = e
any_right f (x ∷ xs) ys e = or_right (f x) (list_any f (xs ++ ys)) (any_right f xs ys e)

of_head : (b : Site) (f : Msg → Bool) (p : Site × Msg) (ps : List (Site × Msg)) (k : ℕ) (m : Msg) (c : Bool) → same_site b p.0 ≡ c
    → ((j : ℕ) → slice_get (to_site b ps) j ≡ Some m → list_any (at_site b f) ps ≡ true)
    → slice_get (if c then p.1 ∷ to_site b ps else to_site b ps) k ≡ Some m → f m ≡ true → list_any (at_site b f) (p ∷ ps) ≡ true
of_head b f p ps k m c q g e h = grind (arith, site_is, site_self, or_left, both, or_right)

any_sent : (b : Site) (f : Msg → Bool) (ps : List (Site × Msg)) (k : ℕ) (m : Msg) → slice_get (to_site b ps) k ≡ Some m → f m ≡ true
    → list_any (at_site b f) ps ≡ true
any_sent b f [] k m e h = cc
any_sent b f (p ∷ ps) k m e h = of_head b f p ps k m (same_site b p.0) refl (λ j q. any_sent b f ps j m q h) e h

pub sent_of_act : (b : Site) (f : Msg → Bool) (later : site.Log) (act : Act) (before : site.Log) (k : ℕ) (m : Msg)
    → slice_get (to_site b (sends_of_act act)) k ≡ Some m → f m ≡ true → list_any (at_site b f) (sent (later ++ Did act ∷ before)) ≡ true
sent_of_act b f [] act before k m e h = any_left (at_site b f) (sends_of_act act) (sent before) (any_sent b f (sends_of_act act) k m e h)
sent_of_act b f (Did x ∷ later) act before k m e h = grind (arith, any_right, (sent_of_act b f later act before k m e h))
sent_of_act b f (_ ∷ later) act before k m e h = sent_of_act b f later act before k m e h

-- what was handed is counted

turned : (a from : Site) (d : Bool) → (same_site from a && d) ≡ true → (same_site a from && d) ≡ true
turned a from d e = grind (arith, site_is, and_left, both, site_self, and_right)

pub counted_hand : (a : Site) (f : Msg → Bool) (l : site.Log) → list_any (at_site a f) (all_handed l) ≡ true → 0 < tally f (hands_from a l)
counted_hand a f [] e = cc
counted_hand a f (Handed from m ∷ l) e = elim (true_or_false (same_site from a && f m)) [
  | inl p ↦ (grind (arith, tally_append, one_if))
  | inr p ↦ grind (arith, only_right, same_site, list_any, at_site, all_handed, push_more, hands_from, (counted_hand a f l (only_right (same_site from a && f m) (list_any (at_site a f) (all_handed l)) p e)))
]
counted_hand a f (_ ∷ l) e = counted_hand a f l e

-- where at most one of a kind is put on the link, and the next message is of it, none was handed before
pub none_before : (g : Input) (a b : Site) (log : Log) (f : Msg → Bool) (m : Msg) → IsPermitted g log
    → slice_get (puts_to b (local_of g a log)) (handed a b log) ≡ Some m → f m ≡ true → tally f (puts_to b (local_of g a log)) ≤ 1
    → list_any (at_site a f) (all_handed (local_of g b log)) ≡ false
none_before g a b log f m h e p l = elim (true_or_false (list_any (at_site a f) (all_handed (local_of g b log)))) [
  | inl q ↦ (let ps : List Msg = puts_to b (local_of g a log) in
      let z : tally f (hands_from a (local_of g b log)) ≡ tally f (take (handed a b log) ps) = ap (tally f) (in_order g log a b h) in
      let more : tally f (take (suc (handed a b log)) ps) ≡ tally f (take (handed a b log) ps) + tally f
      (m ∷ []) = ap (tally f) (take_one_more (handed a b log) ps m e) ∙ tally_append f (take (handed a b log) ps) (m ∷ []) in
      absurd (omega (arith, counted_hand a f (local_of g b log) q, z, more, tally_take f (suc (handed a b log)) ps, (ap one_if p), l)))
  | inr q ↦ q
]

-- the READ of a verdict that was put
pub verdict_asked : (g : Input) (d : DmNo) (log : Log) (k : ℕ) (ts c : ℕ) (m : Msg) (b : Site) → IsPermitted g log
    → slice_get (puts_to b (local_of g (D d) log)) k ≡ Some m → is_verdict ts c m ≡ true
    → list_any (at_site (D d) (is_read ts c)) (sent (local_of g (home g.catalogue c) log)) ≡ true
verdict_asked g d log k ts c m b h e f =
    let p = put_in_by_d g log d b k m h e in
    let hb = (permitted_before g p.later (Does (D d) p.act ∷ p.before) (subst (IsPermitted g) p.is h)).1 in
    let v = verdict_by (setting_of g (D d)) c ts b (local_of g (D d) p.before) p.act m (in_class g d p.before hb) f p.by in
    let w : Msg = Read v.stamp v.of v.txn v.attempt v.conds v.uses in
    let o = head_put g c d p.before w hb v.head_is in
    let at : Site = home g.catalogue c in
    let x = local_grows g at (p.later ++ Does (D d) p.act ∷ o.later) (Does at o.act ∷ o.before) in
    let whole : log ≡ (p.later ++ Does (D d) p.act ∷ o.later) ++ Does at o.act ∷ o.before =
    p.is ∙ ap (λ l. p.later ++ Does (D d) p.act ∷ l) o.is ∙ sym (append_assoc p.later (Does (D d) p.act ∷ o.later) (Does at o.act ∷ o.before)) in
    grind (arith, is_read, sent, sent_of_act, same_number, ap (local_of g at) whole ∙ x.1 ∙ ap (λ l. x.0 ++ l) (own_act g at o.act o.before))

pub answers_read : (g : Input) (d : DmNo) (log : Log) (ts c : ℕ) (m : Msg) (b : Site) → IsPermitted g log → b ≡ home g.catalogue c
    → number_of (home g.catalogue c) ≤ 63 → slice_get (puts_to b (local_of g (D d) log)) (handed (D d) b log) ≡ Some m
    → is_verdict ts c m ≡ true → AnswersRead (local_of g b log) (D d) ts c
answers_read g d log ts c m b h at small e f = record {
  asked = subst (λ x. list_any (at_site (D d) (is_read ts c)) (sent (local_of g x log)) ≡ true) (sym at)
      (verdict_asked g d log (handed (D d) b log) ts c m b h e f);
  first = none_before g (D d) b log (is_verdict ts c) m h e f (one_verdict g c ts d b log small h);
}
