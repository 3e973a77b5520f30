-- The pipe of a class at a data module is a first part of the class's messages that its site put on the link there.
use Rattle.sdd_invariants.proofs.All.{AllHomed, Bool, Catalogue, D, DmNo, Each, Handed, Input, IsHomed, IsPermitted, List, Msg, None, Option, Site, Some, [], all_handed, all_of, all_there, ap, append-nil, append_assoc, arith, class_in, class_is, class_puts, drop, each_local, eqb-true, filter-append, goes_through, handed, hands_from, home, if◌then◌else◌, local_of, map, pipe_at, piped, puts_to, refl, same_site, slice_get, subst, suc, sym, take, take-append-drop, time_of, times_in, true, zero, ℕ, ◌++◌, ◌∙◌, ◌∷◌, ◌≡◌}
use Rattle.sdd_invariants.proofs.Homes.{homed}
use Rattle.sdd_invariants.proofs.PutBy.{d_pipes_none}
use Rattle.sdd_invariants.proofs.Bools.{not_both}
use Rattle.sdd_invariants.proofs.Sites.{site_self}
use Rattle.sdd_invariants.proofs.Fair.{d_fair, t_fair, u_fair}
use Rattle.sdd_invariants.proofs.InOrder.{hand_was_put, in_order}
use Rattle.sdd_invariants.proofs.Sent.{puts_more}
use Rattle.sdd_log.specs.All.{Log}
use Rattle.sdd_log.specs.site_module.SiteLog as site

pub times_are : (c : ℕ) (ms : List Msg) → times_in c ms ≡ map time_of (class_in c ms)
times_are c [] = refl
times_are c (m ∷ ms) = grind (arith, (times_are c ms))

-- what a site puts through pipes is of the classes that it runs

homed_at : (cat : Catalogue) (at : Site) (ms : List Msg) (k : ℕ) (m : Msg) → AllHomed cat at ms → slice_get ms k ≡ Some m → IsHomed cat at m
homed_at cat at [] k m h e = cc
homed_at cat at (x ∷ ms) zero m h e = let p : x ≡ m = cc in subst (IsHomed cat at) p h.0
homed_at cat at (x ∷ ms) (suc k) m h e = homed_at cat at ms k m h.1 e

pub put_at_home : (g : Input) (from b : Site) (log : Log) (k : ℕ) (m : Msg) → IsPermitted g log
    → slice_get (puts_to b (local_of g from log)) k ≡ Some m → IsHomed g.catalogue from m
put_at_home g from b log k m h e = grind (arith, homed_at, homed, u_fair, t_fair, d_pipes_none, d_fair)

-- so what is handed comes from the site that runs its class
abbrev IsHomeHand : Catalogue → site.Log → site.Entry → Type 0
IsHomeHand cat l (Handed from m) = IsHomed cat from m
IsHomeHand cat l _ = Unit {0}

home_hands : (g : Input) (at : Site) (log : Log) → IsPermitted g log → Each (IsHomeHand g.catalogue) (local_of g at log)
home_hands g at = grind (arith, each_local, IsHomeHand, put_at_home, hand_was_put)

class_and_time : (c : ℕ) (o : Option (ℕ × ℕ)) → class_is c o ≡ true → (t : ℕ) × (o ≡ Some (c, t))
class_and_time c None e = cc
class_and_time c (Some p) e = (p.1, ap (λ k. Some (k, p.1)) (eqb-true p.0 c e))

hand_in : (c : ℕ) (b d : Bool) (xs ys : List Msg) (m : Msg) → (b ≡ true → d ≡ true) → xs ≡ class_in c ys → b ≡ goes_through c m
    → (if b then xs ++ m ∷ [] else xs) ≡ class_in c (if d then ys ++ m ∷ [] else ys)
hand_in c b d xs ys m f e g = grind (arith, filter-append, append-nil, not_both)

handed_from : (cat : Catalogue) (c : ℕ) (l : site.Log) → Each (IsHomeHand cat) l → all_handed c l ≡ class_in c (hands_from (home cat c) l)
handed_from cat c [] h = refl
handed_from cat c (Handed from m ∷ l) h =
    hand_in c (goes_through c m) (same_site (home cat c) from) (all_handed c l) (hands_from (home cat c) l) m
    (λ e. let r = class_and_time c (piped m) e in let q : home cat c ≡ from = h.0 c r.0 r.1 in
    subst (λ x. same_site (home cat c) x ≡ true) q (site_self (home cat c))) (handed_from cat c l h.1) refl
handed_from cat c (_ ∷ l) h = handed_from cat c l h.1

pub pipe_is : (g : Input) (c : ℕ) (d : DmNo) (log : Log) → IsPermitted g log
    → all_of (pipe_at g c d log) ≡ class_in c (take (handed (home g.catalogue c) (D d) log) (puts_to (D d) (local_of g (home g.catalogue c) log)))
pipe_is g c d log h =
    all_there c (local_of g (D d) log) ∙ handed_from g.catalogue c (local_of g (D d) log) (home_hands g (D d) log h)
    ∙ ap (class_in c) (in_order g log (home g.catalogue c) (D d) h)

pub in_pipe : (g : Input) (c : ℕ) (d : DmNo) (log : Log) → IsPermitted g log → (more : List Msg) × (class_puts g c d log ≡ all_of (pipe_at g c d log) ++ more)
in_pipe g c d log h =
    let n : ℕ = handed (home g.catalogue c) (D d) log in
    let ps : List Msg = puts_to (D d) (local_of g (home g.catalogue c) log) in (
      class_in c (drop n ps),
      ap (class_in c) (sym (take-append-drop n ps)) ∙ filter-append (goes_through c) (take n ps) (drop n ps)
          ∙ ap (λ xs. xs ++ class_in c (drop n ps)) (sym (pipe_is g c d log h)),
    )

-- and it stays so in every log that goes on from this one
pub in_pipe_later : (g : Input) (c : ℕ) (d : DmNo) (later log : Log) → IsPermitted g log
    → (more : List Msg) × (class_puts g c d (later ++ log) ≡ all_of (pipe_at g c d log) ++ more)
in_pipe_later g c d later log h =
    let i = in_pipe g c d log h in
    let r = puts_more g (home g.catalogue c) (D d) later log in (
      i.0 ++ class_in c r.0,
      ap (class_in c) r.1 ∙ filter-append (goes_through c) (puts_to (D d) (local_of g (home g.catalogue c) log)) r.0
          ∙ ap (λ xs. xs ++ class_in c r.0) i.1 ∙ append_assoc (all_of (pipe_at g c d log)) i.0 (class_in c r.0),
    )
