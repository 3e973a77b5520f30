-- A READ, WRITE or NULL that is next to be handed over comes from the site that runs its class, in turn.
use Rattle.sdd_obligations.proofs.All.{AllGe, AllLe, Class, D, DmNo, FitsClass, FitsPipe, Hand, Input, IsPermitted, IsRising, List, Log, Msg, Setting, Site, Some, T, U, [], all_of, ap, append_assoc, arith, class_is, class_rises, fold, goes_through, handed, home, home_of, in_pipe, last_time, length, local_of, map, max, not_zero, number_of, pipe, pipe_at, piped, put_at_home, refl, same_number, setting_of, site_self, slice_index_or, source_of, subst, suc, sym, time_in, time_of, tm_no, true, zero, ℕ, ◌++◌, ◌<◌, ◌^◌, ◌∙◌, ◌∷◌, ◌≡◌, ◌≤◌}
use Rattle.sdd_obligations.proofs.Counting.{class_here}
use Rattle.sdd_obligations.proofs.Handing.{IsHanded}
use Rattle.sdd_obligations.proofs.Under.{max_le as max_of}

-- the site that runs a class, as a data module has it

source_at : (ks : List Class) (i : ℕ) → i < length ks
    → slice_index_or (map (λ k. T k.tm) ks) i U ≡ T (tm_no (slice_index_or ks i (record { name = []; tm = tm_no 0; reads = []; writes = [] })).tm.0)
source_at [] i l = absurd (omega (arith, l))
source_at (k ∷ ks) zero l = refl
source_at (k ∷ ks) (suc i) l = source_at ks i (omega (arith, l))

pub source_is_home : (s : Setting) (c : ℕ) → c ≤ length s.catalogue.classes → source_of (home_of s) c ≡ home s.catalogue c
source_is_home s c l = grind (arith, not_zero, source_at)

class_fits : (g : Input) (d : DmNo) (from : Site) (c : ℕ) → home g.catalogue c ≡ from → c ≤ length g.catalogue.classes → FitsClass (setting_of g (D d)) from c
class_fits g d from c e l = record { is_class = l; home = sym e ∙ sym (source_is_home (setting_of g (D d)) c l) }

-- no time before it is later

fold_le : (k a : ℕ) (ns : List ℕ) → a ≤ k → AllLe k ns → fold max a ns ≤ k
fold_le k a [] l h = l
fold_le k a (n ∷ ns) l h = fold_le k (max a n) ns (max_of a n k l h.0) h.1

ge_member : (f : Msg → ℕ) (k : ℕ) (xs : List Msg) (m : Msg) (more : List Msg) → AllGe k (map f ((xs ++ m ∷ []) ++ more)) → k ≤ f m
ge_member f k [] m more h = h.0
ge_member f k (x ∷ xs) m more h = ge_member f k xs m more h.1

le_before : (f : Msg → ℕ) (xs : List Msg) (m : Msg) (more : List Msg) → IsRising (map f ((xs ++ m ∷ []) ++ more)) → AllLe (f m) (map f xs)
le_before f [] m more h = tt
le_before f (x ∷ xs) m more h = (ge_member f (f x) xs m more h.0, le_before f xs m more h.1)

-- its pipe with it
pub pipe_with : (g : Input) (c : ℕ) (d : DmNo) (a : Site) (n : ℕ) (m : Msg) (log : Log) → goes_through c m ≡ true
    → all_of (pipe_at g c d (Hand a (D d) n m ∷ log)) ≡ all_of (pipe_at g c d log) ++ m ∷ []
pipe_with g c d a n m log e = grind (arith, site_self, all_of, append_assoc)

in_turn : (g : Input) (c : ℕ) (d : DmNo) (a : Site) (n : ℕ) (m : Msg) (log : Log) → IsPermitted g (Hand a (D d) n m ∷ log)
    → number_of (home g.catalogue c) ≤ 63 → goes_through c m ≡ true → last_time (pipe c (local_of g (D d) log)) ≤ time_of m
in_turn g c d a n m log h small e =
    let i = in_pipe g c d (Hand a (D d) n m ∷ log) h in
    let rises = class_rises g c d (Hand a (D d) n m ∷ log) h small in
    (fold_le (time_of m) 0 (map time_of (all_of (pipe_at g c d log))) (omega arith)
    (le_before time_of (all_of (pipe_at g c d log)) m i.0
    (subst (λ l. IsRising (map time_of l)) (i.1 ∙ ap (λ l. l ++ i.0) (pipe_with g c d a n m log e)) rises)))

pub pipe_fits : (g : Input) (d : DmNo) (log : Log) (a : Site) (n : ℕ) (m : Msg) (c t : ℕ) → IsHanded g log a (D d) n m
    → number_of a ≤ 63 → piped m ≡ Some (c, t) → t < 2 ^ 62 → FitsPipe (setting_of g (D d)) (local_of g (D d) log) a c t
pipe_fits g d log a n m c t h small e early =
    let at : home g.catalogue c ≡ a = put_at_home g a (D d) log (handed a (D d) log) m h.permitted.1 h.place c t e in
    let through : goes_through c m ≡ true = subst (λ o. class_is c o ≡ true) (sym e) (same_number c) in
    let time : time_of m ≡ t = subst (λ o. time_in o ≡ t) (sym e) refl in
    record {
      source = class_fits g d a c at (class_here g.catalogue c a h.from_number at);
      in_turn = grind (arith, last_time, pipe, local_of, in_turn, number_of);
      early = early;
    }
