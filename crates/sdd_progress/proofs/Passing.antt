-- What a pipe has passed it has passed in every log that goes on from this one.
use Rattle.sdd_progress.proofs.AllWaits.{AllGe, Bool, D, DmNo, Handed, Input, IsPermitted, IsRising, List, Msg, Pipe, Some, [], all_handed, all_of, all_there, any_at, any_here, ap, append-nil, append_assoc, arith, at_seam, class_rises, dec_le, earlier, false, goes_through, head, head_of, home, if◌then◌else◌, in_left, in_pipe, is_le, le_is, length, local_grows, local_of, map, nat_le, number_of, passed, passed_by, pipe, pipe_at, place_within, processed_grows, refl, slice_get, subst, sym, time_of, true, within_left, ℕ, ◌++◌, ◌<◌, ◌∙◌, ◌∷◌, ◌≡◌, ◌≤◌}
use Rattle.sdd_obligations.specs.site_module.SiteLog.{Log}
use Rattle.sdd_obligations.specs.logs.Entries as all

-- the head of a pipe stands after what is processed

-- the first part of a list of rising times

ge_left : (t : ℕ) (xs ys : List Msg) → AllGe t (map time_of (xs ++ ys)) → AllGe t (map time_of xs)
ge_left t [] ys h = tt
ge_left t (x ∷ xs) ys h = (h.0, ge_left t xs ys h.1)

pub rising_left : (xs ys : List Msg) → IsRising (map time_of (xs ++ ys)) → IsRising (map time_of xs)
rising_left [] ys h = tt
rising_left (x ∷ xs) ys h = (ge_left (time_of x) xs ys h.0, rising_left xs ys h.1)

-- the times of a pipe never fall
pub pipe_rises : (g : Input) (c : ℕ) (d : DmNo) (log : all.Log) → IsPermitted g log → number_of (home g.catalogue c) ≤ 63
    → IsRising (map time_of (all_of (pipe_at g c d log)))
pipe_rises g c d log h small =
    let i = in_pipe g c d log h in
    rising_left (all_of (pipe_at g c d log)) i.0 (subst (λ ms. IsRising (map time_of ms)) i.1 (class_rises g c d log h small))

-- a message up to the head has the time or a later one
pub record HasReached (p : Pipe) (t : ℕ) : Type 0 where
  pub place : ℕ
  pub msg : Msg
  pub there : slice_get (all_of p) place ≡ Some msg
  pub reaches : t ≤ time_of msg
  pub up_to_head : place ≤ length p.processed

reached_by : (ps qs : List Msg) (t : ℕ) → passed_by (head_of qs) ps t ≡ true
    → (k : ℕ) × (m : Msg) × (slice_get (ps ++ qs) k ≡ Some m) × (t ≤ time_of m) × (k ≤ length ps)
reached_by ps [] t e = grind (arith, any_at, nat_le, in_left, le_is, place_within)
reached_by ps (m ∷ qs) t e = (length ps, m, at_seam ps qs m, le_is t (time_of m) e, omega arith)

pub has_reached : (p : Pipe) (t : ℕ) → passed p t ≡ true → HasReached p t
has_reached p t e = grind (arith, reached_by)

-- and the other way round, where the times never fall
passed_where : (ps qs : List Msg) (t k : ℕ) (m : Msg) → IsRising (map time_of (ps ++ qs)) → slice_get (ps ++ qs) k ≡ Some m
    → t ≤ time_of m → k ≤ length ps → passed_by (head_of qs) ps t ≡ true
passed_where ps [] t k m h e l j = grind (arith, place_within, append-nil, any_here, nat_le, within_left, is_le)
passed_where ps (x ∷ qs) t k m h e l j = elim (dec_le t (time_of x)) [
  | yes le ↦ is_le t (time_of x) le
  | no n ↦ (let b = earlier (ps ++ x ∷ qs) (length ps) k t x m h (at_seam ps qs x) e (omega (arith, n)) l in absurd (omega arith))
]

pub reached_is_passed : (p : Pipe) (t : ℕ) → IsRising (map time_of (all_of p)) → HasReached p t → passed p t ≡ true
reached_is_passed p t h r = passed_where p.processed p.unprocessed t r.place r.msg h r.there r.reaches r.up_to_head

-- a pipe only gets longer

handed_more : (b : Bool) (xs : List Msg) (m : Msg) → (more : List Msg) × ((if b then xs ++ m ∷ [] else xs) ≡ xs ++ more)
handed_more true xs m = (m ∷ [], refl)
handed_more false xs m = ([], sym (append-nil xs))

all_handed_later : (c : ℕ) (later log : Log) → (more : List Msg) × (all_handed c (later ++ log) ≡ all_handed c log ++ more)
all_handed_later c [] log = ([], sym (append-nil (all_handed c log)))
all_handed_later c (Handed from m ∷ later) log =
    let i = all_handed_later c later log in
    let k = handed_more (goes_through c m) (all_handed c (later ++ log)) m in
    (i.0 ++ k.0, k.1 ∙ ap (λ xs. xs ++ k.0) i.1 ∙ append_assoc (all_handed c log) i.0 k.0)
all_handed_later c (_ ∷ later) log = all_handed_later c later log

pub pipe_later : (c : ℕ) (later log : Log) → (more : List Msg) × (all_of (pipe c (later ++ log)) ≡ all_of (pipe c log) ++ more)
pipe_later c later log =
    let i = all_handed_later c later log in
    (i.0, all_there c (later ++ log) ∙ i.1 ∙ ap (λ xs. xs ++ i.0) (sym (all_there c log)))

pub passed_lasts : (c t : ℕ) (later log : Log) → IsRising (map time_of (all_of (pipe c (later ++ log))))
    → passed (pipe c log) t ≡ true → passed (pipe c (later ++ log)) t ≡ true
passed_lasts c t later log h e =
    let r = has_reached (pipe c log) t e in
    let g = pipe_later c later log in
    let l = processed_grows c later log in
    let j = r.up_to_head in
    reached_is_passed (pipe c (later ++ log)) t h (grind (arith, slice_get, in_left, all_of, pipe))

pub passed_later : (g : Input) (c : ℕ) (d : DmNo) (t : ℕ) (later log : all.Log) → IsPermitted g (later ++ log)
    → number_of (home g.catalogue c) ≤ 63 → passed (pipe_at g c d log) t ≡ true → passed (pipe_at g c d (later ++ log)) t ≡ true
passed_later g c d t later log h small e =
    let i = local_grows g (D d) later log in
    let rises : IsRising (map time_of (all_of (pipe c (i.0 ++ local_of g (D d) log)))) = subst (λ l. IsRising (map time_of (all_of (pipe c l)))) i.1
    (pipe_rises g c d (later ++ log) h small) in
    subst (λ l. passed (pipe c l) t ≡ true) (sym i.1) (passed_lasts c t i.0 (local_of g (D d) log) rises e)

-- what a class that hasn't passed a time says of its head, and of its later messages

pub head_below : (p : Pipe) (t : ℕ) (m : Msg) → head p ≡ Some m → passed p t ≡ false → time_of m < t
head_below p t m e f = grind (arith, dec_le, is_le)
