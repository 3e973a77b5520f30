-- Within a class a module processes in the order of times.
use Rattle.sdd_invariants.proofs.All.{AllGe, D, DmNo, Input, IsPermitted, IsRising, List, Msg, Some, [], arith, class_puts, head, head_of, home, in_left, length, local_of, map, number_of, pipe_at, puts_to, setting_of, slice_get, subst, suc, time_of, zero, ℕ, ◌++◌, ◌<◌, ◌∷◌, ◌≡◌, ◌≤◌}
use Rattle.sdd_invariants.proofs.Times.{timed}
use Rattle.sdd_invariants.proofs.InPipe.{in_pipe_later, times_are}
use Rattle.sdd_invariants.proofs.Lists.{at_seam}
use Rattle.sdd_invariants.proofs.Fair.{home_fair}
use Rattle.sdd_invariants.proofs.Made.{permitted_before}
use Rattle.sdd_log.specs.All.{Log}

pub ge_at : (k : ℕ) (ms : List Msg) (b : ℕ) (y : Msg) → AllGe k (map time_of ms) → slice_get ms b ≡ Some y → k ≤ time_of y
ge_at k [] b y h e = cc
ge_at k (m ∷ ms) zero y h e = let p : m ≡ y = cc in subst (λ x. k ≤ time_of x) p h.0
ge_at k (m ∷ ms) (suc b) y h e = ge_at k ms b y h.1 e

rising_at : (ms : List Msg) (a b : ℕ) (x y : Msg) → IsRising (map time_of ms) → slice_get ms a ≡ Some x → slice_get ms b ≡ Some y
    → a ≤ b → time_of x ≤ time_of y
rising_at [] a b x y h e f l = cc
rising_at (m ∷ ms) zero zero x y h e f l = let p : x ≡ y = cc in subst (λ z. time_of x ≤ time_of z) p (omega arith)
rising_at (m ∷ ms) zero (suc b) x y h e f l = let p : m ≡ x = cc in ge_at (time_of x) ms b y (subst (λ z. AllGe (time_of z) (map time_of ms)) p h.0) f
rising_at (m ∷ ms) (suc a) zero x y h e f l = absurd (omega arith)
rising_at (m ∷ ms) (suc a) (suc b) x y h e f l = rising_at ms a b x y h.1 e f (omega arith)

-- in a list of rising times the smaller time comes first
pub earlier : (ms : List Msg) (a b t : ℕ) (x y : Msg) → IsRising (map time_of ms) → slice_get ms a ≡ Some x
    → slice_get ms b ≡ Some y → time_of x < t → t ≤ time_of y → a < b
earlier ms a b t x y h e f l k = grind (arith, rising_at)

pub class_rises : (g : Input) (c : ℕ) (d : DmNo) (log : Log) → IsPermitted g log → number_of (home g.catalogue c) ≤ 63
    → IsRising (map time_of (class_puts g c d log))
class_rises g c d log h small =
    subst IsRising (times_are c (puts_to (D d) (local_of g (home g.catalogue c) log)))
    (timed (setting_of g (home g.catalogue c)) c (D d) (local_of g (home g.catalogue c) log) small (home_fair g c log h)).rises

pub in_class_order : (g : Input) (c : ℕ) (d : DmNo) (log : Log) (a b : ℕ) (x y : Msg) → IsPermitted g log
    → number_of (home g.catalogue c) ≤ 63 → slice_get (class_puts g c d log) a ≡ Some x
    → slice_get (class_puts g c d log) b ≡ Some y → time_of x < time_of y → a < b
in_class_order g c d log a b x y h small e f l = earlier (class_puts g c d log) a b (time_of y) x y (class_rises g c d log h small) e f l (omega arith)

-- none is left out: where a message is processed, so is each of its class with a smaller time that is ever put
pub none_left_out : (g : Input) (c : ℕ) (d : DmNo) (later log : Log) (a b : ℕ) (x y : Msg) → IsPermitted g (later ++ log)
    → number_of (home g.catalogue c) ≤ 63 → slice_get (class_puts g c d (later ++ log)) a ≡ Some x → slice_get (class_puts g c d (later ++ log)) b ≡ Some y
    → time_of x < time_of y → b < length (pipe_at g c d log).processed → a < length (pipe_at g c d log).processed
none_left_out g c d later log a b x y h small e f l p = let i = in_class_order g c d (later ++ log) a b x y h small e f l in omega arith

head_at : (ps qs more : List Msg) (m : Msg) → head_of qs ≡ Some m → slice_get ((ps ++ qs) ++ more) (length ps) ≡ Some m
head_at ps [] more m e = cc
head_at ps (x ∷ qs) more m e =
    let p : x ≡ m = cc in
    in_left (ps ++ x ∷ qs) more (length ps) m (subst (λ y. slice_get (ps ++ x ∷ qs) (length ps) ≡ Some y) p (at_seam ps qs x))

-- the head of a pipe stands after the processed ones, in every later log
pub head_place : (g : Input) (c : ℕ) (d : DmNo) (later log : Log) (m : Msg) → IsPermitted g log → head (pipe_at g c d log) ≡ Some m
    → slice_get (class_puts g c d (later ++ log)) (length (pipe_at g c d log).processed) ≡ Some m
head_place g c d later log m h e = grind (arith, head_at, in_pipe_later g c d later log h)

-- at a head: of its class the messages with smaller times are processed, those with greater ones are not
pub around_head : (g : Input) (c : ℕ) (d : DmNo) (later log : Log) (a : ℕ) (x m : Msg) → IsPermitted g (later ++ log)
    → number_of (home g.catalogue c) ≤ 63 → head (pipe_at g c d log) ≡ Some m → slice_get (class_puts g c d (later ++ log)) a ≡ Some x
    → (time_of x < time_of m → a < length (pipe_at g c d log).processed) × (time_of m < time_of x → length (pipe_at g c d log).processed < a)
around_head g c d later log a x m h small e f =
    let at = head_place g c d later log m (permitted_before g later log h) e in (grind (arith, in_class_order, pipe_at))
