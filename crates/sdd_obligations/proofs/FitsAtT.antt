-- What is next to be handed to a transaction module, or to U, fits there.
use Rattle.sdd_obligations.proofs.All.{AnswersRead, Ask, Bases, ClassNo, D, DmNo, Done, Held, Input, IsD, IsSmall, IsT, IsUpheldR, IsWhole, Log, Msg, Ready, Reduced, Reject, Release, Rows, Site, T, TmNo, Ts, U, Values, arith, handed, is_verdict, local_of, number_of, own_started as own, setting_of, subst, true, ℕ, ◌-◌, ◌≡◌, ◌≤◌}
use Rattle.sdd_obligations.proofs.SitesAndLinks.{d_of_sites, t_of_sites}
use Rattle.sdd_obligations.proofs.Answering.{answers_read}
use Rattle.sdd_obligations.proofs.AsksFit.{asked_class, asks_not_u}
use Rattle.sdd_obligations.proofs.Conditions.{late}
use Rattle.sdd_obligations.proofs.DonesFit.{done_fits}
use Rattle.sdd_obligations.proofs.Handing.{IsHanded}
use Rattle.sdd_obligations.proofs.HoldsFit.{at_place, held_fits, hold_fits, release_fits}
use Rattle.sdd_obligations.proofs.NoRejects.{u_not_rejected, verdict_home}
use Rattle.sdd_invariants.specs.tm.Fits as tm
use Rattle.sdd_invariants.specs.umod.Fits as um

-- a READY or REJECT from a data module

answers_at : (g : Input) (log : Log) (d : DmNo) (b : Site) (n ts c : ℕ) (m : Msg) → IsHanded g log (D d) b n m → number_of b ≤ 63
    → is_verdict ts c m ≡ true → AnswersRead (local_of g b log) (D d) ts c
answers_at g log d b n ts c m h small e =
    let at = verdict_home g d log (handed (D d) b log) m b ts c h.permitted.1 h.place e in
    answers_read g d log ts c m b h.permitted.1 at (subst (λ x. number_of x ≤ 63) at small) h.place e

-- at a T

t_ready : (g : Input) (log : Log) (a : Site) (t : TmNo) (n ts c : ℕ) (m : Msg) → IsSmall g → IsHanded g log a (T t) n m → IsD a → is_verdict ts c m ≡ true
    → AnswersRead (local_of g (T t) log) a ts c
t_ready g log (D d) t n ts c m s h r e =
    answers_at g log d (T t) n ts c m h (let r = t_of_sites g.catalogue.tms g.catalogue.dms t h.to_there in
    let k = s.few_tms in omega (arith, r.1, k)) e
t_ready g log _ t n ts c m s h r e = absurd r

t_release : (g : Input) (log : Log) (a : Site) (t : TmNo) (n : ℕ) (ts : Ts) → IsHanded g log a (T t) n (Release ts) → a ≡ U
    → tm.FitsRelease (setting_of g (T t)) (local_of g (T t) log) a ts.0
t_release g log a t n ts h e = grind (arith, t_of_sites, release_fits, late)

pub t_fits : (g : Input) (log : Log) (a : Site) (t : TmNo) (n : ℕ) (m : Msg) (bases : Bases) → IsSmall g → IsHanded g log a (T t) n m
    → IsUpheldR (setting_of g (T t)) bases (local_of g (T t) log) a m → tm.fits_kind (setting_of g (T t)) bases (local_of g (T t) log) a m
t_fits g log a t n (Ready ts class counts) bases s h u =
    record { answers = t_ready g log a t n ts.0 class.0 (Ready ts class counts) s h h.route.0 (own ts.0 class.0); counts_are = u }
t_fits g log a t n (Reject ts class by write) bases s h u =
    record { answers = t_ready g log a t n ts.0 class.0 (Reject ts class by write) s h h.route.0 (own ts.0 class.0); early = late write.0 h.times.0 }
t_fits g log a t n m bases s h u = grind (arith, asked_class, handed, late, t_of_sites, hold_fits, t_release)

-- at U

u_ready : (g : Input) (log : Log) (a : Site) (n ts c : ℕ) (m : Msg) → IsHanded g log a U n m → IsD a → is_verdict ts c m ≡ true
    → AnswersRead (local_of g U log) a ts c
u_ready g log (D d) n ts c m h r e = answers_at g log d U n ts c m h (omega arith) e
u_ready g log _ n ts c m h r e = absurd r

u_reject : {A : Type 0} (g : Input) (log : Log) (a : Site) (n : ℕ) (ts : Ts) (k by : ClassNo) (write : Ts) → IsWhole g.catalogue
    → IsHanded g log a U n (Reject ts k by write) → IsD a → A
u_reject g log a n ts k by write w h r = grind (arith, d_of_sites, u_not_rejected, handed)

u_ask : {A : Type 0} (g : Input) (log : Log) (a : Site) (n : ℕ) (k : ClassNo) (time : Ts) → IsHanded g log a U n (Ask k time) → IsD a → A
u_ask g log a n k time h r = grind (arith, asks_not_u, handed)

u_held : (g : Input) (log : Log) (a : Site) (n : ℕ) (time : Ts) → IsHanded g log a U n (Held time) → IsT a → um.FitsHeld (local_of g U log) a time.0
u_held g log a n time h r = grind (arith, t_of_sites, held_fits, late)

u_done : (g : Input) (log : Log) (a : Site) (n : ℕ) (ts : Ts) → IsWhole g.catalogue → IsHanded g log a U n (Done ts) → IsD a
    → um.FitsDone (setting_of g U) (local_of g U log) a ts.0
u_done g log (D d) n ts w h r = done_fits g (1 - 1) 1 log d n ts (at_place g.catalogue.tms 1 (omega arith) w.some_tm) h.permitted h.place
u_done g log _ n ts w h r = absurd r

pub u_fits : (g : Input) (log : Log) (a : Site) (n : ℕ) (m : Msg) (bases : Bases) → IsWhole g.catalogue → IsHanded g log a U n m
    → IsUpheldR (setting_of g U) bases (local_of g U log) a m → um.fits_kind (setting_of g U) bases (local_of g U log) a m
u_fits g log a n (Ready ts class counts) bases w h u =
    record { answers = u_ready g log a n ts.0 class.0 (Ready ts class counts) h h.route.0 (own ts.0 class.0); counts_are = u }
u_fits g log a n (Values ts class k values) bases w h u = u
u_fits g log a n (Reduced ts class k c) bases w h u = u
u_fits g log a n (Rows ts class rows) bases w h u = u
u_fits g log a n (Held time) bases w h u = u_held g log a n time h h.route.0
u_fits g log a n (Done ts) bases w h u = u_done g log a n ts w h h.route.0
u_fits g log a n (Reject ts class by write) bases w h u = u_reject g log a n ts class by write w h h.route.0
u_fits g log a n (Ask class time) bases w h u = u_ask g log a n class time h h.route.0
u_fits g log a n _ bases w h u = absurd h.route.1
