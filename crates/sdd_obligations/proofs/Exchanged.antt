-- What is left of a message that is next to be handed over: the laws of exchanges and of databases give it.
use Rattle.sdd_obligations.proofs.All.{All-get_or, Attempt, AwaitsRows, Bases, Bool, ClassNo, D, DmNo, FitsInput, Hand, HasEras, Input, IsPermitted, IsRouted, IsServedAt, IsUpheldD, IsUpheldR, IsWhole, List, Log, Msg, None, Option, Row, Rows, ServedBy, Site, Some, T, TmNo, Ts, U, active, allowed_hand, arith, base_of, class_at, get_or_past, home, if◌then◌else◌, local_of, number_of, setting_of, start_of_active, subst, tm_no, without, ℕ, ◌-◌, ◌==◌, ◌∷◌, ◌≡◌, ◌≤◌}
use Rattle.sdd_obligations.proofs.Answered.{answers_are_awaited}
use Rattle.sdd_obligations.proofs.Comes.{questions_are_servable}
use Rattle.sdd_obligations.proofs.ReadsFit.{reads_are_readable}
use Rattle.sdd_obligations.proofs.Written.{changes_fit, write_put}
use Rattle.sdd_obligations.proofs.Served.{rows_serve}
use Rattle.sdd_obligations.proofs.FitsAtD.{fair_of}

-- each class's site has a small number

site_small : (b : Bool) (t : TmNo) → t.0 ≤ 63 → number_of (if b then U else T t) ≤ 63
site_small b t l = grind arith

few_homes : (g : Input) → IsWhole g.catalogue → (c : ℕ) → number_of (home g.catalogue c) ≤ 63
few_homes g w c = site_small (c == 0) (tm_no (class_at g.catalogue c).tm.0) (grind (arith, All-get_or, class_at, get_or_past))

pub upheld_d : (g : Input) (log : Log) (a : Site) (d : DmNo) (n : ℕ) (m : Msg) → IsWhole g.catalogue → FitsInput g
    → IsPermitted g (Hand a (D d) n m ∷ log) → IsUpheldD (setting_of g (D d)) (local_of g (D d) log) a m
upheld_d g log a d n m w good h =
    grind (arith, reads_are_readable, write_put, allowed_hand, changes_fit, questions_are_servable, few_homes)

pub upheld_r : (g : Input) (log : Log) (a b : Site) (n : ℕ) (m : Msg) (bases : Bases) → IsWhole g.catalogue
    → IsPermitted g (Hand a b n m ∷ log) → IsServedAt (setting_of g b) bases (local_of g b log) a m → IsUpheldR (setting_of g b) bases (local_of g b log) a m
upheld_r g log a b n m bases w h k = grind (arith, answers_are_awaited, few_homes, active)

-- with the last ROWS the rows that came serve the database of the attempt that awaits them

rows_served : (g : Input) (log : Log) (a b : Site) (n : ℕ) (ts : Ts) (of : ClassNo) (rows : List (ℕ × Row)) → IsWhole g.catalogue → FitsInput g → HasEras g
    → IsPermitted g (Hand a b n (Rows ts of rows) ∷ log) → IsRouted a b (Rows ts of rows)
    → (o : Option Attempt) → active (setting_of g b) of.0 (local_of g b log) ≡ o
    → ServedBy (setting_of g b) (base_of g (Hand a b n (Rows ts of rows) ∷ log)) o a rows
rows_served g log a b n ts of rows w good eras h route None e = tt
rows_served g log (D d) b n ts of rows w good eras h route (Some x) e =
    let r : AwaitsRows (Some x) (D d) ts.0 rows =
    subst (λ o. AwaitsRows o (D d) ts.0 rows) e (answers_are_awaited g log (D d) b n (Rows ts of rows) h (few_homes g w)) in
    let at : home g.catalogue of.0 ≡ b = (start_of_active (setting_of g b) of.0 (local_of g b log) x (fair_of g b log h.1 route.1) e).at_home in
    grind (arith, active, without, rows_serve)
rows_served g log _ b n ts of rows w good eras h route (Some x) e = absurd route.0

pub served_here : (g : Input) (log : Log) (a b : Site) (n : ℕ) (m : Msg) → IsWhole g.catalogue → FitsInput g → HasEras g
    → IsPermitted g (Hand a b n m ∷ log) → IsRouted a b m → IsServedAt (setting_of g b) (base_of g (Hand a b n m ∷ log)) (local_of g b log) a m
served_here g log a b n m w good eras h route = grind (arith, rows_served, active)
