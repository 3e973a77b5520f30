-- What is next to be handed to a data module fits there.
use Rattle.sdd_obligations.proofs.All.{Bases, D, DmNo, Each, Hand, Input, IsFair, IsLawful, IsPermitted, IsRunner, IsSmall, IsUpheldD, Log, Msg, Null, Read, Site, Some, Write, arith, fits, handed, local_of, next, refl, setting_of, t_fair, u_fair, ℕ, ◌≡◌}
use Rattle.sdd_obligations.proofs.Conditions.{conds_fit, late, read_within}
use Rattle.sdd_obligations.proofs.Fresh.{is_above, is_fresh}
use Rattle.sdd_obligations.proofs.Handing.{IsHanded}
use Rattle.sdd_obligations.proofs.Piping.{pipe_fits}

pub fair_of : (g : Input) (a : Site) (log : Log) → IsPermitted g log → IsRunner a → Each (IsFair (setting_of g a)) (local_of g a log)
fair_of g a log h r = grind (arith, u_fair, t_fair)

pub d_fits : (g : Input) (log : Log) (a : Site) (d : DmNo) (n : ℕ) (m : Msg) (bases : Bases) → IsSmall g → IsLawful g log
    → next g log ≡ Some (Hand a (D d) n m) → IsHanded g log a (D d) n m
    → IsUpheldD (setting_of g (D d)) (local_of g (D d) log) a m → fits (setting_of g (D d)) bases (local_of g (D d) log) a m
d_fits g log a d n (Read ts class txn attempt conds uses) bases s l e h u = record {
  piped = pipe_fits g d log a n (Read ts class txn attempt conds uses) class.0 ts.0 h (h.from_small h.route.0) refl (late ts.0 h.times.0);
  conditions = conds_fit (setting_of g (D d)) conds (read_within (setting_of g a) (D d) (local_of g a log)
      (handed a (D d) log) ts class txn attempt conds uses (fair_of g a log h.permitted.1 h.route.0) h.place)
      h.times.1;
  classes_ascend = u.0;
  uses_ascend = u.1;
  here = u.2;
}
d_fits g log a d n (Write ts class txn changes) bases s l e h u = record {
  piped = pipe_fits g d log a n (Write ts class txn changes) class.0 ts.0 h (h.from_small h.route.0) refl (late ts.0 h.times.0);
  above = is_above g log a n d ts class txn changes h.permitted;
  fresh = is_fresh g log a n d ts class txn changes s (e, l) h.permitted;
  items = u.0;
  each = u.1;
}
d_fits g log a d n (Null class time) bases s l e h u =
    pipe_fits g d log a n (Null class time) class.0 time.0 h (h.from_small h.route.0) refl (late time.0 h.times.0)
d_fits g log a d n m bases s l e h u = grind (arith)
