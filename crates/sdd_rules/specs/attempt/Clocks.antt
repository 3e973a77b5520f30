-- The clock of a site, as its log gives it.
use Rattle.std.specs.Prelude.{[], ◌∷◌}
use Rattle.sdd_module.specs.All.{Act, Ask, Did, Handed, Held, Log, Msg, Records, Redeclared, Reject, Release, Site, Start, Submits, Ticked, Ticking, at_zero, number_of, pushed, ticked}

-- a handed ASK, REJECT, RELEASE or HELD pushes a clock by its time, a REJECT by that of the write
abbrev pub pushed_by : Msg → Ticking → Ticking
pushed_by (Ask class time) k = pushed k time.0
pushed_by (Reject ts class by write) k = pushed k write.0
pushed_by (Release ts) k = pushed k ts.0
pushed_by (Held time) k = pushed k time.0
pushed_by _ k = k

-- a Start takes one tick
abbrev pub ticked_by : Act → Ticking → Ticking
ticked_by (Records c (Start txn attempt class ts p2 uses) sends) k = ticked k 1
ticked_by _ k = k

-- the clock of the site: it begins at 0, and classes that are put in force push it by their time
abbrev pub clock : Site → Log → Ticking
clock at [] = at_zero (number_of at)
clock at (Handed from m ∷ log) = pushed_by m (clock at log)
clock at (Ticked n ∷ log) = ticked (clock at log) n
clock at (Submits n txn ∷ log) = clock at log
clock at (Redeclared era t ∷ log) = pushed (clock at log) t
clock at (Did act ∷ log) = ticked_by act (clock at log)
