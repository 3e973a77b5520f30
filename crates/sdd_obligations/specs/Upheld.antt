-- What is left to be shown of a message that is next to be handed over: of READs the order of their conditions
-- and uses, of WRITEs their changes, of FETCH, REDUCE and SHIP that rows are held, of READY its counts, of VALUES, REDUCED
-- and ROWS that they are awaited, and of ROWS that they serve.
use Rattle.std.specs.List.{All, IsDistinct}
use Rattle.std.specs.Ordering.{is_eq}
use Rattle.std.specs.Prelude.{◌≡◌, map}
use Rattle.sdd_invariants.specs.All.{Ascend, AwaitsAt, Bases, Fetch, FitsChange, FitsRows, FitsShip, FitsStep, IsHere, Msg, Read, Ready, Reduce, Reduced, Rows, Setting, Ship, Site, Values, Write, active, fetches_use, item_cmp, reduces_use, uses_asked}
use Rattle.sdd_invariants.specs.site_module.SiteLog as site

-- at a data module

abbrev pub IsUpheldD : Setting → site.Log → Site → Msg → Type 0
IsUpheldD s log from (Read ts class txn attempt conds uses) =
    Ascend (map (λ d. d.class.0) conds) × Ascend (map (λ u. u.number) uses) × All (IsHere s) uses
IsUpheldD s log from (Write ts class txn changes) =
    IsDistinct (λ x y. is_eq (item_cmp x y)) (map (λ x. (x.frag.0, x.key)) changes) × All (FitsChange s) changes
IsUpheldD s log from (Fetch ts class u col) = FitsStep s log from class.0 ts.0 u
IsUpheldD s log from (Reduce ts class u col values) = FitsStep s log from class.0 ts.0 u
IsUpheldD s log from (Ship ts class) = FitsShip s log from class.0 ts.0
IsUpheldD s log from _ = Unit {0}

-- at a site that runs transactions
abbrev pub IsUpheldR : Setting → Bases → site.Log → Site → Msg → Type 0
IsUpheldR s bases log from (Ready ts class counts) = map (λ n. n.0) counts ≡ uses_asked log from ts.0 class.0
IsUpheldR s bases log from (Values ts class u values) = AwaitsAt (fetches_use u) (active s class.0 log) from ts.0
IsUpheldR s bases log from (Reduced ts class u n) = AwaitsAt (reduces_use u) (active s class.0 log) from ts.0
IsUpheldR s bases log from (Rows ts class rows) = FitsRows s bases (active s class.0 log) from ts.0 rows
IsUpheldR s bases log from _ = Unit {0}
