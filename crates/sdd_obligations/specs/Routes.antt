-- From which kind of site to which a message goes.
use Rattle.std.specs.Prelude.{◌≡◌}
use Rattle.sdd_invariants.specs.All.{Ask, D, Done, Fetch, Held, Hold, Msg, Null, Read, Ready, Reduce, Reduced, Reject, Release, Rows, Ship, Site, T, U, Values, WasAsked, Write}
use Rattle.sdd_invariants.specs.site_module.SiteLog.{Log}

-- a data module, a transaction module, and a site that runs transactions

abbrev pub IsD : Site → Type 0
IsD (D d) = Unit {0}
IsD _ = ⊥

abbrev pub IsT : Site → Type 0
IsT (T t) = Unit {0}
IsT _ = ⊥

abbrev pub IsRunner : Site → Type 0
IsRunner (D d) = ⊥
IsRunner _ = Unit {0}

-- where a site that runs transactions sends to, as its own log tells: a NULL answers an ASK

abbrev pub IsAnAsk : Msg → Type 0
IsAnAsk (Ask class time) = Unit {0}
IsAnAsk _ = ⊥

abbrev pub GoesTo : Log → Site → Msg → Type 0
GoesTo log b (Read ts class txn attempt conds uses) = IsD b
GoesTo log b (Write ts class txn changes) = IsD b
GoesTo log b (Fetch ts class u col) = IsD b
GoesTo log b (Reduce ts class u col values) = IsD b
GoesTo log b (Ship ts class) = IsD b
GoesTo log b (Null class time) = WasAsked log b IsAnAsk
GoesTo log b Hold = IsT b
GoesTo log b (Release ts) = IsT b
GoesTo log b (Held time) = b ≡ U
GoesTo log b _ = ⊥

-- the ends of the link on which it is
abbrev pub IsRouted : Site → Site → Msg → Type 0
IsRouted a b (Read ts class txn attempt conds uses) = IsRunner a × IsD b
IsRouted a b (Write ts class txn changes) = IsRunner a × IsD b
IsRouted a b (Null class time) = IsRunner a × IsD b
IsRouted a b (Fetch ts class u col) = IsRunner a × IsD b
IsRouted a b (Reduce ts class u col values) = IsRunner a × IsD b
IsRouted a b (Ship ts class) = IsRunner a × IsD b
IsRouted a b (Ready ts class counts) = IsD a × IsRunner b
IsRouted a b (Reject ts class by write) = IsD a × IsRunner b
IsRouted a b (Values ts class u values) = IsD a × IsRunner b
IsRouted a b (Reduced ts class u n) = IsD a × IsRunner b
IsRouted a b (Rows ts class rows) = IsD a × IsRunner b
IsRouted a b (Ask class time) = IsD a × IsRunner b
IsRouted a b Hold = (a ≡ U) × IsT b
IsRouted a b (Release ts) = (a ≡ U) × IsT b
IsRouted a b (Held time) = IsT a × (b ≡ U)
IsRouted a b (Done ts) = IsD a × (b ≡ U)
