-- The messages that a data module still has to answer: a READ by its Arrive, a FETCH, REDUCE or SHIP by a message.
use Rattle.std.specs.Prelude.{ℕ, suc, ◌==◌, Bool, false, not, ◌&&◌, if◌then◌else◌, List, [], ◌∷◌, ◌++◌, filter, is_some, Option, Some, None}
use Rattle.sdd_module.specs.All.{Act, Arrive, Did, Fetch, Handed, Log, Msg, Read, Records, Reduce, Sends, Ship, Site, answers_hand, hands}

-- such a message, with the number of its hand and the site that it came from
pub record Open : Type 0 where
  pub hand : ℕ
  pub from : Site
  pub msg : Msg

-- the class of such a message
abbrev pub class_asked : Msg → Option ℕ
class_asked (Read ts class txn attempt conds uses) = Some class.0
class_asked (Fetch ts class u col) = Some class.0
class_asked (Reduce ts class u col values) = Some class.0
class_asked (Ship ts class) = Some class.0
class_asked _ = None

abbrev pub is_number : ℕ → Option ℕ → Bool
is_number c None = false
is_number c (Some k) = k == c

abbrev pub is_asked_of : ℕ → Open → Bool
is_asked_of c o = is_number c (class_asked o.msg)

abbrev pub is_read_of : ℕ → ℕ → Msg → Bool
is_read_of txn attempt (Read ts class t a conds uses) = (t.0 == txn) && (a == attempt)
is_read_of txn attempt _ = false

abbrev pub opens_handed : ℕ → Site → Msg → List Open → List Open
opens_handed n from m os = if is_some (class_asked m) then os ++ record { hand = n; from = from; msg = m } ∷ [] else os

abbrev pub opens_acted : Act → List Open → List Open
opens_acted (Records k (Arrive txn attempt dm) sends) os = filter (λ o. not (is_read_of txn.0 attempt o.msg)) os
opens_acted (Sends to m hand) os = filter (λ o. not (answers_hand hand o.hand)) os
opens_acted _ os = os

-- in the order of their hands
abbrev pub opens : Log → List Open
opens [] = []
opens (Handed from m ∷ log) = opens_handed (suc (hands log)) from m (opens log)
opens (Did act ∷ log) = opens_acted act (opens log)
opens (_ ∷ log) = opens log
