-- What a site puts on its links and what is handed to it from them, oldest first.
use Rattle.std.specs.Prelude.{ℕ, ◌++◌, ◌∷◌, List, [], filter, if◌then◌else◌}
use Rattle.sdd_log.specs.All.{Did, Handed, Msg, Site, goes_through, same_site, sends_of_act, time_of}
use Rattle.sdd_log.specs.site_module.SiteLog.{Log}

-- of these sends the messages to a site
abbrev pub to_site : Site → List (Site × Msg) → List Msg
to_site b [] = []
to_site b (s ∷ sends) = if same_site b s.0 then s.1 ∷ to_site b sends else to_site b sends

-- what was put on the link to a site
abbrev pub puts_to : Site → Log → List Msg
puts_to b [] = []
puts_to b (Did act ∷ log) = puts_to b log ++ to_site b (sends_of_act act)
puts_to b (_ ∷ log) = puts_to b log

-- what was handed from a site
abbrev pub hands_from : Site → Log → List Msg
hands_from a [] = []
hands_from a (Handed from m ∷ log) = if same_site a from then hands_from a log ++ m ∷ [] else hands_from a log
hands_from a (_ ∷ log) = hands_from a log

-- the times of the messages that go through the pipe of a class
abbrev pub times_in : ℕ → List Msg → List ℕ
times_in c [] = []
times_in c (m ∷ ms) = if goes_through c m then time_of m ∷ times_in c ms else times_in c ms

-- of these messages those that go through it
abbrev pub class_in : ℕ → List Msg → List Msg
class_in c ms = filter (goes_through c) ms
