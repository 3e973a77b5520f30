-- What is decoded is spelled so, and what is spelled is decoded.
use Rattle.sdd_wire.proofs.All.{All, FitsMsg, GivesReading, IfOk, List, Msg, Ok, Result, WireFault, arith, cases_lt, fault_in, get_or_past, message_in, nat_tests, spelled, ℕ, ◌<◌, ◌^◌, ◌≡◌}
use Rattle.sdd_wire.proofs.Laws.{AreBytes}
use Rattle.sdd_wire.proofs.MessageLaws.{message_read_back, message_spelled_so}

are_bytes : (bytes : List ℕ) → All (λ byte. byte < 2 ^ 8) bytes → AreBytes bytes
are_bytes bytes h i = grind (arith, nat_tests, cases_lt, get_or_past)

pub law_spelled_so : (bytes : List ℕ) (msg : Msg) → All (λ byte. byte < 2 ^ 8) bytes
    → message_in bytes ≡ Ok msg → FitsMsg msg × (bytes ≡ spelled msg)
law_spelled_so bytes msg h e = message_spelled_so bytes msg (are_bytes bytes h) e

pub decoded_so : (bytes : List ℕ) (result : Result Msg WireFault) → AreBytes bytes
    → GivesReading fault_in (λ msg. msg) result (message_in bytes) → IfOk result (λ msg. FitsMsg msg × (bytes ≡ spelled msg))
decoded_so bytes result fits given = grind (arith, message_spelled_so)

pub decoded_again : (bytes : List ℕ) (result : Result Msg WireFault) (msg : Msg)
    → GivesReading fault_in (λ found. found) result (message_in bytes) → FitsMsg msg → bytes ≡ spelled msg
    → GivesReading fault_in (λ found. found) result (Ok msg)
decoded_again bytes result msg given fits is = grind (arith, nat_tests, message_read_back)
