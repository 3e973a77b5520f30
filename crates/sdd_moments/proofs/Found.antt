-- What is found on a link among what was handed over.
use Rattle.sdd_moments.proofs.All.{Arrived, List, None, Option, Purpose, Site, Some, [], ap, filter_map, find, is_on, messages_in, number_for, numbers_for, ℕ, ◌∙◌, ◌≡◌}

pub messages_of_one : (one : Arrived) (o : Option Arrived) (messages : List (ℕ × Purpose)) → Some one ≡ o → messages ≡ one.messages → messages ≡ messages_in o
messages_of_one one o messages e is = is ∙ ap messages_in e

pub messages_of_none : (o : Option Arrived) (messages : List (ℕ × Purpose)) → None ≡ o → messages ≡ [] → messages ≡ messages_in o
messages_of_none o messages e is = is ∙ ap messages_in e

pub numbers_of : (a b : Site) (c : ℕ) (arrived : List Arrived) (messages : List (ℕ × Purpose)) (numbers : List ℕ)
    → messages ≡ messages_in (find (is_on a b) arrived) → numbers ≡ filter_map (number_for c) messages → numbers ≡ numbers_for a b c arrived
numbers_of a b c arrived messages numbers e is = is ∙ ap (filter_map (number_for c)) e
