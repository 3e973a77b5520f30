-- The members of a line beside those that a reader needs: what was found, the round, and rows.
use Rattle.std.proofs.Common.{ap, append_assoc, sym, ◌∙◌}
use Rattle.std.specs.Fmt.{decimal}
use Rattle.std.specs.Prelude.{ℕ, ◌≡◌, List, [], ◌∷◌, ◌++◌, codes, is_some, Option, Some, None, refl}
use Rattle.sdd_inside.specs.Differences.{takes_one}
use Rattle.sdd_inside.specs.Json.{also}
use Rattle.sdd_inside.specs.Lines.{found_members, round_member, row_delta_json, taken_json}
use Rattle.sdd_inside.specs.Messages.{ack_json}
use Rattle.sdd_inside.specs.Words.{dm_json, fragment_json, key_json, row_or_null_json}
use Rattle.sdd_inside.specs.declared.delta.Found.{Found}
use Rattle.sdd_inside.specs.declared.delta.Found.TheVariants as founds
use Rattle.sdd_inside.specs.declared.delta.RowDelta.{RowDelta}
use Rattle.sdd_inside.specs.declared.delta.Taken.{Taken}
use Rattle.sdd_inside.specs.declared.delta.Taken.TheVariants as takens
use Rattle.sdd_inside_read.proofs.DigitsPass.{whole_number}
use Rattle.sdd_inside_read.proofs.Ends.{AllWhole, all_whole_more, joined, joined_more}
use Rattle.sdd_inside_read.proofs.JsonPass.{whole_as}
use Rattle.sdd_inside_read.proofs.MembersRead.{IsOther, IsSilent, both_silent, one, one_joined, one_silent, one_whole}
use Rattle.sdd_inside_read.proofs.MessagesPass.{whole_ack, whole_row_or_null}
use Rattle.sdd_inside_read.proofs.NamesPass.{whole_fragment, whole_key, whole_module}
use Rattle.sdd_inside_read.proofs.Passing.{IsWhole, inner, inner_comma, inner_join, whole_list, whole_of_plain}
use Rattle.sdd_inside_read.specs.Values.{value_of}
use Rattle.sdd_script.specs.All.{Catalogue, Txn}

-- rows of copies, which a reader passes over

pub whole_row_delta : (cat : Catalogue) (txns : List Txn) (r : RowDelta) → IsWhole (row_delta_json cat txns r)
whole_row_delta cat txns r =
    let a : List ℕ = dm_json cat txns r.dm in
    let b : List ℕ = fragment_json cat txns r.item.frag in
    let c : List ℕ = key_json cat txns r.item.key in
    let d : List ℕ = row_or_null_json cat txns r.item.row in
    let text : List ℕ = a ++ 44 ∷ (b ++ 44 ∷ (c ++ 44 ∷ d)) in
    whole_as (91 ∷ (text ++ 93 ∷ [])) (row_delta_json cat txns r) (ap (λ t. 91 ∷ t) (sym (four a b c d)))
    (whole_list text
    (inner_join a (44 ∷ (b ++ 44 ∷ (c ++ 44 ∷ d))) (inner a (whole_module cat txns r.dm))
    (inner_comma (b ++ 44 ∷ (c ++ 44 ∷ d)) (inner_join b (44 ∷ (c ++ 44 ∷ d)) (inner b (whole_fragment cat txns r.item.frag))
    (inner_comma (c ++ 44 ∷ d) (inner_join c (44 ∷ d) (inner c (whole_key cat txns r.item.key)) (inner_comma d (inner d (whole_row_or_null cat txns r.item.row)))))))))
  where
    four : (a b c d : List ℕ) → (a ++ 44 ∷ (b ++ 44 ∷ (c ++ 44 ∷ d))) ++ 93 ∷ [] ≡ a ++ 44 ∷ (b ++ 44 ∷ (c ++ 44 ∷ (d ++ 93 ∷ [])))
    four a b c d =
        append_assoc a (44 ∷ (b ++ 44 ∷ (c ++ 44 ∷ d))) (93 ∷ [])
        ∙ ap (λ t. a ++ 44 ∷ t) (append_assoc b (44 ∷ (c ++ 44 ∷ d)) (93 ∷ []) ∙ ap (λ t. b ++ 44 ∷ t) (append_assoc c (44 ∷ d) (93 ∷ [])))

-- what was found

whole_taken : (t : Taken) → IsWhole (taken_json t)
whole_taken (takens.Message n) = whole_number n
whole_taken (takens.Ack upto) = whole_ack upto

abbrev pub found_parts : Found → List (List ℕ)
found_parts founds.Nothing = one (codes "nothing") (codes "true")
found_parts founds.Something = []
found_parts (founds.Lost packet) = one (codes "took") (taken_json packet)
found_parts (founds.Arrived n delivered) = one (codes "took") (decimal n) ++ one (codes "delivered") (decimal delivered)
found_parts (founds.Acknowledged upto acked) = one (codes "took") (ack_json upto) ++ one (codes "acked") (decimal acked)

two_joined : (name value other more : List ℕ) → also name value ++ also other more ≡ joined (one name value ++ one other more)
two_joined name value other more =
    (λ i. one_joined name value i ++ one_joined other more i) ∙ sym (joined_more (one name value) (one other more))

pub found_joined : (f : Found) → found_members f ≡ joined (found_parts f)
found_joined founds.Nothing = one_joined (codes "nothing") (codes "true")
found_joined founds.Something = refl
found_joined (founds.Lost packet) = one_joined (codes "took") (taken_json packet)
found_joined (founds.Arrived n delivered) = two_joined (codes "took") (decimal n) (codes "delivered") (decimal delivered)
found_joined (founds.Acknowledged upto acked) = two_joined (codes "took") (ack_json upto) (codes "acked") (decimal acked)

pub found_whole : (f : Found) → AllWhole (found_parts f)
found_whole founds.Nothing = one_whole (codes "nothing") (codes "true") refl (whole_of_plain (codes "true") refl)
found_whole founds.Something = tt
found_whole (founds.Lost packet) = one_whole (codes "took") (taken_json packet) refl (whole_taken packet)
found_whole (founds.Arrived n delivered) =
    all_whole_more (one (codes "took") (decimal n)) (one (codes "delivered") (decimal delivered)) (one_whole (codes "took") (decimal n) refl (whole_number n))
    (one_whole (codes "delivered") (decimal delivered) refl (whole_number delivered))
found_whole (founds.Acknowledged upto acked) =
    all_whole_more (one (codes "took") (ack_json upto)) (one (codes "acked") (decimal acked)) (one_whole (codes "took") (ack_json upto) refl (whole_ack upto))
    (one_whole (codes "acked") (decimal acked) refl (whole_number acked))

-- a packet was taken where the member stands
pub took_is : (f : Found) → is_some (value_of (codes "took") (found_parts f)) ≡ takes_one f
took_is founds.Nothing = refl
took_is founds.Something = refl
took_is (founds.Lost packet) = refl
took_is (founds.Arrived n delivered) = refl
took_is (founds.Acknowledged upto acked) = refl

-- a name of none of these members
pub record IsApart (name : List ℕ) : Type 0 where
  pub nothing : IsOther name (codes "nothing")
  pub took : IsOther name (codes "took")
  pub delivered : IsOther name (codes "delivered")
  pub acked : IsOther name (codes "acked")

pub found_silent : (name : List ℕ) (f : Found) → IsApart name → IsSilent name (found_parts f)
found_silent name founds.Nothing h = one_silent name (codes "nothing") (codes "true") h.nothing
found_silent name founds.Something h = refl
found_silent name (founds.Lost packet) h = one_silent name (codes "took") (taken_json packet) h.took
found_silent name (founds.Arrived n delivered) h =
    both_silent name (one (codes "took") (decimal n)) (one (codes "delivered") (decimal delivered)) (one_silent name (codes "took") (decimal n) h.took)
    (one_silent name (codes "delivered") (decimal delivered) h.delivered)
found_silent name (founds.Acknowledged upto acked) h =
    both_silent name (one (codes "took") (ack_json upto)) (one (codes "acked") (decimal acked)) (one_silent name (codes "took") (ack_json upto) h.took)
    (one_silent name (codes "acked") (decimal acked) h.acked)

-- the round

abbrev pub round_parts : Option ℕ → List (List ℕ)
round_parts None = []
round_parts (Some n) = one (codes "round") (decimal n)

pub round_joined : (o : Option ℕ) → round_member o ≡ joined (round_parts o)
round_joined None = refl
round_joined (Some n) = one_joined (codes "round") (decimal n)

pub round_whole : (o : Option ℕ) → AllWhole (round_parts o)
round_whole None = tt
round_whole (Some n) = one_whole (codes "round") (decimal n) refl (whole_number n)

pub round_silent : (name : List ℕ) (o : Option ℕ) → IsOther name (codes "round") → IsSilent name (round_parts o)
round_silent name None h = refl
round_silent name (Some n) h = one_silent name (codes "round") (decimal n) h
