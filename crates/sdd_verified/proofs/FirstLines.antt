-- What follows the replies of a report: its first line is of no reply.
use Rattle.sdd_verified.proofs.All.{AreLines, HasNoNewline, IsWhole, List, [], ap, append_assoc, codes, cut_are_lines, false, lines_of, spelled_lines, subst, sym, tells_reply, whole_empty, whole_ended, whole_is, ℕ, ◌++◌, ◌∙◌, ◌∷◌, ◌≡◌}
use Rattle.sdd_verified.proofs.ReportLines.{Begins}

pub record FirstLine (text : List ℕ) : Type 0 where
  pub next : List ℕ
  pub rest : List ℕ
  pub is : text ≡ next ++ 10 ∷ rest
  pub line : HasNoNewline next
  pub other : tells_reply next ≡ false

line_by : (text line : List ℕ) (lines : List (List ℕ)) → Begins text → text ≡ spelled_lines (line ∷ lines) → HasNoNewline line → FirstLine text
line_by text [] lines b e h =
    let first : b.first ∷ b.rest ≡ 10 ∷ spelled_lines lines = sym b.is ∙ e in
    absurd (b.none.0 (let newline : b.first ≡ 10 = cc in newline))
line_by text (c ∷ line) lines b e h =
    let first : b.first ∷ b.rest ≡ c ∷ (line ++ 10 ∷ spelled_lines lines) = sym b.is ∙ e in
    let same : b.first ≡ c = cc in
    record { next = c ∷ line; rest = spelled_lines lines; is = e; line = h; other = subst (λ (x : ℕ). tells_reply (x ∷ line) ≡ false) same (b.none.1 line) }

lines_by : (text : List ℕ) (lines : List (List ℕ)) → Begins text → text ≡ spelled_lines lines → AreLines lines → FirstLine text
lines_by text [] b e h = let none : b.first ∷ b.rest ≡ [] = sym b.is ∙ e in absurd cc
lines_by text (line ∷ lines) b e h = line_by text line lines b e h.0

pub first_line : (text : List ℕ) → Begins text → IsWhole text → FirstLine text
first_line text b whole = lines_by text (lines_of text) b (whole_is text whole) (cut_are_lines text)

-- a text that ends with the line `end`
pub whole_end : (a b c : List ℕ) → IsWhole (a ++ (b ++ (c ++ codes "end\n")))
whole_end a b c =
    let last : List ℕ = 10 ∷ [] in
    let word : List ℕ = codes "end" in
    let regrouped : (a ++ (b ++ (c ++ word))) ++ last ≡ a ++ (b ++ (c ++ (word ++ last))) =
    append_assoc a (b ++ (c ++ word)) last
    ∙ ap (λ (l : List ℕ). a ++ l) (append_assoc b (c ++ word) last ∙ ap (λ (l : List ℕ). b ++ l) (append_assoc c word last)) in
    subst IsWhole regrouped (whole_ended (a ++ (b ++ (c ++ word))) [] whole_empty)
