-- Borders, cells and rows of a table, column by column.
use Rattle.std.proofs.Common.{◌≡◌, ℕ, ◌+◌, ◌-◌, ◌<◌, ◌≤◌, ⊎_elim, false, List, [], ◌∷◌, ◌++◌, drop, length, get_or, replicate, Option, Some, None, refl, sym, ap, ◌∙◌, append_assoc, arith}
use Rattle.std.specs.Prelude.{codes, unwrap_or, slice_get}
use Rattle.std.specs.Borrow.{Bor}
use Rattle.std.specs.Option.{option_map, option_copied}
use Rattle.std.proofs.lemmas.List.{replicate-append-replicate, drop_more, drop_all}
use Rattle.std.proofs.lemmas.Option.{slice_get_cases}
use Rattle.unicode_width.proofs.Rules.{str_width-printable}
use Rattle.out_format.specs.Sections.{width, filled, cell_in, cells_in}

dashes : (w : ℕ) → replicate w 45 ++ codes "--+" ≡ replicate (w + 2) 45 ++ 43 ∷ []
dashes w = sym (append_assoc (replicate w 45) (45 ∷ 45 ∷ []) (43 ∷ [])) ∙ ap (λ xs. xs ++ 43 ∷ []) (replicate-append-replicate w 2 45)

-- one more column of a border
pub border_more : (w : ℕ) (out out' out'' rest : List ℕ) → out' ≡ out ++ replicate w 45 → out'' ≡ out' ++ codes "--+"
    → out'' ++ rest ≡ out ++ ((replicate (w + 2) 45 ++ 43 ∷ []) ++ rest)
border_more w out out' out'' rest e e' =
    ap (λ cs. cs ++ rest) (e' ∙ ap (λ cs. cs ++ codes "--+") e ∙ append_assoc out (replicate w 45) (codes "--+") ∙ ap (λ cs. out ++ cs) (dashes w))
    ∙ append_assoc out (replicate (w + 2) 45 ++ 43 ∷ []) rest

pub no_width : width [] ≡ 0
no_width = str_width-printable false [] refl

pub filled-empty : (w : ℕ) → filled w [] ≡ replicate w 32
filled-empty w = let e : w - width [] ≡ w = omega (arith, no_width) in ap (λ n. replicate n 32) e

-- one more cell of a row
pub row_more : (w : ℕ) (text out out' out'' out''' rest : List ℕ) → out' ≡ out ++ 32 ∷ [] → out'' ≡ out' ++ filled w text → out''' ≡ out'' ++ codes " |"
    → out''' ++ rest ≡ out ++ (cell_in w text ++ rest)
row_more w text out out' out'' out''' rest e e' e'' = rw (e'', e', e) (simp append_assoc)

-- a row's cell in a column, and those behind it
pub cells_more : (w : ℕ) (ws : List ℕ) (row : List (List ℕ)) (i : ℕ) → cells_in (w ∷ ws) (drop i row) ≡ cell_in w (unwrap_or (slice_get row i) []) ++ cells_in ws (drop (i + 1) row)
cells_more w ws row i =
    ⊎_elim
    (λ (inside : (x : List ℕ) × (i < length row) × (slice_get row i ≡ Some x) × (get_or row i x ≡ x)).
    ap (cells_in (w ∷ ws)) (drop_more row i inside.0 inside.1)
    ∙ ap (λ t. cell_in w t ++ cells_in ws (drop (i + 1) row)) (inside.3 ∙ sym (ap (λ o. unwrap_or o []) inside.2)))
    (λ (past : (length row ≤ i) × (slice_get row i ≡ None)).
    ap (cells_in (w ∷ ws)) (drop_all i row past.0)
    ∙ ap (λ t. cell_in w t ++ cells_in ws []) (sym (ap (λ o. unwrap_or o []) past.1))
    ∙ ap (λ cells. cell_in w (unwrap_or (slice_get row i) []) ++ cells_in ws cells) (sym (drop_all (i + 1) row (omega (arith, past.0)))))
    (slice_get_cases row i).1

pub copied : {X : Type 0} (r : Option (Bor X)) → option_map (λ t. t.now) r ≡ option_copied r
copied None = refl
copied (Some t) = refl
