-- A cell that is filled up has the width of its column.
use Rattle.std.proofs.Common.{◌≡◌, ℕ, ◌-◌, ◌≤◌, zero, suc, true, false, List, [], ◌∷◌, map, replicate, Option, None, Some, refl, ◌∙◌, arith}
use Rattle.std.specs.Prelude.{unwrap_or, slice_get}
use Rattle.std.specs.Option.{option_map_or}
use Rattle.std.specs.List.{AllByRecursion, list_all}
use Rattle.std.specs.Int.{is_in_range}
use Rattle.std.proofs.lemmas.List.{length-replicate}
use Rattle.std.proofs.Math.Nat.{le-max_left, le-max_right}
use Rattle.json_doc.specs.Documents.{greatest}
use Rattle.unicode_width.proofs.Rules.{is_simple, str_width-printable, str_width-append_simple}
use Rattle.out_format.specs.Sections.{width, width_at, column_width, filled, cell_in_column}
use Rattle.out_format.proofs.Drawn.{no_width}

printable_blanks : (n : ℕ) → list_all (is_in_range 0x20 0x7E) (replicate n 32) ≡ true
printable_blanks zero = refl
printable_blanks (suc n) = printable_blanks n

simple_blanks : (n : ℕ) → list_all is_simple (replicate n 32) ≡ true
simple_blanks zero = refl
simple_blanks (suc n) = simple_blanks n

filled_width : (w : ℕ) (text : List ℕ) → width text ≤ w → width (filled w text) ≡ w
filled_width w text fits =
    let n = w - width text in
    let blanks = str_width-printable false (replicate n 32) (printable_blanks n) ∙ length-replicate n 32 in
    let whole = str_width-append_simple false text (replicate n 32) (simple_blanks n) in
    omega (arith, blanks, whole, fits)

all_within : (n column : ℕ) (rows : List (List (List ℕ))) → greatest (map (width_at column) rows) ≤ n → AllByRecursion (λ row. width_at column row ≤ n) rows
all_within n column [] fits = tt
all_within n column (row ∷ rows) fits =
    let most = greatest (map (width_at column) rows) in
    let here = le-max_left (width_at column row) most in
    let others = le-max_right (width_at column row) most in
    (omega (arith, here, fits), all_within n column rows (omega (arith, others, fits)))

cell_width : (o : Option (List ℕ)) → width (unwrap_or o []) ≡ option_map_or width o 0
cell_width None = no_width
cell_width (Some text) = refl

all_filled : (w column : ℕ) (rows : List (List (List ℕ))) → AllByRecursion (λ row. width_at column row ≤ w) rows
    → AllByRecursion (λ row. width (filled w (cell_in_column column row)) ≡ w) rows
all_filled w column [] fits = tt
all_filled w column (row ∷ rows) fits =
    let same = cell_width (slice_get row column) in
    (filled_width w (cell_in_column column row) (omega (arith, same, fits.0)), all_filled w column rows fits.1)

pub cells-filled : (rows : List (List (List ℕ))) (column : ℕ) → AllByRecursion (λ row. width (filled (column_width rows column) (cell_in_column column row)) ≡ column_width rows column) rows
cells-filled rows column = all_filled (column_width rows column) column rows (all_within (column_width rows column) column rows (omega arith))
