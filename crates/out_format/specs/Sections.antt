-- How a section of a table is printed.
use Rattle.std.specs.Prelude.{ℕ, ◌+◌, ◌-◌, ◌==◌, ◌||◌, nat_lt, false, if◌then◌else◌, List, [], ◌∷◌, ◌++◌, map, length, replicate, codes, option_to_list, slice_get, unwrap_or}
use Rattle.std.specs.Option.{option_map_or}
use Rattle.std.specs.List.{flat_map, range_with_len}
use Rattle.unicode_width.specs.Width.{str_width}
use Rattle.json_doc.specs.Documents.{greatest}
use Rattle.out_format.specs.Cells.{cell_text}
use Rattle.out_format.specs.declared.cell.Cell.{Cell}
use Rattle.out_format.specs.declared.section.Section.{Section}

-- control characters are shown as blanks
abbrev pub shown_character : ℕ → ℕ
shown_character c = if nat_lt c 32 || (c == 127) then 32 else c

abbrev pub shown : Cell → List ℕ
shown cell = map shown_character (cell_text cell)

-- the columns of a terminal that a text takes
abbrev pub width : List ℕ → ℕ
width text = str_width false text

-- a row's cell in a column, empty where the row ends before it
abbrev pub cell_in_column : ℕ → List (List ℕ) → List ℕ
cell_in_column column row = unwrap_or (slice_get row column) []

-- the width of a row's cell in a column; 0 where the row ends before it
abbrev pub width_at : ℕ → List (List ℕ) → ℕ
width_at column row = option_map_or width (slice_get row column) 0

-- the width of a column is that of its widest cell
abbrev pub column_width : List (List (List ℕ)) → ℕ → ℕ
column_width rows column = greatest (map (width_at column) rows)

-- there are as many columns as the longest row has cells
abbrev pub column_count : List (List (List ℕ)) → ℕ
column_count rows = greatest (map length rows)

abbrev pub widths : List (List (List ℕ)) → List ℕ
widths rows = map (column_width rows) (range_with_len 0 (column_count rows))

-- `+`, and for each column dashes, two more than its width, and `+`
abbrev pub border : List ℕ → List ℕ
border ws = 43 ∷ flat_map (λ w. replicate (w + 2) 45 ++ 43 ∷ []) ws ++ 10 ∷ []

-- a text that is filled up with blanks to a width
abbrev pub filled : ℕ → List ℕ → List ℕ
filled w text = text ++ replicate (w - width text) 32

-- a cell in its column, between blanks
abbrev pub cell_in : ℕ → List ℕ → List ℕ
cell_in w text = 32 ∷ filled w text ++ codes " |"

-- the cells of a row in their columns; a row that ends early goes on with empty cells
abbrev pub cells_in : List ℕ → List (List ℕ) → List ℕ
cells_in [] row = []
cells_in (w ∷ ws) [] = cell_in w [] ++ cells_in ws []
cells_in (w ∷ ws) (text ∷ row) = cell_in w text ++ cells_in ws row

abbrev pub row_text : List ℕ → List (List ℕ) → List ℕ
row_text ws row = 124 ∷ cells_in ws row ++ 10 ∷ []

abbrev pub rows_text : List ℕ → List (List (List ℕ)) → List ℕ
rows_text ws rows = flat_map (row_text ws) rows

-- the header, where there is one, and a border below it
abbrev pub head_text : List ℕ → List (List (List ℕ)) → List ℕ
head_text ws [] = []
head_text ws (row ∷ rows) = rows_text ws (row ∷ rows) ++ border ws

abbrev pub shown_rows : List (List Cell) → List (List (List ℕ))
shown_rows rows = map (map shown) rows

-- the path, a border, the header and a border where there is one, the rows, a border
abbrev pub section_text : Section → List ℕ
section_text section =
    let head = shown_rows (option_to_list section.header) in
    let rows = shown_rows section.rows in
    let ws = widths (head ++ rows) in
    section.path ++ 10 ∷ border ws ++ head_text ws head ++ rows_text ws rows ++ border ws

abbrev pub sections_text : List Section → List ℕ
sections_text sections = flat_map section_text sections
