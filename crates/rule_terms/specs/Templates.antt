-- "Template syntax": a name between braces stands for its value, and a doubled brace for one. A brace that
-- neither opens nor closes a name is text.
use Rattle.std.specs.Prelude.{ℕ, zero, suc, ◌&&◌, ◌||◌, ◌≡◌, Bool, false, nat_eq, if◌then◌else◌, List, [], ◌∷◌, ◌++◌, map, length, Option, None, Some, option_map}
use Rattle.std.specs.Str.{NonePass}
use Rattle.rule_terms.specs.declared.template.Piece.{Piece}
use Rattle.rule_terms.specs.declared.template.Piece.TheVariants.{Char, Named}
use Rattle.rule_terms.specs.declared.template.Stand.{Stand}
use Rattle.rule_terms.specs.declared.template.Stand.TheVariants.{Plain, Opened, Closed}
use Rattle.texts.specs.Marks.{around_first}

abbrev pub is_brace : ℕ → Bool
is_brace c = nat_eq c 123 || nat_eq c 125

abbrev pub is_doubled : ℕ → List ℕ → Bool
is_doubled c [] = false
is_doubled c (d ∷ ds) = is_brace c && nat_eq d c

-- what stands before the first brace, where that is a closing one
abbrev pub before_close : List ℕ → Option (List ℕ)
before_close [] = None
before_close (c ∷ cs) =
    if nat_eq c 125 then Some [] else if nat_eq c 123 then None else option_map (λ words. c ∷ words) (before_close cs)

-- the piece of an opening brace, and how many characters behind it are part of it
abbrev pub opened_piece : Option (List ℕ) → Piece × ℕ
opened_piece None = (Char 123, 0)
opened_piece (Some []) = (Char 123, 0)
opened_piece (Some (c ∷ cs)) = (Named (c ∷ cs), suc (length (c ∷ cs)))

-- the first piece of a text, and how many characters behind its first are part of it
abbrev pub first_piece : ℕ → List ℕ → Piece × ℕ
first_piece c cs =
    if is_doubled c cs then (Char c, 1) else
    if nat_eq c 123 then opened_piece (before_close cs) else (Char c, 0)

-- the pieces of a text, of which so many characters are part of the piece before
abbrev pub pieces_past : ℕ → List ℕ → List Piece
pieces_past n [] = []
pieces_past zero (c ∷ cs) = (first_piece c cs).0 ∷ pieces_past (first_piece c cs).1 cs
pieces_past (suc n) (c ∷ cs) = pieces_past n cs

abbrev pub pieces_of : List ℕ → List Piece
pieces_of text = pieces_past 0 text

-- the name between two braces, and the path behind the first `#`
abbrev pub name_in : List ℕ → List ℕ
name_in words = elim (around_first 35 words) [ Some halves ↦ halves.0 | None ↦ words ]

abbrev pub path_in : List ℕ → Option (List ℕ)
path_in words = option_map (λ halves. halves.1) (around_first 35 words)

-- What the code holds back while it reads a template.

-- an opening brace that isn't closed, and the words behind it
abbrev pub left_open : List ℕ → List Piece
left_open words = Char 123 ∷ map Char words

-- the characters of which no piece is made yet
abbrev pub held : Stand → List ℕ
held Plain = []
held (Opened words) = 123 ∷ words
held Closed = 125 ∷ []

-- no brace stands in what is held back behind an opening one
abbrev pub IsStand : Stand → Type 0
IsStand Plain = Unit {0}
IsStand (Opened words) = NonePass is_brace words
IsStand Closed = Unit {0}

-- the pieces before and those of a text are, whatever follows, the pieces after and those of what is held back
abbrev pub GoesOn : List Piece → List ℕ → List Piece → Stand → Type 0
GoesOn before text after next =
    ((rest : List ℕ) → after ++ pieces_of (held next ++ rest) ≡ before ++ pieces_of (text ++ rest)) × IsStand next
