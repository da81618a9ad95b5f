-- What stands between two equal quotes: quoted names, literals and raw texts (JMESPath specification,
-- "Grammar": quoted-string, literal, raw-string). A backslash and the byte behind it are one unit.
use Rattle.std.specs.Prelude.{ℕ, ◌==◌, Bool, true, false, if◌then◌else◌, List, [], ◌∷◌, ◌++◌, Option, None, Some}
use Rattle.jmes_syntax.specs.declared.delimited.Quote.{Quote}
use Rattle.jmes_syntax.specs.declared.delimited.Quote.TheVariants as quote

abbrev pub quote_byte : Quote → ℕ
quote_byte quote.Name = 0x22
quote_byte quote.Literal = 0x60
quote_byte quote.Raw = 0x27

-- what a backslash and this byte stand for: the quote alone in a literal and a raw text, else both
abbrev pub pair_of : Quote → ℕ → List ℕ
pair_of quote.Name b = 0x5C ∷ b ∷ []
pair_of quote.Literal b = if b == 0x60 then b ∷ [] else 0x5C ∷ b ∷ []
pair_of quote.Raw b = if b == 0x27 then b ∷ [] else 0x5C ∷ b ∷ []

-- these bytes before those that were found
abbrev pub fronted : List ℕ → Option (List ℕ × List ℕ) → Option (List ℕ × List ℕ)
fronted front None = None
fronted front (Some x) = Some (front ++ x.0, x.1)

-- up to the quote that closes, and what is behind it; `in_pair`: behind a backslash that begins a pair
abbrev pub delimited : Quote → Bool → List ℕ → Option (List ℕ × List ℕ)
delimited q in_pair [] = None
delimited q true (b ∷ bs) = fronted (pair_of q b) (delimited q false bs)
delimited q false (b ∷ bs) =
    if b == quote_byte q then Some ([], bs) else
    (if b == 0x5C then delimited q true bs else fronted (b ∷ []) (delimited q false bs))
