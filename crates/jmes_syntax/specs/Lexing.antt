-- The tokens of a text (JMESPath specification, "Grammar"). Blanks may stand between them, and each is
-- as long as it can be.
use Rattle.std.specs.Prelude.{◌≡◌, ℕ, ◌==◌, ◌||◌, false, if◌then◌else◌, List, [], ◌∷◌, length, take, drop, Option, None, Some}
use Rattle.std.specs.Char.{is_ascii_digit}
use Rattle.json_doc.specs.Scan.{skipped}
use Rattle.jmes_syntax.specs.declared.delimited.Quote.{Quote}
use Rattle.jmes_syntax.specs.declared.delimited.Quote.TheVariants as quote
use Rattle.jmes_syntax.specs.declared.lexer.Kind.{Kind}
use Rattle.jmes_syntax.specs.declared.lexer.Kind.TheVariants as kind
use Rattle.jmes_syntax.specs.declared.token.Mark.{Mark}
use Rattle.jmes_syntax.specs.declared.token.Token.{Token}
use Rattle.jmes_syntax.specs.declared.token.Token.TheVariants as token
use Rattle.jmes_syntax.specs.Delimited.{delimited}
use Rattle.jmes_syntax.specs.Literals.{ValueOf}
use Rattle.jmes_syntax.specs.Marks.{single_mark, double_mark}
use Rattle.jmes_syntax.specs.Numbers.{number_at}
use Rattle.jmes_syntax.specs.Reading.{followed, or_else}
use Rattle.jmes_syntax.specs.Words.{begins_name, name_len}

-- what a token with this first byte is
abbrev pub kind_of : ℕ → Kind
kind_of b =
    if begins_name b then kind.Name else
    (if b == 0x2D || is_ascii_digit b then kind.Number else
    (if b == 0x22 then kind.Delimited quote.Name else
    (if b == 0x60 then kind.Delimited quote.Literal else
    (if b == 0x27 then kind.Delimited quote.Raw else kind.Mark))))

abbrev pub kind_at : List ℕ → Kind
kind_at [] = kind.Mark
kind_at (b ∷ bs) = kind_of b

abbrev pub double_at : ℕ → List ℕ → Option (Mark × List ℕ)
double_at b [] = None
double_at b (c ∷ cs) = followed (double_mark b c) cs

-- the mark in front: of two bytes, or else of one
abbrev pub mark_at : List ℕ → Option (Mark × List ℕ)
mark_at [] = None
mark_at (b ∷ bs) = or_else (double_at b bs) (followed (single_mark b) bs)

-- with a token of what was found
abbrev pub tokened : {A : Type 0} → (A → Token) → Option (A × List ℕ) → Option (Token × List ℕ)
tokened f None = None
tokened f (Some x) = Some (f x.0, x.1)

-- between quotes, behind the opening one
pub data DelimitedAt : Quote → List ℕ → Option (Token × List ℕ) → Type 0 where
  unclosed : {q : Quote} {bs : List ℕ} → delimited q false bs ≡ None → DelimitedAt q bs None
  closed : {q : Quote} {bs v rest : List ℕ} {o : Option Token} → delimited q false bs ≡ Some (v, rest) → ValueOf q v o → DelimitedAt q bs (followed o rest)

-- the token in front, and what is behind it; none where no token begins or it isn't whole
pub data TokenAt : List ℕ → Option (Token × List ℕ) → Type 0 where
  name : {bs : List ℕ} → kind_at bs ≡ kind.Name → TokenAt bs (Some (token.Name (take (name_len bs) bs), drop (name_len bs) bs))
  number : {bs : List ℕ} → kind_at bs ≡ kind.Number → TokenAt bs (tokened token.Number (number_at bs))
  between : {q : Quote} {bs : List ℕ} {o : Option (Token × List ℕ)} → kind_at bs ≡ kind.Delimited q → DelimitedAt q (drop 1 bs) o → TokenAt bs o
  mark : {bs : List ℕ} → kind_at bs ≡ kind.Mark → TokenAt bs (tokened token.Mark (mark_at bs))

-- The tokens from here on, and how many bytes are left at each and behind the last: none at the end of
-- the text, and some where no token stands.
pub data Lexes : List ℕ → List Token → List ℕ → ℕ → Type 0 where
  no_more : {bs : List ℕ} → TokenAt bs None → Lexes bs [] [] (length bs)
  more : {bs rest : List ℕ} {t : Token} {ts : List Token} {lefts : List ℕ} {left : ℕ} → TokenAt bs (Some (t, rest)) → Lexes (skipped rest) ts lefts left → Lexes bs (t ∷ ts) (length bs ∷ lefts) left
