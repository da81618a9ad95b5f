-- Tokens, and what stands in front of them.
use Rattle.std.specs.Prelude.{ℕ, Bool, false, if◌then◌else◌, List, [], ◌∷◌, length, Option, None, Some, Result, Ok, Err}
use denote.Enum.Bare.{sameb}
use Rattle.json_doc.specs.declared.doc.Doc.{Doc}
use Rattle.jmes_syntax.specs.contracts.token.Mark.{the_type}
use Rattle.jmes_syntax.specs.declared.stop.Stop.{Stop}
use Rattle.jmes_syntax.specs.declared.stop.Stop.TheVariants.{Syntax}
use Rattle.jmes_syntax.specs.declared.token.Mark.{Mark}
use Rattle.jmes_syntax.specs.declared.token.Token.{Token}
use Rattle.jmes_syntax.specs.declared.token.Token.TheVariants as token
use Rattle.jmes_syntax.specs.declared.whole.Whole.{Whole}

abbrev pub same_mark : Mark → Mark → Bool
same_mark = sameb the_type

abbrev pub is_mark : Mark → Token → Bool
is_mark m (token.Mark k) = same_mark k m
is_mark m others = false

-- what is behind this mark, where the tokens begin with it
abbrev pub behind : Mark → List Token → Option (List Token)
behind m [] = None
behind m (t ∷ ts) = if is_mark m t then Some ts else None

abbrev pub or_syntax : List Token → Option (List Token) → Result (List Token) Stop
or_syntax ts None = Err (Syntax (length ts))
or_syntax ts (Some us) = Ok us

-- what is behind this mark, which is due
abbrev pub past : Mark → List Token → Result (List Token) Stop
past m ts = or_syntax ts (behind m ts)

-- the number in front, where one stands there, and what is behind it
abbrev pub number_at : List Token → Option Whole × List Token
number_at [] = (None, [])
number_at (token.Number n ∷ ts) = (Some n, ts)
number_at (t ∷ ts) = (None, t ∷ ts)

-- a name that isn't quoted in front, and what is behind it
abbrev pub name_at : List Token → Option (List ℕ × List Token)
name_at [] = None
name_at (token.Name t ∷ ts) = Some (t, ts)
name_at (t ∷ ts) = None

-- a quoted name in front, and what is behind it
abbrev pub quoted_at : List Token → Option (List ℕ × List Token)
quoted_at [] = None
quoted_at (token.Quoted t ∷ ts) = Some (t, ts)
quoted_at (t ∷ ts) = None

-- a literal in front, and what is behind it
abbrev pub literal_at : List Token → Option (Doc × List Token)
literal_at [] = None
literal_at (token.Literal d ∷ ts) = Some (d, ts)
literal_at (t ∷ ts) = None
