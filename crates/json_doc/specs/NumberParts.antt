-- What the parts of a number that the reader has say of it.
use Rattle.json_doc.specs.declared.number_token.ExponentParts.{ExponentParts}
use Rattle.json_doc.specs.declared.number_token.NumberParts.{NumberParts}
use Rattle.json_doc.specs.NumberToken.{Exponent, Number}

abbrev pub exponent_of : ExponentParts → Exponent
exponent_of e = record { is_negative = e.is_negative; digits = e.digits.now }

abbrev pub number_of : NumberParts → Number
number_of n = record { is_negative = n.is_negative; int = n.int.now; frac = n.frac.now; exp = exponent_of n.exp }
