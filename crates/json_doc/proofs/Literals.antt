-- The characters of the words and blanks that a printer writes.
use Rattle.std.proofs.Common.{◌≡◌, refl}
use Rattle.std.specs.Prelude.{codes}
use Rattle.std.specs.Str.{chars}

pub chars-true : chars (codes "true") ≡ codes "true"
unfolding chars
chars-true = refl

pub chars-false : chars (codes "false") ≡ codes "false"
unfolding chars
chars-false = refl

pub chars-null : chars (codes "null") ≡ codes "null"
unfolding chars
chars-null = refl

pub chars-colon : chars (codes ": ") ≡ codes ": "
unfolding chars
chars-colon = refl

pub chars-comma : chars (codes ", ") ≡ codes ", "
unfolding chars
chars-comma = refl

pub chars-blanks : chars (codes "    ") ≡ codes "    "
unfolding chars
chars-blanks = refl
