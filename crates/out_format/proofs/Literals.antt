-- The characters of the words and marks that are written.
use Rattle.std.proofs.Common.{◌≡◌, ℕ, ◌<◌, ◌^◌, refl, []}
use Rattle.std.specs.Fmt.{decimal}
use Rattle.std.proofs.lemmas.Str.{chars-IsAscii}
use Rattle.std.proofs.lemmas.Fmt.{IsAscii-decimal}
use Rattle.std.specs.Prelude.{codes}
use Rattle.std.specs.Str.{chars}
use Rattle.texts.proofs.Texts.{chars_ascii}

pub chars-none : chars [] ≡ []
chars-none = chars_ascii [] refl

pub chars-None : chars (codes "None") ≡ codes "None"
chars-None = chars_ascii (codes "None") refl

pub chars-True : chars (codes "True") ≡ codes "True"
chars-True = chars_ascii (codes "True") refl

pub chars-False : chars (codes "False") ≡ codes "False"
chars-False = chars_ascii (codes "False") refl

pub chars-decimal : (n : ℕ) → n < 2 ^ 64 → chars (decimal n) ≡ decimal n
chars-decimal n small = chars-IsAscii (decimal n) (IsAscii-decimal n small)
