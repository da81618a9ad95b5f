-- Digits, as lists of them.
use Rattle.std.proofs.Common.{◌≡◌, ℕ, true, List, [], ◌∷◌}
use Rattle.std.specs.Char.{is_ascii_digit}
use Rattle.std.specs.List.{list_all}
use Rattle.std.specs.Str.Parse.{AllDigits}
use Rattle.std.proofs.lemmas.Bool.{and_parts}
use Rattle.json_doc.proofs.NumberScans.{is_digit}
use Rattle.shape_values.specs.Scalars.{are_digits}

digits-all : (ds : List ℕ) → list_all is_ascii_digit ds ≡ true → AllDigits 10 ds
digits-all [] all = tt
digits-all (d ∷ ds) all = let both = and_parts (is_ascii_digit d) (list_all is_ascii_digit ds) all in (is_digit d both.0, digits-all ds both.1)

pub all_digits : (ds : List ℕ) → are_digits ds ≡ true → AllDigits 10 ds
all_digits ds are = let both = and_parts _ (list_all is_ascii_digit ds) are in digits-all ds both.1
