-- The signs between keys and values are ASCII, so a line may be cut before and behind one.
use Rattle.std.proofs.Common.{◌≡◌, ℕ, ◌+◌, ◌<◌, true, List, length, get_or, eqb, inl, inr, ⊎_elim, refl, arith}
use Rattle.std.specs.Prelude.{◌⊎◌, option_and_then, position}
use Rattle.std.specs.Str.{IsUtf8, IsCharBoundary}
use Rattle.std.proofs.lemmas.Bool.{or_cases, eqb-true}
use Rattle.std.proofs.lemmas.Str.{IsCharBoundary-after_ascii, IsCharBoundary-before_ascii}
use Rattle.config_file.specs.declared.line.Place.{Place}
use Rattle.config_file.specs.declared.line.Place.TheVariants.{Outside, Opened, Behind}
use Rattle.config_file.specs.Lines.{is_sign, key_at, key_of}

pub sign_codes : (b : ℕ) → is_sign b ≡ true → (b ≡ 61) ⊎ (b ≡ 58)
sign_codes b sign = ⊎_elim (λ e. inl (eqb-true b 61 e)) (λ e. inr (eqb-true b 58 e)) (or_cases (eqb b 61) (eqb b 58) sign)

sign_is_ascii : (b : ℕ) → is_sign b ≡ true → b < 128
sign_is_ascii b sign = ⊎_elim (λ e. omega arith) (λ e. omega arith) (sign_codes b sign)

pub before_sign : (line : List ℕ) (at : ℕ) → at < length line → is_sign (get_or line at 0) ≡ true → IsCharBoundary line at
before_sign line at within sign = IsCharBoundary-before_ascii line at within (sign_is_ascii (get_or line at 0) sign)

pub behind_sign : (line : List ℕ) (at : ℕ) → IsUtf8 line → at < length line → is_sign (get_or line at 0) ≡ true → IsCharBoundary line (at + 1)
behind_sign line at utf8 within sign = IsCharBoundary-after_ascii line at utf8 within (sign_is_ascii (get_or line at 0) sign)

-- in a section a key is looked for
pub key_inside : (place : Place) (line : List ℕ) → (place ≡ Outside → ⊥) → key_of place line ≡ option_and_then (key_at line) (position is_sign line)
key_inside Outside line inside = absurd (inside refl)
key_inside Opened line inside = refl
key_inside (Behind blanks) line inside = refl
