-- Kinds of bodies by the first length, and numbers digit by digit.
use Rattle.std.proofs.Common.{◌≡◌, ℕ, ◌+◌, ◌-◌, ◌*◌, ◌^◌, ◌<◌, min, true, cond, ◌&&◌, List, [], ◌∷◌, length, get_or, take, Some, refl, sym, ap, ◌∙◌, subst, arith}
use Rattle.std.specs.Prelude.{bytes_eq}
use Rattle.std.specs.List.{list_all}
use Rattle.std.specs.Char.{is_ascii_digit, digit_value}
use Rattle.std.specs.Str.Parse.{digits_value}
use Rattle.std.proofs.lemmas.Bool.Decides.{nat_tests}
use Rattle.std.proofs.lemmas.List.{take_more}
use Rattle.std.proofs.lemmas.List.Folds.{list_all_more}
use Rattle.std.proofs.lemmas.Slice.Eq.{bytes_eq-Decides}
use Rattle.httparse.proofs.ChunkLemmas.{digits_value_after_push}
use Rattle.http_reply.specs.declared.kinds.Kind.TheVariants.{Malformed}
use Rattle.aws_world.specs.Headers.{first_of}
use Rattle.http_reply.specs.Kinds.{kind_by_length, kind_by_number}

pub kind_by_length-some : (values : List (List ℕ)) (v : List ℕ) → first_of values ≡ Some v
    → kind_by_length values ≡ cond (list_all (λ copy. bytes_eq copy v) values) (kind_by_number v) Malformed
kind_by_length-some [] v e = cc
kind_by_length-some (w ∷ values) v e =
    let same : w ≡ v = cc in
    let refl_eq = (bytes_eq-Decides v v).1 refl in
    subst (λ u. kind_by_length (u ∷ values) ≡ cond (bytes_eq u v && list_all (λ copy. bytes_eq copy v) values) (kind_by_number v) Malformed) (sym same)
    (ap (λ t. cond (t && list_all (λ copy. bytes_eq copy v) values) (kind_by_number v) Malformed) (sym refl_eq))

-- the number of one more digit
pub digits_value_more : (value : List ℕ) (i : ℕ) → i < length value → is_ascii_digit (get_or value i 0) ≡ true
    → digits_value 10 (take (i + 1) value) ≡ digits_value 10 (take i value) * 10 + (get_or value i 0 - 48)
digits_value_more value i within digit =
    ap (digits_value 10) (take_more value i 0 within)
    ∙ digits_value_after_push 10 0 (take i value) (get_or value i 0)
    ∙ ap (λ d. digits_value 10 (take i value) * 10 + d) (digit_value_is (get_or value i 0) digit)
  where
    digit_value_is : (b : ℕ) → is_ascii_digit b ≡ true → digit_value b ≡ b - 48
    digit_value_is b h = grind (arith, nat_tests)

pub all_digits_more : (value : List ℕ) (i : ℕ) → i < length value → list_all is_ascii_digit (take i value) ≡ true → is_ascii_digit (get_or value i 0) ≡ true
    → list_all is_ascii_digit (take (i + 1) value) ≡ true
all_digits_more value i within all digit =
    list_all_more is_ascii_digit value i 0 within ∙ ap (λ a. a && is_ascii_digit (get_or value i 0)) all ∙ digit

-- a number stays at the greatest that fits
pub saturated : (size value d sum product : ℕ) → size ≡ min value (2 ^ 64 - 1) → product ≡ min (size * 10) (2 ^ 64 - 1) → sum ≡ min (product + d) (2 ^ 64 - 1)
    → sum ≡ min (value * 10 + d) (2 ^ 64 - 1)
saturated size value d sum product s p q = omega arith
