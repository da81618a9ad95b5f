-- The first line of a file, and the lines behind it.
use Rattle.std.proofs.Common.{◌≡◌, ℕ, ◌+◌, ◌<◌, ◌≤◌, List, [], ◌∷◌, length, take, drop, eqb, Bool, ltb, Some, None, refl, sym, ap, ◌∙◌, ⊎_elim, arith}
use Rattle.std.specs.Prelude.{position}
use Rattle.std.specs.List.{position_or_len, slice_split, before_first, after_first}
use Rattle.std.specs.Str.Lines.{lines, lines_of_parts, strip_carriage_return}
use Rattle.std.proofs.lemmas.Bool.{cases_Bool, ltb-false, cond-true, cond-false, ne_eqb}
use Rattle.std.proofs.lemmas.List.Quantifiers.{position-Some}
use Rattle.std.proofs.lemmas.List.Sums.{fails_before_first, position_or_len_is}
use Rattle.std.proofs.lemmas.List.Splits.{slice_split_first, slice_split_none, length-slice_split}

abbrev pub is_feed : ℕ → Bool
is_feed b = eqb b 10

pub position-None : {X : Type 0} (p : X → Bool) (xs : List X) → None ≡ position p xs → length xs ≤ position_or_len p xs
position-None p xs none = ⊎_elim
    (λ t. let e : None ≡ Some (position_or_len p xs) = none ∙ cond-true _ (Some (position_or_len p xs)) None t in absurd (cc))
    (λ f. ltb-false (position_or_len p xs) (length xs) f)
    (cases_Bool (ltb (position_or_len p xs) (length xs)))

part_before : (x : List ℕ) (parts : List (List ℕ)) → 0 < length parts → lines_of_parts (x ∷ parts) ≡ strip_carriage_return x ∷ lines_of_parts parts
part_before x [] some = absurd (omega arith)
part_before x (y ∷ more) some = refl

pub line_before_feed : (file : List ℕ) (at : ℕ) → Some at ≡ position is_feed file
    → lines file ≡ strip_carriage_return (take at file) ∷ lines (drop (at + 1) file)
line_before_feed file at found =
    let there = position-Some is_feed file at 0 (sym found) in
    let within : at < length file = there.0 in
    let is : at ≡ position_or_len is_feed file = sym (position_or_len_is is_feed file at 0 (omega arith) there.2 (λ h. there.1)) in
    let low : position_or_len is_feed file < length file = omega arith in
    let some : 0 < length (slice_split is_feed (after_first is_feed file)) = omega (arith, length-slice_split is_feed (after_first is_feed file)) in
    ap lines_of_parts (slice_split_first is_feed file 0 low)
    ∙ part_before (before_first is_feed file) (slice_split is_feed (after_first is_feed file)) some
    ∙ ap (λ k. strip_carriage_return (take k file) ∷ lines (drop (k + 1) file)) (sym is)

one_part : (file : List ℕ) → 0 < length file → lines_of_parts (file ∷ []) ≡ file ∷ []
one_part file some = cond-false (eqb (length file) 0) [] (file ∷ []) (ne_eqb (length file) 0 (λ e. omega arith))

pub line_without_feed : (file : List ℕ) → 0 < length file → None ≡ position is_feed file → lines file ≡ file ∷ []
line_without_feed file some none =
    let past : length file ≤ position_or_len is_feed file = position-None is_feed file none in
    ap lines_of_parts (slice_split_none is_feed file (λ k d within. fails_before_first is_feed file k d (omega arith))) ∙ one_part file some
