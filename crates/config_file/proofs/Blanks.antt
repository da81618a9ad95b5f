-- Blanks are ASCII, so a text may be cut where they begin and end.
use Rattle.std.proofs.Common.{◌≡◌, ℕ, ◌-◌, ◌<◌, true, List, length, get_or, reverse, eqb, sym, ◌∙◌, ap, subst, zero, suc, inl, inr, ⊎_elim, arith}
use Rattle.std.specs.Prelude.{◌⊎◌}
use Rattle.std.specs.List.{prefix_len}
use Rattle.std.specs.Str.{IsUtf8, IsCharBoundary}
use Rattle.std.proofs.lemmas.Bool.{or_cases, eqb-true}
use Rattle.std.proofs.lemmas.List.{get_or-reverse, length-reverse}
use Rattle.std.proofs.lemmas.List.Folds.{length-prefix_len}
use Rattle.std.proofs.lemmas.List.Sums.{prefix_len-le-length, prefix_len_passes}
use Rattle.std.proofs.lemmas.Str.{IsCharBoundary-start, IsCharBoundary-end, IsCharBoundary-after_ascii, IsCharBoundary-before_ascii}
use Rattle.config_file.specs.Trimmed.{is_blank, blanks_before, blanks_behind}

-- a blank is a space or a tab
pub blank_codes : (b : ℕ) → is_blank b ≡ true → (b ≡ 32) ⊎ (b ≡ 9)
blank_codes b blank = ⊎_elim (λ e. inl (eqb-true b 32 e)) (λ e. inr (eqb-true b 9 e)) (or_cases (eqb b 32) (eqb b 9) blank)

blank_is_ascii : (b : ℕ) → is_blank b ≡ true → b < 128
blank_is_ascii b blank = ⊎_elim (λ e. omega arith) (λ e. omega arith) (blank_codes b blank)

pub blanks_before_is : (text : List ℕ) → blanks_before text ≡ prefix_len is_blank text
blanks_before_is text = length-prefix_len is_blank text

pub blanks_behind_is : (text : List ℕ) → blanks_behind text ≡ prefix_len is_blank (reverse text)
blanks_behind_is text = length-prefix_len is_blank (reverse text)

front_cut : (text : List ℕ) (n : ℕ) → IsUtf8 text → n ≡ prefix_len is_blank text → IsCharBoundary text n
front_cut text zero utf8 is = IsCharBoundary-start text utf8
front_cut text (suc m) utf8 is =
    let low : m < prefix_len is_blank text = omega arith in
    let within : m < length text = omega (arith, prefix_len-le-length is_blank text) in
    subst (λ k. IsCharBoundary text k) (omega arith)
    (IsCharBoundary-after_ascii text m utf8 within (blank_is_ascii (get_or text m 0) (prefix_len_passes is_blank text m 0 low)))

-- a text may be cut behind the blanks that it begins with
pub front_boundary : (text : List ℕ) → IsUtf8 text → IsCharBoundary text (blanks_before text)
front_boundary text utf8 = front_cut text (blanks_before text) utf8 (blanks_before_is text)

end_cut : (text : List ℕ) (n : ℕ) → n ≡ prefix_len is_blank (reverse text) → IsCharBoundary text (length text - n)
end_cut text zero is = subst (λ k. IsCharBoundary text k) (omega arith) (IsCharBoundary-end text)
end_cut text (suc m) is =
    let low : m < prefix_len is_blank (reverse text) = omega arith in
    let within : m < length text = omega (arith, prefix_len-le-length is_blank (reverse text), length-reverse text) in
    let at : length text - 1 - m ≡ length text - suc m = omega arith in
    let same : get_or (reverse text) m 0 ≡ get_or text (length text - suc m) 0 =
    get_or-reverse text m 0 within ∙ ap (λ k. get_or text k 0) at in
    let blank : is_blank (get_or text (length text - suc m) 0) ≡ true =
    sym (ap is_blank same) ∙ prefix_len_passes is_blank (reverse text) m 0 low in
    IsCharBoundary-before_ascii text (length text - suc m) (omega arith) (blank_is_ascii (get_or text (length text - suc m) 0) blank)

-- and where those begin that it ends with
pub end_boundary : (text : List ℕ) → IsCharBoundary text (length text - blanks_behind text)
end_boundary text = end_cut text (blanks_behind text) (blanks_behind_is text)
