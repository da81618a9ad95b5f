-- A text cut at marks, one character after another.
use Rattle.std.proofs.Common.{◌≡◌, ◌<◌, ◌-◌, ℕ, zero, suc, arith, Option, Some, None, Bool, true, false, cond, List, [], ◌∷◌, ◌++◌, refl, sym, ap, ◌∙◌, append_assoc, append-nil}
use Rattle.std.specs.List.{slice_split, onto_first}
use Rattle.texts.specs.Cut.{cut_times}
use Rattle.texts.specs.Marks.{around_first}
use Rattle.std.proofs.lemmas.Bool.{cond-true, cond-false}

-- these characters in front of the first part
abbrev pub with_start : List ℕ → List (List ℕ) → List (List ℕ)
with_start start [] = start ∷ []
with_start start (part ∷ parts) = (start ++ part) ∷ parts

none_before : (c : ℕ) (parts : List (List ℕ)) → with_start [] (onto_first c parts) ≡ onto_first c parts
none_before c [] = refl
none_before c (part ∷ parts) = refl

none_before_either : (b : Bool) (xs ys : List (List ℕ)) → with_start [] xs ≡ xs → with_start [] ys ≡ ys → with_start [] (cond b xs ys) ≡ cond b xs ys
none_before_either true xs ys first second = first
none_before_either false xs ys first second = second

pub starts : (p : ℕ → Bool) (text : List ℕ) → with_start [] (slice_split p text) ≡ slice_split p text
starts p [] = refl
starts p (c ∷ cs) = none_before_either (p c) ([] ∷ slice_split p cs) (onto_first c (slice_split p cs)) refl (none_before c (slice_split p cs))

one_more : (start : List ℕ) (c : ℕ) (parts : List (List ℕ)) → with_start (start ++ c ∷ []) parts ≡ with_start start (onto_first c parts)
one_more start c [] = refl
one_more start c (part ∷ parts) = ap (λ first. first ∷ parts) (append_assoc start (c ∷ []) part)

-- at a mark a part ends
pub at_mark : (p : ℕ → Bool) (parts : List (List ℕ)) (part : List ℕ) (c : ℕ) (cs : List ℕ) → p c ≡ true
    → (parts ++ part ∷ []) ++ with_start [] (slice_split p cs) ≡ parts ++ with_start part (slice_split p (c ∷ cs))
at_mark p parts part c cs is =
    append_assoc parts (part ∷ []) (with_start [] (slice_split p cs))
    ∙ ap (λ others. parts ++ part ∷ others) (starts p cs)
    ∙ ap (λ first. parts ++ first ∷ slice_split p cs) (sym (append-nil part))
    ∙ ap (λ all. parts ++ with_start part all) (sym (cond-true (p c) ([] ∷ slice_split p cs) (onto_first c (slice_split p cs)) is))

-- another character goes on with the part
pub at_other : (p : ℕ → Bool) (parts : List (List ℕ)) (part : List ℕ) (c : ℕ) (cs : List ℕ) → p c ≡ false
    → parts ++ with_start (part ++ c ∷ []) (slice_split p cs) ≡ parts ++ with_start part (slice_split p (c ∷ cs))
at_other p parts part c cs is =
    ap (λ all. parts ++ all) (one_more part c (slice_split p cs))
    ∙ ap (λ all. parts ++ with_start part all) (sym (cond-false (p c) ([] ∷ slice_split p cs) (onto_first c (slice_split p cs)) is))

-- one part more is cut off
pub one_cut : (mark left : ℕ) (parts : List (List ℕ)) (part behind cs : List ℕ) (all : List (List ℕ)) → 0 < left → around_first mark cs ≡ Some (part, behind)
    → parts ++ cut_times mark left cs ≡ all → (parts ++ part ∷ []) ++ cut_times mark (left - 1) behind ≡ all
one_cut mark zero parts part behind cs all some found before = absurd (omega arith)
one_cut mark (suc n) parts part behind cs all some found before =
    let less : suc n - 1 ≡ n = omega arith in
    append_assoc parts (part ∷ []) (cut_times mark (suc n - 1) behind)
    ∙ ap (λ k. parts ++ part ∷ cut_times mark k behind) less
    ∙ ap (λ (o : Option (List ℕ × List ℕ)). parts ++ elim o [ Some halves ↦ halves.0 ∷ cut_times mark n halves.1 | None ↦ cs ∷ [] ]) (sym found)
    ∙ before
