-- Words that fit the parts of a pattern.
use Rattle.std.proofs.Common.{◌≡◌, ◌≢◌, ◌<◌, ◌≤◌, ◌+◌, ◌-◌, ℕ, nat_eq, ⊎_elim, suc, Bool, true, false, List, [], ◌∷◌, ◌++◌, length, drop, get_or, refl, sym, ap, ◌∙◌, append_assoc, arith, Option, None, Some}
use Rattle.std.specs.Prelude.{◌&&◌, option_map, option_and_then}
use Rattle.std.proofs.lemmas.Bool.{eq-eqb, ne_eqb}
use Rattle.std.proofs.lemmas.Bool.Decides.{eqb_tells}
use Rattle.std.proofs.lemmas.List.{at_drop_more, length-drop}
use Rattle.rule_terms.specs.declared.pattern.Part.{Part}
use Rattle.rule_terms.specs.Patterns.{all_fit, part_fits, parts_of, is_last, before_hyphen, part_of}

and_false : (b : Bool) → (b && false) ≡ false
and_false true = refl
and_false false = refl

-- other numbers of words don't fit
pub other_number : (parts : List Part) (words : List (List ℕ)) → length parts ≢ length words → all_fit parts words ≡ false
other_number [] [] other = absurd (other refl)
other_number [] (word ∷ words) other = refl
other_number (part ∷ parts) [] other = refl
other_number (part ∷ parts) (word ∷ words) other =
    ap (λ b. part_fits part word && b) (other_number parts words (λ same. other (ap suc same))) ∙ and_false (part_fits part word)

-- which pieces are the last

last_length : {A : Type 0} (xs : List A) → is_last xs ≡ nat_eq (length xs) 0
last_length [] = refl
last_length (x ∷ xs) = sym (ne_eqb (length (x ∷ xs)) 0 (λ none. omega arith))

none_left : (n m : ℕ) → n ≤ m → nat_eq (m - n) 0 ≡ nat_eq n m
none_left n m within = ⊎_elim
    (λ (t : (nat_eq n m ≡ true) × (n ≡ m)). let none : m - n ≡ 0 = omega (arith, t.1) in eq-eqb (m - n) 0 none ∙ sym t.0)
    (λ (t : (nat_eq n m ≡ false) × (n ≢ m)). ne_eqb (m - n) 0 (λ none. t.1 (omega arith)) ∙ sym t.0) (eqb_tells n m)

last_same : {A : Type 0} (xs : List A) (n : ℕ) → n ≤ length xs → is_last (drop n xs) ≡ nat_eq n (length xs)
last_same xs n within = last_length (drop n xs) ∙ ap (λ k. nat_eq k 0) (length-drop n xs) ∙ none_left n (length xs) within

one_more : (made : List Part) (part : Part) (others : Option (List Part))
    → option_map (λ (ps : List Part). (made ++ part ∷ []) ++ ps) others ≡ option_map (λ (ps : List Part). made ++ ps) (option_map (λ (ps : List Part). part ∷ ps) others)
one_more made part None = refl
one_more made part (Some ps) = ap Some (append_assoc made (part ∷ []) ps)

-- with one part more in front, the pieces left give what all give
pub part_goes : (pieces : List (List ℕ)) (i : ℕ) (piece text : List ℕ) (part : Part) (made : List Part) (all : Option (List Part))
    → i < length pieces → piece ≡ get_or pieces i piece → before_hyphen (nat_eq (i + 1) (length pieces)) piece ≡ Some text → part_of text ≡ Some part
    → option_map (λ (ps : List Part). made ++ ps) (parts_of (drop i pieces)) ≡ all
    → option_map (λ (ps : List Part). (made ++ part ∷ []) ++ ps) (parts_of (drop (i + 1) pieces)) ≡ all
part_goes pieces i piece text part made all within is before one so_far =
    let first : Option Part → Option (List Part) = λ (o : Option Part). option_and_then (λ (p : Part). option_map (λ (ps : List Part). p ∷ ps) (parts_of (drop (i + 1) pieces))) o in
    one_more made part (parts_of (drop (i + 1) pieces))
    ∙ ap (λ o. option_map (λ (ps : List Part). made ++ ps) (first o)) (sym one)
    ∙ ap (λ o. option_map (λ (ps : List Part). made ++ ps) (first (option_and_then part_of o))) (sym before)
    ∙ ap (λ b. option_map (λ (ps : List Part). made ++ ps) (first (option_and_then part_of (before_hyphen b piece)))) (sym (last_same pieces (i + 1) (omega arith)))
    ∙ ap (λ p. option_map (λ (ps : List Part). made ++ ps) (first (option_and_then part_of (before_hyphen (is_last (drop (i + 1) pieces)) p)))) is
    ∙ ap (option_map (λ (ps : List Part). made ++ ps)) (sym (at_drop_more parts_of pieces i piece within))
    ∙ so_far
