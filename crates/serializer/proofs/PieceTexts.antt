-- What each character of a template passes, each of its pieces' texts passes.
use Rattle.std.proofs.Common.{◌≡◌, ℕ, Bool, true, false, cond, List, [], ◌∷◌, Option, None, Some, refl, ◌∙◌, if◌then◌else◌}
use Rattle.std.specs.Prelude.{nat_eq, flat_map, option_map}
use Rattle.std.specs.Cmp.Derive.{both_true}
use Rattle.std.specs.List.{list_all, slice_split, onto_first}
use Rattle.std.proofs.lemmas.Bool.{and_parts}
use Rattle.std.proofs.lemmas.List.Folds.{list_all-append}
use Rattle.texts.specs.Cut.{cut, is_among}
use Rattle.texts.specs.Marks.{around_first, without_last}
use Rattle.uri_texts.specs.declared.templates.Piece.{Piece}
use Rattle.uri_texts.specs.declared.templates.Piece.TheVariants.{Plain, Label}
use Rattle.uri_texts.specs.Templates.{pieces_behind, pieces_between, pieces}

-- the text of a piece passes, unless it is a label
abbrev pub has_text : (ℕ → Bool) → Piece → Bool
has_text p (Plain text) = list_all p text
has_text p (Label name is_greedy) = true

module _ (p : ℕ → Bool) (brace : p 123 ≡ true) where
  onto : (c : ℕ) (parts : List (List ℕ)) → p c ≡ true → list_all (list_all p) parts ≡ true → list_all (list_all p) (onto_first c parts) ≡ true
  onto c [] h k = both_true (both_true h refl) refl
  onto c (part ∷ parts) h k =
      let both = and_parts (list_all p part) (list_all (list_all p) parts) k in
      both_true (both_true h both.0) both.1

  either_parts : (b : Bool) (xs ys : List (List ℕ)) → list_all (list_all p) xs ≡ true → list_all (list_all p) ys ≡ true → list_all (list_all p) (cond b xs ys) ≡ true
  either_parts true xs ys h k = h
  either_parts false xs ys h k = k

  cut_has : (q : ℕ → Bool) (text : List ℕ) → list_all p text ≡ true → list_all (list_all p) (slice_split q text) ≡ true
  cut_has q [] h = refl
  cut_has q (c ∷ cs) h =
      let both = and_parts (p c) (list_all p cs) h in
      let rest = cut_has q cs both.1 in
      either_parts (q c) ([] ∷ slice_split q cs) (onto_first c (slice_split q cs)) (both_true refl rest) (onto c (slice_split q cs) both.0 rest)

  abbrev pub Halves : Option (List ℕ × List ℕ) → Type 0
  Halves None = Unit {0}
  Halves (Some halves) = (list_all p halves.0 ≡ true) × (list_all p halves.1 ≡ true)

  halves_if : (b : Bool) (c : ℕ) (cs : List ℕ) (found : Option (List ℕ × List ℕ)) → p c ≡ true → list_all p cs ≡ true → Halves found
      → Halves (if b then Some ([], cs) else option_map (λ halves. (c ∷ halves.0, halves.1)) found)
  halves_if true c cs found h k f = (refl, k)
  halves_if false c cs None h k f = tt
  halves_if false c cs (Some halves) h k f = (both_true h f.0, f.1)

  pub halves_have : (mark : ℕ) (text : List ℕ) → list_all p text ≡ true → Halves (around_first mark text)
  halves_have mark [] h = tt
  halves_have mark (c ∷ cs) h =
      let both = and_parts (p c) (list_all p cs) h in
      halves_if (nat_eq c mark) c cs (around_first mark cs) both.0 both.1 (halves_have mark cs both.1)

  label_has : (found : Option (List ℕ)) (name : List ℕ)
      → has_text p (elim found [ Some front ↦ Label front true | None ↦ Label name false ]) ≡ true
  label_has None name = refl
  label_has (Some front) name = refl

  behind_has : (found : Option (List ℕ × List ℕ)) (part : List ℕ) → list_all p part ≡ true → Halves found
      → list_all (has_text p) (elim found [
        | Some halves ↦ (elim (without_last 43 halves.0) [ Some front ↦ Label front true | None ↦ Label halves.0 false ]) ∷ Plain halves.1 ∷ []
        | None ↦ Plain (123 ∷ part) ∷ []
      ])
      ≡ true
  behind_has None part h f = both_true (both_true brace h) refl
  behind_has (Some halves) part h f = both_true (label_has (without_last 43 halves.0) halves.0) (both_true f.1 refl)

  parts_have : (parts : List (List ℕ)) → list_all (list_all p) parts ≡ true → list_all (has_text p) (flat_map pieces_behind parts) ≡ true
  parts_have [] h = refl
  parts_have (part ∷ parts) h =
      let both = and_parts (list_all p part) (list_all (list_all p) parts) h in
      list_all-append (has_text p) (pieces_behind part) (flat_map pieces_behind parts)
      ∙ both_true (behind_has (around_first 125 part) part both.0 (halves_have 125 part both.0)) (parts_have parts both.1)

  between_has : (parts : List (List ℕ)) → list_all (list_all p) parts ≡ true → list_all (has_text p) (pieces_between parts) ≡ true
  between_has [] h = refl
  between_has (text ∷ parts) h =
      let both = and_parts (list_all p text) (list_all (list_all p) parts) h in
      both_true both.0 (parts_have parts both.1)

  pub pieces_have : (template : List ℕ) → list_all p template ≡ true → list_all (has_text p) (pieces template) ≡ true
  pieces_have template h = between_has (cut (is_among (123 ∷ [])) template) (cut_has (is_among (123 ∷ [])) template h)
