-- The parts of a text between marks, at its first mark and without one.
use Rattle.std.proofs.Common.{◌≡◌, ℕ, ◌<◌, ◌+◌, Bool, true, false, if◌then◌else◌, cond, List, [], ◌∷◌, length, Option, None, Some, arith, refl, ap, ◌∙◌}
use Rattle.std.specs.Prelude.{nat_eq, option_map}
use Rattle.std.specs.List.{last_or, onto_first}
use Rattle.std.specs.Option.{unwrap_or}
use Rattle.texts.specs.Cut.{cut, is_among}
use Rattle.texts.specs.Marks.{around_first}
use Rattle.resp_parser.specs.Errors.{behind_last}

abbrev Halves : Type 0
Halves = Option (List ℕ × List ℕ)

-- the halves of a text with one character more, which may be the mark
abbrev longer : ℕ → List ℕ → Bool → Halves → Halves
longer c cs is halves = if is then Some ([], cs) else option_map (λ (h : List ℕ × List ℕ). (c ∷ h.0, h.1)) halves

abbrev front-of : Halves → List ℕ
front-of None = []
front-of (Some halves) = halves.0

abbrev back-of : Halves → List ℕ
back-of None = []
back-of (Some halves) = halves.1

module _ (mark : ℕ) where
  abbrev parts : List ℕ → List (List ℕ)
  parts text = cut (is_among (mark ∷ [])) text

  is-mark : (c : ℕ) → is_among (mark ∷ []) c ≡ nat_eq c mark
  is-mark c = grind arith

  -- a text that begins with this character, given what stands around the first mark in the rest
  with-mark : (c : ℕ) (cs : List ℕ) (is : Bool) (halves : Halves) (front back : List ℕ)
      → ((f b : List ℕ) → halves ≡ Some (f, b) → parts cs ≡ f ∷ parts b)
      → longer c cs is halves ≡ Some (front, back)
      → cond is ([] ∷ parts cs) (onto_first c (parts cs)) ≡ front ∷ parts back
  with-mark c cs true halves front back rest e = ap (λ f. f ∷ parts cs) (ap front-of e) ∙ ap (λ b. front ∷ parts b) (ap back-of e)
  with-mark c cs false None front back rest e = absurd (cc)
  with-mark c cs false (Some h) front back rest e =
      ap (onto_first c) (rest h.0 h.1 refl) ∙ ap (λ f. f ∷ parts h.1) (ap front-of e) ∙ ap (λ b. front ∷ parts b) (ap back-of e)

  pub first_part : (cs front back : List ℕ) → around_first mark cs ≡ Some (front, back) → parts cs ≡ front ∷ parts back
  first_part [] front back e = absurd (cc)
  first_part (c ∷ cs) front back e =
      ap (λ is. cond is ([] ∷ parts cs) (onto_first c (parts cs))) (is-mark c)
      ∙ with-mark c cs (nat_eq c mark) (around_first mark cs) front back (first_part cs) e

  without : (c : ℕ) (cs : List ℕ) (is : Bool) (halves : Halves) → (halves ≡ None → parts cs ≡ cs ∷ [])
      → longer c cs is halves ≡ None
      → cond is ([] ∷ parts cs) (onto_first c (parts cs)) ≡ (c ∷ cs) ∷ []
  without c cs true halves rest e = absurd (cc)
  without c cs false None rest e = ap (onto_first c) (rest refl)
  without c cs false (Some h) rest e = absurd (cc)

  pub one_part : (cs : List ℕ) → around_first mark cs ≡ None → parts cs ≡ cs ∷ []
  one_part [] e = refl
  one_part (c ∷ cs) e =
      ap (λ is. cond is ([] ∷ parts cs) (onto_first c (parts cs))) (is-mark c)
      ∙ without c cs (nat_eq c mark) (around_first mark cs) (one_part cs) e

  -- a text has a part at least, so that another before them isn't the last
  last-part : (part : List ℕ) (parts : List (List ℕ)) (c : ℕ) → last_or (Some part) (onto_first c parts) ≡ last_or None (onto_first c parts)
  last-part part [] c = refl
  last-part part (p ∷ ps) c = refl

  last-stays : (part cs : List ℕ) → last_or (Some part) (parts cs) ≡ last_or None (parts cs)
  last-stays part [] = refl
  last-stays part (c ∷ cs) =
      elim (is_among (mark ∷ []) c) as (λ is. last_or (Some part) (cond is ([] ∷ parts cs) (onto_first c (parts cs))) ≡ last_or None (cond is ([] ∷ parts cs) (onto_first c (parts cs))))
      [ true ↦ refl | false ↦ last-part part (parts cs) c ]

  pub behind_first : (cs front back : List ℕ) → around_first mark cs ≡ Some (front, back) → behind_last mark cs ≡ behind_last mark back
  behind_first cs front back e =
      ap (λ ps. unwrap_or (last_or None ps) []) (first_part cs front back e) ∙ ap (λ o. unwrap_or o []) (last-stays front back)

  pub behind_all : (cs : List ℕ) → around_first mark cs ≡ None → behind_last mark cs ≡ cs
  behind_all cs e = ap (λ ps. unwrap_or (last_or None ps) []) (one_part cs e)

  less : (c : ℕ) (cs : List ℕ) (is : Bool) (halves : Halves) (front back : List ℕ)
      → ((f b : List ℕ) → halves ≡ Some (f, b) → length b < length cs)
      → longer c cs is halves ≡ Some (front, back) → length back < length cs + 1
  less c cs true halves front back rest e = let same = ap (λ o. length (back-of o)) e in omega arith
  less c cs false None front back rest e = absurd (cc)
  less c cs false (Some h) front back rest e = let same = ap (λ o. length (back-of o)) e in let shorter = rest h.0 h.1 refl in omega arith

  pub is_shorter : (cs front back : List ℕ) → around_first mark cs ≡ Some (front, back) → length back < length cs
  is_shorter [] front back e = absurd (cc)
  is_shorter (c ∷ cs) front back e = let shorter = less c cs (nat_eq c mark) (around_first mark cs) front back (is_shorter cs) e in omega arith
