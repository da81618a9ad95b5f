-- What stands along a path, one part further.
use Rattle.std.proofs.Common.{◌≡◌, ◌<◌, ◌≤◌, ◌+◌, ℕ, Bool, false, List, [], ◌∷◌, length, drop, get_or, refl, sym, ap, ◌∙◌, arith, Option, None, Some, nat_eq}
use Rattle.std.proofs.lemmas.Bool.{ne_eqb}
use Rattle.std.proofs.lemmas.List.{at_drop_more, at_drop_all}
use Rattle.json_doc.specs.declared.doc.Doc.{Doc}
use Rattle.rule_terms.specs.Attributes.{along, step_of}

along_none : (is_first : Bool) (parts : List (List ℕ)) → along is_first parts None ≡ None
along_none is_first [] = refl
along_none is_first (part ∷ parts) = along_none false parts

one_part : (parts : List (List ℕ)) (i : ℕ) (part : List ℕ) (value : Doc) → i < length parts → part ≡ get_or parts i part
    → along (nat_eq i 0) (drop i parts) (Some value) ≡ along false (drop (i + 1) parts) (step_of (nat_eq i 0) part value)
one_part parts i part value within is =
    at_drop_more (λ ps. along (nat_eq i 0) ps (Some value)) parts i part within
    ∙ ap (λ p. along false (drop (i + 1) parts) (step_of (nat_eq i 0) p value)) (sym is)

pub found_none : (parts : List (List ℕ)) (i : ℕ) (part : List ℕ) (value : Doc) (all : Option Doc) → i < length parts → part ≡ get_or parts i part
    → step_of (nat_eq i 0) part value ≡ None → along (nat_eq i 0) (drop i parts) (Some value) ≡ all → None ≡ all
found_none parts i part value all within is none before =
    sym (along_none false (drop (i + 1) parts)) ∙ ap (along false (drop (i + 1) parts)) (sym none) ∙ sym (one_part parts i part value within is) ∙ before

pub found_some : (parts : List (List ℕ)) (i : ℕ) (part : List ℕ) (value next : Doc) (all : Option Doc) → i < length parts → part ≡ get_or parts i part
    → step_of (nat_eq i 0) part value ≡ Some next → along (nat_eq i 0) (drop i parts) (Some value) ≡ all → along (nat_eq (i + 1) 0) (drop (i + 1) parts) (Some next) ≡ all
found_some parts i part value next all within is some before =
    ap (λ b. along b (drop (i + 1) parts) (Some next)) (ne_eqb (i + 1) 0 (λ z. omega arith))
    ∙ ap (along false (drop (i + 1) parts)) (sym some) ∙ sym (one_part parts i part value within is) ∙ before

pub found_all : (parts : List (List ℕ)) (i : ℕ) (value : Doc) (all : Option Doc) → length parts ≤ i
    → along (nat_eq i 0) (drop i parts) (Some value) ≡ all → Some value ≡ all
found_all parts i value all past before = sym (at_drop_all (λ ps. along (nat_eq i 0) ps (Some value)) parts i past) ∙ before
