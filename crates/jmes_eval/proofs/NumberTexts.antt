-- Texts that are numbers, and what reading them as documents gives.
use Rattle.std.proofs.Common.{◌≡◌, ℕ, Bool, true, false, not, ◌&&◌, ◌||◌, List, [], ◌∷◌, ◌++◌, None, Some, Ok, Err, refl, sym, ap, ◌∙◌, subst}
use Rattle.std.specs.List.{list_any}
use Rattle.std.specs.Prelude.{if◌then◌else◌}
use Rattle.std.proofs.lemmas.Bool.{false≢true}
use Rattle.json_doc.specs.declared.decimal.Decimal.{Decimal}
use Rattle.json_doc.specs.declared.doc.Doc as doc
use Rattle.json_doc.specs.declared.doc.Doc.{Doc, the_lemmas}
use Rattle.json_doc.specs.Exact.{HasValue}
use Rattle.json_doc.specs.Grammar.{Reads, is_blank}
use Rattle.json_doc.specs.NumberToken.{Number, number_at, value_of, ReadsNumber, read, too_wide, broken}
use Rattle.json_doc.specs.Reading.{Read}
use Rattle.json_doc.specs.Scan.{Value, number, made, skipped, begins_number, whole, ended, Scans}
use Rattle.json_doc.proofs.Complete.{text_complete}
use Rattle.json_doc.proofs.NumberLaws.{number_total}
use Rattle.json_doc.proofs.Once.{text_once}
use Rattle.json_doc.proofs.Sound.{text_sound}
use Rattle.json_doc.proofs.WholeNumbers.{number_at-begins}
use Rattle.jmes_eval.specs.Kinds.{number_of}
use Rattle.jmes_eval.specs.Numbers.{read_in, if_whole, is_bare, parsed_in}
use Rattle.jmes_eval.proofs.DecimalOf.{decimal_is, decimal_is_none}

or_left : (a b : Bool) → (a || b) ≡ false → a ≡ false
or_left true b e = e
or_left false b e = refl

or_right : (a b : Bool) → (a || b) ≡ false → b ≡ false
or_right true b e = absurd (false≢true (sym e))
or_right false b e = e

skipped-same : (bs : List ℕ) → list_any is_blank bs ≡ false → skipped bs ≡ bs
skipped-same [] e = refl
skipped-same (b ∷ bs) e = rw (or_left (is_blank b) (list_any is_blank bs) e) refl

any-behind : (xs ys : List ℕ) → list_any is_blank (xs ++ ys) ≡ false → list_any is_blank ys ≡ false
any-behind [] ys e = e
any-behind (x ∷ xs) ys e = any-behind xs ys (or_right (is_blank x) (list_any is_blank (xs ++ ys)) e)

-- what a number gives, when it is read as a decimal
abbrev IsParsed : List ℕ → Read Decimal → Type 0
IsParsed bs (Ok x) = (n : Number) × (number_at bs ≡ Ok (n, x.1)) × HasValue x.0 (value_of n)
IsParsed bs (Err stop) = read_in (number_at bs) ≡ None

no_value : (rest : List ℕ) → if_whole {A = Decimal} rest None ≡ None
no_value [] = refl
no_value (b ∷ bs) = refl

says : (bs : List ℕ) (o : Read Decimal) → ReadsNumber bs o → IsParsed bs o
says bs _ (read {n = n} e h) = (n, e, h)
says bs _ (too_wide {rest = rest} {n = n} e none) = ap read_in e ∙ ap (if_whole rest) (decimal_is_none (value_of n) none) ∙ no_value rest
says bs _ (broken e) = ap read_in e

parsed-from : (bs rest : List ℕ) (m : Decimal) → IsParsed bs (Ok (m, rest)) → read_in (number_at bs) ≡ if_whole rest (Some m)
parsed-from bs rest m p = ap read_in p.1 ∙ ap (if_whole rest) (decimal_is (value_of p.0) m p.2)

module _ (bs : List ℕ) (begins : begins_number bs ≡ true) (bare : list_any is_blank bs ≡ false) where
  rest-bare : (rest : List ℕ) (m : Decimal) → IsParsed bs (Ok (m, rest)) → skipped rest ≡ rest
  rest-bare rest m p =
      let front = number_at-begins bs p.0 rest p.1 in
      skipped-same rest (any-behind front.0 rest (ap (list_any is_blank) (sym front.2) ∙ bare))

  scans : (o : Read Decimal) → ReadsNumber bs o → Scans bs (whole (made doc.Number o))
  scans o r = (made doc.Number o, subst (λ x. Value 0 x (made doc.Number o)) (sym (skipped-same bs bare)) (number begins r), refl)

  number-Number : (m : Decimal) → number_of (doc.Number m) ≡ Some m
  number-Number m = search (the_lemmas)

  found-in : (d : Doc) (o : Read Decimal) → IsParsed bs o → Ok d ≡ whole (made doc.Number o) → read_in (number_at bs) ≡ number_of d
  found-in d (Err stop) p e = absurd cc
  found-in d (Ok x) p e = found-rest d x.0 x.1 p (e ∙ ap (ended (doc.Number x.0)) (rest-bare x.1 x.0 p))
    where
      found-rest : (d : Doc) (m : Decimal) (rest : List ℕ) → IsParsed bs (Ok (m, rest)) → Ok d ≡ ended (doc.Number m) rest → read_in (number_at bs) ≡ number_of d
      found-rest d m [] p e = let same : d ≡ doc.Number m = cc in parsed-from bs [] m p ∙ sym (number-Number m) ∙ ap number_of (sym same)
      found-rest d m (c ∷ cs) p e = absurd cc

  -- where the bytes are read as a document, they are the number that it is
  pub parsed-found : (d : Doc) → Reads bs d → read_in (number_at bs) ≡ number_of d
  parsed-found d r =
      let t = number_total bs in
      found-in d t.0 (says bs t.0 t.1) (text_once bs (Ok d) (whole (made doc.Number t.0)) (text_complete bs d r) (scans t.0 t.1))

  none-in : (o : Read Decimal) → IsParsed bs o → ReadsNumber bs o → ((d : Doc) → Reads bs d → ⊥) → read_in (number_at bs) ≡ None
  none-in (Err stop) p r none = p
  none-in (Ok x) p r none = none-rest x.0 x.1 p (subst (λ o. Scans bs o) (ap (ended (doc.Number x.0)) (rest-bare x.1 x.0 p)) (scans (Ok x) r)) none
    where
      none-rest : (m : Decimal) (rest : List ℕ) → IsParsed bs (Ok (m, rest)) → Scans bs (ended (doc.Number m) rest) → ((d : Doc) → Reads bs d → ⊥) → read_in (number_at bs) ≡ None
      none-rest m [] p s none = absurd (none (doc.Number m) (text_sound bs (doc.Number m) s))
      none-rest m (c ∷ cs) p s none = parsed-from bs (c ∷ cs) m p

  -- where they are read as none, they are no number
  pub parsed-none : ((d : Doc) → Reads bs d → ⊥) → read_in (number_at bs) ≡ None
  parsed-none none = let t = number_total bs in none-in t.0 (says bs t.0 t.1) t.1 none

-- Both, at bytes that are tested.

bare-begins : (b c : Bool) → (b && not c) ≡ true → b ≡ true
bare-begins true c e = refl
bare-begins false c e = e

bare-blank : (b c : Bool) → (b && not c) ≡ true → c ≡ false
bare-blank true true e = absurd (false≢true e)
bare-blank true false e = refl
bare-blank false c e = absurd (false≢true e)

pub text-found : (bs : List ℕ) (d : Doc) → is_bare bs ≡ true → Reads bs d → parsed_in bs ≡ number_of d
text-found bs d e r = ap (λ b. if b then read_in (number_at bs) else None) e ∙ parsed-found bs (bare-begins (begins_number bs) (list_any is_blank bs) e) (bare-blank (begins_number bs) (list_any is_blank bs) e) d r

pub text-none : (bs : List ℕ) → is_bare bs ≡ true → ((d : Doc) → Reads bs d → ⊥) → parsed_in bs ≡ None
text-none bs e none = ap (λ b. if b then read_in (number_at bs) else None) e ∙ parsed-none bs (bare-begins (begins_number bs) (list_any is_blank bs) e) (bare-blank (begins_number bs) (list_any is_blank bs) e) none

pub text-other : (bs : List ℕ) → is_bare bs ≡ false → parsed_in bs ≡ None
text-other bs e = ap (λ b. if b then read_in (number_at bs) else None) e
