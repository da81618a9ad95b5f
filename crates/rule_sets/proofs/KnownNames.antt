-- The names at a place begin with those around it.
use Rattle.std.proofs.Common.{◌≡◌, ◌≤◌, List, [], ◌∷◌, ◌++◌, take, length, Option, None, Some, refl, sym, ap, ◌∙◌, subst, arith, ℕ}
use Rattle.std.specs.Prelude.{codes}
use Rattle.std.specs.Str.{chars}
use Rattle.std.proofs.lemmas.List.{take-append-le, length-append}
use Rattle.json_doc.specs.declared.doc.Doc.{Doc}
use Rattle.texts.proofs.Texts.{chars_ascii}
use Rattle.rule_terms.specs.Attributes.{member_of}
use Rattle.rule_terms.specs.Seen.{text_in}
use Rattle.rule_sets.specs.Names.{Known, with_name, with_condition, with_conditions}

pub record Begins (old : Known) (new : Known) : Type 0 where
  pub longer : length old ≤ length new
  pub same : take (length old) new ≡ old

take-whole : (known : Known) → take (length known) known ≡ known
take-whole [] = refl
take-whole (name ∷ known) = ap (λ names. name ∷ names) (take-whole known)

pub begins-self : (known : Known) → Begins known known
begins-self known = record { longer = omega arith; same = take-whole known }

begins-name : (old known : Known) (name : Option (List ℕ)) → Begins old known → Begins old (with_name known name)
begins-name old known None begins = begins
begins-name old known (Some name) begins =
    let count = length-append known (name ∷ []) in
    let longer = begins.longer in
    record { longer = omega arith; same = take-append-le (length old) known (name ∷ []) begins.longer ∙ begins.same }

pub begins-condition : (old known : Known) (condition : Doc) → Begins old known → Begins old (with_condition condition known)
begins-condition old known condition begins = begins-name old known (text_in (member_of (codes "assign") condition)) begins

pub begins-conditions : (conditions : List Doc) (old known : Known) → Begins old known → Begins old (with_conditions conditions known)
begins-conditions [] old known begins = begins
begins-conditions (c ∷ cs) old known begins = begins-conditions cs old (with_condition c known) (begins-condition old known c begins)

-- the names around conditions are left when those of the conditions are gone
module _ (conditions : List Doc) (old new : Known) (outer : ℕ) (is : outer ≡ length old) (same : new ≡ with_conditions conditions old) where
  around : Begins old (with_conditions conditions old)
  around = begins-conditions conditions old old (begins-self old)

  pub left-within : outer ≤ length new
  left-within = subst (λ names. outer ≤ length names) (sym same) (subst (λ n. n ≤ length (with_conditions conditions old)) (sym is) around.longer)

  pub left-same : take outer new ≡ old
  left-same = ap (λ n. take n new) is ∙ ap (take (length old)) same ∙ around.same

assigned : (condition : Doc) (found : Option Doc) (text : Option (List ℕ)) → found ≡ member_of (chars (codes "assign")) condition → text ≡ text_in found
    → text ≡ text_in (member_of (codes "assign") condition)
assigned condition found text at is = is ∙ ap text_in at ∙ ap (λ key. text_in (member_of key condition)) (chars_ascii (codes "assign") refl)

pub name-added : (condition : Doc) (known names : Known) (found : Option Doc) (text : Option (List ℕ)) (name : List ℕ)
    → found ≡ member_of (chars (codes "assign")) condition → text ≡ text_in found → text ≡ Some name → names ≡ known ++ name ∷ [] → names ≡ with_condition condition known
name-added condition known names found text name at is some added = added ∙ ap (with_name known) (sym some ∙ assigned condition found text at is)

pub none-added : (condition : Doc) (known : Known) (found : Option Doc) (text : Option (List ℕ))
    → found ≡ member_of (chars (codes "assign")) condition → text ≡ text_in found → text ≡ None → known ≡ with_condition condition known
none-added condition known found text at is none = ap (with_name known) (sym none ∙ assigned condition found text at is)
