-- What holds of a document as a tree holds of its items and of its fields.
use Rattle.std.proofs.Common.{◌≡◌, ℕ, ◌+◌, Bool, true, List, [], ◌∷◌, map, Result, Ok, Err, refl, sym, ap, ◌∙◌, subst, rules}
use Rattle.std.specs.Prelude.{IfOk}
use Rattle.std.specs.List.{AllByRecursion}
use Rattle.std.specs.Str.{chars, IsUtf8}
use Rattle.std.proofs.Math.Utf8.{scalars}
use Rattle.std.proofs.lemmas.Bool.{and_parts}
use Rattle.std.proofs.lemmas.Str.{scalars-chars}
use Rattle.json_doc.specs.declared.doc.Doc.{Doc, the_lemmas, map-Doc, out-Doc, roll-Doc}
use Rattle.json_doc.specs.declared.doc.Doc.TheVariants.{Null, Flag, Number, Str, Items, Fields, rolls-Null, rolls-Flag, rolls-Number, rolls-Str, rolls-Items, rolls-Fields}
use Rattle.json_doc.specs.declared.doc.Doc.TheOpen.{Doc-F}
use Rattle.json_doc.specs.declared.doc.Doc.TheFolds.{fold-roll-Doc, every_here-Doc, every_held-Doc, every_made-Doc}
use Rattle.json_doc.specs.declared.decimal.Decimal.{Decimal}
use Rattle.texts.specs.declared.pairs.Pair.{Pair}
use Rattle.json_doc.specs.Documents.{greatest, depth_of, depth_step, IsProper, IsProperValue, IsProperField}
use Rattle.texts.specs.Characters.{IsText}
use Rattle.texts.specs.Keys.{keys, IsDistinct}

out-Str : (t : List ℕ) → out-Doc (Str t) ≡ Doc-F.Str t
out-Str t = search (rules, the_lemmas)

out-Items : (ds : List Doc) → out-Doc (Items ds) ≡ Doc-F.Items ds
out-Items ds = search (rules, the_lemmas)

out-Fields : (ps : List (Pair Doc)) → out-Doc (Fields ps) ≡ Doc-F.Fields ps
out-Fields ps = search (rules, the_lemmas)

-- a document with what is known of it
abbrev Known : Type 0
Known = (d : Doc) × IsProper d

items_of : {X : Type 0} → Doc-F X → List X
items_of (Doc-F.Items xs) = xs
items_of others = []

fields_of : {X : Type 0} → Doc-F X → List (Pair X)
fields_of (Doc-F.Fields ps) = ps
fields_of others = []

pub text-IsText : (t : List ℕ) → IsProper (Str t) → IsText t
text-IsText t proper = subst IsProperValue (out-Str t) (every_here-Doc IsProperValue (Str t) proper)

pub items-IsProper : (ds : List Doc) → IsProper (Items ds) → AllByRecursion IsProper ds
unfolding items_of
items-IsProper ds proper =
    let held = every_held-Doc IsProperValue (Items ds) proper in
    subst (AllByRecursion IsProper) (sym (same held.0) ∙ ap items_of (held.1 ∙ out-Items ds)) (known (items_of held.0))
  where
    same : (y : Doc-F Known) → items_of (map-Doc Known Doc (λ e. e.0) y) ≡ map (λ e. e.0) (items_of y)
    same Doc-F.Null = refl
    same (Doc-F.Flag b) = refl
    same (Doc-F.Number n) = refl
    same (Doc-F.Str t) = refl
    same (Doc-F.Items xs) = refl
    same (Doc-F.Fields ps) = refl

    known : (es : List Known) → AllByRecursion IsProper (map (λ e. e.0) es)
    known [] = tt
    known (e ∷ es) = (e.1, known es)

pub fields-IsProper : (ps : List (Pair Doc)) → IsProper (Fields ps) → AllByRecursion (λ p. IsProper p.value) ps
unfolding fields_of
fields-IsProper ps proper =
    let held = every_held-Doc IsProperValue (Fields ps) proper in
    subst (AllByRecursion (λ p. IsProper p.value)) (sym (same held.0) ∙ ap fields_of (held.1 ∙ out-Fields ps)) (known (fields_of held.0))
  where
    plain : Pair Known → Pair Doc
    plain p = record { key = p.key; value = p.value.0 }

    same : (y : Doc-F Known) → fields_of (map-Doc Known Doc (λ e. e.0) y) ≡ map plain (fields_of y)
    same Doc-F.Null = refl
    same (Doc-F.Flag b) = refl
    same (Doc-F.Number n) = refl
    same (Doc-F.Str t) = refl
    same (Doc-F.Items xs) = refl
    same (Doc-F.Fields ps) = refl

    known : (es : List (Pair Known)) → AllByRecursion (λ p. IsProper p.value) (map plain es)
    known [] = tt
    known (e ∷ es) = (e.value.1, known es)

-- the keys of an object are texts, and none stands twice
pub keys-IsProper : (ps : List (Pair Doc)) → IsProper (Fields ps) → AllByRecursion IsText (keys ps) × IsDistinct (keys ps)
keys-IsProper ps proper = subst IsProperValue (out-Fields ps) (every_here-Doc IsProperValue (Fields ps) proper)

-- What holds of the parts makes the whole.

-- the characters of bytes in UTF-8 are a text
pub text_from : (t bs : List ℕ) → IsUtf8 bs → chars bs ≡ t → IsText t
text_from t bs utf8 same = subst IsText same (texts (chars bs) (scalars-chars bs utf8))
  where
    texts : (cs : List ℕ) → scalars cs ≡ true → IsText cs
    texts [] all = tt
    texts (c ∷ cs) all = let both = and_parts _ _ all in (both.0, texts cs both.1)

made : (x : Doc-F Doc) (y : Doc-F Known) (d : Doc) → map-Doc Known Doc (λ e. e.0) y ≡ x → roll-Doc x ≡ d → IsProperValue x → IsProper d
made x y d same rolls value = subst IsProper rolls (every_made-Doc IsProperValue x y same value)

pub IsProper-Null : IsProper Null
IsProper-Null = made Doc-F.Null Doc-F.Null Null refl rolls-Null tt

pub IsProper-Flag : (flag : Bool) → IsProper (Flag flag)
IsProper-Flag flag = made (Doc-F.Flag flag) (Doc-F.Flag flag) (Flag flag) refl (rolls-Flag flag) tt

pub IsProper-Number : (n : Decimal) → IsProper (Number n)
IsProper-Number n = made (Doc-F.Number n) (Doc-F.Number n) (Number n) refl (rolls-Number n) tt

pub IsProper-Str : (t : List ℕ) → IsText t → IsProper (Str t)
IsProper-Str t text = made (Doc-F.Str t) (Doc-F.Str t) (Str t) refl (rolls-Str t) text

pub IsProper-Items : (ds : List Doc) → AllByRecursion IsProper ds → IsProper (Items ds)
IsProper-Items ds all = made (Doc-F.Items ds) (Doc-F.Items (known ds all)) (Items ds) (ap Doc-F.Items (same ds all)) (rolls-Items ds) tt
  where
    known : (ds : List Doc) → AllByRecursion IsProper ds → List Known
    known [] all = []
    known (d ∷ ds) all = (d, all.0) ∷ known ds all.1

    same : (ds : List Doc) (all : AllByRecursion IsProper ds) → map (λ e. e.0) (known ds all) ≡ ds
    same [] all = refl
    same (d ∷ ds) all = ap (λ es. d ∷ es) (same ds all.1)

pub IsProper-Fields : (ps : List (Pair Doc)) → AllByRecursion IsProperField ps → IsDistinct (keys ps) → IsProper (Fields ps)
IsProper-Fields ps all distinct = made (Doc-F.Fields ps) (Doc-F.Fields (known ps all)) (Fields ps) (ap Doc-F.Fields (same ps all)) (rolls-Fields ps) (texts ps all, distinct)
  where
    known : (ps : List (Pair Doc)) → AllByRecursion IsProperField ps → List (Pair Known)
    known [] all = []
    known (p ∷ ps) all = record { key = p.key; value = (p.value, all.0.1) } ∷ known ps all.1

    same : (ps : List (Pair Doc)) (all : AllByRecursion IsProperField ps) → map (λ e. record { key = e.key; value = e.value.0 }) (known ps all) ≡ ps
    same [] all = refl
    same (p ∷ ps) all = ap (λ es. p ∷ es) (same ps all.1)

    texts : (ps : List (Pair Doc)) → AllByRecursion IsProperField ps → AllByRecursion IsText (keys ps)
    texts [] all = tt
    texts (p ∷ ps) all = (all.0.0, texts ps all.1)

-- Depths.

pub depth-Items : (ds : List Doc) → depth_of (Items ds) ≡ greatest (map depth_of ds) + 1
depth-Items ds = ap depth_of (sym (rolls-Items ds)) ∙ fold-roll-Doc ℕ depth_step (Doc-F.Items ds)

pub depth-Fields : (ps : List (Pair Doc)) → depth_of (Fields ps) ≡ greatest (map (λ p. depth_of p.value) ps) + 1
depth-Fields ps = ap depth_of (sym (rolls-Fields ps)) ∙ fold-roll-Doc ℕ depth_step (Doc-F.Fields ps) ∙ ap (λ ns. greatest ns + 1) (values ps)
  where
    depth_at : Pair Doc → Pair ℕ
    depth_at p = record { key = p.key; value = depth_of p.value }

    values : (ps : List (Pair Doc)) → map (λ p. p.value) (map depth_at ps) ≡ map (λ p. depth_of p.value) ps
    values [] = refl
    values (p ∷ ps) = ap (λ ns. depth_of p.value ∷ ns) (values ps)

-- a scalar nests nothing
pub depth-scalars : (depth_of Null ≡ 0) × ((flag : Bool) → depth_of (Flag flag) ≡ 0) × ((n : Decimal) → depth_of (Number n) ≡ 0) × ((t : List ℕ) → depth_of (Str t) ≡ 0)
depth-scalars = (
  ap depth_of (sym rolls-Null) ∙ fold-roll-Doc ℕ depth_step Doc-F.Null,
  λ flag. ap depth_of (sym (rolls-Flag flag)) ∙ fold-roll-Doc ℕ depth_step (Doc-F.Flag flag),
  λ n. ap depth_of (sym (rolls-Number n)) ∙ fold-roll-Doc ℕ depth_step (Doc-F.Number n),
  λ t. ap depth_of (sym (rolls-Str t)) ∙ fold-roll-Doc ℕ depth_step (Doc-F.Str t),
)

-- what holds anyway holds after Ok
pub if_ok : {A E : Type 0} (r : Result A E) (P : Type 0) → P → IfOk r (λ _. P)
if_ok (Ok x) P holds = holds
if_ok (Err e) P holds = tt
