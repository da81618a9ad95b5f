-- A document's outermost layer at each variant.
use Rattle.std.proofs.Common.{◌≡◌, ℕ, ◌+◌, ◌<◌, Bool, List, map, refl, ap, rules, arith}
use Rattle.std.specs.Prelude.{is_some}
use denote.Param.Weighed.{most}
use Rattle.json_doc.specs.declared.doc.Doc.{Doc, out-Doc, map-Doc, size-Doc, the_lemmas}
use Rattle.json_doc.specs.declared.doc.Doc.TheVariants.{Null, Flag, Number, Str, Items, Fields}
use Rattle.json_doc.specs.declared.doc.Doc.TheOpen.{Doc-F}
use Rattle.json_doc.specs.declared.decimal.Decimal.{Decimal}
use Rattle.texts.specs.declared.pairs.Pair.{Pair}
use Rattle.out_format.specs.Layers.{scalar_text, is_scalar, is_object, items_in, fields_in}

pub out-Null : out-Doc Null ≡ Doc-F.Null
out-Null = search (rules, the_lemmas)

pub out-Flag : (flag : Bool) → out-Doc (Flag flag) ≡ Doc-F.Flag flag
out-Flag flag = search (rules, the_lemmas)

pub out-Number : (n : Decimal) → out-Doc (Number n) ≡ Doc-F.Number n
out-Number n = search (rules, the_lemmas)

pub out-Str : (t : List ℕ) → out-Doc (Str t) ≡ Doc-F.Str t
out-Str t = search (rules, the_lemmas)

pub out-Items : (ds : List Doc) → out-Doc (Items ds) ≡ Doc-F.Items ds
out-Items ds = search (rules, the_lemmas)

pub out-Fields : (ps : List (Pair Doc)) → out-Doc (Fields ps) ≡ Doc-F.Fields ps
out-Fields ps = search (rules, the_lemmas)

-- what a layer keeps when its parts are others

pub text_kept : {X Y : Type 0} (f : X → Y) (x : Doc-F X) → scalar_text (map-Doc X Y f x) ≡ scalar_text x
text_kept f Doc-F.Null = refl
text_kept f (Doc-F.Flag flag) = refl
text_kept f (Doc-F.Number n) = refl
text_kept f (Doc-F.Str t) = refl
text_kept f (Doc-F.Items ds) = refl
text_kept f (Doc-F.Fields ps) = refl

pub scalar_kept : {X Y : Type 0} (f : X → Y) (x : Doc-F X) → is_scalar (map-Doc X Y f x) ≡ is_scalar x
scalar_kept f x = ap is_some (text_kept f x)

pub object_kept : {X Y : Type 0} (f : X → Y) (x : Doc-F X) → is_object (map-Doc X Y f x) ≡ is_object x
object_kept f Doc-F.Null = refl
object_kept f (Doc-F.Flag flag) = refl
object_kept f (Doc-F.Number n) = refl
object_kept f (Doc-F.Str t) = refl
object_kept f (Doc-F.Items ds) = refl
object_kept f (Doc-F.Fields ps) = refl

pub items_in-map : {X Y : Type 0} (f : X → Y) (x : Doc-F X) → items_in (map-Doc X Y f x) ≡ map f (items_in x)
items_in-map f Doc-F.Null = refl
items_in-map f (Doc-F.Flag flag) = refl
items_in-map f (Doc-F.Number n) = refl
items_in-map f (Doc-F.Str t) = refl
items_in-map f (Doc-F.Items ds) = refl
items_in-map f (Doc-F.Fields ps) = refl

abbrev pub on_value : {X Y : Type 0} → (X → Y) → Pair X → Pair Y
on_value f p = record { key = p.key; value = f p.value }

pub fields_in-map : {X Y : Type 0} (f : X → Y) (x : Doc-F X) → fields_in (map-Doc X Y f x) ≡ map (on_value f) (fields_in x)
fields_in-map f Doc-F.Null = refl
fields_in-map f (Doc-F.Flag flag) = refl
fields_in-map f (Doc-F.Number n) = refl
fields_in-map f (Doc-F.Str t) = refl
fields_in-map f (Doc-F.Items ds) = refl
fields_in-map f (Doc-F.Fields ps) = refl

-- items and members are smaller than the document in which they stand

pub items-smaller : (ds : List Doc) → size-Doc (Items ds) ≡ most size-Doc ds + 1
items-smaller ds = search (rules, arith, the_lemmas)

pub fields-smaller : (ps : List (Pair Doc)) → size-Doc (Fields ps) ≡ most (λ p. size-Doc p.value) ps + 1
fields-smaller ps = search (rules, arith, the_lemmas)

fields_within : (d : Doc) (x : Doc-F Doc) → out-Doc d ≡ x → most (λ p. size-Doc p.value) (fields_in x) < size-Doc d
fields_within d Doc-F.Null is = search (rules, arith, the_lemmas)
fields_within d (Doc-F.Flag flag) is = search (rules, arith, the_lemmas)
fields_within d (Doc-F.Number n) is = search (rules, arith, the_lemmas)
fields_within d (Doc-F.Str t) is = search (rules, arith, the_lemmas)
fields_within d (Doc-F.Items ds) is = search (rules, arith, the_lemmas)
fields_within d (Doc-F.Fields ps) is = search (rules, arith, the_lemmas)

pub fields-below : (d : Doc) → most (λ p. size-Doc p.value) (fields_in (out-Doc d)) < size-Doc d
fields-below d = fields_within d (out-Doc d) refl
