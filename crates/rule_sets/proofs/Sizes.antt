-- What stands in a document is smaller than it.
use Rattle.std.proofs.Common.{◌≡◌, ℕ, ◌+◌, ◌<◌, ◌≤◌, Bool, true, false, List, [], ◌∷◌, get_or, length, zero, suc, Option, None, Some, refl, sym, ap, arith, rules, max}
use denote.Param.Weighed.{most}
use Rattle.std.specs.Prelude.{bytes_eq, if◌then◌else◌, option_and_then}
use Rattle.json_doc.specs.declared.doc.Doc.{Doc, out-Doc, size-Doc, the_lemmas}
use Rattle.json_doc.specs.declared.doc.Doc.TheVariants.{Items}
use Rattle.json_doc.specs.declared.doc.Doc.TheOpen.{Doc-F}
use Rattle.texts.specs.declared.pairs.Pair.{Pair}
use Rattle.texts.specs.Keys.{value_at}
use Rattle.rule_terms.specs.Attributes.{member_of}
use Rattle.rule_terms.specs.Seen.{items_at, items_of, items_kind, fields_of, fields_kind, or_empty}

sized : (p : Pair Doc) (d : Doc) (b : Bool) (o : Option Doc) (n : ℕ) → (if b then Some p.value else o) ≡ Some d → (o ≡ Some d → size-Doc d ≤ n) → size-Doc d ≤ max (size-Doc p.value) n
sized p d true o n e others = let inner : p.value ≡ d = cc in let same : size-Doc p.value ≡ size-Doc d = ap size-Doc inner in omega arith
sized p d false o n e others = let small = others e in omega arith

-- a value that is found is no greater than the greatest
pub size-value : (key : List ℕ) (ps : List (Pair Doc)) (d : Doc) → value_at key ps ≡ Some d → size-Doc d ≤ most (λ p. size-Doc p.value) ps
size-value key [] d e = absurd (cc)
size-value key (p ∷ ps) d e = sized p d (bytes_eq p.key key) (value_at key ps) (most (λ q. size-Doc q.value) ps) e (λ f. size-value key ps d f)

pub size-Items : (ds : List Doc) → size-Doc (Items ds) ≡ most size-Doc ds + 1
size-Items ds = search (rules, arith, the_lemmas)

items_within : (d : Doc) (x : Doc-F Doc) → out-Doc d ≡ x → most size-Doc (or_empty (items_kind x)) < size-Doc d
items_within d Doc-F.Null is = search (rules, arith, the_lemmas)
items_within d (Doc-F.Flag flag) is = search (rules, arith, the_lemmas)
items_within d (Doc-F.Number n) is = search (rules, arith, the_lemmas)
items_within d (Doc-F.Str t) is = search (rules, arith, the_lemmas)
items_within d (Doc-F.Items ds) is = search (rules, arith, the_lemmas)
items_within d (Doc-F.Fields ps) is = search (rules, arith, the_lemmas)

fields_within : (d : Doc) (x : Doc-F Doc) → out-Doc d ≡ x → most (λ p. size-Doc p.value) (or_empty (fields_kind x)) < size-Doc d
fields_within d Doc-F.Null is = search (rules, arith, the_lemmas)
fields_within d (Doc-F.Flag flag) is = search (rules, arith, the_lemmas)
fields_within d (Doc-F.Number n) is = search (rules, arith, the_lemmas)
fields_within d (Doc-F.Str t) is = search (rules, arith, the_lemmas)
fields_within d (Doc-F.Items ds) is = search (rules, arith, the_lemmas)
fields_within d (Doc-F.Fields ps) is = search (rules, arith, the_lemmas)

member-fields : (key : List ℕ) (d : Doc) (x : Doc-F Doc) → out-Doc d ≡ x → member_of key d ≡ value_at key (or_empty (fields_kind x))
member-fields key d Doc-F.Null is = search (rules, the_lemmas)
member-fields key d (Doc-F.Flag flag) is = search (rules, the_lemmas)
member-fields key d (Doc-F.Number n) is = search (rules, the_lemmas)
member-fields key d (Doc-F.Str t) is = search (rules, the_lemmas)
member-fields key d (Doc-F.Items ds) is = search (rules, the_lemmas)
member-fields key d (Doc-F.Fields ps) is = search (rules, the_lemmas)

within_found : (key : List ℕ) (d : Doc) (o : Option Doc) → value_at key (or_empty (fields_of d)) ≡ o → most size-Doc (or_empty (option_and_then items_of o)) < size-Doc d
within_found key d None e = let fields = fields_within d (out-Doc d) refl in omega arith
within_found key d (Some list) e =
    let fields = fields_within d (out-Doc d) refl in
    let found = size-value key (or_empty (fields_of d)) list e in
    let items = items_within list (out-Doc list) refl in
    omega arith

-- the items at a key are smaller than the document
pub size-items_at : (key : List ℕ) (d : Doc) → most size-Doc (items_at key d) < size-Doc d
size-items_at key d = within_found key d (member_of key d) (sym (member-fields key d (out-Doc d) refl))

-- an item is no greater than the greatest
pub size-at : (ds : List Doc) (i : ℕ) (d : Doc) → i < length ds → d ≡ get_or ds i d → size-Doc d ≤ most size-Doc ds
size-at [] i d within is = absurd (omega arith)
size-at (x ∷ xs) zero d within is = let same = ap size-Doc is in omega arith
size-at (x ∷ xs) (suc i) d within is = let small = size-at xs i d (omega arith) is in omega arith
