-- What is due of judging is never want of memory.
use Rattle.std.proofs.Common.{◌≡◌, ℕ, ◌+◌, Bool, true, false, List, [], ◌∷◌, Option, None, Some, Result, Ok, Err, refl}
use Rattle.std.specs.Prelude.{if◌then◌else◌}
use Rattle.std.specs.Fmt.{decimal}
use Rattle.json_doc.specs.declared.doc.Doc.{Doc}
use Rattle.json_doc.specs.declared.doc.Doc.TheOpen.{Doc-F}
use Rattle.json_doc.specs.declared.doc.Doc.TheViews.{out-Doc}
use Rattle.texts.specs.declared.pairs.Pair.{Pair}
use Rattle.texts.specs.Calls.{◌>>=◌}
use Rattle.texts.specs.Keys.{value_at}
use Rattle.model_files.specs.declared.fault.ModelFault.{ModelFault}
use Rattle.model_files.specs.declared.fault.ModelFault.TheVariants.{Missing, UnknownShape, WrongKind, Collides, OutOfMemory}
use Rattle.model_files.specs.Faults.{inside, is_memory}
use Rattle.model_files.specs.Reading.{fields_in, fields_of, items_in, items_of, text_in, text_of}
use Rattle.rule_sets.specs.BadPlaces.{Judged, each_field, each_item, fine, fine_if, first_bad, first_of, has_key, present}

-- nothing is refused, or for what stands at a place
abbrev pub IsPlaced : {A : Type 0} → Result A ModelFault → Type 0
IsPlaced (Ok x) = Unit {0}
IsPlaced (Err fault) = is_memory fault ≡ false

pub placed-inside : {A : Type 0} (key : List ℕ) (read : Result A ModelFault) → IsPlaced read → IsPlaced (inside key read)
placed-inside key (Ok x) placed = tt
placed-inside key (Err (Missing place)) placed = refl
placed-inside key (Err (UnknownShape place)) placed = refl
placed-inside key (Err (WrongKind place)) placed = refl
placed-inside key (Err (Collides place)) placed = refl
placed-inside key (Err OutOfMemory) placed = placed

pub placed-first : (a b : Judged) → IsPlaced a → IsPlaced b → IsPlaced (first_of a b)
placed-first (Ok x) b first others = others
placed-first (Err fault) b first others = first

pub placed-two : (a b : Judged) → IsPlaced a → IsPlaced b → IsPlaced (first_bad (a ∷ b ∷ []))
placed-two a b first second = placed-first a (first_of b fine) first (placed-first b fine second tt)

pub placed-three : (a b c : Judged) → IsPlaced a → IsPlaced b → IsPlaced c → IsPlaced (first_bad (a ∷ b ∷ c ∷ []))
placed-three a b c first second third = placed-first a (first_bad (b ∷ c ∷ [])) first (placed-two b c second third)

pub placed-then : {A : Type 0} (read : Result A ModelFault) (f : A → Judged) → IsPlaced read → ((x : A) → IsPlaced (f x)) → IsPlaced (read >>= f)
placed-then (Ok x) f placed others = others x
placed-then (Err fault) f placed others = placed

pub placed-if : (b : Bool) (x y : Judged) → IsPlaced x → IsPlaced y → IsPlaced (if b then x else y)
placed-if true x y one other = one
placed-if false x y one other = other

pub placed-test : (b : Bool) → IsPlaced (fine_if b)
placed-test true = tt
placed-test false = refl

placed-present : {A : Type 0} (key : List ℕ) (o : Option A) → IsPlaced (present key o)
placed-present key None = refl
placed-present key (Some x) = tt

pub placed-key : {A : Type 0} (key : List ℕ) (ps : List (Pair A)) → IsPlaced (has_key key ps)
placed-key key ps = placed-present key (value_at key ps)

pub placed-each_field : {A : Type 0} (judge : List ℕ → A → Judged) (ps : List (Pair A)) → ((key : List ℕ) (x : A) → IsPlaced (judge key x)) → IsPlaced (each_field judge ps)
placed-each_field judge [] placed = tt
placed-each_field judge (p ∷ ps) placed =
    placed-first (inside p.key (judge p.key p.value)) (each_field judge ps)
    (placed-inside p.key (judge p.key p.value) (placed p.key p.value)) (placed-each_field judge ps placed)

pub placed-each_item : {A : Type 0} (judge : A → Judged) (at : ℕ) (xs : List A) → ((x : A) → IsPlaced (judge x)) → IsPlaced (each_item judge at xs)
placed-each_item judge at [] placed = tt
placed-each_item judge at (x ∷ xs) placed =
    placed-first (inside (decimal at) (judge x)) (each_item judge (at + 1) xs)
    (placed-inside (decimal at) (judge x) (placed x)) (placed-each_item judge (at + 1) xs placed)

text_read : (x : Doc-F Doc) → IsPlaced (text_in x)
text_read Doc-F.Null = refl
text_read (Doc-F.Flag flag) = refl
text_read (Doc-F.Number n) = refl
text_read (Doc-F.Str t) = tt
text_read (Doc-F.Items ds) = refl
text_read (Doc-F.Fields ps) = refl

fields_read : (x : Doc-F Doc) → IsPlaced (fields_in x)
fields_read Doc-F.Null = refl
fields_read (Doc-F.Flag flag) = refl
fields_read (Doc-F.Number n) = refl
fields_read (Doc-F.Str t) = refl
fields_read (Doc-F.Items ds) = refl
fields_read (Doc-F.Fields ps) = tt

items_read : (x : Doc-F Doc) → IsPlaced (items_in x)
items_read Doc-F.Null = refl
items_read (Doc-F.Flag flag) = refl
items_read (Doc-F.Number n) = refl
items_read (Doc-F.Str t) = refl
items_read (Doc-F.Items ds) = tt
items_read (Doc-F.Fields ps) = refl

pub placed-text : (d : Doc) → IsPlaced (text_of d)
unfolding text_of
placed-text d = text_read (out-Doc d)

pub placed-fields : (d : Doc) → IsPlaced (fields_of d)
unfolding fields_of
placed-fields d = fields_read (out-Doc d)

pub placed-items : (d : Doc) → IsPlaced (items_of d)
unfolding items_of
placed-items d = items_read (out-Doc d)
