-- What follows where steps of reading went well.
use Rattle.std.proofs.Common.{◌≡◌, ℕ, zero, suc, Bool, true, false, List, [], ◌∷◌, length, slice_get, Option, None, Some, Result, Ok, Err, refl, sym, ap, subst, ◌∙◌, arith}
use Rattle.std.specs.List.{AllByRecursion}
use Rattle.std.proofs.lemmas.Option.{same_Some}
use Rattle.json_doc.specs.declared.doc.Doc.{Doc}
use Rattle.json_doc.specs.declared.doc.Doc.TheOpen.{Doc-F}
use Rattle.json_doc.specs.declared.doc.Doc.TheViews.{out-Doc}
use Rattle.texts.specs.declared.pairs.Pair.{Pair}
use Rattle.texts.specs.Keys.{value_at}
use Rattle.model_files.specs.declared.fault.ModelFault.{ModelFault}
use Rattle.model_files.specs.declared.fault.ModelFault.TheVariants.{Missing}
use Rattle.model_files.specs.declared.fault.Place.TheVariants.{At}
use Rattle.model_files.specs.Faults.{inside, demand, or_fault, each}
use Rattle.texts.specs.Calls.{◌>>=◌}
use Rattle.model_files.specs.Reading.{Fields, fields_in, fields_of, text_in, text_of, needed, text_at}

pub same_ok : {A : Type 0} (x y : A) → ◌≡◌ {A = Result A ModelFault} (Ok x) (Ok y) → x ≡ y
same_ok x y e = cc

-- steps that go well do so one by one
pub bind_ok : {A B P : Type 0} (r : Result A ModelFault) (f : A → Result B ModelFault) (y : B) → r >>= f ≡ Ok y → ((x : A) → r ≡ Ok x → f x ≡ Ok y → P) → P
bind_ok (Ok x) f y e k = k x refl e
bind_ok (Err fault) f y e k = absurd (cc)

pub inside_ok : {A : Type 0} (key : List ℕ) (r : Result A ModelFault) (x : A) → inside key r ≡ Ok x → r ≡ Ok x
inside_ok key (Ok y) x e = e
inside_ok key (Err fault) x e = absurd (cc)

pub demand_ok : {A : Type 0} (b : Bool) (fault : ModelFault) (others : Result A ModelFault) (x : A) → demand b fault others ≡ Ok x → (b ≡ true) × (others ≡ Ok x)
demand_ok true fault others x e = (refl, e)
demand_ok false fault others x e = absurd (cc)

pub or_fault_ok : {A : Type 0} (fault : ModelFault) (o : Option A) (x : A) → or_fault fault o ≡ Ok x → o ≡ Some x
or_fault_ok fault None x e = absurd (cc)
or_fault_ok fault (Some y) x e = ap Some (same_ok y x e)

fields_view : (v : Doc-F Doc) (fields : Fields) → fields_in v ≡ Ok fields → v ≡ Doc-F.Fields fields
fields_view (Doc-F.Fields ps) fields e = ap Doc-F.Fields (same_ok ps fields e)
fields_view Doc-F.Null fields e = absurd (cc)
fields_view (Doc-F.Flag b) fields e = absurd (cc)
fields_view (Doc-F.Number n) fields e = absurd (cc)
fields_view (Doc-F.Str t) fields e = absurd (cc)
fields_view (Doc-F.Items ds) fields e = absurd (cc)

pub fields_ok : (doc : Doc) (fields : Fields) → fields_of doc ≡ Ok fields → out-Doc doc ≡ Doc-F.Fields fields
unfolding fields_of
fields_ok doc fields e = fields_view (out-Doc doc) fields e

text_view : (v : Doc-F Doc) (text : List ℕ) → text_in v ≡ Ok text → v ≡ Doc-F.Str text
text_view (Doc-F.Str t) text e = ap Doc-F.Str (same_ok t text e)
text_view Doc-F.Null text e = absurd (cc)
text_view (Doc-F.Flag b) text e = absurd (cc)
text_view (Doc-F.Number n) text e = absurd (cc)
text_view (Doc-F.Fields ps) text e = absurd (cc)
text_view (Doc-F.Items ds) text e = absurd (cc)

pub text_ok : (doc : Doc) (text : List ℕ) → text_of doc ≡ Ok text → out-Doc doc ≡ Doc-F.Str text
unfolding text_of
text_ok doc text e = text_view (out-Doc doc) text e

pub needed_ok : (key : List ℕ) (fields : Fields) (doc : Doc) → needed key fields ≡ Ok doc → value_at key fields ≡ Some doc
unfolding needed
needed_ok key fields doc e = or_fault_ok (Missing (At key)) (value_at key fields) doc e

-- the text at a key is a text at that key
pub text_at_ok : {P : Type 0} (key : List ℕ) (fields : Fields) (text : List ℕ) → text_at key fields ≡ Ok text
    → ((doc : Doc) → value_at key fields ≡ Some doc → out-Doc doc ≡ Doc-F.Str text → P) → P
unfolding text_at
text_at_ok key fields text e k =
    bind_ok (needed key fields) (λ doc. inside key (text_of doc)) text e (λ doc found read.
    k doc (needed_ok key fields doc found) (text_ok doc text (inside_ok key (text_of doc) text read)))

module _ {A B : Type 0} (f : Pair A → Result B ModelFault) where
  -- what each pair gives has a property that each gives alone
  pub each_all : (Q : B → Type 0) → ((p : Pair A) (y : B) → f p ≡ Ok y → Q y) → (ps : List (Pair A)) (ys : List B) → each f ps ≡ Ok ys → AllByRecursion Q ys
  each_all Q one [] [] e = tt
  each_all Q one [] (y ∷ ys) e = absurd (cc)
  each_all Q one (p ∷ ps) ys e =
      bind_ok (inside p.key (f p)) (λ x. each f ps >>= (λ others. Ok (x ∷ others))) ys e (λ x first then_rest.
      bind_ok (each f ps) (λ others. Ok (x ∷ others)) ys then_rest (λ others rest all.
      subst (AllByRecursion Q) (same_ok (x ∷ others) ys all) (one p x (inside_ok p.key (f p) x first), each_all Q one ps others rest)))

  pub each_length : (ps : List (Pair A)) (ys : List B) → each f ps ≡ Ok ys → length ys ≡ length ps
  each_length [] ys e = ap length (sym (same_ok [] ys e))
  each_length (p ∷ ps) ys e =
      bind_ok (inside p.key (f p)) (λ x. each f ps >>= (λ others. Ok (x ∷ others))) ys e (λ x first then_rest.
      bind_ok (each f ps) (λ others. Ok (x ∷ others)) ys then_rest (λ others rest all.
      ap length (sym (same_ok (x ∷ others) ys all)) ∙ omega (arith, each_length ps others rest)))

  -- what a pair gives stands at its place
  pub each_place : (ps : List (Pair A)) (ys : List B) (i : ℕ) (p : Pair A) → each f ps ≡ Ok ys → slice_get ps i ≡ Some p → (y : B) × (slice_get ys i ≡ Some y) × (f p ≡ Ok y)
  each_place [] ys i p e at = absurd (cc)
  each_place (q ∷ ps) ys zero p e at =
      bind_ok (inside q.key (f q)) (λ x. each f ps >>= (λ others. Ok (x ∷ others))) ys e (λ x first then_rest.
      bind_ok (each f ps) (λ others. Ok (x ∷ others)) ys then_rest (λ others rest all.
      (x, ap (λ zs. slice_get zs zero) (sym (same_ok (x ∷ others) ys all)), ap f (sym (same_Some q p at)) ∙ inside_ok q.key (f q) x first)))
  each_place (q ∷ ps) ys (suc i) p e at =
      bind_ok (inside q.key (f q)) (λ x. each f ps >>= (λ others. Ok (x ∷ others))) ys e (λ x first then_rest.
      bind_ok (each f ps) (λ others. Ok (x ∷ others)) ys then_rest (λ others rest all.
      let found = each_place ps others i p rest at in
      (found.0, ap (λ zs. slice_get zs (suc i)) (sym (same_ok (x ∷ others) ys all)) ∙ found.1, found.2)))
