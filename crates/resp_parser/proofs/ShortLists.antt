-- Documents whose lists are short, by their outermost layers.
use Rattle.std.proofs.Common.{◌≡◌, ℕ, ◌<◌, Bool, List, [], ◌∷◌, map, length, refl, sym, ap, ◌∙◌, subst}
use Rattle.std.specs.List.{AllByRecursion}
use Rattle.json_doc.specs.declared.decimal.Decimal.{Decimal}
use Rattle.json_doc.specs.declared.doc.Doc.{Doc, map-Doc, out-Doc, roll-Doc}
use Rattle.json_doc.specs.declared.doc.Doc.TheVariants.{Null, Flag, Number, Str, Items, Fields, rolls-Null, rolls-Flag, rolls-Number, rolls-Str, rolls-Items, rolls-Fields}
use Rattle.json_doc.specs.declared.doc.Doc.TheOpen.{Doc-F}
use Rattle.json_doc.specs.declared.doc.Doc.TheFolds.{every-Doc, every_here-Doc, every_held-Doc, every_made-Doc}
use Rattle.texts.specs.declared.pairs.Pair.{Pair}
use Rattle.resp_parser.specs.Laws.{HasShortLists}
use Rattle.resp_parser.proofs.Layers.{out-Items, out-Fields}

abbrev pub IsShort : ℕ → Doc → Type 0
IsShort most = every-Doc (HasShortLists most)

abbrev pub AreShort : ℕ → List Doc → Type 0
AreShort most = AllByRecursion (IsShort most)

abbrev pub AreShortFields : ℕ → List (Pair Doc) → Type 0
AreShortFields most = AllByRecursion (λ p. IsShort most p.value)

module _ (most : ℕ) where
  abbrev Known : Type 0
  Known = (d : Doc) × IsShort most d

  made : (x : Doc-F Doc) (y : Doc-F Known) (d : Doc) → map-Doc Known Doc (λ e. e.0) y ≡ x → roll-Doc x ≡ d → HasShortLists most x → IsShort most d
  made x y d same rolls value = subst (IsShort most) rolls (every_made-Doc (HasShortLists most) x y same value)

  pub short-Null : IsShort most Null
  short-Null = made Doc-F.Null Doc-F.Null Null refl rolls-Null tt

  pub short-Flag : (flag : Bool) → IsShort most (Flag flag)
  short-Flag flag = made (Doc-F.Flag flag) (Doc-F.Flag flag) (Flag flag) refl (rolls-Flag flag) tt

  pub short-Number : (n : Decimal) → IsShort most (Number n)
  short-Number n = made (Doc-F.Number n) (Doc-F.Number n) (Number n) refl (rolls-Number n) tt

  pub short-Str : (t : List ℕ) → IsShort most (Str t)
  short-Str t = made (Doc-F.Str t) (Doc-F.Str t) (Str t) refl (rolls-Str t) tt

  pub short-Items : (ds : List Doc) → length ds < most → AreShort most ds → IsShort most (Items ds)
  short-Items ds few all = made (Doc-F.Items ds) (Doc-F.Items (known ds all)) (Items ds) (ap Doc-F.Items (same ds all)) (rolls-Items ds) few
    where
      known : (ds : List Doc) → AreShort most ds → List Known
      known [] all = []
      known (d ∷ ds) all = (d, all.0) ∷ known ds all.1

      same : (ds : List Doc) (all : AreShort most ds) → map (λ e. e.0) (known ds all) ≡ ds
      same [] all = refl
      same (d ∷ ds) all = ap (λ es. d ∷ es) (same ds all.1)

  pub short-Fields : (ps : List (Pair Doc)) → AreShortFields most ps → IsShort most (Fields ps)
  short-Fields ps all = made (Doc-F.Fields ps) (Doc-F.Fields (known ps all)) (Fields ps) (ap Doc-F.Fields (same ps all)) (rolls-Fields ps) tt
    where
      known : (ps : List (Pair Doc)) → AreShortFields most ps → List (Pair Known)
      known [] all = []
      known (p ∷ ps) all = record { key = p.key; value = (p.value, all.0) } ∷ known ps all.1

      same : (ps : List (Pair Doc)) (all : AreShortFields most ps) → map (λ e. record { key = e.key; value = e.value.0 }) (known ps all) ≡ ps
      same [] all = refl
      same (p ∷ ps) all = ap (λ es. p ∷ es) (same ps all.1)

  items_of : {X : Type 0} → Doc-F X → List X
  items_of (Doc-F.Items xs) = xs
  items_of others = []

  fields_of : {X : Type 0} → Doc-F X → List (Pair X)
  fields_of (Doc-F.Fields ps) = ps
  fields_of others = []

  pub few-items : (ds : List Doc) → IsShort most (Items ds) → length ds < most
  few-items ds short = subst (HasShortLists most) (out-Items ds) (every_here-Doc (HasShortLists most) (Items ds) short)

  pub items-short : (ds : List Doc) → IsShort most (Items ds) → AreShort most ds
  unfolding items_of
  items-short ds short =
      let held = every_held-Doc (HasShortLists most) (Items ds) short in
      subst (AreShort most) (sym (same held.0) ∙ ap items_of (held.1 ∙ out-Items ds)) (known (items_of held.0))
    where
      same : (y : Doc-F Known) → items_of (map-Doc Known Doc (λ e. e.0) y) ≡ map (λ e. e.0) (items_of y)
      same Doc-F.Null = refl
      same (Doc-F.Flag b) = refl
      same (Doc-F.Number n) = refl
      same (Doc-F.Str t) = refl
      same (Doc-F.Items xs) = refl
      same (Doc-F.Fields ps) = refl

      known : (es : List Known) → AreShort most (map (λ e. e.0) es)
      known [] = tt
      known (e ∷ es) = (e.1, known es)

  pub view-short : (d : Doc) (ps : List (Pair Doc)) → out-Doc d ≡ Doc-F.Fields ps → IsShort most d → AreShortFields most ps
  unfolding fields_of
  view-short d ps is short =
      let held = every_held-Doc (HasShortLists most) d short in
      subst (AreShortFields most) (sym (same held.0) ∙ ap fields_of (held.1 ∙ is)) (known (fields_of held.0))
    where
      plain : Pair Known → Pair Doc
      plain p = record { key = p.key; value = p.value.0 }

      same : (y : Doc-F Known) → fields_of (map-Doc Known Doc (λ e. e.0) y) ≡ map plain (fields_of y)
      same Doc-F.Null = refl
      same (Doc-F.Flag b) = refl
      same (Doc-F.Number n) = refl
      same (Doc-F.Str t) = refl
      same (Doc-F.Items xs) = refl
      same (Doc-F.Fields ps) = refl

      known : (es : List (Pair Known)) → AreShortFields most (map plain es)
      known [] = tt
      known (e ∷ es) = (e.value.1, known es)

  pub fields-short : (ps : List (Pair Doc)) → IsShort most (Fields ps) → AreShortFields most ps
  fields-short ps short = view-short (Fields ps) ps (out-Fields ps) short
