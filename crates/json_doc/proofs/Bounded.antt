-- What the grammar has nests at most 100 deep, and each of its values is what its type keeps.
use Rattle.std.proofs.Common.{◌≡◌, ℕ, ◌+◌, ◌<◌, ◌≤◌, true, false, if◌then◌else◌, List, [], ◌∷◌, map, arith}
use Rattle.std.specs.List.{AllByRecursion}
use Rattle.std.specs.Str.{bytes_eq}
use Rattle.json_doc.specs.declared.doc.Doc as doc
use Rattle.json_doc.specs.declared.doc.Doc.{Doc}
use Rattle.json_doc.specs.Documents.{greatest, depth_of, IsProper, IsProperField}
use Rattle.json_doc.specs.Grammar as g
use Rattle.json_doc.specs.Grammar.{Reads, put_all}
use Rattle.json_doc.specs.TextToken.{Spells}
use Rattle.json_doc.proofs.Escapes.{SpellsChar-scalar}
use Rattle.json_doc.proofs.ProperDocuments.{IsProper-Null, IsProper-Flag, IsProper-Number, IsProper-Str, IsProper-Items, IsProper-Fields, depth-Items, depth-Fields, depth-scalars}
use Rattle.texts.specs.declared.pairs.Pair.{Pair}
use Rattle.texts.specs.Characters.{IsText}
use Rattle.texts.specs.Keys.{keys, IsDistinct, put}
use Rattle.texts.proofs.Keyed.{IsDistinct-put}

-- it is what its type keeps, and stands below this many open brackets
abbrev Fits : ℕ → Doc → Type 0
Fits n d = IsProper d × (depth_of d + n ≤ 100)

abbrev FitsField : ℕ → Pair Doc → Type 0
FitsField n p = IsText p.key × Fits n p.value

spelled_text : (cs bs : List ℕ) → Spells cs bs → IsText cs
spelled_text [] bs h = tt
spelled_text (c ∷ cs) bs h = (SpellsChar-scalar c h.0 h.2, spelled_text cs h.1 h.3)

string_text : (bs t rest : List ℕ) → g.String bs t rest → IsText t
string_text bs t rest h = spelled_text t h.2.0 h.2.1

-- Lists of such documents.

all_proper : (n : ℕ) (ds : List Doc) → AllByRecursion (Fits n) ds → AllByRecursion IsProper ds
all_proper n [] all = tt
all_proper n (d ∷ ds) all = (all.0.0, all_proper n ds all.1)

greatest_fits : (n : ℕ) (ds : List Doc) → n ≤ 100 → AllByRecursion (Fits n) ds → greatest (map depth_of ds) + n ≤ 100
greatest_fits n [] small all = omega arith
greatest_fits n (d ∷ ds) small all = let rest = greatest_fits n ds small all.1 in omega (arith, all.0.1)

items_fit : (n : ℕ) (ds : List Doc) → n < 100 → AllByRecursion (Fits (n + 1)) ds → Fits n (doc.Items ds)
items_fit n ds small all =
    let most = greatest_fits (n + 1) ds (omega arith) all in
    (IsProper-Items ds (all_proper (n + 1) ds all), omega (arith, depth-Items ds))

-- Lists of such fields, and what is put among them.

all_proper_fields : (n : ℕ) (ps : List (Pair Doc)) → AllByRecursion (FitsField n) ps → AllByRecursion IsProperField ps
all_proper_fields n [] all = tt
all_proper_fields n (p ∷ ps) all = ((all.0.0, all.0.1.0), all_proper_fields n ps all.1)

greatest_field_fits : (n : ℕ) (ps : List (Pair Doc)) → n ≤ 100 → AllByRecursion (FitsField n) ps → greatest (map (λ p. depth_of p.value) ps) + n ≤ 100
greatest_field_fits n [] small all = omega arith
greatest_field_fits n (p ∷ ps) small all = let rest = greatest_field_fits n ps small all.1 in omega (arith, all.0.1.1)

put_fits : (n : ℕ) (ps : List (Pair Doc)) (k : List ℕ) (d : Doc) → AllByRecursion (FitsField n) ps → IsText k → Fits n d → AllByRecursion (FitsField n) (put ps k d)
put_fits n [] k d all text fits = ((text, fits), tt)
put_fits n (p ∷ ps) k d all text fits =
    elim (bytes_eq p.key k) as (λ b. AllByRecursion (FitsField n) (if b then record { key = k; value = d } ∷ ps else p ∷ put ps k d))
    [ true ↦ ((text, fits), all.1) | false ↦ (all.0, put_fits n ps k d all.1 text fits) ]

abbrev FitAll : ℕ → List (Pair Doc) → Type 0
FitAll n ps = AllByRecursion (FitsField n) ps × IsDistinct (keys ps)

all_put : (n : ℕ) (ps ms : List (Pair Doc)) → FitAll n ps → AllByRecursion (FitsField n) ms → FitAll n (put_all ps ms)
all_put n ps [] done all = done
all_put n ps (m ∷ ms) done all =
    all_put n (put ps m.key m.value) ms (put_fits n ps m.key m.value done.0 all.0.0 all.0.1, IsDistinct-put ps m.key m.value done.1) all.1

fields_fit : (n : ℕ) (ps : List (Pair Doc)) → n < 100 → FitAll (n + 1) ps → Fits n (doc.Fields ps)
fields_fit n ps small all =
    let most = greatest_field_fits (n + 1) ps (omega arith) all.0 in
    (IsProper-Fields ps (all_proper_fields (n + 1) ps all.0) all.1, omega (arith, depth-Fields ps))

-- The grammar's rules.

scalar_fits : (n : ℕ) (d : Doc) → n ≤ 100 → IsProper d → depth_of d ≡ 0 → Fits n d
scalar_fits n d small proper flat = (proper, omega arith)

mutual
  value_fits : {n : ℕ} {bs : List ℕ} {d : Doc} {rest : List ℕ} → n ≤ 100 → g.Value n bs d rest → Fits n d
  value_fits {n} small (g.Value.false_name e) = scalar_fits n (doc.Flag false) small (IsProper-Flag false) (depth-scalars.1 false)
  value_fits {n} small (g.Value.null_name e) = scalar_fits n doc.Null small IsProper-Null depth-scalars.0
  value_fits {n} small (g.Value.true_name e) = scalar_fits n (doc.Flag true) small (IsProper-Flag true) (depth-scalars.1 true)
  value_fits {n} small (g.Value.number {m = m} s h e) = scalar_fits n (doc.Number m) small (IsProper-Number m) (depth-scalars.2 m)
  value_fits {n} small (g.Value.string {bs = bs} {t = t} {rest = rest} s) = scalar_fits n (doc.Str t) small (IsProper-Str t (string_text bs t rest s)) (depth-scalars.3 t)
  value_fits {n} small (g.Value.empty_array less s e) = items_fit n [] less tt
  value_fits {n} small (g.Value.array {ds = ds} less s vs e) = items_fit n ds less (values_fit (omega arith) vs)
  value_fits {n} small (g.Value.empty_object less s e) = fields_fit n [] less (tt, tt)
  value_fits {n} small (g.Value.object {ms = ms} less s vs e) = fields_fit n (put_all [] ms) less (all_put (n + 1) [] ms (tt, tt) (members_fit (omega arith) vs))

  values_fit : {n : ℕ} {bs : List ℕ} {ds : List Doc} {rest : List ℕ} → n ≤ 100 → g.Values n bs ds rest → AllByRecursion (Fits n) ds
  values_fit small (g.Values.one_value v) = (value_fits small v, tt)
  values_fit small (g.Values.more_values v s vs) = (value_fits small v, values_fit small vs)

  members_fit : {n : ℕ} {bs : List ℕ} {ms : List (Pair Doc)} {rest : List ℕ} → n ≤ 100 → g.Members n bs ms rest → AllByRecursion (FitsField n) ms
  members_fit small (g.Members.one_member m) = (member_fits small m, tt)
  members_fit small (g.Members.more_members m s ms) = (member_fits small m, members_fit small ms)

  member_fits : {n : ℕ} {bs : List ℕ} {p : Pair Doc} {rest : List ℕ} → n ≤ 100 → g.Member n bs p rest → FitsField n p
  member_fits small (g.Member.member {bs = bs} {t = t} {ws = ws} s c v) = (string_text bs t ws s, value_fits small v)

pub read-IsProper : (bs : List ℕ) (d : Doc) → Reads bs d → IsProper d
read-IsProper bs d r = (value_fits (omega arith) r.3).0

pub read-depth : (bs : List ℕ) (d : Doc) → Reads bs d → depth_of d ≤ 100
read-depth bs d r = let fits = (value_fits {d = d} (omega arith) r.3).1 in omega arith
