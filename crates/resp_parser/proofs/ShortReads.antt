-- A list in a document has fewer items than the bytes that it was read from: a comma stands between two items,
-- and two brackets round them.
use Rattle.std.proofs.Common.{◌≡◌, ℕ, ◌+◌, ◌<◌, ◌≤◌, true, false, if◌then◌else◌, List, [], ◌∷◌, ◌++◌, length, arith, ap, ◌∙◌}
use Rattle.std.specs.Prelude.{codes}
use Rattle.std.specs.Str.{bytes_eq}
use Rattle.std.proofs.lemmas.List.{length-append}
use Rattle.json_doc.specs.declared.doc.Doc as doc
use Rattle.json_doc.specs.declared.doc.Doc.{Doc}
use Rattle.json_doc.specs.Grammar as g
use Rattle.json_doc.specs.Grammar.{Reads, put_all}
use Rattle.texts.specs.declared.pairs.Pair.{Pair}
use Rattle.texts.specs.Keys.{put}
use Rattle.resp_parser.proofs.ShortLists.{IsShort, AreShort, AreShortFields, short-Null, short-Flag, short-Number, short-Str, short-Items, short-Fields}

behind : (front rest bs : List ℕ) → bs ≡ front ++ rest → length rest ≤ length bs
behind front rest bs e = let whole = ap length e ∙ length-append front rest in omega arith

past-blanks : (bs rest : List ℕ) → g.Ws bs rest → length rest ≤ length bs
past-blanks bs rest w = behind w.0 rest bs w.2

past-mark : (c : ℕ) (bs rest : List ℕ) → g.Structural c bs rest → length rest < length bs
past-mark c bs rest s =
    let before = past-blanks bs (c ∷ s.0) s.1 in
    let after = past-blanks s.0 rest s.2 in omega arith

past-text : (bs t rest : List ℕ) → g.String bs t rest → length rest ≤ length bs
past-text bs t rest s =
    let inner = behind s.2.0 (34 ∷ rest) s.0 s.2.2 in
    let whole = ap length s.1 in omega arith

put-short : (most : ℕ) (ps : List (Pair Doc)) (k : List ℕ) (d : Doc) → AreShortFields most ps → IsShort most d → AreShortFields most (put ps k d)
put-short most [] k d all short = (short, tt)
put-short most (p ∷ ps) k d all short =
    elim (bytes_eq p.key k) as (λ b. AreShortFields most (if b then record { key = k; value = d } ∷ ps else p ∷ put ps k d))
    [ true ↦ (short, all.1) | false ↦ (all.0, put-short most ps k d all.1 short) ]

all-put : (most : ℕ) (ps ms : List (Pair Doc)) → AreShortFields most ps → AreShortFields most ms → AreShortFields most (put_all ps ms)
all-put most ps [] done all = done
all-put most ps (m ∷ ms) done all = all-put most (put ps m.key m.value) ms (put-short most ps m.key m.value done all.0) all.1

-- what is read of bytes that are no more than so many
abbrev Read : ℕ → List ℕ → Doc → List ℕ → Type 0
Read most bs d rest = (length rest ≤ length bs) × (length bs ≤ most → IsShort most d)

abbrev ReadAll : ℕ → List ℕ → List Doc → List ℕ → Type 0
ReadAll most bs ds rest = (length ds + length rest ≤ length bs + 1) × (length bs ≤ most → AreShort most ds)

abbrev ReadFields : ℕ → List ℕ → List (Pair Doc) → List ℕ → Type 0
ReadFields most bs ps rest = (length rest ≤ length bs) × (length bs ≤ most → AreShortFields most ps)

module _ (most : ℕ) where
  mutual
    value_short : {n : ℕ} {bs : List ℕ} {d : Doc} {rest : List ℕ} → g.Value n bs d rest → Read most bs d rest
    value_short (g.Value.false_name {bs = bs} {rest = rest} e) = (behind (codes "false") rest bs e, λ few. short-Flag most false)
    value_short (g.Value.null_name {bs = bs} {rest = rest} e) = (behind (codes "null") rest bs e, λ few. short-Null most)
    value_short (g.Value.true_name {bs = bs} {rest = rest} e) = (behind (codes "true") rest bs e, λ few. short-Flag most true)
    value_short (g.Value.number {bs = bs} {spelled = spelled} {rest = rest} {m = m} s h e) = (behind spelled rest bs e, λ few. short-Number most m)
    value_short (g.Value.string {bs = bs} {t = t} {rest = rest} s) = (past-text bs t rest s, λ few. short-Str most t)
    value_short (g.Value.empty_array {bs = bs} {ws = ws} {rest = rest} less s e) =
        let front = past-mark 91 bs ws s in
        let back = past-mark 93 ws rest e in
        (omega arith, λ few. short-Items most [] (omega arith) tt)
    value_short (g.Value.array {bs = bs} {vs = vs} {ws = ws} {rest = rest} {ds = ds} less s v e) =
        let front = past-mark 91 bs vs s in
        let back = past-mark 93 ws rest e in
        let inner = values_short v in
        let count = inner.0 in
        (omega arith, λ few. short-Items most ds (omega arith) (inner.1 (omega arith)))
    value_short (g.Value.empty_object {bs = bs} {ws = ws} {rest = rest} less s e) =
        let front = past-mark 123 bs ws s in
        let back = past-mark 125 ws rest e in
        (omega arith, λ few. short-Fields most [] tt)
    value_short (g.Value.object {bs = bs} {vs = vs} {ws = ws} {rest = rest} {ms = ms} less s v e) =
        let front = past-mark 123 bs vs s in
        let back = past-mark 125 ws rest e in
        let inner = members_short v in
        let count = inner.0 in
        (omega arith, λ few. short-Fields most (put_all [] ms) (all-put most [] ms tt (inner.1 (omega arith))))

    values_short : {n : ℕ} {bs : List ℕ} {ds : List Doc} {rest : List ℕ} → g.Values n bs ds rest → ReadAll most bs ds rest
    values_short (g.Values.one_value v) =
        let first = value_short v in
        let left = first.0 in
        (omega arith, λ few. (first.1 few, tt))
    values_short (g.Values.more_values {bs = bs} {ws = ws} {vs = vs} v s others) =
        let first = value_short v in
        let left = first.0 in
        let mark = past-mark 44 ws vs s in
        let inner = values_short others in
        let count = inner.0 in
        (omega arith, λ few. (first.1 few, inner.1 (omega arith)))

    members_short : {n : ℕ} {bs : List ℕ} {ms : List (Pair Doc)} {rest : List ℕ} → g.Members n bs ms rest → ReadFields most bs ms rest
    members_short (g.Members.one_member m) =
        let first = member_short m in
        (first.0, λ few. (first.1 few, tt))
    members_short (g.Members.more_members {bs = bs} {ws = ws} {vs = vs} m s others) =
        let first = member_short m in
        let left = first.0 in
        let mark = past-mark 44 ws vs s in
        let inner = members_short others in
        let count = inner.0 in
        (omega arith, λ few. (first.1 few, inner.1 (omega arith)))

    member_short : {n : ℕ} {bs : List ℕ} {p : Pair Doc} {rest : List ℕ} → g.Member n bs p rest → Read most bs p.value rest
    member_short (g.Member.member {bs = bs} {t = t} {ws = ws} {vs = vs} s c v) =
        let key = past-text bs t ws s in
        let mark = past-mark 58 ws vs c in
        let inner = value_short v in
        let left = inner.0 in
        (omega arith, λ few. inner.1 (omega arith))

pub reads-short : (most : ℕ) (bs : List ℕ) (d : Doc) → length bs ≤ most → Reads bs d → IsShort most d
reads-short most bs d few r =
    let front = past-blanks bs r.0 r.2 in
    (value_short most r.3).1 (omega arith)
