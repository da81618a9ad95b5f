-- What is in the grammar is read from the left.
use Rattle.std.proofs.Common.{◌≡◌, ◌==◌, ◌||◌, ℕ, ◌+◌, Bool, true, false, IsTrue, if◌then◌else◌, List, [], ◌∷◌, ◌++◌, Some, None, Ok, Err, refl, sym, ap, subst, ◌∙◌, arith, ⊎_elim, inr, append_assoc}
use Rattle.std.specs.Prelude.{IfOk, slice_index}
use Rattle.std.specs.Char.{is_ascii_digit}
use Rattle.std.specs.List.{AllByRecursion}
use Rattle.std.proofs.lemmas.Bool.{eqb-true, eqb-false, eq-eqb, false≢true, or_cases}
use Rattle.std.proofs.lemmas.Result.{IfOk-at_ok}
use Rattle.json_doc.specs.declared.doc.Doc as doc
use Rattle.json_doc.specs.declared.doc.Doc.{Doc}
use Rattle.texts.specs.declared.pairs.Pair.{Pair}
use Rattle.texts.specs.Keys.{put}
use Rattle.json_doc.specs.Reading.{Read}
use Rattle.texts.specs.Calls.{◌>>=◌}
use Rattle.json_doc.specs.Grammar.{Structural, String, put_all, Reads, is_blank}
use Rattle.json_doc.specs.Grammar as g
use Rattle.json_doc.specs.Scan.{made, skipped, behind, past, is_number_start, begins_number, scalar_at, key_at, ended, Value, Array, Object, Elements, Members, Scans}
use Rattle.json_doc.specs.NumberToken.{Number, SpellsNumber, IsDigits, minus, is_exp_mark, number_at, ReadsNumber}
use Rattle.json_doc.proofs.NumberScans.{Follows, digit_is}
use Rattle.json_doc.proofs.NumbersAgain.{number_at-spelled}
use Rattle.json_doc.specs.TextToken.{text_at}
use Rattle.json_doc.proofs.TextScans.{text_at-spelled}
use Rattle.json_doc.proofs.Once.{behind-is, other-behind, no_mark}
use Rattle.json_doc.proofs.Sound.{Ws-skipped, past-is, IfOk-bind}

-- where a value may end: at the end of the bytes, a blank, a comma or a closing bracket
abbrev pub MayEnd : List ℕ → Type 0
MayEnd [] = Unit {0}
MayEnd (b ∷ bs) = IsTrue (is_blank b || b == 44 || b == 93 || b == 125)

pub ends_blank : (ws rest : List ℕ) → AllByRecursion (λ b. IsTrue (is_blank b)) ws → MayEnd rest → MayEnd (ws ++ rest)
ends_blank [] rest h e = e
ends_blank (b ∷ ws) rest h e = ap (λ v. v || b == 44 || b == 93 || b == 125) h.0

taken : {A : Type 0} (b : Bool) (x y : A) → b ≡ true → (if b then x else y) ≡ x
taken b x y e = ap (λ v. if v then x else y) e

pub left_out : {A : Type 0} (b : Bool) (x y : A) → b ≡ false → (if b then x else y) ≡ y
left_out b x y e = ap (λ v. if v then x else y) e

pub text-read : (bs t rest : List ℕ) → String bs t rest → (ks : List ℕ) × (bs ≡ 34 ∷ ks) × (text_at ks ≡ Ok (t, rest))
text-read bs t rest (chars, e, h) = (chars, e, text_at-spelled chars t rest h)

-- a byte at which a value may end passes no test that none of them passes
ends-test : (p : ℕ → Bool) (rest : List ℕ) → p 0 ≡ false → p 32 ≡ false → p 9 ≡ false → p 10 ≡ false → p 13 ≡ false → p 44 ≡ false → p 93 ≡ false → p 125 ≡ false
    → MayEnd rest → p (slice_index rest 0) ≡ false
ends-test p [] none space tab feed return comma bracket brace ends = none
ends-test p (b ∷ bs) none space tab feed return comma bracket brace ends =
    let at = λ (c : ℕ) (h : p c ≡ false) (e : b == c ≡ true). subst (λ x. p x ≡ false) (sym (eqb-true b c e)) h in
    ⊎_elim (λ marks. ⊎_elim (λ marks. ⊎_elim (λ blanks. ⊎_elim (λ blanks. ⊎_elim (λ blanks. ⊎_elim (at 32 space) (at 9 tab) (or_cases _ _ blanks)) (at 10 feed) (or_cases _ _ blanks)) (at 13 return) (or_cases _ _ blanks))
    (at 44 comma) (or_cases _ _ marks)) (at 93 bracket) (or_cases _ _ marks)) (at 125 brace) (or_cases _ _ ends)

follows-ends : (parts : Number) (rest : List ℕ) → MayEnd rest → Follows parts rest
follows-ends parts rest ends =
    let digit = ends-test is_ascii_digit rest refl refl refl refl refl refl refl refl ends in
    let mark = ends-test is_exp_mark rest refl refl refl refl refl refl refl refl ends in
    let point = ends-test (λ b. b == 0x2E) rest refl refl refl refl refl refl refl refl ends in
    record { int = λ _ _. (eqb-false (slice_index rest 0) 0x2E point, inr digit); frac = λ _ _. digit; mark = λ _. mark; exp = λ _. digit }

pub number-read : (parts : Number) (spelled rest : List ℕ) → SpellsNumber parts spelled → MayEnd rest → number_at (spelled ++ rest) ≡ Ok (parts, rest)
number-read parts spelled rest spells ends = number_at-spelled parts spelled rest spells (follows-ends parts rest ends)

digits-begin : (ds more : List ℕ) → IsDigits ds → begins_number (ds ++ more) ≡ true
digits-begin [] more h = let none = h.0 in absurd (omega arith)
digits-begin (d ∷ ds) more h = ap (λ v. d == 45 || v) (digit_is d h.1.0) ∙ or_true (d == 45)
  where
    or_true : (b : Bool) → (b || true) ≡ true
    or_true true = refl
    or_true false = refl

pub spelled-begins : (parts : Number) (spelled rest : List ℕ) → SpellsNumber parts spelled → begins_number (spelled ++ rest) ≡ true
spelled-begins parts spelled rest spells =
    let regrouped : spelled ++ rest ≡ minus parts.is_negative ++ (parts.int ++ (spells.frac ++ (spells.exp ++ rest))) = ap (λ cs. cs ++ rest) spells.whole ∙ simp append_assoc in
    subst (λ cs. begins_number cs ≡ true) (sym regrouped)
    (elim parts.is_negative as (λ v. begins_number (minus v ++ (parts.int ++ (spells.frac ++ (spells.exp ++ rest)))) ≡ true) [ true ↦ refl | false ↦ digits-begin parts.int (spells.frac ++ (spells.exp ++ rest)) spells.is_int.0 ])

blank_starts : (b : ℕ) → is_blank b ≡ true → is_number_start b ≡ true → ⊥
blank_starts b blank start =
    let at = λ (c : ℕ) (h : is_number_start c ≡ false) (e : b == c ≡ true). false≢true (sym h ∙ subst (λ x. is_number_start x ≡ true) (eqb-true b c e) start) in
    ⊎_elim (λ bs. ⊎_elim (λ bs. ⊎_elim (at 32 refl) (at 9 refl) (or_cases _ _ bs)) (at 10 refl) (or_cases _ _ bs)) (at 13 refl) (or_cases _ _ blank)

pub number-skipped : (bs : List ℕ) → begins_number bs ≡ true → skipped bs ≡ bs
number-skipped [] begins = refl
number-skipped (b ∷ bs) begins =
    elim (is_blank b) as (λ v. is_blank b ≡ v → (if v then skipped bs else b ∷ bs) ≡ b ∷ bs) [ true ↦ (λ e. absurd (blank_starts b e begins)) | false ↦ (λ e. refl) ] refl

always : {A : Type 0} (o : Read A) (P : Type 0) → P → IfOk o (λ _. P)
always (Ok x) P h = h
always (Err stop) P h = tt

-- what a value begins with closes nothing
scalar_opens : (bs : List ℕ) → IfOk (scalar_at bs) (λ _. behind 93 bs ≡ None)
scalar_opens [] = tt
scalar_opens (b ∷ bs) =
    elim (b == 93) as (λ v. b == 93 ≡ v → IfOk (scalar_at (b ∷ bs)) (λ _. (if v then Some bs else None) ≡ None)) [
      | true ↦ (λ e. subst (λ c. IfOk (scalar_at (c ∷ bs)) (λ _. Some bs ≡ None)) (sym (eqb-true b 93 e)) tt)
      | false ↦ (λ e. always (scalar_at (b ∷ bs)) (None ≡ None) refl)
    ] refl

value_opens : {n : ℕ} {bs : List ℕ} {o : Read Doc} → Value n bs o → IfOk o (λ _. behind 93 bs ≡ None)
value_opens (Value.number {bs = bs} {o = o} starts r) = always (made doc.Number o) (behind 93 bs ≡ None) (no_mark 93 bs refl starts)
value_opens (Value.scalar {bs = bs} e f apart h) = subst (λ o. IfOk o (λ _. behind 93 bs ≡ None)) h (scalar_opens bs)
value_opens (Value.array {bs = bs} {ws = ws} {o = o} e less a) = always (made doc.Items o) (behind 93 bs ≡ None) (other-behind 91 93 bs ws (λ h. absurd (omega arith)) e)
value_opens (Value.object {bs = bs} {ws = ws} {o = o} e less a) = always (made doc.Fields o) (behind 93 bs ≡ None) (other-behind 123 93 bs ws (λ h. absurd (omega arith)) e)
value_opens (Value.deep_array e more) = tt
value_opens (Value.deep_object e more) = tt

elements_open : {n : ℕ} {acc : List Doc} {bs : List ℕ} {o : Read (List Doc)} → Elements n acc bs o → IfOk o (λ _. behind 93 bs ≡ None)
elements_open (Elements.bad_element v) = tt
elements_open (Elements.last_element v e) = value_opens v
elements_open (Elements.more_elements {bs = bs} {o = o} v e f es) = always o (behind 93 bs ≡ None) (value_opens v)
elements_open (Elements.open_array v e f) = tt

key_opens : (bs : List ℕ) → IfOk (key_at bs) (λ _. behind 125 bs ≡ None)
key_opens bs =
    IfOk-bind (past 34 bs) _ (λ ks. bs ≡ 34 ∷ ks) _ (past-is 34 bs)
    (λ ks e. always _ (behind 125 bs ≡ None) (subst (λ cs. behind 125 cs ≡ None) (sym e) refl))

members_open : {n : ℕ} {ps : List (Pair Doc)} {bs : List ℕ} {o : Read (List (Pair Doc))} → Members n ps bs o → IfOk o (λ _. behind 125 bs ≡ None)
members_open (Members.bad_key e) = tt
members_open (Members.bad_member e v) = tt
members_open (Members.last_member {bs = bs} e v f) = IfOk-at_ok _ e (key_opens bs)
members_open (Members.more_members {bs = bs} {o = o} e v f g ms) = always o (behind 125 bs ≡ None) (IfOk-at_ok _ e (key_opens bs))
members_open (Members.open_object e v f g) = tt

pub behind-same : (c : ℕ) (bs : List ℕ) → behind c (c ∷ bs) ≡ Some bs
behind-same c bs = taken (c == c) (Some bs) None (eq-eqb c c refl)

-- the bytes without blanks begin with a structural character
marked : (c : ℕ) (bs ws rest : List ℕ) → is_blank c ≡ false → Structural c ws rest → skipped bs ≡ skipped ws → (cs : List ℕ) × (behind c (skipped bs) ≡ Some cs) × (skipped cs ≡ skipped rest)
marked c bs ws rest dark (cs, before, after) e =
    let front : skipped bs ≡ c ∷ cs = e ∙ Ws-skipped ws (c ∷ cs) before ∙ left_out (is_blank c) (skipped cs) (c ∷ cs) dark in
    (cs, subst (λ vs. behind c vs ≡ Some cs) (sym front) (behind-same c cs), Ws-skipped cs rest after)

pub marked_ends : (c : ℕ) (ws rest : List ℕ) → (is_blank c || c == 44 || c == 93 || c == 125) ≡ true → Structural c ws rest → MayEnd ws
marked_ends c ws rest h (cs, (blanks, all, e), after) = subst MayEnd (sym e) (ends_blank blanks (c ∷ cs) all h)

pub key-read : (bs t ws vs : List ℕ) → String bs t ws → Structural 58 ws vs → key_at (skipped bs) ≡ Ok (t, skipped vs)
key-read bs t ws vs key colon =
    let h = text-read bs t ws key in
    let m = marked 58 ws ws vs refl colon refl in
    let rest : Read (List ℕ) → Read (List ℕ) = λ o. o >>= (λ x. past 58 (skipped x.1) >>= (λ us. Ok (x.0, skipped us))) in
    subst (λ cs. key_at (skipped cs) ≡ Ok (t, skipped vs)) (sym h.1)
    (ap rest h.2 ∙ ap (λ cs. past 58 cs >>= (λ us. Ok (t, skipped us))) (behind-is 58 (skipped ws) m.0 m.1) ∙ ap (λ cs. Ok (t, cs)) m.2)

-- a value is read, and what is behind it is the same but for blanks
abbrev ReadsValue : ℕ → List ℕ → Doc → List ℕ → Type 0
ReadsValue n bs d rest = (ws : List ℕ) × Value n (skipped bs) (Ok (d, ws)) × (skipped ws ≡ skipped rest)

mutual
  value_complete : {n : ℕ} {bs : List ℕ} {d : Doc} {rest : List ℕ} → g.Value n bs d rest → MayEnd rest → ReadsValue n bs d rest
  value_complete (g.Value.false_name {n = n} {bs = bs} {rest = rest} e) ends =
      subst (λ cs. ReadsValue n cs (doc.Flag false) rest) (sym e) (rest, Value.scalar refl refl refl refl, refl)
  value_complete (g.Value.null_name {n = n} {bs = bs} {rest = rest} e) ends =
      subst (λ cs. ReadsValue n cs doc.Null rest) (sym e) (rest, Value.scalar refl refl refl refl, refl)
  value_complete (g.Value.true_name {n = n} {bs = bs} {rest = rest} e) ends =
      subst (λ cs. ReadsValue n cs (doc.Flag true) rest) (sym e) (rest, Value.scalar refl refl refl refl, refl)
  value_complete (g.Value.number {n = n} {bs = bs} {spelled = spelled} {rest = rest} {parts = parts} {m = m} spells value e) ends =
      let read : number_at bs ≡ Ok (parts, rest) = ap number_at e ∙ number-read parts spelled rest spells ends in
      let begins = spelled-begins parts spelled rest spells in
      let begins_all = subst (λ cs. begins_number cs ≡ true) (sym e) begins in
      (rest, subst (λ cs. Value n cs (Ok (doc.Number m, rest))) (sym (number-skipped bs begins_all)) (Value.number begins_all (ReadsNumber.read read value)), refl)
  value_complete (g.Value.string {n = n} {bs = bs} {t = t} {rest = rest} s) ends =
      let h = text-read bs t rest s in
      subst (λ cs. ReadsValue n cs (doc.Str t) rest) (sym h.1) (rest, Value.scalar refl refl refl (ap (made doc.Str) h.2), refl)
  value_complete (g.Value.empty_array {n = n} {bs = bs} {ws = ws} {rest = rest} less begins closes) ends =
      let m = marked 91 bs bs ws refl begins refl in
      let c = marked 93 m.0 ws rest refl closes m.2 in
      (c.0, Value.array m.1 less (Array.empty_array c.1), c.2)
  value_complete (g.Value.array {n = n} {bs = bs} {vs = vs} {ws = ws} {rest = rest} {ds = ds} less begins values closes) ends =
      let m = marked 91 bs bs vs refl begins refl in
      let r = values_complete values [] rest closes in
      let es = subst (λ cs. Elements (n + 1) [] cs (Ok (ds, r.0))) (sym m.2) r.1 in
      (r.0, Value.array m.1 less (Array.full_array (elements_open es) es), r.2)
  value_complete (g.Value.empty_object {n = n} {bs = bs} {ws = ws} {rest = rest} less begins closes) ends =
      let m = marked 123 bs bs ws refl begins refl in
      let c = marked 125 m.0 ws rest refl closes m.2 in
      (c.0, Value.object m.1 less (Object.empty_object c.1), c.2)
  value_complete (g.Value.object {n = n} {bs = bs} {vs = vs} {ws = ws} {rest = rest} {ms = ms} less begins members closes) ends =
      let m = marked 123 bs bs vs refl begins refl in
      let r = members_complete members [] rest closes in
      let es = subst (λ cs. Members (n + 1) [] cs (Ok (put_all [] ms, r.0))) (sym m.2) r.1 in
      (r.0, Value.object m.1 less (Object.full_object (members_open es) es), r.2)

  values_complete : {n : ℕ} {bs : List ℕ} {ds : List Doc} {ws : List ℕ} → g.Values n bs ds ws → (acc : List Doc) (rest : List ℕ) → Structural 93 ws rest
      → (us : List ℕ) × Elements n acc (skipped bs) (Ok (acc ++ ds, us)) × (skipped us ≡ skipped rest)
  values_complete (g.Values.one_value {n = n} {bs = bs} {rest = ws} {d = d} value) acc rest closes =
      let v = value_complete value (marked_ends 93 ws rest refl closes) in
      let c = marked 93 v.0 ws rest refl closes v.2 in
      (c.0, Elements.last_element v.1 c.1, c.2)
  values_complete (g.Values.more_values {n = n} {bs = bs} {ws = ws} {vs = vs} {rest = us} {d = d} {ds = ds} value comma values) acc rest closes =
      let v = value_complete value (marked_ends 44 ws vs refl comma) in
      let c = marked 44 v.0 ws vs refl comma v.2 in
      let r = values_complete values (acc ++ d ∷ []) rest closes in
      let es = subst (λ cs. Elements n (acc ++ d ∷ []) cs (Ok ((acc ++ d ∷ []) ++ ds, r.0))) (sym c.2) r.1 in
      let all = subst (λ es. Elements n acc (skipped bs) (Ok (es, r.0))) (append_assoc acc (d ∷ []) ds) (Elements.more_elements v.1 (other-behind 44 93 (skipped v.0) c.0 (λ h. absurd (omega arith)) c.1) c.1 es) in
      (r.0, all, r.2)

  members_complete : {n : ℕ} {bs : List ℕ} {ms : List (Pair Doc)} {ws : List ℕ} → g.Members n bs ms ws → (ps : List (Pair Doc)) (rest : List ℕ) → Structural 125 ws rest
      → (us : List ℕ) × Members n ps (skipped bs) (Ok (put_all ps ms, us)) × (skipped us ≡ skipped rest)
  members_complete (g.Members.one_member {n = n} {bs = bs} {rest = ws} {m = m} first) ps rest closes =
      let v = member_complete first (marked_ends 125 ws rest refl closes) in
      let c = marked 125 v.1 ws rest refl closes v.4 in
      (c.0, Members.last_member v.2 v.3 c.1, c.2)
  members_complete (g.Members.more_members {n = n} {bs = bs} {ws = ws} {vs = vs} {rest = us} {m = m} {ms = ms} first comma members) ps rest closes =
      let v = member_complete first (marked_ends 44 ws vs refl comma) in
      let c = marked 44 v.1 ws vs refl comma v.4 in
      let r = members_complete members (put ps m.key m.value) rest closes in
      let es = subst (λ cs. Members n (put ps m.key m.value) cs (Ok (put_all ps (m ∷ ms), r.0))) (sym c.2) r.1 in
      (r.0, Members.more_members v.2 v.3 (other-behind 44 125 (skipped v.1) c.0 (λ h. absurd (omega arith)) c.1) c.1 es, r.2)

  member_complete : {n : ℕ} {bs : List ℕ} {m : Pair Doc} {rest : List ℕ} → g.Member n bs m rest → MayEnd rest
      → (vs : List ℕ) × (ws : List ℕ) × (key_at (skipped bs) ≡ Ok (m.key, vs)) × Value n vs (Ok (m.value, ws)) × (skipped ws ≡ skipped rest)
  member_complete (g.Member.member {n = n} {bs = bs} {t = t} {ws = ws} {vs = vs} {rest = rest} {d = d} key colon value) ends =
      let v = value_complete value ends in
      (skipped vs, v.0, key-read bs t ws vs key colon, v.1, v.2)

pub text_complete : (bs : List ℕ) (d : Doc) → Reads bs d → Scans bs (Ok d)
text_complete bs d (vs, ws, before, value, after) =
    let ends = subst MayEnd (sym after.2) (ends_blank after.0 [] after.1 tt) in
    let v = value_complete value ends in
    (Ok (d, v.0), subst (λ cs. Value 0 cs (Ok (d, v.0))) (sym (Ws-skipped bs vs before)) v.1, sym (ap (ended d) (v.2 ∙ Ws-skipped ws [] after)))
