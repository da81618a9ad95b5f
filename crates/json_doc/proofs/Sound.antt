-- What reading from the left gives is in the grammar.
use Rattle.std.proofs.Common.{◌≡◌, ◌==◌, ℕ, ◌+◌, ◌<◌, Bool, true, false, IsTrue, if◌then◌else◌, List, [], ◌∷◌, ◌++◌, length, Some, Result, Ok, Err, refl, sym, ap, subst, ◌∙◌, append_assoc, ◌⊎◌, inl, inr, ⊎_elim}
use Rattle.std.proofs.lemmas.Bool.{eqb-true}
use Rattle.std.proofs.lemmas.Result.{IfOk-weaker, IfOk-at_ok}
use Rattle.std.specs.Prelude.{codes, IfOk}
use Rattle.std.specs.List.{AllByRecursion}
use Rattle.json_doc.specs.declared.decimal.Decimal.{Decimal}
use Rattle.json_doc.specs.declared.doc.Doc as doc
use Rattle.json_doc.specs.declared.doc.Doc.{Doc}
use Rattle.texts.specs.declared.pairs.Pair.{Pair}
use Rattle.json_doc.specs.declared.stop.Stop.{Stop}
use Rattle.json_doc.specs.declared.stop.Stop.TheVariants.{Syntax}
use Rattle.texts.specs.Keys.{put}
use Rattle.json_doc.specs.Grammar.{Ws, Structural, String, put_all, Reads, is_blank}
use Rattle.json_doc.specs.Grammar as g
use Rattle.json_doc.specs.Reading.{Read}
use Rattle.texts.specs.Calls.{◌>>=◌}
use Rattle.json_doc.specs.Scan.{made, skipped, behind, past, past_word, named, scalar_at, key_at, ended, Value, Array, Object, Elements, Members, Scans}
use Rattle.json_doc.specs.NumberToken.{ReadsNumber}
use Rattle.json_doc.proofs.NumberScans.{number_at_ok}
use Rattle.json_doc.specs.TextToken.{text_at}
use Rattle.json_doc.proofs.TextScans.{text_at_ok}
use Rattle.json_doc.proofs.Once.{behind-is}

pub either : {A : Type 0} (P : A → Type 0) (b : Bool) (x y : A) → (b ≡ true → P x) → (b ≡ false → P y) → P (if b then x else y)
either P b x y p q = elim b as (λ v. b ≡ v → P (if v then x else y)) [ true ↦ p | false ↦ q ] refl

-- blanks in front, and then what is no blank

skipped-blanks : (ws rest : List ℕ) → AllByRecursion (λ b. IsTrue (is_blank b)) ws → skipped (ws ++ rest) ≡ skipped rest
skipped-blanks [] rest h = refl
skipped-blanks (b ∷ ws) rest h = ap (λ v. if v then skipped (ws ++ rest) else b ∷ (ws ++ rest)) h.0 ∙ skipped-blanks ws rest h.1

pub Ws-skipped : (bs rest : List ℕ) → Ws bs rest → skipped bs ≡ skipped rest
Ws-skipped bs rest (ws, all, e) = ap skipped e ∙ skipped-blanks ws rest all

-- all blanks in front
pub skipped-Ws : (bs : List ℕ) → Ws bs (skipped bs)
skipped-Ws [] = ([], tt, refl)
skipped-Ws (b ∷ bs) =
    let h = skipped-Ws bs in
    elim (is_blank b) as (λ v. is_blank b ≡ v → Ws (b ∷ bs) (if v then skipped bs else b ∷ bs))
    [ true ↦ (λ e. (b ∷ h.0, (e, h.1), ap (λ cs. b ∷ cs) h.2)) | false ↦ (λ e. ([], tt, refl)) ] refl

pub no_blanks : (bs : List ℕ) → Ws bs bs
no_blanks bs = ([], tt, refl)

pub past-is : (c : ℕ) (bs : List ℕ) → IfOk (past c bs) (λ rest. bs ≡ c ∷ rest)
past-is c [] = tt
past-is c (b ∷ bs) = either (λ o. IfOk o (λ rest. b ∷ bs ≡ c ∷ rest)) (b == c) (Ok bs) (Err (Syntax (length (b ∷ bs)))) (λ e. ap (λ x. x ∷ bs) (eqb-true b c e)) (λ e. tt)

-- a structural character and the blanks around it
pub mark : (c : ℕ) (bs ws : List ℕ) → behind c (skipped bs) ≡ Some ws → Structural c bs (skipped ws)
mark c bs ws e = (ws, subst (Ws bs) (behind-is c (skipped bs) ws e) (skipped-Ws bs), skipped-Ws ws)

pub last_mark : (c : ℕ) (bs ws : List ℕ) → behind c (skipped bs) ≡ Some ws → Structural c bs ws
last_mark c bs ws e = (ws, subst (Ws bs) (behind-is c (skipped bs) ws e) (skipped-Ws bs), no_blanks ws)

pub first_mark : (c : ℕ) (bs ws : List ℕ) → behind c bs ≡ Some ws → Structural c bs (skipped ws)
first_mark c bs ws e = (ws, subst (Ws bs) (behind-is c bs ws e) (no_blanks bs), skipped-Ws ws)

pub empty_mark : (c : ℕ) (bs ws : List ℕ) → behind c bs ≡ Some ws → Structural c bs ws
empty_mark c bs ws e = (ws, subst (Ws bs) (behind-is c bs ws e) (no_blanks bs), no_blanks ws)

past_mark : (c : ℕ) (bs : List ℕ) → IfOk (past c (skipped bs)) (λ ws. Structural c bs (skipped ws))
past_mark c bs = IfOk-weaker (past c (skipped bs)) (λ ws. skipped bs ≡ c ∷ ws) (λ ws. Structural c bs (skipped ws)) (λ ws e. (ws, subst (Ws bs) e (skipped-Ws bs), skipped-Ws ws)) (past-is c (skipped bs))

IfOk-made : {A B : Type 0} (f : A → B) (o : Read A) (P : B × List ℕ → Type 0) → IfOk o (λ x. P (f x.0, x.1)) → IfOk (made f o) P
IfOk-made f (Ok x) P h = h
IfOk-made f (Err stop) P h = tt

pub IfOk-bind : {A B : Type 0} (r : Result A Stop) (f : A → Result B Stop) (Q : A → Type 0) (P : B → Type 0) → IfOk r Q → ((x : A) → Q x → IfOk (f x) P) → IfOk (r >>= f) P
IfOk-bind (Ok x) f Q P h g = g x h
IfOk-bind (Err stop) f Q P h g = tt

past_word-is : (word bs : List ℕ) → IfOk (past_word word bs) (λ rest. bs ≡ word ++ rest)
past_word-is [] bs = refl
past_word-is (c ∷ cs) bs =
    IfOk-bind (past c bs) (past_word cs) (λ rest. bs ≡ c ∷ rest) (λ rest. bs ≡ c ∷ cs ++ rest) (past-is c bs)
    (λ ws e. IfOk-weaker (past_word cs ws) (λ rest. ws ≡ cs ++ rest) (λ rest. bs ≡ c ∷ cs ++ rest) (λ rest f. e ∙ ap (λ v. c ∷ v) f) (past_word-is cs ws))

IfOk-from : {A : Type 0} (o : Read A) (P : A × List ℕ → Type 0) → ((x : A × List ℕ) → o ≡ Ok x → P x) → IfOk o P
IfOk-from (Ok x) P f = f x refl
IfOk-from (Err stop) P f = tt

text-is : (bs : List ℕ) → IfOk (text_at bs) (λ x. String (34 ∷ bs) x.0 x.1)
text-is bs = IfOk-from (text_at bs) (λ x. String (34 ∷ bs) x.0 x.1) (λ x e. (bs, refl, text_at_ok bs x e))

pub key-is : (bs : List ℕ) → IfOk (key_at bs) (λ x. (ws : List ℕ) × String bs x.0 ws × Structural 58 ws x.1)
key-is bs =
    IfOk-bind (past 34 bs) _ (λ ks. bs ≡ 34 ∷ ks) _ (past-is 34 bs) (λ ks e.
    IfOk-bind (text_at ks) _ (λ x. String (34 ∷ ks) x.0 x.1) _ (text-is ks) (λ x h.
    IfOk-bind (past 58 (skipped x.1)) _ (λ ws. Structural 58 x.1 (skipped ws)) _ (past_mark 58 x.1) (λ ws m.
    (x.1, subst (λ cs. String cs x.0 x.1) (sym e) h, m))))

-- the letters behind a first one make a value
named-is : (n c : ℕ) (d : Doc) (word bs : List ℕ) (b : ℕ) → ((rest : List ℕ) → g.Value n (c ∷ word ++ rest) d rest) → b == c ≡ true → IfOk (named d word bs) (λ x. g.Value n (b ∷ bs) x.0 x.1)
named-is n c d word bs b value e =
    IfOk-bind (past_word word bs) (λ rest. Ok (d, rest)) (λ rest. bs ≡ word ++ rest) (λ x. g.Value n (b ∷ bs) x.0 x.1) (past_word-is word bs)
    (λ rest f. subst (λ cs. g.Value n cs d rest) (sym (ap (λ cs. b ∷ cs) f ∙ ap (λ a. a ∷ word ++ rest) (eqb-true b c e))) (value rest))

pub scalar-is : (n : ℕ) (bs : List ℕ) → IfOk (scalar_at bs) (λ x. g.Value n bs x.0 x.1)
scalar-is n [] = tt
scalar-is n (b ∷ bs) =
    let P : Read Doc → Type 0 = λ o. IfOk o (λ x. g.Value n (b ∷ bs) x.0 x.1) in
    let text : b == 34 ≡ true → P (made doc.Str (text_at bs)) = λ e.
    IfOk-made doc.Str (text_at bs) (λ x. g.Value n (b ∷ bs) x.0 x.1) (IfOk-weaker (text_at bs) (λ x. String (34 ∷ bs) x.0 x.1) (λ x. g.Value n (b ∷ bs) (doc.Str x.0) x.1)
    (λ x h. g.Value.string (subst (λ c. String (c ∷ bs) x.0 x.1) (sym (eqb-true b 34 e)) h)) (text-is bs)) in
    either P (b == 34) _ _ text
    (λ _. either P (b == 102) _ _ (named-is n 102 (doc.Flag false) (codes "alse") bs b (λ rest. g.Value.false_name refl))
    (λ _. either P (b == 110) _ _ (named-is n 110 doc.Null (codes "ull") bs b (λ rest. g.Value.null_name refl))
    (λ _. either P (b == 116) _ _ (named-is n 116 (doc.Flag true) (codes "rue") bs b (λ rest. g.Value.true_name refl)) (λ _. tt))))

number-is : (n : ℕ) (bs : List ℕ) (o : Read Decimal) → ReadsNumber bs o → IfOk o (λ x. g.Value n bs (doc.Number x.0) x.1)
number-is n bs o (ReadsNumber.read {rest = rest} {n = parts} e value) = let t = number_at_ok bs (parts, rest) e in g.Value.number t.1 value t.2
number-is n bs o (ReadsNumber.too_wide e none) = tt
number-is n bs o (ReadsNumber.broken e) = tt

-- behind an opening bracket and blanks
abbrev Inside : ℕ → List ℕ → List Doc → List ℕ → Type 0
Inside n bs ds rest = ((ds ≡ []) × Structural 93 bs rest) ⊎ ((ws : List ℕ) × g.Values n bs ds ws × Structural 93 ws rest)

abbrev ObjectInside : ℕ → List ℕ → List (Pair Doc) → List ℕ → Type 0
ObjectInside n bs ps rest = ((ps ≡ []) × Structural 125 bs rest) ⊎ ((ms : List (Pair Doc)) × (ws : List ℕ) × (ps ≡ put_all [] ms) × g.Members n bs ms ws × Structural 125 ws rest)

array-is : (n : ℕ) (bs vs : List ℕ) (ds : List Doc) (rest : List ℕ) → n < 100 → Structural 91 bs vs → Inside (n + 1) vs ds rest → g.Value n bs (doc.Items ds) rest
array-is n bs vs ds rest less begins inside =
    ⊎_elim (λ h. subst (λ es. g.Value n bs (doc.Items es) rest) (sym h.0) (g.Value.empty_array less begins h.1))
    (λ h. g.Value.array less begins h.1 h.2) inside

object-is : (n : ℕ) (bs vs : List ℕ) (ps : List (Pair Doc)) (rest : List ℕ) → n < 100 → Structural 123 bs vs → ObjectInside (n + 1) vs ps rest → g.Value n bs (doc.Fields ps) rest
object-is n bs vs ps rest less begins inside =
    ⊎_elim (λ h. subst (λ es. g.Value n bs (doc.Fields es) rest) (sym h.0) (g.Value.empty_object less begins h.1))
    (λ h. subst (λ es. g.Value n bs (doc.Fields es) rest) (sym h.2) (g.Value.object less begins h.3 h.4)) inside

mutual
  value_sound : {n : ℕ} {bs : List ℕ} {o : Read Doc} → Value n bs o → IfOk o (λ x. g.Value n bs x.0 x.1)
  value_sound (Value.number {n = n} {bs = bs} {o = o} starts r) = IfOk-made doc.Number o (λ x. g.Value n bs x.0 x.1) (number-is n bs o r)
  value_sound (Value.scalar {n = n} {bs = bs} e f apart h) = subst (λ o. IfOk o (λ x. g.Value n bs x.0 x.1)) h (scalar-is n bs)
  value_sound (Value.array {n = n} {bs = bs} {ws = ws} {o = o} e less a) =
      IfOk-made doc.Items o (λ x. g.Value n bs x.0 x.1) (IfOk-weaker o (λ x. Inside (n + 1) (skipped ws) x.0 x.1) (λ x. g.Value n bs (doc.Items x.0) x.1)
      (λ x h. array-is n bs (skipped ws) x.0 x.1 less (first_mark 91 bs ws e) h) (array_sound a))
  value_sound (Value.object {n = n} {bs = bs} {ws = ws} {o = o} e less a) =
      IfOk-made doc.Fields o (λ x. g.Value n bs x.0 x.1) (IfOk-weaker o (λ x. ObjectInside (n + 1) (skipped ws) x.0 x.1) (λ x. g.Value n bs (doc.Fields x.0) x.1)
      (λ x h. object-is n bs (skipped ws) x.0 x.1 less (first_mark 123 bs ws e) h) (object_sound a))
  value_sound (Value.deep_array e more) = tt
  value_sound (Value.deep_object e more) = tt

  array_sound : {n : ℕ} {bs : List ℕ} {o : Read (List Doc)} → Array n bs o → IfOk o (λ x. Inside n bs x.0 x.1)
  array_sound (Array.empty_array {bs = bs} {rest = rest} e) = inl (refl, empty_mark 93 bs rest e)
  array_sound (Array.full_array {n = n} {bs = bs} {o = o} e es) =
      IfOk-weaker o (λ x. (ds : List Doc) × (ws : List ℕ) × (x.0 ≡ [] ++ ds) × g.Values n bs ds ws × Structural 93 ws x.1) (λ x. Inside n bs x.0 x.1)
      (λ x h. inr (h.1, subst (λ ds. g.Values n bs ds h.1) (sym h.2) h.3, h.4)) (elements_sound es)

  elements_sound : {n : ℕ} {acc : List Doc} {bs : List ℕ} {o : Read (List Doc)} → Elements n acc bs o
      → IfOk o (λ x. (ds : List Doc) × (ws : List ℕ) × (x.0 ≡ acc ++ ds) × g.Values n bs ds ws × Structural 93 ws x.1)
  elements_sound (Elements.bad_element v) = tt
  elements_sound (Elements.last_element {ws = ws} {rest = rest} {d = d} v e) = (d ∷ [], ws, refl, g.Values.one_value (value_sound v), last_mark 93 ws rest e)
  elements_sound (Elements.more_elements {n = n} {ds = acc} {bs = bs} {ws = ws} {rest = rest} {d = d} {o = o} v e f es) =
      IfOk-weaker o (λ x. (ds : List Doc) × (us : List ℕ) × (x.0 ≡ (acc ++ d ∷ []) ++ ds) × g.Values n (skipped rest) ds us × Structural 93 us x.1)
      (λ x. (ds : List Doc) × (us : List ℕ) × (x.0 ≡ acc ++ ds) × g.Values n bs ds us × Structural 93 us x.1)
      (λ x h. (d ∷ h.0, h.1, h.2 ∙ append_assoc acc (d ∷ []) h.0, g.Values.more_values (value_sound v) (mark 44 ws rest f) h.3, h.4)) (elements_sound es)
  elements_sound (Elements.open_array v e f) = tt

  object_sound : {n : ℕ} {bs : List ℕ} {o : Read (List (Pair Doc))} → Object n bs o → IfOk o (λ x. ObjectInside n bs x.0 x.1)
  object_sound (Object.empty_object {bs = bs} {rest = rest} e) = inl (refl, empty_mark 125 bs rest e)
  object_sound (Object.full_object {n = n} {bs = bs} {o = o} e ms) =
      IfOk-weaker o (λ x. (ms : List (Pair Doc)) × (ws : List ℕ) × (x.0 ≡ put_all [] ms) × g.Members n bs ms ws × Structural 125 ws x.1) (λ x. ObjectInside n bs x.0 x.1)
      (λ x h. inr h) (members_sound ms)

  members_sound : {n : ℕ} {ps : List (Pair Doc)} {bs : List ℕ} {o : Read (List (Pair Doc))} → Members n ps bs o
      → IfOk o (λ x. (ms : List (Pair Doc)) × (ws : List ℕ) × (x.0 ≡ put_all ps ms) × g.Members n bs ms ws × Structural 125 ws x.1)
  members_sound (Members.bad_key e) = tt
  members_sound (Members.bad_member e v) = tt
  members_sound (Members.last_member {bs = bs} {k = k} {vs = vs} {ws = ws} {rest = rest} {d = d} e v f) =
      let key = IfOk-at_ok _ e (key-is bs) in
      (record { key = k; value = d } ∷ [], ws, refl, g.Members.one_member (g.Member.member key.1 key.2 (value_sound v)), last_mark 125 ws rest f)
  members_sound (Members.more_members {n = n} {ps = ps} {bs = bs} {k = k} {vs = vs} {ws = ws} {rest = rest} {d = d} {o = o} e v f h ms) =
      let key = IfOk-at_ok _ e (key-is bs) in
      let m : Pair Doc = record { key = k; value = d } in
      IfOk-weaker o (λ x. (ls : List (Pair Doc)) × (us : List ℕ) × (x.0 ≡ put_all (put ps k d) ls) × g.Members n (skipped rest) ls us × Structural 125 us x.1)
      (λ x. (ls : List (Pair Doc)) × (us : List ℕ) × (x.0 ≡ put_all ps ls) × g.Members n bs ls us × Structural 125 us x.1)
      (λ x r. (m ∷ r.0, r.1, r.2, g.Members.more_members (g.Member.member key.1 key.2 (value_sound v)) (mark 44 ws rest h) r.3, r.4)) (members_sound ms)
  members_sound (Members.open_object e v f h) = tt

ended-is : (c : Doc) (bs : List ℕ) (d : Doc) → ended c bs ≡ Ok d → (c ≡ d) × (bs ≡ [])
ended-is c [] d e = (cc, refl)
ended-is c (b ∷ bs) d e = absurd cc

pub text_sound : (bs : List ℕ) (d : Doc) → Scans bs (Ok d) → Reads bs d
text_sound bs d (Err stop, v, e) = absurd cc
text_sound bs d (Ok x, v, e) =
    let last = ended-is x.0 (skipped x.1) d (sym e) in
    (skipped bs, x.1, skipped-Ws bs, subst (λ c. g.Value 0 (skipped bs) c x.1) last.0 (value_sound v), subst (Ws x.1) last.1 (skipped-Ws x.1))
