-- Bytes are a document or they are none, and a JSON text or none.
use Rattle.std.proofs.Common.{◌≡◌, ℕ, zero, suc, ◌+◌, ◌<◌, ◌≤◌, ◌⊎◌, inl, inr, List, [], ◌∷◌, ◌++◌, length, Option, None, Some, Ok, Err, refl, sym, ap, subst, arith, length-append}
use Rattle.std.proofs.lemmas.Bool.{cases_lt}
use Rattle.json_doc.specs.declared.brackets.Bracket.{Bracket}
use Rattle.json_doc.specs.declared.brackets.Bracket.TheVariants.{Array, Object}
use Rattle.json_doc.specs.declared.doc.Doc as doc
use Rattle.json_doc.specs.declared.doc.Doc.{Doc}
use Rattle.texts.specs.declared.pairs.Pair.{Pair}
use Rattle.json_doc.specs.declared.stop.Stop.{Stop}
use Rattle.json_doc.specs.Grammar.{Ws, Reads}
use Rattle.json_doc.specs.JsonTexts.{IsJsonText}
use Rattle.texts.specs.Keys.{put}
use Rattle.json_doc.specs.NumberToken.{number_at}
use Rattle.json_doc.specs.Reading.{Read}
use Rattle.json_doc.specs.Scan.{skipped, behind, begins_number, scalar_at, key_at, made, whole, ended, Value, Elements, Members, Scans}
use Rattle.json_doc.specs.Scan as scan
use Rattle.json_doc.specs.StillDue.{Closes, Opens, Begins, GoesOn}
use Rattle.json_doc.specs.StillDue as due
use Rattle.json_doc.specs.TextToken.{text_at}
use Rattle.json_doc.proofs.Complete.{text_complete}
use Rattle.json_doc.proofs.NumberLaws.{number_total}
use Rattle.json_doc.proofs.NumberScans.{number_at_ok}
use Rattle.json_doc.proofs.Once.{text_once}
use Rattle.json_doc.proofs.PassedTexts.{empty_array_passed, array_begun, empty_object_passed, object_begun, object_unkeyed, number_passed, no_number_passed, scalar_passed, no_scalar_passed, array_closed, array_goes_on, array_stuck, object_closed, object_goes_on, object_keyless, object_stuck, text_opens, nothing_left}
use Rattle.json_doc.proofs.Shorter.{skipped-le, behind-lt, key_at-within, value-within}
use Rattle.json_doc.proofs.Sound.{text_sound, skipped-Ws}
use Rattle.jmes_syntax.specs.Literals.{in_quotes, StringOf, string, no_string}
use Rattle.jmes_syntax.proofs.Choices.{of_bool, of_option, of_result}

-- Reading a document from the left ends for any bytes.

abbrev Has : {A : Type 0} → (Read A → Type 0) → Type 0
Has {A = A} R = (o : Read A) × R o

record Ends (bs : List ℕ) : Type 0 where
  value : (n : ℕ) → Has (Value n bs)
  elements : (n : ℕ) (ds : List Doc) → Has (Elements n ds bs)
  members : (n : ℕ) (ps : List (Pair Doc)) → Has (Members n ps bs)

-- shorter bytes than these end
abbrev Shorter : List ℕ → Type 0
Shorter bs = (cs : List ℕ) → length cs < length bs → Ends cs

array_ends : (bs ws : List ℕ) → Shorter bs → behind 0x5B bs ≡ Some ws → (n : ℕ) → Has (scan.Array n (skipped ws))
array_ends bs ws shorter e n =
    let less : length (skipped ws) < length bs = omega (arith, behind-lt 0x5B bs ws e, skipped-le ws) in
    of_option (behind 0x5D (skipped ws))
    (λ f. let r = (shorter (skipped ws) less).elements n [] in (r.0, scan.Array.full_array f r.1))
    (λ rest f. (Ok ([], rest), scan.Array.empty_array f))

object_ends : (bs ws : List ℕ) → Shorter bs → behind 0x7B bs ≡ Some ws → (n : ℕ) → Has (scan.Object n (skipped ws))
object_ends bs ws shorter e n =
    let less : length (skipped ws) < length bs = omega (arith, behind-lt 0x7B bs ws e, skipped-le ws) in
    of_option (behind 0x7D (skipped ws))
    (λ f. let r = (shorter (skipped ws) less).members n [] in (r.0, scan.Object.full_object f r.1))
    (λ rest f. (Ok ([], rest), scan.Object.empty_object f))

value_ends : (bs : List ℕ) → Shorter bs → (n : ℕ) → Has (Value n bs)
value_ends bs shorter n = of_option (behind 0x5B bs)
    (λ array. of_option (behind 0x7B bs)
    (λ object. of_bool (begins_number bs)
    (λ begins. let r = number_total bs in (made doc.Number r.0, Value.number begins r.1))
    (λ other. (scalar_at bs, Value.scalar array object other refl)))
    (λ ws e. elim (cases_lt n 100) [
      | inl less ↦ (let r = object_ends bs ws shorter e (n + 1) in (made doc.Fields r.0, Value.object e less r.1))
      | inr deep ↦ (_, Value.deep_object e deep)
    ]))
    (λ ws e. elim (cases_lt n 100) [
      | inl less ↦ (let r = array_ends bs ws shorter e (n + 1) in (made doc.Items r.0, Value.array e less r.1))
      | inr deep ↦ (_, Value.deep_array e deep)
    ])

-- what is behind a comma is shorter
behind_comma : (bs ws rest : List ℕ) → length ws ≤ length bs → behind 0x2C (skipped ws) ≡ Some rest → length (skipped rest) < length bs
behind_comma bs ws rest le e = omega (arith, behind-lt 0x2C (skipped ws) rest e, skipped-le ws, skipped-le rest)

elements_end : (bs : List ℕ) → Shorter bs → (n : ℕ) (ds : List Doc) (o : Read Doc) → Value n bs o → Has (Elements n ds bs)
elements_end bs shorter n ds (Err stop) v = (Err stop, Elements.bad_element v)
elements_end bs shorter n ds (Ok x) v = of_option (behind 0x5D (skipped x.1))
    (λ f. of_option (behind 0x2C (skipped x.1))
    (λ g. (_, Elements.open_array v f g))
    (λ rest g. let r = (shorter (skipped rest) (behind_comma bs x.1 rest (value-within v) g)).elements n (ds ++ x.0 ∷ []) in (r.0, Elements.more_elements v f g r.1)))
    (λ rest f. (Ok (ds ++ x.0 ∷ [], rest), Elements.last_element v f))

members_end : (bs k vs : List ℕ) → Shorter bs → (n : ℕ) (ps : List (Pair Doc)) → key_at bs ≡ Ok (k, vs) → (o : Read Doc) → Value n vs o → Has (Members n ps bs)
members_end bs k vs shorter n ps e (Err stop) v = (Err stop, Members.bad_member e v)
members_end bs k vs shorter n ps e (Ok x) v =
    let le : length x.1 ≤ length bs = omega (arith, value-within v, key_at-within bs (k, vs) e) in
    of_option (behind 0x7D (skipped x.1))
    (λ f. of_option (behind 0x2C (skipped x.1))
    (λ g. (_, Members.open_object e v f g))
    (λ rest g. let r = (shorter (skipped rest) (behind_comma bs x.1 rest le g)).members n (put ps k x.0) in (r.0, Members.more_members e v f g r.1)))
    (λ rest f. (Ok (put ps k x.0, rest), Members.last_member e v f))

-- a value that is no longer than these bytes ends
value_within : (bs : List ℕ) → Shorter bs → (cs : List ℕ) → length cs ≤ length bs → (n : ℕ) → Has (Value n cs)
value_within bs shorter cs le n = value_ends cs (λ ds less. shorter ds (omega arith)) n

ends : (k : ℕ) (bs : List ℕ) → length bs < k → Ends bs
ends zero bs less = absurd (omega arith)
ends (suc k) bs less =
    let shorter : Shorter bs = λ cs lt. ends k cs (omega arith) in
    record {
      value = value_ends bs shorter;
      elements = λ n ds. (let v = value_ends bs shorter n in elements_end bs shorter n ds v.0 v.1);
      members = λ n ps. of_result (key_at bs)
          (λ x e. let v = value_within bs shorter x.1 (key_at-within bs x e) n in members_end bs x.0 x.1 shorter n ps e v.0 v.1)
          (λ s e. (Err s, Members.bad_key e));
    }

any_value : (bs : List ℕ) → Has (Value 0 bs)
any_value bs = (ends (length bs + 1) bs (omega arith)).value 0

-- reading gives no document where it ends otherwise
no_document : (bs : List ℕ) (s : Stop) → Scans bs (Err s) → (d : Doc) → Reads bs d → ⊥
no_document bs s scans d reads = let same = text_once bs (Err s) (Ok d) scans (text_complete bs d reads) in absurd cc

pub document_or_not : (bs : List ℕ) → ((d : Doc) × Reads bs d) ⊎ ((d : Doc) → Reads bs d → ⊥)
document_or_not bs =
    let v = any_value (skipped bs) in
    of_result (whole v.0)
    (λ d e. inl (d, text_sound bs d (v.0, v.1, sym e)))
    (λ s e. inr (no_document bs s (v.0, v.1, sym e)))

-- a text between quotes
text_whole : (t cs : List ℕ) → ((u : List ℕ) × (ended (doc.Str t) cs ≡ Ok (doc.Str u))) ⊎ ((s : Stop) × (ended (doc.Str t) cs ≡ Err s))
text_whole t [] = inl (t, refl)
text_whole t (c ∷ cs) = inr (_, refl)

string_whole : (o : Read (List ℕ)) → ((u : List ℕ) × (whole (made doc.Str o) ≡ Ok (doc.Str u))) ⊎ ((s : Stop) × (whole (made doc.Str o) ≡ Err s))
string_whole (Err s) = inr (s, refl)
string_whole (Ok x) = text_whole x.0 (skipped x.1)

pub string_or_not : (bs : List ℕ) → (o : Option (List ℕ)) × StringOf bs o
string_or_not bs =
    let o : Read (List ℕ) = text_at (bs ++ 0x22 ∷ []) in
    let v : Value 0 (skipped (in_quotes bs)) (made doc.Str o) = Value.scalar refl refl refl refl in
    elim (string_whole o) [
      | inl is ↦ (Some is.0, string (text_sound (in_quotes bs) (doc.Str is.0) (made doc.Str o, v, sym is.1)))
      | inr not ↦ (None, no_string (λ t. no_document (in_quotes bs) not.0 (made doc.Str o, v, sym not.1) (doc.Str t)))
    ]

-- Passing over a JSON text ends for any bytes.

data Begun (bs : List ℕ) : Type 0 where
  passed : (rest : List ℕ) → Begins bs None rest → length rest ≤ length bs → Begun bs
  inside : (b : Bracket) (rest : List ℕ) → Begins bs (Some b) rest → length rest < length bs → Begun bs
  stuck : ((outer : List Bracket) → Opens outer bs → ⊥) → Begun bs

begun_atom : (bs : List ℕ) → behind 91 (skipped bs) ≡ None → behind 123 (skipped bs) ≡ None → Begun bs
begun_atom bs array object = of_bool (begins_number (skipped bs))
    (λ begins. of_result (number_at (skipped bs))
    (λ x e. let t = number_at_ok (skipped bs) x e in passed x.1 (number_passed bs x.0 x.1 array object begins e) (omega (arith, skipped-le bs, ap length t.2, length-append t.0 x.1)))
    (λ s e. stuck (no_number_passed bs s array object begins e)))
    (λ other. of_result (scalar_at (skipped bs))
    (λ x e. let v : Value 0 (skipped bs) (Ok (x.0, x.1)) = Value.scalar array object other e in passed x.1 (scalar_passed bs x.0 x.1 array object other e) (omega (arith, value-within v, skipped-le bs)))
    (λ s e. stuck (no_scalar_passed bs s array object other e)))

begun_object : (bs t : List ℕ) → behind 123 (skipped bs) ≡ Some t → Begun bs
begun_object bs t e = of_option (behind 125 (skipped t))
    (λ f. of_result (key_at (skipped t))
    (λ x h. inside Object x.1 (object_begun bs t x.0 x.1 e f h) (omega (arith, key_at-within (skipped t) x h, skipped-le t, behind-lt 123 (skipped bs) t e, skipped-le bs)))
    (λ s h. stuck (object_unkeyed bs t s e f h)))
    (λ rest f. passed rest (empty_object_passed bs t rest e f) (omega (arith, behind-lt 125 (skipped t) rest f, skipped-le t, behind-lt 123 (skipped bs) t e, skipped-le bs)))

begun : (bs : List ℕ) → Begun bs
begun bs = of_option (behind 91 (skipped bs))
    (λ array. of_option (behind 123 (skipped bs)) (λ object. begun_atom bs array object) (λ t e. begun_object bs t e))
    (λ t e. of_option (behind 93 (skipped t))
    (λ f. inside Array t (array_begun bs t e f) (omega (arith, behind-lt 91 (skipped bs) t e, skipped-le bs)))
    (λ rest f. passed rest (empty_array_passed bs t rest e f) (omega (arith, behind-lt 93 (skipped t) rest f, skipped-le t, behind-lt 91 (skipped bs) t e, skipped-le bs))))

data Gone (b : Bracket) (bs : List ℕ) : Type 0 where
  closed : (rest : List ℕ) → GoesOn b bs None rest → length rest < length bs → Gone b bs
  stays : (c : Bracket) (rest : List ℕ) → GoesOn b bs (Some c) rest → length rest < length bs → Gone b bs
  broken : ((outer : List Bracket) → Closes (b ∷ outer) bs → ⊥) → Gone b bs

gone : (b : Bracket) (bs : List ℕ) → Gone b bs
gone Array bs = of_option (behind 93 (skipped bs))
    (λ f. of_option (behind 44 (skipped bs)) (λ g. broken (array_stuck bs f g)) (λ more g. stays Array more (array_goes_on bs more f g) (omega (arith, behind-lt 44 (skipped bs) more g, skipped-le bs))))
    (λ rest f. closed rest (array_closed bs rest f) (omega (arith, behind-lt 93 (skipped bs) rest f, skipped-le bs)))
gone Object bs = of_option (behind 125 (skipped bs))
    (λ f. of_option (behind 44 (skipped bs)) (λ g. broken (object_stuck bs f g))
    (λ more g. of_result (key_at (skipped more))
    (λ x h. stays Object x.1 (object_goes_on bs more x.0 x.1 f g h) (omega (arith, key_at-within (skipped more) x h, skipped-le more, behind-lt 44 (skipped bs) more g, skipped-le bs)))
    (λ s h. broken (object_keyless bs more s f g h))))
    (λ rest f. closed rest (object_closed bs rest f) (omega (arith, behind-lt 125 (skipped bs) rest f, skipped-le bs)))

-- these bytes open, or close, the brackets around them, or they don't
record Decided (bs : List ℕ) : Type 0 where
  opens : (outer : List Bracket) → Opens outer bs ⊎ (Opens outer bs → ⊥)
  closes : (outer : List Bracket) → Closes outer bs ⊎ (Closes outer bs → ⊥)

carried : {P Q : Type 0} → (P → Q) → (Q → P) → Q ⊎ (Q → ⊥) → P ⊎ (P → ⊥)
carried f g (inl q) = inl (g q)
carried f g (inr none) = inr (λ p. none (f p))

abbrev ShorterDecided : List ℕ → Type 0
ShorterDecided bs = (cs : List ℕ) → length cs < length bs → Decided cs

nothing_or_some : (bs cs : List ℕ) → skipped bs ≡ cs → Closes [] bs ⊎ (Closes [] bs → ⊥)
nothing_or_some bs [] e = inl (due.ended (subst (Ws bs) e (skipped-Ws bs)))
nothing_or_some bs (c ∷ cs) e = inr (λ h. let none = nothing_left bs h in absurd cc)

closes_in : (b : Bracket) (outer : List Bracket) (bs : List ℕ) → ShorterDecided bs → Gone b bs → Closes (b ∷ outer) bs ⊎ (Closes (b ∷ outer) bs → ⊥)
closes_in b outer bs shorter (closed rest both less) = let h = both outer in carried h.0 h.1 ((shorter rest less).closes outer)
closes_in b outer bs shorter (stays c rest both less) = let h = both outer in carried h.0 h.1 ((shorter rest less).opens (c ∷ outer))
closes_in b outer bs shorter (broken none) = inr (none outer)

closes_or_not : (bs : List ℕ) → ShorterDecided bs → (outer : List Bracket) → Closes outer bs ⊎ (Closes outer bs → ⊥)
closes_or_not bs shorter [] = nothing_or_some bs (skipped bs) refl
closes_or_not bs shorter (b ∷ outer) = closes_in b outer bs shorter (gone b bs)

opens_in : (bs : List ℕ) → ShorterDecided bs → Begun bs → (outer : List Bracket) → Opens outer bs ⊎ (Opens outer bs → ⊥)
opens_in bs shorter (passed rest both le) outer = let h = both outer in carried h.0 h.1 (closes_or_not rest (λ cs less. shorter cs (omega arith)) outer)
opens_in bs shorter (inside b rest both less) outer = let h = both outer in carried h.0 h.1 ((shorter rest less).opens (b ∷ outer))
opens_in bs shorter (stuck none) outer = inr (none outer)

decided : (k : ℕ) (bs : List ℕ) → length bs < k → Decided bs
decided zero bs less = absurd (omega arith)
decided (suc k) bs less =
    let shorter : ShorterDecided bs = λ cs lt. decided k cs (omega arith) in
    record { opens = opens_in bs shorter (begun bs); closes = closes_or_not bs shorter }

last : {r : List ℕ} → Closes [] r → Ws r []
last (due.ended ws) = ws

opened_text : (bs : List ℕ) → Opens [] bs → IsJsonText bs
opened_text bs h = (skipped bs, h.0, skipped-Ws bs, h.1, last h.2)

pub json_text_or_not : (bs : List ℕ) → IsJsonText bs ⊎ (IsJsonText bs → ⊥)
json_text_or_not bs = carried (text_opens bs) (opened_text bs) ((decided (length bs + 1) bs (omega arith)).opens [])
