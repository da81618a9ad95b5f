-- What is behind a part, or left at its fault, is no longer than the part's bytes.
use Rattle.std.proofs.Common.{◌≡◌, ◌==◌, ℕ, ◌<◌, ◌≤◌, true, false, if◌then◌else◌, List, [], ◌∷◌, length, Some, None, Result, Ok, Err, sym, subst, arith}
use Rattle.std.specs.Prelude.{codes}
use Rattle.json_doc.specs.declared.doc.Doc as doc
use Rattle.json_doc.specs.declared.doc.Doc.{Doc}
use Rattle.texts.specs.declared.pairs.Pair.{Pair}
use Rattle.json_doc.specs.declared.stop.Stop.{Stop}
use Rattle.json_doc.specs.declared.stop.Stop.TheVariants.{Syntax}
use Rattle.json_doc.specs.Reading.{Read}
use Rattle.texts.specs.Calls.{◌>>=◌}
use Rattle.json_doc.specs.TextToken.{text_at}
use Rattle.json_doc.proofs.Within.{Within, Left, left_of, either, wider, bind-within}
use Rattle.json_doc.proofs.NumberLeft.{ReadsNumber-within}
use Rattle.json_doc.proofs.TextLeft.{text_at-within}
use Rattle.json_doc.specs.Grammar.{is_blank}
use Rattle.json_doc.specs.Scan.{made, skipped, behind, past, past_word, named, scalar_at, key_at, ended, Value, Array, Object, Elements, Members, Scans}

pub skipped-le : (bs : List ℕ) → length (skipped bs) ≤ length bs
skipped-le [] = omega arith
skipped-le (b ∷ bs) = either (λ cs. length cs ≤ length (b ∷ bs)) (is_blank b) (skipped bs) (b ∷ bs) (omega (arith, skipped-le bs)) (omega arith)

pub behind-lt : (c : ℕ) (bs rest : List ℕ) → behind c bs ≡ Some rest → length rest < length bs
behind-lt c [] rest e = absurd cc
behind-lt c (b ∷ bs) rest e =
    elim (b == c) as (λ v. (if v then Some bs else None) ≡ Some rest → length rest < length (b ∷ bs))
    [ true ↦ (λ f. let same : bs ≡ rest = cc in subst (λ cs. length cs < length (b ∷ bs)) same (omega arith)) | false ↦ (λ f. absurd cc) ] e

pub past-le : (c : ℕ) (bs : List ℕ) → Left bs (past c bs)
past-le c [] = omega arith
past-le c (b ∷ bs) = either (Left (b ∷ bs)) (b == c) (Ok bs) (Err (Syntax (length (b ∷ bs)))) (omega arith) (omega arith)

left-wider : (bs cs : List ℕ) (r : Result (List ℕ) Stop) → length bs ≤ length cs → Left bs r → Left cs r
left-wider bs cs (Ok rest) le h = omega arith
left-wider bs cs (Err stop) le h = omega arith

pub past_skipped-le : (c : ℕ) (bs : List ℕ) → Left bs (past c (skipped bs))
past_skipped-le c bs = left-wider (skipped bs) bs (past c (skipped bs)) (skipped-le bs) (past-le c (skipped bs))

pub made-within : {A B : Type 0} (f : A → B) (bs : List ℕ) (o : Read A) → Within bs o → Within bs (made f o)
made-within f bs (Ok x) h = h
made-within f bs (Err stop) h = h

pub bind-left : {B : Type 0} (bs : List ℕ) (r : Result (List ℕ) Stop) (f : List ℕ → Read B) → Left bs r → ((cs : List ℕ) → Within cs (f cs)) → Within bs (r >>= f)
bind-left bs (Ok cs) f h g = wider cs bs (f cs) h (g cs)
bind-left bs (Err stop) f h g = h

left-left : (bs : List ℕ) (r : Result (List ℕ) Stop) (f : List ℕ → Result (List ℕ) Stop) → Left bs r → ((cs : List ℕ) → Left cs (f cs)) → Left bs (r >>= f)
left-left bs (Ok cs) f h g = left-wider cs bs (f cs) h (g cs)
left-left bs (Err stop) f h g = h

pub past_word-le : (word bs : List ℕ) → Left bs (past_word word bs)
past_word-le [] bs = omega arith
past_word-le (c ∷ cs) bs = left-left bs (past c bs) (past_word cs) (past-le c bs) (past_word-le cs)

pub named-within : (d : Doc) (word bs : List ℕ) → Within bs (named d word bs)
named-within d word bs = bind-left bs (past_word word bs) (λ rest. Ok (d, rest)) (past_word-le word bs) (λ cs. omega arith)

scalar_at-within : (bs : List ℕ) → Within bs (scalar_at bs)
scalar_at-within [] = omega arith
scalar_at-within (b ∷ bs) =
    let more : length bs ≤ length (b ∷ bs) = omega arith in
    let text = wider bs (b ∷ bs) (made doc.Str (text_at bs)) more (made-within doc.Str bs (text_at bs) (text_at-within bs)) in
    let word = λ (d : Doc) (w : List ℕ). wider bs (b ∷ bs) (named d w bs) more (named-within d w bs) in
    either (Within (b ∷ bs)) (b == 34) _ _ text (either (Within (b ∷ bs)) (b == 102) _ _ (word (doc.Flag false) (codes "alse"))
    (either (Within (b ∷ bs)) (b == 110) _ _ (word doc.Null (codes "ull")) (either (Within (b ∷ bs)) (b == 116) _ _ (word (doc.Flag true) (codes "rue")) (omega arith))))

key-within : (bs : List ℕ) → Within bs (key_at bs)
key-within bs =
    bind-left bs (past 34 bs) _ (past-le 34 bs) (λ ks.
    bind-within ks (text_at ks) _ (text_at-within ks) (λ key.
    bind-left key.1 (past 58 (skipped key.1)) _ (past_skipped-le 58 key.1) (λ vs. skipped-le vs)))

pub key_at-within : (bs : List ℕ) (x : List ℕ × List ℕ) → key_at bs ≡ Ok x → length x.1 ≤ length bs
key_at-within bs x e = subst (Within bs) e (key-within bs)

behind-le : (c : ℕ) (bs rest : List ℕ) → behind c bs ≡ Some rest → length rest ≤ length bs
behind-le c bs rest e = omega (arith, behind-lt c bs rest e)

behind_skipped-le : (c : ℕ) (bs rest : List ℕ) → behind c (skipped bs) ≡ Some rest → length rest ≤ length bs
behind_skipped-le c bs rest e = omega (arith, behind-lt c (skipped bs) rest e, skipped-le bs)

skipped-within : {A : Type 0} (c : ℕ) (bs ws : List ℕ) (o : Read A) → behind c bs ≡ Some ws → Within (skipped ws) o → Within bs o
skipped-within c bs ws o e h = wider (skipped ws) bs o (omega (arith, behind-lt c bs ws e, skipped-le ws)) h

comma-within : {A : Type 0} (bs ws rest : List ℕ) (o : Read A) → length ws ≤ length bs → behind 44 (skipped ws) ≡ Some rest → Within (skipped rest) o → Within bs o
comma-within bs ws rest o le e h = wider (skipped rest) bs o (omega (arith, behind_skipped-le 44 ws rest e, skipped-le rest)) h

mutual
  pub value_in-within : {n : ℕ} {bs : List ℕ} {o : Read Doc} → Value n bs o → Within bs o
  value_in-within (Value.number {bs = bs} {o = o} starts r) = made-within doc.Number bs o (ReadsNumber-within bs o r)
  value_in-within (Value.scalar {bs = bs} e f apart g) = subst (Within bs) g (scalar_at-within bs)
  value_in-within (Value.array {bs = bs} {ws = ws} {o = o} e less a) = made-within doc.Items bs o (skipped-within 91 bs ws o e (array_in-within a))
  value_in-within (Value.object {bs = bs} {ws = ws} {o = o} e less a) = made-within doc.Fields bs o (skipped-within 123 bs ws o e (object_in-within a))
  value_in-within (Value.deep_array e more) = omega arith
  value_in-within (Value.deep_object e more) = omega arith

  pub array_in-within : {n : ℕ} {bs : List ℕ} {o : Read (List Doc)} → Array n bs o → Within bs o
  array_in-within (Array.empty_array {bs = bs} {rest = rest} e) = behind-le 93 bs rest e
  array_in-within (Array.full_array e es) = elements_in-within es

  pub elements_in-within : {n : ℕ} {ds : List Doc} {bs : List ℕ} {o : Read (List Doc)} → Elements n ds bs o → Within bs o
  elements_in-within (Elements.bad_element v) = value_in-within v
  elements_in-within (Elements.last_element {ws = ws} {rest = rest} v e) = omega (arith, value_in-within v, behind_skipped-le 93 ws rest e)
  elements_in-within (Elements.more_elements {bs = bs} {ws = ws} {rest = rest} {o = o} v e f es) = comma-within bs ws rest o (value_in-within v) f (elements_in-within es)
  elements_in-within (Elements.open_array {ws = ws} v e f) = omega (arith, value_in-within v, skipped-le ws)

  pub object_in-within : {n : ℕ} {bs : List ℕ} {o : Read (List (Pair Doc))} → Object n bs o → Within bs o
  object_in-within (Object.empty_object {bs = bs} {rest = rest} e) = behind-le 125 bs rest e
  object_in-within (Object.full_object e ms) = members_in-within ms

  pub members_in-within : {n : ℕ} {ps : List (Pair Doc)} {bs : List ℕ} {o : Read (List (Pair Doc))} → Members n ps bs o → Within bs o
  members_in-within (Members.bad_key {bs = bs} e) = subst (Within bs) e (key-within bs)
  members_in-within (Members.bad_member {bs = bs} {k = k} {vs = vs} e v) = omega (arith, value_in-within v, key_at-within bs (k, vs) e)
  members_in-within (Members.last_member {bs = bs} {k = k} {vs = vs} {ws = ws} {rest = rest} e v f) =
      omega (arith, key_at-within bs (k, vs) e, value_in-within v, behind_skipped-le 125 ws rest f)
  members_in-within (Members.more_members {bs = bs} {k = k} {vs = vs} {ws = ws} {rest = rest} {o = o} e v f g ms) =
      wider vs bs o (key_at-within bs (k, vs) e) (comma-within vs ws rest o (value_in-within v) g (members_in-within ms))
  members_in-within (Members.open_object {bs = bs} {k = k} {vs = vs} {ws = ws} e v f g) = omega (arith, key_at-within bs (k, vs) e, value_in-within v, skipped-le ws)

pub value-within : {n : ℕ} {bs rest : List ℕ} {d : Doc} → Value n bs (Ok (d, rest)) → length rest ≤ length bs
value-within v = value_in-within v

ended-within : (d : Doc) (bs : List ℕ) (stop : Stop) → ended d bs ≡ Err stop → left_of stop ≤ length bs
ended-within d [] stop e = absurd cc
ended-within d (b ∷ bs) stop e = let same : Syntax (length (b ∷ bs)) ≡ stop = cc in subst (λ t. left_of t ≤ length (b ∷ bs)) same (omega arith)

-- the fault of a whole text stands in it
pub Scans-within : (bs : List ℕ) (stop : Stop) → Scans bs (Err stop) → left_of stop ≤ length bs
Scans-within bs stop (Err s, v, e) = let same : stop ≡ s = cc in subst (λ t. left_of t ≤ length bs) (sym same) (omega (arith, value_in-within v, skipped-le bs))
Scans-within bs stop (Ok x, v, e) = omega (arith, value_in-within v, skipped-le bs, skipped-le x.1, ended-within x.0 (skipped x.1) stop (sym e))
