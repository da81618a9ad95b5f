-- Reading gives one outcome.
use Rattle.std.proofs.Common.{◌≡◌, ◌==◌, ℕ, ◌+◌, ◌<◌, ◌≤◌, true, false, if◌then◌else◌, List, [], ◌∷◌, ◌++◌, length, Some, None, Result, Ok, Err, refl, sym, ap, subst, ◌∙◌, arith}
use Rattle.std.specs.Prelude.{MatchOption, MatchBool}
use Rattle.std.proofs.lemmas.Bool.{eqb-true, eq-eqb, false≢true}
use Rattle.json_doc.specs.declared.decimal.Decimal.{Decimal}
use Rattle.json_doc.specs.declared.doc.Doc as doc
use Rattle.json_doc.specs.declared.doc.Doc.{Doc}
use Rattle.texts.specs.declared.pairs.Pair.{Pair}
use Rattle.json_doc.specs.declared.stop.Stop.{Stop}
use Rattle.json_doc.specs.declared.stop.Stop.TheVariants.{Syntax, TooDeep}
use Rattle.texts.specs.Keys.{put}
use Rattle.json_doc.specs.Reading.{Read}
use Rattle.json_doc.specs.Exact.{HasValue}
use Rattle.json_doc.specs.NumberToken.{Number, number_at, value_of, ReadsNumber}
use Rattle.json_doc.proofs.Decimals.{one_decimal}
use Rattle.json_doc.proofs.TokenParts.{ok_same}
use Rattle.json_doc.specs.Scan.{made, skipped, behind, is_number_start, begins_number, scalar_at, key_at, whole, Value, Array, Object, Elements, Members, Scans}

behind-head : (c b : ℕ) (bs ws : List ℕ) → behind c (b ∷ bs) ≡ Some ws → b ≡ c
behind-head c b bs ws e =
    elim (b == c) as (λ v. b == c ≡ v → (if v then Some bs else None) ≡ Some ws → b ≡ c)
    [ true ↦ (λ f g. eqb-true b c f) | false ↦ (λ f g. absurd cc) ] refl e

-- what begins with this byte
pub behind-is : (c : ℕ) (bs rest : List ℕ) → behind c bs ≡ Some rest → bs ≡ c ∷ rest
behind-is c [] rest e = absurd cc
behind-is c (b ∷ bs) rest e =
    let head = behind-head c b bs rest e in
    let tail : Some bs ≡ Some rest = sym (ap (λ v. if v then Some bs else None) (eq-eqb b c head)) ∙ e in
    cc

-- what begins with one byte doesn't begin with another
pub other-behind : (c d : ℕ) (bs ws : List ℕ) → (c ≡ d → ⊥) → behind c bs ≡ Some ws → behind d bs ≡ None
other-behind c d [] ws ne e = refl
other-behind c d (b ∷ bs) ws ne e =
    elim (b == d) as (λ v. b == d ≡ v → (if v then Some bs else None) ≡ None)
    [ true ↦ (λ f. absurd (ne (sym (behind-head c b bs ws e) ∙ eqb-true b d f))) | false ↦ (λ f. refl) ] refl

no_bracket : (bs ws : List ℕ) → behind 123 bs ≡ Some ws → behind 91 bs ≡ None
no_bracket bs ws e = other-behind 123 91 bs ws (λ h. absurd (omega arith)) e

-- a number begins with no such byte
pub no_mark : (c : ℕ) (bs : List ℕ) → is_number_start c ≡ false → begins_number bs ≡ true → behind c bs ≡ None
no_mark c [] other starts = refl
no_mark c (b ∷ bs) other starts =
    elim (b == c) as (λ v. b == c ≡ v → (if v then Some bs else None) ≡ None)
    [ true ↦ (λ f. absurd (false≢true (sym other ∙ subst (λ x. is_number_start x ≡ true) (eqb-true b c f) starts))) | false ↦ (λ f. refl) ] refl

no_other : (r : Read Number) (x : Number × List ℕ) (stop : Stop) → r ≡ Ok x → r ≡ Err stop → ⊥
no_other r x stop e f = cc

same_parts : (r : Read Number) (x y : Number × List ℕ) → r ≡ Ok x → r ≡ Ok y → x ≡ y
same_parts r x y e f = ok_same x y (sym e ∙ f)

number_once : (bs : List ℕ) (o p : Read Decimal) → ReadsNumber bs o → ReadsNumber bs p → o ≡ p
number_once bs o p (ReadsNumber.read {rest = us} {n = n} {d = d} e v) (ReadsNumber.read {rest = vs} {n = m} {d = c} f w) =
    let same = same_parts (number_at bs) (n, us) (m, vs) e f in
    let value = subst (λ x. HasValue c (value_of x)) (sym (ap (λ x. x.0) same)) w in
    ap (λ x. Ok (x, us)) (one_decimal d c (value_of n) v value) ∙ ap (λ x. Ok (c, x)) (ap (λ x. x.1) same)
number_once bs o p (ReadsNumber.read {rest = us} {n = n} {d = d} e v) (ReadsNumber.too_wide {rest = vs} {n = m} f none) =
    absurd (none d (subst (λ x. HasValue d (value_of x)) (ap (λ x. x.0) (same_parts (number_at bs) (n, us) (m, vs) e f)) v))
number_once bs o p (ReadsNumber.read {rest = us} {n = n} e v) (ReadsNumber.broken {stop = stop} f) = absurd (no_other (number_at bs) (n, us) stop e f)
number_once bs o p (ReadsNumber.too_wide {rest = us} {n = n} e none) (ReadsNumber.read {rest = vs} {n = m} {d = d} f w) =
    absurd (none d (subst (λ x. HasValue d (value_of x)) (ap (λ x. x.0) (same_parts (number_at bs) (m, vs) (n, us) f e)) w))
number_once bs o p (ReadsNumber.too_wide e none) (ReadsNumber.too_wide f other) = refl
number_once bs o p (ReadsNumber.too_wide {rest = us} {n = n} e none) (ReadsNumber.broken {stop = stop} f) = absurd (no_other (number_at bs) (n, us) stop e f)
number_once bs o p (ReadsNumber.broken {stop = stop} e) (ReadsNumber.read {rest = us} {n = n} f w) = absurd (no_other (number_at bs) (n, us) stop f e)
number_once bs o p (ReadsNumber.broken {stop = stop} e) (ReadsNumber.too_wide {rest = us} {n = n} f none) = absurd (no_other (number_at bs) (n, us) stop f e)
number_once bs o p (ReadsNumber.broken {stop = s} e) (ReadsNumber.broken {stop = t} f) = same_stop (number_at bs) s t e f
  where
    same_stop : (r : Read Number) (s t : Stop) → r ≡ Err s → r ≡ Err t → ◌≡◌ {A = Read Decimal} (Err s) (Err t)
    same_stop r s t e f = cc

-- What a part gives, told by what its bytes begin with.

abbrev ValueStep : ℕ → List ℕ → Read Doc → Type 0
ValueStep n bs o = MatchOption (behind 91 bs)
    (MatchOption (behind 123 bs) (MatchBool (begins_number bs) ((p : Read Decimal) × ReadsNumber bs p × (o ≡ made doc.Number p)) (o ≡ scalar_at bs))
    (λ ws. (n < 100 → (p : Read (List (Pair Doc))) × Object (n + 1) (skipped ws) p × (o ≡ made doc.Fields p)) × (100 ≤ n → o ≡ Err (TooDeep (length bs)))))
    (λ ws. (n < 100 → (p : Read (List Doc)) × Array (n + 1) (skipped ws) p × (o ≡ made doc.Items p)) × (100 ≤ n → o ≡ Err (TooDeep (length bs))))

value_step : {n : ℕ} {bs : List ℕ} {o : Read Doc} → Value n bs o → ValueStep n bs o
value_step (Value.scalar e f apart g) = rw (e, f, apart) (sym g)
value_step (Value.number {bs = bs} {o = o} starts r) = rw (no_mark 91 bs refl starts, no_mark 123 bs refl starts, starts) (o, r, refl)
value_step (Value.array {o = o} e less a) = rw e ((λ _. (o, a, refl)), (λ more. absurd (omega arith)))
value_step (Value.object {bs = bs} {ws = ws} {o = o} e less a) = rw (no_bracket bs ws e, e) ((λ _. (o, a, refl)), (λ more. absurd (omega arith)))
value_step (Value.deep_array e more) = rw e ((λ less. absurd (omega arith)), (λ _. refl))
value_step (Value.deep_object {bs = bs} {ws = ws} e more) = rw (no_bracket bs ws e, e) ((λ less. absurd (omega arith)), (λ _. refl))

abbrev ArrayStep : ℕ → List ℕ → Read (List Doc) → Type 0
ArrayStep n bs o = MatchOption (behind 93 bs) (Elements n [] bs o) (λ rest. o ≡ Ok ([], rest))

array_step : {n : ℕ} {bs : List ℕ} {o : Read (List Doc)} → Array n bs o → ArrayStep n bs o
array_step (Array.empty_array e) = rw e refl
array_step (Array.full_array e es) = rw e es

-- behind a value of an array
abbrev ElementsEnd : ℕ → List Doc → Read Doc → Read (List Doc) → Type 0
ElementsEnd n ds (Err stop) o = o ≡ Err stop
ElementsEnd n ds (Ok x) o = MatchOption (behind 93 (skipped x.1))
    (MatchOption (behind 44 (skipped x.1)) (o ≡ Err (Syntax (length (skipped x.1)))) (λ rest. Elements n (ds ++ x.0 ∷ []) (skipped rest) o))
    (λ rest. o ≡ Ok (ds ++ x.0 ∷ [], rest))

elements_step : {n : ℕ} {ds : List Doc} {bs : List ℕ} {o : Read (List Doc)} → Elements n ds bs o → (r : Read Doc) × Value n bs r × ElementsEnd n ds r o
elements_step (Elements.bad_element {stop = stop} v) = (Err stop, v, refl)
elements_step (Elements.last_element {ws = ws} {d = d} v e) = (Ok (d, ws), v, rw e refl)
elements_step (Elements.more_elements {ws = ws} {d = d} v e f es) = (Ok (d, ws), v, rw (e, f) es)
elements_step (Elements.open_array {ws = ws} {d = d} v e f) = (Ok (d, ws), v, rw (e, f) refl)

abbrev ObjectStep : ℕ → List ℕ → Read (List (Pair Doc)) → Type 0
ObjectStep n bs o = MatchOption (behind 125 bs) (Members n [] bs o) (λ rest. o ≡ Ok ([], rest))

object_step : {n : ℕ} {bs : List ℕ} {o : Read (List (Pair Doc))} → Object n bs o → ObjectStep n bs o
object_step (Object.empty_object e) = rw e refl
object_step (Object.full_object e ms) = rw e ms

-- behind a value of an object
abbrev MembersEnd : ℕ → List (Pair Doc) → List ℕ → Read Doc → Read (List (Pair Doc)) → Type 0
MembersEnd n ps k (Err stop) o = o ≡ Err stop
MembersEnd n ps k (Ok x) o = MatchOption (behind 125 (skipped x.1))
    (MatchOption (behind 44 (skipped x.1)) (o ≡ Err (Syntax (length (skipped x.1)))) (λ rest. Members n (put ps k x.0) (skipped rest) o))
    (λ rest. o ≡ Ok (put ps k x.0, rest))

-- behind a key
abbrev MembersStep : ℕ → List (Pair Doc) → Read (List ℕ) → Read (List (Pair Doc)) → Type 0
MembersStep n ps (Err stop) o = o ≡ Err stop
MembersStep n ps (Ok key) o = (r : Read Doc) × Value n key.1 r × MembersEnd n ps key.0 r o

members_step : {n : ℕ} {ps : List (Pair Doc)} {bs : List ℕ} {o : Read (List (Pair Doc))} → Members n ps bs o → MembersStep n ps (key_at bs) o
members_step (Members.bad_key e) = rw e refl
members_step (Members.bad_member {stop = stop} e v) = rw e (Err stop, v, refl)
members_step (Members.last_member {ws = ws} {d = d} e v f) = rw e (Ok (d, ws), v, rw f refl)
members_step (Members.more_members {ws = ws} {d = d} e v f g ms) = rw e (Ok (d, ws), v, rw (f, g) ms)
members_step (Members.open_object {ws = ws} {d = d} e v f g) = rw e (Ok (d, ws), v, rw (f, g) refl)

mutual
  value_again : {n : ℕ} {bs : List ℕ} {o : Read Doc} → Value n bs o → (p : Read Doc) → Value n bs p → p ≡ o
  value_again (Value.scalar e f apart g) p v = (rw (e, f, apart) at (value_step v)) ∙ g
  value_again (Value.number {bs = bs} {o = o} starts r) p v =
      let s = rw (no_mark 91 bs refl starts, no_mark 123 bs refl starts, starts) at (value_step v) in
      s.2 ∙ ap (made doc.Number) (number_once bs s.0 o s.1 r)
  value_again (Value.array {n = n} {bs = bs} {ws = ws} e less a) p v =
      let s = rw e at (value_step v) in let r = s.0 less in
      r.2 ∙ ap (made doc.Items) (array_again a r.0 r.1)
  value_again (Value.object {bs = bs} {ws = ws} e less a) p v =
      let s = rw (no_bracket bs ws e, e) at (value_step v) in let r = s.0 less in
      r.2 ∙ ap (made doc.Fields) (object_again a r.0 r.1)
  value_again (Value.deep_array e more) p v = let s = rw e at (value_step v) in s.1 more
  value_again (Value.deep_object {bs = bs} {ws = ws} e more) p v = let s = rw (no_bracket bs ws e, e) at (value_step v) in s.1 more

  array_again : {n : ℕ} {bs : List ℕ} {o : Read (List Doc)} → Array n bs o → (p : Read (List Doc)) → Array n bs p → p ≡ o
  array_again (Array.empty_array e) p a = rw e at (array_step a)
  array_again (Array.full_array e es) p a = elements_again es p (rw e at (array_step a))

  elements_again : {n : ℕ} {ds : List Doc} {bs : List ℕ} {o : Read (List Doc)} → Elements n ds bs o → (p : Read (List Doc)) → Elements n ds bs p → p ≡ o
  elements_again (Elements.bad_element {n = n} {ds = ds} v) p es =
      let s = elements_step es in subst (λ r. ElementsEnd n ds r p) (value_again v s.0 s.1) s.2
  elements_again (Elements.last_element {n = n} {ds = ds} v e) p es =
      let s = elements_step es in rw e at (subst (λ r. ElementsEnd n ds r p) (value_again v s.0 s.1) s.2)
  elements_again (Elements.more_elements {n = n} {ds = ds} v e f rest) p es =
      let s = elements_step es in elements_again rest p (rw (e, f) at (subst (λ r. ElementsEnd n ds r p) (value_again v s.0 s.1) s.2))
  elements_again (Elements.open_array {n = n} {ds = ds} v e f) p es =
      let s = elements_step es in rw (e, f) at (subst (λ r. ElementsEnd n ds r p) (value_again v s.0 s.1) s.2)

  object_again : {n : ℕ} {bs : List ℕ} {o : Read (List (Pair Doc))} → Object n bs o → (p : Read (List (Pair Doc))) → Object n bs p → p ≡ o
  object_again (Object.empty_object e) p a = rw e at (object_step a)
  object_again (Object.full_object e ms) p a = members_again ms p (rw e at (object_step a))

  members_again : {n : ℕ} {ps : List (Pair Doc)} {bs : List ℕ} {o : Read (List (Pair Doc))} → Members n ps bs o → (p : Read (List (Pair Doc))) → Members n ps bs p → p ≡ o
  members_again (Members.bad_key e) p ms = rw e at (members_step ms)
  members_again (Members.bad_member {n = n} {ps = ps} {k = k} e v) p ms =
      let s = rw e at (members_step ms) in subst (λ r. MembersEnd n ps k r p) (value_again v s.0 s.1) s.2
  members_again (Members.last_member {n = n} {ps = ps} {k = k} e v f) p ms =
      let s = rw e at (members_step ms) in rw f at (subst (λ r. MembersEnd n ps k r p) (value_again v s.0 s.1) s.2)
  members_again (Members.more_members {n = n} {ps = ps} {k = k} e v f g rest) p ms =
      let s = rw e at (members_step ms) in members_again rest p (rw (f, g) at (subst (λ r. MembersEnd n ps k r p) (value_again v s.0 s.1) s.2))
  members_again (Members.open_object {n = n} {ps = ps} {k = k} e v f g) p ms =
      let s = rw e at (members_step ms) in rw (f, g) at (subst (λ r. MembersEnd n ps k r p) (value_again v s.0 s.1) s.2)

-- a text has one outcome
pub text_once : (bs : List ℕ) (r s : Result Doc Stop) → Scans bs r → Scans bs s → r ≡ s
text_once bs r s (o, v, e) (p, w, f) = e ∙ ap whole (value_again w o v) ∙ sym f
