-- What passing over a JSON text from the left says of the grammar.
use Rattle.std.specs.Prelude.{MatchBool}
use Rattle.std.proofs.Common.{◌≡◌, ◌==◌, ◌↔◌, ℕ, Bool, true, false, if◌then◌else◌, length, List, [], ◌∷◌, Option, Some, None, Result, Ok, Err, refl, sym, ap, subst, ◌∙◌, ⊎_elim, arith}
use Rattle.std.proofs.lemmas.Bool.{ne_eqb}
use Rattle.std.proofs.lemmas.Result.{IfOk-at_ok}
use Rattle.json_doc.specs.declared.brackets.Bracket.{Bracket}
use Rattle.json_doc.specs.declared.brackets.Bracket.TheVariants.{Array, Object}
use Rattle.json_doc.specs.declared.doc.Doc.{Doc}
use Rattle.texts.specs.declared.pairs.Pair.{Pair}
use Rattle.json_doc.specs.declared.stop.Stop.{Stop}
use Rattle.json_doc.specs.declared.stop.Stop.TheVariants.{Syntax}
use Rattle.json_doc.specs.Grammar.{Ws, Reads}
use Rattle.json_doc.specs.Grammar as g
use Rattle.json_doc.specs.JsonTexts.{Value, Values, Members, Member, IsJsonText}
use Rattle.json_doc.specs.NumberToken.{Number, number_at}
use Rattle.json_doc.specs.Scan.{skipped, behind, past, begins_number, scalar_at, key_at}
use Rattle.json_doc.specs.StillDue.{Closes, ended, array_ends, next_value, object_ends, next_member, Opens, Begins, GoesOn}
use Rattle.json_doc.proofs.Complete.{key-read}
use Rattle.json_doc.proofs.DueParts.{skipped-twice, structural-all, front_mark, value-skipped, value-at, closes-skipped, closes-end, values-close, closes-values, members-close, closes-members, clash, in_array, in_object, values-open, members-open, AtomAt, atom-read}
use Rattle.json_doc.proofs.NumberScans.{number_at_ok}
use Rattle.json_doc.proofs.Once.{other-behind}
use Rattle.json_doc.proofs.TokenParts.{ok_same}
use Rattle.json_doc.proofs.Sound.{Ws-skipped, skipped-Ws, mark, last_mark, first_mark, empty_mark, key-is, scalar-is}

-- The grammar with its limits is in the one without.
mutual
  pub value-loose : {n : ℕ} {bs rest : List ℕ} {d : Doc} → g.Value n bs d rest → Value bs rest
  value-loose (g.Value.false_name e) = Value.false_name e
  value-loose (g.Value.null_name e) = Value.null_name e
  value-loose (g.Value.true_name e) = Value.true_name e
  value-loose (g.Value.number {spelled = spelled} {parts = parts} spells value e) = Value.number parts spelled spells e
  value-loose (g.Value.string {t = t} s) = Value.string t s
  value-loose (g.Value.empty_array {ws = ws} less begins closes) = Value.empty_array ws begins closes
  value-loose (g.Value.array {vs = vs} {ws = ws} less begins values closes) = Value.array vs ws begins (values-loose values) closes
  value-loose (g.Value.empty_object {ws = ws} less begins closes) = Value.empty_object ws begins closes
  value-loose (g.Value.object {vs = vs} {ws = ws} less begins members closes) = Value.object vs ws begins (members-loose members) closes

  values-loose : {n : ℕ} {bs rest : List ℕ} {ds : List Doc} → g.Values n bs ds rest → Values bs rest
  values-loose (g.Values.one_value value) = Values.one_value (value-loose value)
  values-loose (g.Values.more_values {ws = ws} {vs = vs} value comma values) = Values.more_values ws vs (value-loose value) comma (values-loose values)

  members-loose : {n : ℕ} {bs rest : List ℕ} {ms : List (Pair Doc)} → g.Members n bs ms rest → Members bs rest
  members-loose (g.Members.one_member m) = Members.one_member (member-loose m)
  members-loose (g.Members.more_members {ws = ws} {vs = vs} m comma members) = Members.more_members ws vs (member-loose m) comma (members-loose members)

  member-loose : {n : ℕ} {bs rest : List ℕ} {m : Pair Doc} → g.Member n bs m rest → Member bs rest
  member-loose (g.Member.member {t = t} {ws = ws} {vs = vs} key colon value) = Member.member t ws vs key colon (value-loose value)

pub text-loose : (bs : List ℕ) (d : Doc) → Reads bs d → IsJsonText bs
text-loose bs d (vs, ws, before, value, after) = (vs, ws, before, value-loose value, after)

-- A mark that is due stands there, or not.

pub past_some : (c : ℕ) (bs ws : List ℕ) → past c bs ≡ Ok ws → behind c bs ≡ Some ws
past_some c [] ws e = cc
past_some c (b ∷ bs) ws e = elim (b == c) as (λ v. (if v then Ok bs else Err (Syntax (length (b ∷ bs)))) ≡ Ok ws → (if v then Some bs else None) ≡ Some ws) [ true ↦ (λ f. cc) | false ↦ (λ f. cc) ] e

pub past_none : (c : ℕ) (bs : List ℕ) (stop : Stop) → past c bs ≡ Err stop → behind c bs ≡ None
past_none c [] stop e = refl
past_none c (b ∷ bs) stop e = elim (b == c) as (λ v. (if v then Ok bs else Err (Syntax (length (b ∷ bs)))) ≡ Err stop → (if v then Some bs else None) ≡ None) [ true ↦ (λ f. cc) | false ↦ (λ f. refl) ] e

-- Where a value is due.

rest_same : {A : Type 0} (x y : A × List ℕ) → ◌≡◌ {A = Result (A × List ℕ) Stop} (Ok x) (Ok y) → x.1 ≡ y.1
rest_same x y e = ap (λ z. z.1) (ok_same x y e)

same_place : {G : Type 0} {u t : List ℕ} {o : Option (List ℕ)} → o ≡ Some u → o ≡ Some t → (u ≡ t → G) → G
same_place x y f = f (let e = sym x ∙ y in cc)

pub empty_array_passed : (bs t rest : List ℕ) → behind 91 (skipped bs) ≡ Some t → behind 93 (skipped t) ≡ Some rest → Begins bs None rest
empty_array_passed bs t rest h f = λ outer. (
  (λ due. ⊎_elim
      (λ s. let m = front_mark 93 t due.0 refl s in same_place m.1 f (λ u. closes-skipped rest (sym m.2 ∙ ap skipped u) due.2))
      (λ inside. clash (subst (λ cs. behind 93 cs ≡ None) (sym inside.2) (values-open inside.3)) f)
      (in_array (skipped bs) t due.1 (skipped-twice bs) h)),
  (λ closes. (rest, Value.empty_array t (empty_mark 91 (skipped bs) t h) (last_mark 93 t rest f), closes)),
)

pub array_begun : (bs t : List ℕ) → behind 91 (skipped bs) ≡ Some t → behind 93 (skipped t) ≡ None → Begins bs (Some Array) t
array_begun bs t h f = λ outer. (
  (λ due. ⊎_elim
      (λ s. let m = front_mark 93 t due.0 refl s in clash f m.1)
      (λ inside. let all = values-close inside.3 inside.4 due.2 in
      (all.0, value-at t inside.2 all.1, all.2))
      (in_array (skipped bs) t due.1 (skipped-twice bs) h)),
  (λ due. let all = closes-values due.1 due.2 in (all.1, Value.array (skipped t) all.0 (first_mark 91 (skipped bs) t h) all.2 all.3, all.4)),
)

pub empty_object_passed : (bs t rest : List ℕ) → behind 123 (skipped bs) ≡ Some t → behind 125 (skipped t) ≡ Some rest → Begins bs None rest
empty_object_passed bs t rest h f = λ outer. (
  (λ due. ⊎_elim
      (λ s. let m = front_mark 125 t due.0 refl s in same_place m.1 f (λ u. closes-skipped rest (sym m.2 ∙ ap skipped u) due.2))
      (λ inside. clash (subst (λ cs. behind 125 cs ≡ None) (sym inside.2) (members-open inside.3)) f)
      (in_object (skipped bs) t due.1 (skipped-twice bs) h)),
  (λ closes. (rest, Value.empty_object t (empty_mark 123 (skipped bs) t h) (last_mark 125 t rest f), closes)),
)

-- a member is its key and a value

abbrev KeyRead : List ℕ → List ℕ → Type 0
KeyRead bs r = (k : List ℕ) × (vs : List ℕ) × (key_at (skipped bs) ≡ Ok (k, vs)) × Value (skipped vs) r

key_first : {ms r : List ℕ} (bs : List ℕ) → skipped bs ≡ skipped ms → Member ms r → KeyRead bs r
key_first bs same (Member.member {bs = ms} {rest = r} t ws vs key colon value) =
    (t, skipped vs, subst (λ cs. key_at cs ≡ Ok (t, skipped vs)) (sym same) (key-read ms t ws vs key colon), value-skipped (value-skipped value))

member_from : (cs k vs r : List ℕ) → key_at cs ≡ Ok (k, vs) → Value (skipped vs) r → Member cs r
member_from cs k vs r e value = let h = IfOk-at_ok _ e (key-is cs) in Member.member k h.0 (skipped vs) h.1 (structural-all 58 h.0 vs h.2) value

pub object_begun : (bs t k vs : List ℕ) → behind 123 (skipped bs) ≡ Some t → behind 125 (skipped t) ≡ None → key_at (skipped t) ≡ Ok (k, vs) → Begins bs (Some Object) vs
object_begun bs t k vs h f key = λ outer. (
  (λ due. ⊎_elim
      (λ s. let m = front_mark 125 t due.0 refl s in clash f m.1)
      (λ inside. let all = members-close inside.3 inside.4 due.2 in
      let read = key_first t inside.2 all.1 in
      let same = rest_same _ _ (sym read.2 ∙ key) in
      (all.0, subst (λ cs. Value (skipped cs) all.0) same read.3, all.2))
      (in_object (skipped bs) t due.1 (skipped-twice bs) h)),
  (λ due. let all = closes-members (member_from (skipped t) k vs due.0 key due.1) due.2 in (all.1, Value.object (skipped t) all.0 (first_mark 123 (skipped bs) t h) all.2 all.3, all.4)),
)

pub object_unkeyed : (bs t : List ℕ) (stop : Stop) → behind 123 (skipped bs) ≡ Some t → behind 125 (skipped t) ≡ None → key_at (skipped t) ≡ Err stop → (outer : List Bracket) → Opens outer bs → ⊥
object_unkeyed bs t stop h f key outer due =
    ⊎_elim (λ s. let m = front_mark 125 t due.0 refl s in clash f m.1)
    (λ inside. let all = members-close inside.3 inside.4 due.2 in
    let read = key_first t inside.2 all.1 in
    let e = sym read.2 ∙ key in cc)
    (in_object (skipped bs) t due.1 (skipped-twice bs) h)

atom_due : (outer : List Bracket) (bs : List ℕ) (due : Opens outer bs) → behind 91 (skipped bs) ≡ None → behind 123 (skipped bs) ≡ None → AtomAt (skipped bs) due.0
atom_due outer bs due array object = atom-read (skipped bs) due.1 (closes-end due.2) (skipped-twice bs) array object

pub number_passed : (bs : List ℕ) (n : Number) (rest : List ℕ) → behind 91 (skipped bs) ≡ None → behind 123 (skipped bs) ≡ None → begins_number (skipped bs) ≡ true → number_at (skipped bs) ≡ Ok (n, rest) → Begins bs None rest
number_passed bs n rest array object begins read = λ outer. (
  (λ due. ⊎_elim
      (λ a. let same = rest_same _ _ (sym a.2 ∙ read) in subst (Closes outer) same due.2)
      (λ a. let e = sym a.1 ∙ begins in cc)
      (atom_due outer bs due array object)),
  (λ closes. let t = number_at_ok (skipped bs) (n, rest) read in (rest, Value.number n t.0 t.1 t.2, closes)),
)

pub no_number_passed : (bs : List ℕ) (stop : Stop) → behind 91 (skipped bs) ≡ None → behind 123 (skipped bs) ≡ None → begins_number (skipped bs) ≡ true → number_at (skipped bs) ≡ Err stop → (outer : List Bracket) → Opens outer bs → ⊥
no_number_passed bs stop array object begins read outer due =
    ⊎_elim (λ a. let e = sym a.2 ∙ read in cc) (λ a. let e = sym a.1 ∙ begins in cc) (atom_due outer bs due array object)

pub scalar_passed : (bs : List ℕ) (d : Doc) (rest : List ℕ) → behind 91 (skipped bs) ≡ None → behind 123 (skipped bs) ≡ None → begins_number (skipped bs) ≡ false → scalar_at (skipped bs) ≡ Ok (d, rest) → Begins bs None rest
scalar_passed bs d rest array object begins read = λ outer. (
  (λ due. ⊎_elim
      (λ a. let e = sym a.1 ∙ begins in cc)
      (λ a. let same = rest_same _ _ (sym a.2 ∙ read) in subst (Closes outer) same due.2)
      (atom_due outer bs due array object)),
  (λ closes. (rest, value-loose (IfOk-at_ok _ read (scalar-is 0 (skipped bs))), closes)),
)

pub no_scalar_passed : (bs : List ℕ) (stop : Stop) → behind 91 (skipped bs) ≡ None → behind 123 (skipped bs) ≡ None → begins_number (skipped bs) ≡ false → scalar_at (skipped bs) ≡ Err stop → (outer : List Bracket) → Opens outer bs → ⊥
no_scalar_passed bs stop array object begins read outer due =
    ⊎_elim (λ a. let e = sym a.1 ∙ begins in cc) (λ a. let e = sym a.2 ∙ read in cc) (atom_due outer bs due array object)

-- Behind a value in a bracket.

pub array_closed : (bs rest : List ℕ) → behind 93 (skipped bs) ≡ Some rest → GoesOn Array bs None rest
array_closed bs rest h = λ outer. ((λ closes. go outer closes), (λ closes. array_ends (last_mark 93 bs rest h) closes))
  where
    go : (outer : List Bracket) → Closes (Array ∷ outer) bs → Closes outer rest
    go outer (array_ends {rest = r} s closes) = let m = front_mark 93 bs r refl s in same_place m.1 h (λ u. closes-skipped rest (sym m.2 ∙ ap skipped u) closes)
    go outer (next_value {vs = vs} s value closes) = let m = front_mark 44 bs vs refl s in clash (other-behind 44 93 (skipped bs) m.0 (λ e. absurd (omega arith)) m.1) h

pub array_goes_on : (bs more : List ℕ) → behind 93 (skipped bs) ≡ None → behind 44 (skipped bs) ≡ Some more → GoesOn Array bs (Some Array) more
array_goes_on bs more f h = λ outer. ((λ closes. go outer closes), (λ due. next_value (mark 44 bs more h) due.1 due.2))
  where
    go : (outer : List Bracket) → Closes (Array ∷ outer) bs → Opens (Array ∷ outer) more
    go outer (array_ends {rest = r} s closes) = let m = front_mark 93 bs r refl s in clash f m.1
    go outer (next_value {vs = vs} {rest = r} s value closes) =
        let m = front_mark 44 bs vs refl s in same_place m.1 h (λ u. (r, value-at more (sym (ap skipped u) ∙ m.2) value, closes))

pub array_stuck : (bs : List ℕ) → behind 93 (skipped bs) ≡ None → behind 44 (skipped bs) ≡ None → (outer : List Bracket) → Closes (Array ∷ outer) bs → ⊥
array_stuck bs f h outer (array_ends {rest = r} s closes) = let m = front_mark 93 bs r refl s in clash f m.1
array_stuck bs f h outer (next_value {vs = vs} s value closes) = let m = front_mark 44 bs vs refl s in clash h m.1

pub object_closed : (bs rest : List ℕ) → behind 125 (skipped bs) ≡ Some rest → GoesOn Object bs None rest
object_closed bs rest h = λ outer. ((λ closes. go outer closes), (λ closes. object_ends (last_mark 125 bs rest h) closes))
  where
    go : (outer : List Bracket) → Closes (Object ∷ outer) bs → Closes outer rest
    go outer (object_ends {rest = r} s closes) = let m = front_mark 125 bs r refl s in same_place m.1 h (λ u. closes-skipped rest (sym m.2 ∙ ap skipped u) closes)
    go outer (next_member {ms = ms} s member closes) = let m = front_mark 44 bs ms refl s in clash (other-behind 44 125 (skipped bs) m.0 (λ e. absurd (omega arith)) m.1) h

-- the next key and its value
next_key : (outer : List Bracket) (bs more : List ℕ) → behind 125 (skipped bs) ≡ None → behind 44 (skipped bs) ≡ Some more → Closes (Object ∷ outer) bs → (r : List ℕ) × KeyRead more r × Closes (Object ∷ outer) r
next_key outer bs more f h (object_ends {rest = r} s closes) = let m = front_mark 125 bs r refl s in clash f m.1
next_key outer bs more f h (next_member {ms = ms} {rest = r} s member closes) =
    let m = front_mark 44 bs ms refl s in same_place m.1 h (λ u. (r, key_first more (sym (ap skipped u) ∙ m.2) member, closes))

pub object_goes_on : (bs more k vs : List ℕ) → behind 125 (skipped bs) ≡ None → behind 44 (skipped bs) ≡ Some more → key_at (skipped more) ≡ Ok (k, vs) → GoesOn Object bs (Some Object) vs
object_goes_on bs more k vs f h key = λ outer. (
  (λ closes. let next = next_key outer bs more f h closes in
      let read = next.1 in
      let same = rest_same _ _ (sym read.2 ∙ key) in
      (next.0, subst (λ cs. Value (skipped cs) next.0) same read.3, next.2)),
  (λ due. next_member (mark 44 bs more h) (member_from (skipped more) k vs due.0 key due.1) due.2),
)

pub object_keyless : (bs more : List ℕ) (stop : Stop) → behind 125 (skipped bs) ≡ None → behind 44 (skipped bs) ≡ Some more → key_at (skipped more) ≡ Err stop → (outer : List Bracket) → Closes (Object ∷ outer) bs → ⊥
object_keyless bs more stop f h key outer closes =
    let next = next_key outer bs more f h closes in
    let e = sym next.1.2 ∙ key in cc

pub object_stuck : (bs : List ℕ) → behind 125 (skipped bs) ≡ None → behind 44 (skipped bs) ≡ None → (outer : List Bracket) → Closes (Object ∷ outer) bs → ⊥
object_stuck bs f h outer (object_ends {rest = r} s closes) = let m = front_mark 125 bs r refl s in clash f m.1
object_stuck bs f h outer (next_member {ms = ms} s member closes) = let m = front_mark 44 bs ms refl s in clash h m.1

-- Whole texts.

pub text_opens : (bs : List ℕ) → IsJsonText bs → Opens [] bs
text_opens bs (vs, ws, before, value, after) = (ws, value-at bs (Ws-skipped bs vs before) value, ended after)

pub nothing_left : (bs : List ℕ) → Closes [] bs → skipped bs ≡ []
nothing_left bs (ended ws) = Ws-skipped bs [] ws

pub opens_text : (bs rest : List ℕ) → (Closes [] rest → Opens [] bs) → skipped rest ≡ [] → IsJsonText bs
opens_text bs rest back none =
    let due = back (ended (subst (Ws rest) none (skipped-Ws rest))) in
    (skipped bs, due.0, skipped-Ws bs, due.1, last due.2)
  where
    last : {r : List ℕ} → Closes [] r → Ws r []
    last (ended ws) = ws

-- nothing but blanks is left, or the bytes are no text
pub judged : (bs rest : List ℕ) (is : Bool) → (Opens [] bs ↔ Closes [] rest) → is ≡ (length (skipped rest) == 0) → MatchBool is (IsJsonText bs) (IsJsonText bs → ⊥)
judged bs rest is both e = go (skipped rest) refl e
  where
    go : (cs : List ℕ) → skipped rest ≡ cs → is ≡ (length cs == 0) → MatchBool is (IsJsonText bs) (IsJsonText bs → ⊥)
    go [] none f = subst (λ v. MatchBool v (IsJsonText bs) (IsJsonText bs → ⊥)) (sym f) (opens_text bs rest both.1 none)
    go (b ∷ cs) some f = subst (λ v. MatchBool v (IsJsonText bs) (IsJsonText bs → ⊥)) (sym (f ∙ ne_eqb (length (b ∷ cs)) 0 (λ z. absurd (omega (arith, z))))) (λ text. let e = sym some ∙ nothing_left rest (both.0 (text_opens bs text)) in absurd cc)
