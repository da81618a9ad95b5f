-- What reading a value finds before a place depends on the bytes up to that place alone.
use Rattle.std.proofs.Common.{◌≡◌, ◌==◌, ℕ, suc, ◌+◌, ◌<◌, ◌≤◌, true, false, if◌then◌else◌, List, [], ◌∷◌, ◌++◌, length, Some, None, Result, Ok, Err, refl, sym, ap, subst, ◌∙◌, arith, length-append, get_or, take, drop, take-append-drop, drop-cons, add-one, append_assoc, length-drop}
use Rattle.std.proofs.Math.Seq.{take-suc}
use Rattle.json_doc.specs.declared.read_fault.ReadFault.{ReadFault}
use Rattle.json_doc.specs.declared.read_fault.ReadFault.TheVariants as fault
use Rattle.json_doc.specs.Grammar.{Reads, is_blank}
use Rattle.json_doc.specs.Faults.{HasFault, BeginsNoDocument, IsDeadEnd}
use Rattle.json_doc.proofs.Once.{text_once}
use Rattle.json_doc.proofs.Complete.{text_complete}
use Rattle.std.specs.Prelude.{codes}
use Rattle.json_doc.specs.declared.decimal.Decimal.{Decimal}
use Rattle.json_doc.specs.declared.doc.Doc as doc
use Rattle.json_doc.specs.declared.doc.Doc.{Doc}
use Rattle.texts.specs.declared.pairs.Pair.{Pair}
use Rattle.json_doc.specs.declared.stop.Stop.{Stop}
use Rattle.json_doc.specs.declared.stop.Stop.TheVariants.{Syntax, TooDeep}
use Rattle.texts.specs.Keys.{put}
use Rattle.json_doc.specs.Reading.{Read}
use Rattle.texts.specs.Calls.{◌>>=◌}
use Rattle.json_doc.specs.NumberToken.{number_at, ReadsNumber}
use Rattle.json_doc.proofs.NumberLocal.{number_at-local}
use Rattle.json_doc.specs.TextToken.{text_at}
use Rattle.json_doc.specs.Scan.{made, skipped, behind, past, past_word, named, begins_number, scalar_at, key_at, ended, whole, Value, Array, Object, Elements, Members, Scans}
use Rattle.json_doc.proofs.Within.{Within, Left, bind-within}
use Rattle.json_doc.proofs.Shorter.{skipped-le, behind-lt, past-le, past_word-le, named-within, made-within, past_skipped-le, bind-left, value_in-within, array_in-within, elements_in-within, object_in-within, members_in-within}
use Rattle.json_doc.proofs.TextLeft.{text_at-within}
use Rattle.json_doc.proofs.TextLocal.{text_at-local}
use Rattle.json_doc.proofs.Local.{Ways, rest, more, moved, moved_stop, found_at, Early, Moves, Local, fault-moves, moved-error, choice-moves, bind-moves, too_late, early-before}

-- bytes behind the same front, both ways
abbrev Twins : Ways → List ℕ → List ℕ → Type 0
Twins w bs cs = (front : List ℕ) × (bs ≡ front ++ rest w) × (cs ≡ front ++ more w)

skipped-twins : (w : Ways) (front : List ℕ) → length (rest w) ≤ length (skipped (front ++ rest w)) → Twins w (skipped (front ++ rest w)) (skipped (front ++ more w))
skipped-twins w [] early =
    elim (is_blank w.first) as (λ v. length (rest w) ≤ length (if v then skipped w.others else rest w) → Twins w (if v then skipped w.others else rest w) (if v then skipped w.changed else more w))
    [ true ↦ (λ e. absurd (omega (arith, skipped-le w.others))) | false ↦ (λ e. ([], refl, refl)) ] early
skipped-twins w (b ∷ bs) early =
    elim (is_blank b) as (λ v. length (rest w) ≤ length (if v then skipped (bs ++ rest w) else b ∷ bs ++ rest w)
    → Twins w (if v then skipped (bs ++ rest w) else b ∷ bs ++ rest w) (if v then skipped (bs ++ more w) else b ∷ bs ++ more w))
    [ true ↦ (λ e. skipped-twins w bs e) | false ↦ (λ e. (b ∷ bs, refl, refl)) ] early

-- what is behind a byte
behind-twins : (w : Ways) (c : ℕ) (front ws : List ℕ) → behind c (front ++ rest w) ≡ Some ws → length (rest w) ≤ length ws → (vs : List ℕ) × (behind c (front ++ more w) ≡ Some vs) × Twins w ws vs
behind-twins w c [] ws e early = let short = behind-lt c (rest w) ws e in absurd (omega arith)
behind-twins w c (b ∷ bs) ws e early =
    elim (b == c) as (λ v. (if v then Some (bs ++ rest w) else None) ≡ Some ws → (vs : List ℕ) × ((if v then Some (bs ++ more w) else None) ≡ Some vs) × Twins w ws vs)
    [ true ↦ (λ f. let same : bs ++ rest w ≡ ws = cc in (bs ++ more w, refl, (bs, sym same, refl))) | false ↦ (λ f. absurd cc) ] e

not_behind : (w : Ways) (c : ℕ) (front : List ℕ) → behind c (front ++ rest w) ≡ None → behind c (front ++ more w) ≡ None
not_behind w c [] e =
    elim (w.first == c) as (λ v. (if v then Some w.others else None) ≡ None → (if v then Some w.changed else None) ≡ None) [ true ↦ (λ f. absurd cc) | false ↦ (λ f. refl) ] e
not_behind w c (b ∷ bs) e =
    elim (b == c) as (λ v. (if v then Some (bs ++ rest w) else None) ≡ None → (if v then Some (bs ++ more w) else None) ≡ None) [ true ↦ (λ f. absurd cc) | false ↦ (λ f. refl) ] e

-- bytes that are due, and bytes behind them as a value of no kind
abbrev bare : Result (List ℕ) Stop → Read (List ℕ)
bare r = r >>= (λ bs. Ok ([], bs))

past-local : (c : ℕ) → Local (λ bs. bare (past c bs))
past-local c w [] early =
    elim (w.first == c) as (λ v. Early w (bare (if v then Ok w.others else Err (Syntax (length (rest w)))))
    → Moves w (bare (if v then Ok w.others else Err (Syntax (length (rest w))))) (bare (if v then Ok w.changed else Err (Syntax (length (more w))))))
    [ true ↦ (λ e. absurd (omega arith)) | false ↦ (λ e. fault-moves w []) ] early
past-local c w (b ∷ bs) early =
    elim (b == c) as (λ v. Early w (bare (if v then Ok (bs ++ rest w) else Err (Syntax (length (b ∷ bs ++ rest w)))))
    → Moves w (bare (if v then Ok (bs ++ rest w) else Err (Syntax (length (b ∷ bs ++ rest w))))) (bare (if v then Ok (bs ++ more w) else Err (Syntax (length (b ∷ bs ++ more w))))))
    [ true ↦ (λ e. (bs, refl, refl)) | false ↦ (λ e. fault-moves w (b ∷ bs)) ] early

ok_same : (o : Read (List ℕ)) (x y : List ℕ × List ℕ) → o ≡ Ok x → o ≡ Ok y → x ≡ y
ok_same o x y e f = cc

bare-moves : {B : Type 0} (w : Ways) (r r' : Result (List ℕ) Stop) (f : List ℕ → Read B) → (Early w (bare r) → Moves w (bare r) (bare r')) → ((bs : List ℕ) → Within bs (f bs))
    → Local f → Early w (r >>= f) → Moves w (r >>= f) (r' >>= f)
bare-moves w (Ok bs) (Ok cs) f first within next early =
    let m = first (early-before w bs (f bs) early (within bs)) in
    let both = ok_same (Ok ([], cs)) ([], cs) ([], m.0 ++ more w) refl m.2 in
    let same = ap (λ x. x.1) both in
    let again = next w m.0 (subst (λ us. Early w (f us)) m.1 early) in
    subst (λ us. Moves w (f us) (f cs)) (sym m.1) (subst (λ us. Moves w (f (m.0 ++ rest w)) (f us)) (sym same) again)
bare-moves w (Ok bs) (Err stop) f first within next early = let m = first (early-before w bs (f bs) early (within bs)) in absurd cc
bare-moves w (Err stop) (Ok cs) f first within next early = let e = first early in absurd cc
bare-moves w (Err stop) (Err t) f first within next early = let e : Err t ≡ Err (moved_stop w stop) = first early in let same : t ≡ moved_stop w stop = cc in ap Err same

bare-behind : (r : Result (List ℕ) Stop) (f : List ℕ → Result (List ℕ) Stop) → bare (r >>= f) ≡ (r >>= (λ bs. bare (f bs)))
bare-behind (Ok bs) f = refl
bare-behind (Err stop) f = refl

bare-within : (bs : List ℕ) (r : Result (List ℕ) Stop) → Left bs r → Within bs (bare r)
bare-within bs (Ok cs) h = h
bare-within bs (Err stop) h = h

past_word-local : (word : List ℕ) → Local (λ bs. bare (past_word word bs))
past_word-local [] w front early = (front, refl, refl)
past_word-local (c ∷ cs) w front early =
    let here = bare-behind (past c (front ++ rest w)) (past_word cs) in
    let there = bare-behind (past c (front ++ more w)) (past_word cs) in
    subst (λ o. Moves w o (bare (past_word (c ∷ cs) (front ++ more w)))) (sym here)
    (subst (λ o. Moves w (past c (front ++ rest w) >>= (λ bs. bare (past_word cs bs))) o) (sym there)
    (bare-moves w (past c (front ++ rest w)) (past c (front ++ more w)) (λ bs. bare (past_word cs bs)) (past-local c w front)
    (λ bs. bare-within bs (past_word cs bs) (past_word-le cs bs)) (past_word-local cs) (subst (Early w) here early)))

named-local : (d : Doc) (word : List ℕ) → Local (named d word)
named-local d word w front early =
    bare-moves w (past_word word (front ++ rest w)) (past_word word (front ++ more w)) (λ bs. Ok (d, bs)) (past_word-local word w front) (λ bs. omega arith) (λ w front early. (front, refl, refl)) early

made-early : {A B : Type 0} (w : Ways) (f : A → B) (o : Read A) → Early w (made f o) → Early w o
made-early w f (Ok x) e = e
made-early w f (Err stop) e = e

made-moves : {A B : Type 0} (w : Ways) (f : A → B) (o p : Read A) → Moves w o p → Moves w (made f o) (made f p)
made-moves w f (Ok x) p m = (m.0, m.1, ap (made f) m.2)
made-moves w f (Err stop) p m = ap (made f) m

scalar_at-local : Local scalar_at
scalar_at-local w [] early =
    let late = λ (d : Doc) (word : List ℕ). too_late w (named d word w.others) (named d word w.changed) (named-within d word w.others) in
    choice-moves w (w.first == 34) (made doc.Str (text_at w.others)) _ _ _ (too_late w _ _ (made-within doc.Str w.others (text_at w.others) (text_at-within w.others)))
    (choice-moves w (w.first == 102) (named (doc.Flag false) (codes "alse") w.others) _ _ _ (late (doc.Flag false) (codes "alse"))
    (choice-moves w (w.first == 110) (named doc.Null (codes "ull") w.others) _ _ _ (late doc.Null (codes "ull"))
    (choice-moves w (w.first == 116) (named (doc.Flag true) (codes "rue") w.others) _ _ _ (late (doc.Flag true) (codes "rue")) (λ e. fault-moves w [])))) early
scalar_at-local w (a ∷ us) early =
    choice-moves w (a == 34) (made doc.Str (text_at (us ++ rest w))) _ _ _
    (λ e. made-moves w doc.Str (text_at (us ++ rest w)) (text_at (us ++ more w)) (text_at-local w us (made-early w doc.Str (text_at (us ++ rest w)) e)))
    (choice-moves w (a == 102) (named (doc.Flag false) (codes "alse") (us ++ rest w)) _ _ _ (named-local (doc.Flag false) (codes "alse") w us)
    (choice-moves w (a == 110) (named doc.Null (codes "ull") (us ++ rest w)) _ _ _ (named-local doc.Null (codes "ull") w us)
    (choice-moves w (a == 116) (named (doc.Flag true) (codes "rue") (us ++ rest w)) _ _ _ (named-local (doc.Flag true) (codes "rue") w us) (λ e. fault-moves w (a ∷ us))))) early

-- behind blanks
skipped-local : {A : Type 0} (f : List ℕ → Read A) → Local f → ((bs : List ℕ) → Within bs (f bs)) → Local (λ bs. f (skipped bs))
skipped-local f local within w front early =
    let t = skipped-twins w front (early-before w (skipped (front ++ rest w)) (f (skipped (front ++ rest w))) early (within (skipped (front ++ rest w)))) in
    let here = local w t.0 (subst (λ bs. Early w (f bs)) t.1 early) in
    subst (λ bs. Moves w (f bs) (f (skipped (front ++ more w)))) (sym t.1) (subst (λ bs. Moves w (f (t.0 ++ rest w)) (f bs)) (sym t.2) here)

-- the colon behind a key, and blanks
abbrev colon : List ℕ → List ℕ → Read (List ℕ)
colon k bs = past 58 (skipped bs) >>= (λ vs. Ok (k, skipped vs))

colon-within : (k bs : List ℕ) → Within bs (colon k bs)
colon-within k bs = bind-left bs (past 58 (skipped bs)) (λ vs. Ok (k, skipped vs)) (past_skipped-le 58 bs) (λ vs. skipped-le vs)

colon-local : (k : List ℕ) → Local (colon k)
colon-local k =
    skipped-local (λ bs. past 58 bs >>= (λ vs. Ok (k, skipped vs))) (λ w front early.
    bare-moves w (past 58 (front ++ rest w)) (past 58 (front ++ more w)) (λ vs. Ok (k, skipped vs)) (past-local 58 w front) (λ vs. skipped-le vs)
    (skipped-local (λ vs. Ok (k, vs)) (λ w front early. (front, refl, refl)) (λ vs. omega arith)) early)
    (λ bs. bind-left bs (past 58 bs) (λ vs. Ok (k, skipped vs)) (past-le 58 bs) (λ vs. skipped-le vs))

key_at-local : Local key_at
key_at-local w front early =
    bare-moves w (past 34 (front ++ rest w)) (past 34 (front ++ more w)) _ (past-local 34 w front)
    (λ ks. bind-within ks (text_at ks) _ (text_at-within ks) (λ key. colon-within key.0 key.1))
    (λ w front early. bind-moves w (text_at (front ++ rest w)) (text_at (front ++ more w)) _ (text_at-local w front) (λ key. colon-within key.0 key.1)
    colon-local early) early

-- what twins begin with

twins_skipped : (w : Ways) (bs cs : List ℕ) → Twins w bs cs → length (rest w) ≤ length (skipped bs) → Twins w (skipped bs) (skipped cs)
twins_skipped w bs cs (front, e, f) early =
    let s = skipped-twins w front (subst (λ us. length (rest w) ≤ length (skipped us)) e early) in (s.0, ap skipped e ∙ s.1, ap skipped f ∙ s.2)

twins_behind : (w : Ways) (c : ℕ) (bs cs us : List ℕ) → Twins w bs cs → behind c bs ≡ Some us → length (rest w) ≤ length us → (vs : List ℕ) × (behind c cs ≡ Some vs) × Twins w us vs
twins_behind w c bs cs us (front, e, f) b early =
    let t = behind-twins w c front us (subst (λ x. behind c x ≡ Some us) e b) early in (t.0, subst (λ x. behind c x ≡ Some t.0) (sym f) t.1, t.2)

twins_not : (w : Ways) (c : ℕ) (bs cs : List ℕ) → Twins w bs cs → behind c bs ≡ None → behind c cs ≡ None
twins_not w c bs cs (front, e, f) b = subst (λ x. behind c x ≡ None) (sym f) (not_behind w c front (subst (λ x. behind c x ≡ None) e b))

some_behind : (w : Ways) (c : ℕ) (front us : List ℕ) → behind c (front ++ rest w) ≡ Some us → (vs : List ℕ) × (behind c (front ++ more w) ≡ Some vs)
some_behind w c [] us e =
    elim (w.first == c) as (λ v. (if v then Some w.others else None) ≡ Some us → (vs : List ℕ) × ((if v then Some w.changed else None) ≡ Some vs)) [ true ↦ (λ f. (w.changed, refl)) | false ↦ (λ f. absurd cc) ] e
some_behind w c (b ∷ bs) us e =
    elim (b == c) as (λ v. (if v then Some (bs ++ rest w) else None) ≡ Some us → (vs : List ℕ) × ((if v then Some (bs ++ more w) else None) ≡ Some vs)) [ true ↦ (λ f. (bs ++ more w, refl)) | false ↦ (λ f. absurd cc) ] e

twins_some : (w : Ways) (c : ℕ) (bs cs us : List ℕ) → Twins w bs cs → behind c bs ≡ Some us → (vs : List ℕ) × (behind c cs ≡ Some vs)
twins_some w c bs cs us (front, e, f) b =
    let t = some_behind w c front us (subst (λ x. behind c x ≡ Some us) e b) in (t.0, subst (λ x. behind c x ≡ Some t.0) (sym f) t.1)

twins_error : {A : Type 0} (w : Ways) (bs cs : List ℕ) (reason : ℕ → Stop) → ((left : ℕ) → moved_stop w (reason left) ≡ reason (moved w left)) → Twins w bs cs
    → Moves {A = A} w (Err (reason (length bs))) (Err (reason (length cs)))
twins_error {A} w bs cs reason h (front, e, f) =
    subst (λ x. Moves {A = A} w (Err (reason (length x))) (Err (reason (length cs)))) (sym e)
    (subst (λ x. Moves {A = A} w (Err (reason (length (front ++ rest w)))) (Err (reason (length x)))) (sym f) (moved-error w front reason h))

twins_local : {A : Type 0} (f : List ℕ → Read A) → Local f → (w : Ways) (bs cs : List ℕ) → Twins w bs cs → Early w (f bs) → Moves w (f bs) (f cs)
twins_local f local w bs cs (front, e, g) early =
    subst (λ x. Moves w (f x) (f cs)) (sym e) (subst (λ x. Moves w (f (front ++ rest w)) (f x)) (sym g) (local w front (subst (λ x. Early w (f x)) e early)))

-- the other way there is an outcome, and it is the same
abbrev Again : {A : Type 0} → (List ℕ → Read A → Type 0) → List ℕ → Read A → Type 0
Again {A} R bs o = (w : Ways) (cs : List ℕ) → Twins w bs cs → Early w o → (p : Read A) × R cs p × Moves w o p

first_number : (w : Ways) (front : List ℕ) → begins_number (front ++ more w) ≡ begins_number (front ++ rest w)
first_number w [] = refl
first_number w (b ∷ bs) = refl

twins_number : (w : Ways) (bs cs : List ℕ) → Twins w bs cs → begins_number cs ≡ begins_number bs
twins_number w bs cs (front, e, f) = ap begins_number f ∙ first_number w front ∙ ap begins_number (sym e)

number_local : (bs : List ℕ) (o : Read Decimal) → ReadsNumber bs o → Again ReadsNumber bs o
number_local bs o (ReadsNumber.read {rest = us} {n = n} {d = d} e value) w cs t early =
    let m = subst (λ p. Moves w p (number_at cs)) e (twins_local number_at number_at-local w bs cs t (subst (Early w) (sym e) early)) in
    (Ok (d, m.0 ++ more w), ReadsNumber.read m.2 value, (m.0, m.1, refl))
number_local bs o (ReadsNumber.too_wide e none) w cs t early = absurd (omega arith)
number_local bs o (ReadsNumber.broken {stop = stop} e) w cs t early =
    let m = subst (λ p. Moves w p (number_at cs)) e (twins_local number_at number_at-local w bs cs t (subst (Early w) (sym e) early)) in
    (Err (moved_stop w stop), ReadsNumber.broken m, refl)

-- of a value, what is behind it
value_end : (n : ℕ) (w : Ways) (cs ws : List ℕ) (d : Doc) → (p : Read Doc) × Value n cs p × Moves w (Ok (d, ws)) p → (vs : List ℕ) × Value n cs (Ok (d, vs)) × Twins w ws vs
value_end n w cs ws d (p, v, (front, e, f)) = (front ++ more w, subst (Value n cs) f v, (front, e, refl))

-- of a key, what is behind it
key_end : (w : Ways) (bs cs k vs : List ℕ) → Twins w bs cs → key_at bs ≡ Ok (k, vs) → length (rest w) ≤ length vs → (us : List ℕ) × (key_at cs ≡ Ok (k, us)) × Twins w vs us
key_end w bs cs k vs t e early =
    let m = subst (λ o. Moves w o (key_at cs)) e (twins_local key_at key_at-local w bs cs t (subst (Early w) (sym e) early)) in
    (m.0 ++ more w, m.2, (m.0, m.1, refl))

mutual
  value_local : {n : ℕ} {bs : List ℕ} {o : Read Doc} → Value n bs o → Again (Value n) bs o
  value_local (Value.number {bs = bs} {o = o} starts r) w cs t early =
      let q = number_local bs o r w cs t (made-early w doc.Number o early) in
      (made doc.Number q.0, Value.number (twins_number w bs cs t ∙ starts) q.1, made-moves w doc.Number o q.0 q.2)
  value_local (Value.scalar {n = n} {bs = bs} {o = o} e f apart g) w cs t early = (
    scalar_at cs,
    Value.scalar (twins_not w 91 bs cs t e) (twins_not w 123 bs cs t f) (twins_number w bs cs t ∙ apart) refl,
    subst (λ q. Moves w q (scalar_at cs)) g (twins_local scalar_at scalar_at-local w bs cs t (subst (Early w) (sym g) early)),
  )
  value_local (Value.array {n = n} {bs = bs} {ws = ws} {o = o} e less a) w cs t early =
      let inner = made-early w doc.Items o early in
      let long = early-before w (skipped ws) o inner (array_in-within a) in
      let b = twins_behind w 91 bs cs ws t e (omega (arith, skipped-le ws)) in
      let r = array_local a w (skipped b.0) (twins_skipped w ws b.0 b.2 long) inner in
      (made doc.Items r.0, Value.array b.1 less r.1, made-moves w doc.Items o r.0 r.2)
  value_local (Value.object {n = n} {bs = bs} {ws = ws} {o = o} e less a) w cs t early =
      let inner = made-early w doc.Fields o early in
      let long = early-before w (skipped ws) o inner (object_in-within a) in
      let b = twins_behind w 123 bs cs ws t e (omega (arith, skipped-le ws)) in
      let r = object_local a w (skipped b.0) (twins_skipped w ws b.0 b.2 long) inner in
      (made doc.Fields r.0, Value.object b.1 less r.1, made-moves w doc.Fields o r.0 r.2)
  value_local (Value.deep_array {n = n} {bs = bs} {ws = ws} e deep) w cs t early =
      (Err (TooDeep (length cs)), Value.deep_array (twins_some w 91 bs cs ws t e).1 deep, twins_error w bs cs TooDeep (λ left. refl) t)
  value_local (Value.deep_object {n = n} {bs = bs} {ws = ws} e deep) w cs t early =
      (Err (TooDeep (length cs)), Value.deep_object (twins_some w 123 bs cs ws t e).1 deep, twins_error w bs cs TooDeep (λ left. refl) t)

  array_local : {n : ℕ} {bs : List ℕ} {o : Read (List Doc)} → Array n bs o → Again (Array n) bs o
  array_local (Array.empty_array {bs = bs} {rest = us} e) w cs t early =
      let b = twins_behind w 93 bs cs us t e early in
      (Ok ([], b.0), Array.empty_array b.1, (b.2.0, b.2.1, ap (λ vs. Ok ([], vs)) b.2.2))
  array_local (Array.full_array {n = n} {bs = bs} {o = o} e es) w cs t early =
      let r = elements_local es w cs t early in (r.0, Array.full_array (twins_not w 93 bs cs t e) r.1, r.2)

  elements_local : {n : ℕ} {ds : List Doc} {bs : List ℕ} {o : Read (List Doc)} → Elements n ds bs o → Again (Elements n ds) bs o
  elements_local (Elements.bad_element {n = n} {stop = stop} v) w cs t early =
      let r = value_local v w cs t early in (Err (moved_stop w stop), Elements.bad_element (subst (Value n cs) r.2 r.1), refl)
  elements_local (Elements.last_element {n = n} {ds = ds} {ws = ws} {rest = us} {d = d} v e) w cs t early =
      let short = behind-lt 93 (skipped ws) us e in
      let r = value_end n w cs ws d (value_local v w cs t (omega (arith, short, skipped-le ws))) in
      let b = twins_behind w 93 (skipped ws) (skipped r.0) us (twins_skipped w ws r.0 r.2 (omega arith)) e early in
      (Ok (ds ++ d ∷ [], b.0), Elements.last_element r.1 b.1, (b.2.0, b.2.1, ap (λ vs. Ok (ds ++ d ∷ [], vs)) b.2.2))
  elements_local (Elements.more_elements {n = n} {ds = ds} {ws = ws} {rest = us} {d = d} {o = o} v e f es) w cs t early =
      let long = early-before w (skipped us) o early (elements_in-within es) in
      let short = behind-lt 44 (skipped ws) us f in
      let r = value_end n w cs ws d (value_local v w cs t (omega (arith, short, long, skipped-le ws, skipped-le us))) in
      let s = twins_skipped w ws r.0 r.2 (omega (arith, short, long, skipped-le us)) in
      let b = twins_behind w 44 (skipped ws) (skipped r.0) us s f (omega (arith, long, skipped-le us)) in
      let q = elements_local es w (skipped b.0) (twins_skipped w us b.0 b.2 long) early in
      (q.0, Elements.more_elements r.1 (twins_not w 93 (skipped ws) (skipped r.0) s e) b.1 q.1, q.2)
  elements_local (Elements.open_array {n = n} {ds = ds} {ws = ws} {d = d} v e f) w cs t early =
      let r = value_end n w cs ws d (value_local v w cs t (omega (arith, skipped-le ws))) in
      let s = twins_skipped w ws r.0 r.2 early in (
        Err (Syntax (length (skipped r.0))),
        Elements.open_array r.1 (twins_not w 93 (skipped ws) (skipped r.0) s e) (twins_not w 44 (skipped ws) (skipped r.0) s f),
        twins_error w (skipped ws) (skipped r.0) Syntax (λ left. refl) s,
      )

  object_local : {n : ℕ} {bs : List ℕ} {o : Read (List (Pair Doc))} → Object n bs o → Again (Object n) bs o
  object_local (Object.empty_object {bs = bs} {rest = us} e) w cs t early =
      let b = twins_behind w 125 bs cs us t e early in
      (Ok ([], b.0), Object.empty_object b.1, (b.2.0, b.2.1, ap (λ vs. Ok ([], vs)) b.2.2))
  object_local (Object.full_object {n = n} {bs = bs} {o = o} e ms) w cs t early =
      let r = members_local ms w cs t early in (r.0, Object.full_object (twins_not w 125 bs cs t e) r.1, r.2)

  members_local : {n : ℕ} {ps : List (Pair Doc)} {bs : List ℕ} {o : Read (List (Pair Doc))} → Members n ps bs o → Again (Members n ps) bs o
  members_local (Members.bad_key {n = n} {ps = ps} {bs = bs} {stop = stop} e) w cs t early =
      let m = subst (λ o. Moves w o (key_at cs)) e (twins_local key_at key_at-local w bs cs t (subst (Early w) (sym e) early)) in
      (Err (moved_stop w stop), Members.bad_key m, refl)
  members_local (Members.bad_member {n = n} {ps = ps} {bs = bs} {k = k} {vs = vs} {stop = stop} e v) w cs t early =
      let key = key_end w bs cs k vs t e (early-before {A = Doc} w vs (Err stop) early (value_in-within v)) in
      let r = value_local v w key.0 key.2 early in
      (Err (moved_stop w stop), Members.bad_member key.1 (subst (Value n key.0) r.2 r.1), refl)
  members_local (Members.last_member {n = n} {ps = ps} {bs = bs} {k = k} {vs = vs} {ws = ws} {rest = us} {d = d} e v f) w cs t early =
      let short = behind-lt 125 (skipped ws) us f in
      let key = key_end w bs cs k vs t e (omega (arith, short, skipped-le ws, value_in-within v)) in
      let r = value_end n w key.0 ws d (value_local v w key.0 key.2 (omega (arith, short, skipped-le ws))) in
      let b = twins_behind w 125 (skipped ws) (skipped r.0) us (twins_skipped w ws r.0 r.2 (omega arith)) f early in
      (Ok (put ps k d, b.0), Members.last_member key.1 r.1 b.1, (b.2.0, b.2.1, ap (λ vs. Ok (put ps k d, vs)) b.2.2))
  members_local (Members.more_members {n = n} {ps = ps} {bs = bs} {k = k} {vs = vs} {ws = ws} {rest = us} {d = d} {o = o} e v f g ms) w cs t early =
      let long = early-before w (skipped us) o early (members_in-within ms) in
      let short = behind-lt 44 (skipped ws) us g in
      let key = key_end w bs cs k vs t e (omega (arith, short, long, skipped-le ws, skipped-le us, value_in-within v)) in
      let r = value_end n w key.0 ws d (value_local v w key.0 key.2 (omega (arith, short, long, skipped-le ws, skipped-le us))) in
      let s = twins_skipped w ws r.0 r.2 (omega (arith, short, long, skipped-le us)) in
      let b = twins_behind w 44 (skipped ws) (skipped r.0) us s g (omega (arith, long, skipped-le us)) in
      let q = members_local ms w (skipped b.0) (twins_skipped w us b.0 b.2 long) early in
      (q.0, Members.more_members key.1 r.1 (twins_not w 125 (skipped ws) (skipped r.0) s f) b.1 q.1, q.2)
  members_local (Members.open_object {n = n} {ps = ps} {bs = bs} {k = k} {vs = vs} {ws = ws} {d = d} e v f g) w cs t early =
      let key = key_end w bs cs k vs t e (omega (arith, skipped-le ws, value_in-within v)) in
      let r = value_end n w key.0 ws d (value_local v w key.0 key.2 (omega (arith, skipped-le ws))) in
      let s = twins_skipped w ws r.0 r.2 early in (
        Err (Syntax (length (skipped r.0))),
        Members.open_object key.1 r.1 (twins_not w 125 (skipped ws) (skipped r.0) s f) (twins_not w 44 (skipped ws) (skipped r.0) s g),
        twins_error w (skipped ws) (skipped r.0) Syntax (λ left. refl) s,
      )

error_same : (o : Read Doc) (a b : Stop) → o ≡ Err a → o ≡ Err b → a ≡ b
error_same o a b e f = cc

ended-stop : (d : Doc) (bs : List ℕ) (stop : Stop) → ended d bs ≡ Err stop → (stop ≡ Syntax (length bs)) × (0 < length bs)
ended-stop d [] stop e = absurd cc
ended-stop d (b ∷ bs) stop e = (cc, omega arith)

ended-more : (d : Doc) (bs : List ℕ) → 0 < length bs → ended d bs ≡ Err (Syntax (length bs))
ended-more d [] some = absurd (omega arith)
ended-more d (b ∷ bs) some = refl

-- the fault of a whole text
pub text_local : (w : Ways) (front : List ℕ) (stop : Stop) → Scans (front ++ rest w) (Err stop) → length (rest w) ≤ found_at stop → Scans (front ++ more w) (Err (moved_stop w stop))
text_local w front stop (Err s, v, e) early =
    let same : stop ≡ s = cc in
    let before = subst (λ t. length (rest w) ≤ found_at t) same early in
    let long = early-before {A = Doc} w (skipped (front ++ rest w)) (Err s) before (value_in-within v) in
    let r = value_local v w (skipped (front ++ more w)) (skipped-twins w front long) before in
    (r.0, r.1, ap (λ t. Err (moved_stop w t)) same ∙ sym (ap whole r.2))
text_local w front stop (Ok x, v, e) early =
    let last = ended-stop x.0 (skipped x.1) stop (sym e) in
    let long : length (rest w) ≤ length (skipped x.1) = subst (λ t. length (rest w) ≤ found_at t) last.0 early in
    let begins = skipped-twins w front (omega (arith, long, skipped-le x.1, value_in-within v)) in
    let r = value_end 0 w (skipped (front ++ more w)) x.1 x.0 (value_local v w (skipped (front ++ more w)) begins (omega (arith, long, skipped-le x.1))) in
    let s = twins_skipped w x.1 r.0 r.2 long in
    let moved = error_same (Err (Syntax (length (skipped r.0)))) (Syntax (length (skipped r.0))) (moved_stop w (Syntax (length (skipped x.1)))) refl (twins_error {A = Doc} w (skipped x.1) (skipped r.0) Syntax (λ left. refl) s) in
    let some : 0 < length (skipped r.0) = omega (arith, ap length s.2, length-append s.0 (more w)) in
    (Ok (x.0, r.0), r.1, ap (λ t. Err (moved_stop w t)) last.0 ∙ ap Err (sym moved) ∙ sym (ended-more x.0 (skipped r.0) some))

-- No document begins with the bytes up to such a fault and its own byte.

dead_end : (bs : List ℕ) (at left : ℕ) (stop : Stop) → Scans bs (Err stop) → at + left ≡ length bs → at < length bs → left ≤ found_at stop → BeginsNoDocument (take (at + 1) bs)
dead_end bs at left stop stops place within seen changed d reads =
    let w : Ways = record { first = get_or bs at 0; others = drop (suc at) bs; changed = changed } in
    let whole_is : bs ≡ take at bs ++ rest w = sym (take-append-drop at bs) ∙ ap (λ us. take at bs ++ us) (drop-cons bs at 0 within) in
    let changed_is : take (at + 1) bs ++ changed ≡ take at bs ++ more w =
    ap (λ k. take k bs ++ changed) (add-one at) ∙ ap (λ us. us ++ changed) (take-suc bs at 0 within) ∙ append_assoc (take at bs) (get_or bs at 0 ∷ []) changed in
    let short : length (rest w) ≤ found_at stop = omega (arith, ap length (drop-cons bs at 0 within), length-drop at bs) in
    let again = text_local w (take at bs) stop (subst (λ us. Scans us (Err stop)) whole_is stops) short in
    let e = text_once (take at bs ++ more w) _ _ again (text_complete (take at bs ++ more w) d (subst (λ us. Reads us d) changed_is reads)) in
    absurd cc

pub IsDeadEnd-from_fault : (bs : List ℕ) (f : ReadFault) → HasFault bs f → IsDeadEnd bs f
IsDeadEnd-from_fault bs (fault.Syntax at) h = λ within. dead_end bs at h.0 (Syntax h.0) h.1 h.2 within (omega arith)
IsDeadEnd-from_fault bs (fault.TooDeep at) h = λ within. dead_end bs at h.0 (TooDeep h.0) h.1 h.2 within (omega arith)
IsDeadEnd-from_fault bs (fault.NumberTooWide at) h = tt
IsDeadEnd-from_fault bs fault.OutOfMemory h = tt
