-- The parts of a JSON text that are still due, and the values and members that close their brackets.
use Rattle.std.proofs.Common.{◌≡◌, ℕ, true, false, List, [], ◌∷◌, ◌++◌, Option, Some, None, Ok, refl, sym, ap, subst, ◌∙◌, ◌⊎◌, inl, inr, arith}
use Rattle.std.specs.Prelude.{codes}
use Rattle.json_doc.specs.declared.brackets.Bracket.{Bracket}
use Rattle.json_doc.specs.declared.brackets.Bracket.TheVariants.{Array, Object}
use Rattle.json_doc.specs.declared.doc.Doc as doc
use Rattle.json_doc.specs.declared.doc.Doc.{Doc}
use Rattle.json_doc.specs.Grammar.{Ws, Structural, is_blank}
use Rattle.json_doc.specs.JsonTexts.{Value, Values, Members, Member}
use Rattle.json_doc.specs.NumberToken.{Number, SpellsNumber, number_at}
use Rattle.json_doc.specs.Scan.{made, skipped, behind, is_number_start, begins_number, scalar_at}
use Rattle.json_doc.specs.StillDue.{Closes, ended, array_ends, next_value, object_ends, next_member}
use Rattle.json_doc.proofs.Complete.{MayEnd, ends_blank, left_out, text-read, number-read, spelled-begins, number-skipped, behind-same, marked_ends}
use Rattle.json_doc.proofs.Once.{other-behind, no_mark}
use Rattle.json_doc.proofs.Sound.{Ws-skipped, skipped-Ws}

-- Blanks in front make no difference.

pub skipped-twice : (bs : List ℕ) → skipped (skipped bs) ≡ skipped bs
skipped-twice bs = sym (Ws-skipped bs (skipped bs) (skipped-Ws bs))

pub structural-skipped : (c : ℕ) (bs cs rest : List ℕ) → is_blank c ≡ false → skipped bs ≡ skipped cs → Structural c bs rest → Structural c cs rest
structural-skipped c bs cs rest dark same (ws, before, after) =
    (ws, subst (Ws cs) (sym same ∙ Ws-skipped bs (c ∷ ws) before ∙ left_out (is_blank c) (skipped ws) (c ∷ ws) dark) (skipped-Ws cs), after)

-- all blanks behind it
pub structural-all : (c : ℕ) (bs rest : List ℕ) → Structural c bs rest → Structural c bs (skipped rest)
structural-all c bs rest (ws, before, after) = (ws, before, subst (Ws ws) (Ws-skipped ws rest after) (skipped-Ws ws))

-- what is behind a structural character
pub front_mark : (c : ℕ) (bs rest : List ℕ) → is_blank c ≡ false → Structural c bs rest → (ws : List ℕ) × (behind c (skipped bs) ≡ Some ws) × (skipped ws ≡ skipped rest)
front_mark c bs rest dark (ws, before, after) =
    let front : skipped bs ≡ c ∷ ws = Ws-skipped bs (c ∷ ws) before ∙ left_out (is_blank c) (skipped ws) (c ∷ ws) dark in
    (ws, subst (λ vs. behind c vs ≡ Some ws) (sym front) (behind-same c ws), Ws-skipped ws rest after)

pub value-skipped : {bs rest : List ℕ} → Value bs rest → Value (skipped bs) rest
value-skipped (Value.false_name {rest = rest} e) = subst (λ cs. Value (skipped cs) rest) (sym e) (Value.false_name refl)
value-skipped (Value.null_name {rest = rest} e) = subst (λ cs. Value (skipped cs) rest) (sym e) (Value.null_name refl)
value-skipped (Value.true_name {rest = rest} e) = subst (λ cs. Value (skipped cs) rest) (sym e) (Value.true_name refl)
value-skipped (Value.number {rest = rest} parts spelled spells e) =
    subst (λ cs. Value (skipped cs) rest) (sym e) (Value.number parts spelled spells (number-skipped (spelled ++ rest) (spelled-begins parts spelled rest spells)))
value-skipped (Value.string {rest = rest} t (chars, e, h)) = subst (λ cs. Value (skipped cs) rest) (sym e) (Value.string t (chars, refl, h))
value-skipped (Value.empty_array {bs = bs} ws begins closes) = Value.empty_array ws (structural-skipped 91 bs (skipped bs) ws refl (sym (skipped-twice bs)) begins) closes
value-skipped (Value.array {bs = bs} vs ws begins values closes) = Value.array vs ws (structural-skipped 91 bs (skipped bs) vs refl (sym (skipped-twice bs)) begins) values closes
value-skipped (Value.empty_object {bs = bs} ws begins closes) = Value.empty_object ws (structural-skipped 123 bs (skipped bs) ws refl (sym (skipped-twice bs)) begins) closes
value-skipped (Value.object {bs = bs} vs ws begins members closes) = Value.object vs ws (structural-skipped 123 bs (skipped bs) vs refl (sym (skipped-twice bs)) begins) members closes

-- the same behind other blanks
pub value-at : {vs rest : List ℕ} (bs : List ℕ) → skipped bs ≡ skipped vs → Value vs rest → Value (skipped bs) rest
value-at {rest = rest} bs same value = subst (λ cs. Value cs rest) (sym same) (value-skipped value)

pub closes-skipped : {outer : List Bracket} {bs : List ℕ} (cs : List ℕ) → skipped bs ≡ skipped cs → Closes outer bs → Closes outer cs
closes-skipped cs same (ended {bs = bs} ws) = ended (subst (Ws cs) (sym same ∙ Ws-skipped bs [] ws) (skipped-Ws cs))
closes-skipped cs same (array_ends {bs = bs} {rest = rest} s closes) = array_ends (structural-skipped 93 bs cs rest refl same s) closes
closes-skipped cs same (next_value {bs = bs} {vs = vs} s value closes) = next_value (structural-skipped 44 bs cs vs refl same s) value closes
closes-skipped cs same (object_ends {bs = bs} {rest = rest} s closes) = object_ends (structural-skipped 125 bs cs rest refl same s) closes
closes-skipped cs same (next_member {bs = bs} {ms = ms} s m closes) = next_member (structural-skipped 44 bs cs ms refl same s) m closes

-- a value ends before what closes
pub closes-end : {outer : List Bracket} {bs : List ℕ} → Closes outer bs → MayEnd bs
closes-end (ended (blanks, all, e)) = subst MayEnd (sym e) (ends_blank blanks [] all tt)
closes-end (array_ends {bs = bs} {rest = rest} s closes) = marked_ends 93 bs rest refl s
closes-end (next_value {bs = bs} {vs = vs} s value closes) = marked_ends 44 bs vs refl s
closes-end (object_ends {bs = bs} {rest = rest} s closes) = marked_ends 125 bs rest refl s
closes-end (next_member {bs = bs} {ms = ms} s m closes) = marked_ends 44 bs ms refl s

-- Values and members up to their bracket are a first one, and what closes behind it.

pub values-close : {outer : List Bracket} {bs ws rest : List ℕ} → Values bs ws → Structural 93 ws rest → Closes outer rest → (r : List ℕ) × Value bs r × Closes (Array ∷ outer) r
values-close {ws = ws} (Values.one_value value) s closes = (ws, value, array_ends s closes)
values-close (Values.more_values us vs value comma values) s closes = let more = values-close values s closes in (us, value, next_value comma more.1 more.2)

pub closes-values : {outer : List Bracket} {bs r : List ℕ} → Value bs r → Closes (Array ∷ outer) r → (ws : List ℕ) × (rest : List ℕ) × Values bs ws × Structural 93 ws rest × Closes outer rest
closes-values {r = r} value (array_ends {rest = rest} s closes) = (r, rest, Values.one_value value, s, closes)
closes-values {r = r} value (next_value {vs = vs} comma next closes) = let more = closes-values next closes in (more.0, more.1, Values.more_values r vs value comma more.2, more.3, more.4)

pub members-close : {outer : List Bracket} {bs ws rest : List ℕ} → Members bs ws → Structural 125 ws rest → Closes outer rest → (r : List ℕ) × Member bs r × Closes (Object ∷ outer) r
members-close {ws = ws} (Members.one_member m) s closes = (ws, m, object_ends s closes)
members-close (Members.more_members us vs m comma members) s closes = let more = members-close members s closes in (us, m, next_member comma more.1 more.2)

pub closes-members : {outer : List Bracket} {bs r : List ℕ} → Member bs r → Closes (Object ∷ outer) r → (ws : List ℕ) × (rest : List ℕ) × Members bs ws × Structural 125 ws rest × Closes outer rest
closes-members {r = r} m (object_ends {rest = rest} s closes) = (r, rest, Members.one_member m, s, closes)
closes-members {r = r} m (next_member {ms = ms} comma next closes) = let more = closes-members next closes in (more.0, more.1, Members.more_members r ms m comma more.2, more.3, more.4)

-- What a value is, by its first byte. `front` is where it begins, behind its blanks.

pub clash : {G A : Type 0} {t : A} {o : Option A} → o ≡ None → o ≡ Some t → G
clash none some = let e = sym none ∙ some in absurd cc

-- which values begin with this mark: none but those of this bracket
no_name : (c : ℕ) (word rest bs front : List ℕ) → behind c (skipped (word ++ rest)) ≡ None → bs ≡ word ++ rest → skipped bs ≡ front → behind c front ≡ None
no_name c word rest bs front none e same = subst (λ cs. behind c cs ≡ None) same (subst (λ cs. behind c (skipped cs) ≡ None) (sym e) none)

no_number : (c : ℕ) (parts : Number) (spelled rest bs front : List ℕ) → is_number_start c ≡ false → SpellsNumber parts spelled → bs ≡ spelled ++ rest → skipped bs ≡ front → behind c front ≡ None
no_number c parts spelled rest bs front other spells e same =
    let begins = spelled-begins parts spelled rest spells in
    subst (λ cs. behind c cs ≡ None) same (subst (λ cs. behind c (skipped cs) ≡ None) (sym e)
    (subst (λ cs. behind c cs ≡ None) (sym (number-skipped (spelled ++ rest) begins)) (no_mark c (spelled ++ rest) other begins)))

no_other : (c d : ℕ) (bs rest front : List ℕ) → (c ≡ d → ⊥) → is_blank c ≡ false → Structural c bs rest → skipped bs ≡ front → behind d front ≡ None
no_other c d bs rest front apart dark s same =
    let m = front_mark c bs rest dark s in
    subst (λ cs. behind d cs ≡ None) same (other-behind c d (skipped bs) m.0 apart m.1)

-- behind an opening bracket: it closes, or values stand before it closes
abbrev pub InArray : List ℕ → List ℕ → Type 0
InArray t rest = Structural 93 t rest ⊎ ((vs : List ℕ) × (ws : List ℕ) × (skipped t ≡ skipped vs) × Values vs ws × Structural 93 ws rest)

abbrev pub InObject : List ℕ → List ℕ → Type 0
InObject t rest = Structural 125 t rest ⊎ ((vs : List ℕ) × (ws : List ℕ) × (skipped t ≡ skipped vs) × Members vs ws × Structural 125 ws rest)

pub in_array : {bs rest : List ℕ} (front t : List ℕ) → Value bs rest → skipped bs ≡ front → behind 91 front ≡ Some t → InArray t rest
in_array front t (Value.false_name {bs = bs} {rest = rest} e) same h = clash (no_name 91 (codes "false") rest bs front refl e same) h
in_array front t (Value.null_name {bs = bs} {rest = rest} e) same h = clash (no_name 91 (codes "null") rest bs front refl e same) h
in_array front t (Value.true_name {bs = bs} {rest = rest} e) same h = clash (no_name 91 (codes "true") rest bs front refl e same) h
in_array front t (Value.number {bs = bs} {rest = rest} parts spelled spells e) same h = clash (no_number 91 parts spelled rest bs front refl spells e same) h
in_array front t (Value.string {bs = bs} text (chars, e, s)) same h = clash (no_name 91 (34 ∷ []) chars bs front refl e same) h
in_array front t (Value.empty_array {bs = bs} {rest = rest} ws begins closes) same h =
    let m = front_mark 91 bs ws refl begins in
    let u : m.0 ≡ t = let e = sym (subst (λ cs. behind 91 cs ≡ Some m.0) same m.1) ∙ h in cc in
    inl (structural-skipped 93 ws t rest refl (sym m.2 ∙ ap skipped u) closes)
in_array front t (Value.array {bs = bs} {rest = rest} vs ws begins values closes) same h =
    let m = front_mark 91 bs vs refl begins in
    let u : m.0 ≡ t = let e = sym (subst (λ cs. behind 91 cs ≡ Some m.0) same m.1) ∙ h in cc in
    inr (vs, ws, sym (ap skipped u) ∙ m.2, values, closes)
in_array front t (Value.empty_object {bs = bs} ws begins closes) same h = clash (no_other 123 91 bs ws front (λ e. absurd (omega arith)) refl begins same) h
in_array front t (Value.object {bs = bs} vs ws begins members closes) same h = clash (no_other 123 91 bs vs front (λ e. absurd (omega arith)) refl begins same) h

pub in_object : {bs rest : List ℕ} (front t : List ℕ) → Value bs rest → skipped bs ≡ front → behind 123 front ≡ Some t → InObject t rest
in_object front t (Value.false_name {bs = bs} {rest = rest} e) same h = clash (no_name 123 (codes "false") rest bs front refl e same) h
in_object front t (Value.null_name {bs = bs} {rest = rest} e) same h = clash (no_name 123 (codes "null") rest bs front refl e same) h
in_object front t (Value.true_name {bs = bs} {rest = rest} e) same h = clash (no_name 123 (codes "true") rest bs front refl e same) h
in_object front t (Value.number {bs = bs} {rest = rest} parts spelled spells e) same h = clash (no_number 123 parts spelled rest bs front refl spells e same) h
in_object front t (Value.string {bs = bs} text (chars, e, s)) same h = clash (no_name 123 (34 ∷ []) chars bs front refl e same) h
in_object front t (Value.empty_array {bs = bs} ws begins closes) same h = clash (no_other 91 123 bs ws front (λ e. absurd (omega arith)) refl begins same) h
in_object front t (Value.array {bs = bs} vs ws begins values closes) same h = clash (no_other 91 123 bs vs front (λ e. absurd (omega arith)) refl begins same) h
in_object front t (Value.empty_object {bs = bs} {rest = rest} ws begins closes) same h =
    let m = front_mark 123 bs ws refl begins in
    let u : m.0 ≡ t = let e = sym (subst (λ cs. behind 123 cs ≡ Some m.0) same m.1) ∙ h in cc in
    inl (structural-skipped 125 ws t rest refl (sym m.2 ∙ ap skipped u) closes)
in_object front t (Value.object {bs = bs} {rest = rest} vs ws begins members closes) same h =
    let m = front_mark 123 bs vs refl begins in
    let u : m.0 ≡ t = let e = sym (subst (λ cs. behind 123 cs ≡ Some m.0) same m.1) ∙ h in cc in
    inr (vs, ws, sym (ap skipped u) ∙ m.2, members, closes)

-- a value begins with no closing bracket
pub value-opens : {bs rest : List ℕ} → Value bs rest → behind 93 (skipped bs) ≡ None
value-opens (Value.false_name {bs = bs} {rest = rest} e) = no_name 93 (codes "false") rest bs (skipped bs) refl e refl
value-opens (Value.null_name {bs = bs} {rest = rest} e) = no_name 93 (codes "null") rest bs (skipped bs) refl e refl
value-opens (Value.true_name {bs = bs} {rest = rest} e) = no_name 93 (codes "true") rest bs (skipped bs) refl e refl
value-opens (Value.number {bs = bs} {rest = rest} parts spelled spells e) = no_number 93 parts spelled rest bs (skipped bs) refl spells e refl
value-opens (Value.string {bs = bs} text (chars, e, s)) = no_name 93 (34 ∷ []) chars bs (skipped bs) refl e refl
value-opens (Value.empty_array {bs = bs} ws begins closes) = no_other 91 93 bs ws (skipped bs) (λ e. absurd (omega arith)) refl begins refl
value-opens (Value.array {bs = bs} vs ws begins values closes) = no_other 91 93 bs vs (skipped bs) (λ e. absurd (omega arith)) refl begins refl
value-opens (Value.empty_object {bs = bs} ws begins closes) = no_other 123 93 bs ws (skipped bs) (λ e. absurd (omega arith)) refl begins refl
value-opens (Value.object {bs = bs} vs ws begins members closes) = no_other 123 93 bs vs (skipped bs) (λ e. absurd (omega arith)) refl begins refl

pub values-open : {bs rest : List ℕ} → Values bs rest → behind 93 (skipped bs) ≡ None
values-open (Values.one_value value) = value-opens value
values-open (Values.more_values us vs value comma values) = value-opens value

pub member-opens : {bs rest : List ℕ} → Member bs rest → behind 125 (skipped bs) ≡ None
member-opens (Member.member {bs = bs} t ws vs (chars, e, s) colon value) = no_name 125 (34 ∷ []) chars bs (skipped bs) refl e refl

pub members-open : {bs rest : List ℕ} → Members bs rest → behind 125 (skipped bs) ≡ None
members-open (Members.one_member m) = member-opens m
members-open (Members.more_members us vs m comma members) = member-opens m

-- a number, or a text or word, up to this rest
abbrev pub AtomAt : List ℕ → List ℕ → Type 0
AtomAt front rest = ((n : Number) × (begins_number front ≡ true) × (number_at front ≡ Ok (n, rest))) ⊎ ((d : Doc) × (begins_number front ≡ false) × (scalar_at front ≡ Ok (d, rest)))

pub atom-read : {bs rest : List ℕ} (front : List ℕ) → Value bs rest → MayEnd rest → skipped bs ≡ front → behind 91 front ≡ None → behind 123 front ≡ None → AtomAt front rest
atom-read front (Value.false_name {rest = rest} e) ends same array object = subst (λ cs. AtomAt cs rest) same (subst (λ cs. AtomAt (skipped cs) rest) (sym e) (inr (doc.Flag false, refl, refl)))
atom-read front (Value.null_name {rest = rest} e) ends same array object = subst (λ cs. AtomAt cs rest) same (subst (λ cs. AtomAt (skipped cs) rest) (sym e) (inr (doc.Null, refl, refl)))
atom-read front (Value.true_name {rest = rest} e) ends same array object = subst (λ cs. AtomAt cs rest) same (subst (λ cs. AtomAt (skipped cs) rest) (sym e) (inr (doc.Flag true, refl, refl)))
atom-read front (Value.number {rest = rest} parts spelled spells e) ends same array object =
    let begins = spelled-begins parts spelled rest spells in
    subst (λ cs. AtomAt cs rest) same (subst (λ cs. AtomAt (skipped cs) rest) (sym e)
    (subst (λ cs. AtomAt cs rest) (sym (number-skipped (spelled ++ rest) begins)) (inl (parts, begins, number-read parts spelled rest spells ends))))
atom-read front (Value.string {bs = bs} {rest = rest} t s) ends same array object =
    let h = text-read bs t rest s in
    subst (λ cs. AtomAt cs rest) same (subst (λ cs. AtomAt (skipped cs) rest) (sym h.1) (inr (doc.Str t, refl, ap (made doc.Str) h.2)))
atom-read front (Value.empty_array {bs = bs} ws begins closes) ends same array object = let m = front_mark 91 bs ws refl begins in clash array (subst (λ cs. behind 91 cs ≡ Some m.0) same m.1)
atom-read front (Value.array {bs = bs} vs ws begins values closes) ends same array object = let m = front_mark 91 bs vs refl begins in clash array (subst (λ cs. behind 91 cs ≡ Some m.0) same m.1)
atom-read front (Value.empty_object {bs = bs} ws begins closes) ends same array object = let m = front_mark 123 bs ws refl begins in clash object (subst (λ cs. behind 123 cs ≡ Some m.0) same m.1)
atom-read front (Value.object {bs = bs} vs ws begins members closes) ends same array object = let m = front_mark 123 bs vs refl begins in clash object (subst (λ cs. behind 123 cs ≡ Some m.0) same m.1)
