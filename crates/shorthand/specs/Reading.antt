-- Reading character by character, for contracts inside this crate: no clause of a public call cites it.
use Rattle.std.specs.Prelude.{◌≡◌, ℕ, ◌+◌, ◌==◌, nat_lt, Bool, true, false, ◌&&◌, ◌||◌, if◌then◌else◌, List, [], ◌∷◌, ◌++◌, length, encode_utf8_all, Option, None, Some, is_some, Result, Ok, Err}
use Rattle.texts.specs.declared.pairs.Pair.{Pair}
use Rattle.texts.specs.Keys.{value_at, put}
use Rattle.shorthand.specs.declared.begun.Begun.{Begun}
use Rattle.shorthand.specs.declared.begun.Group.{Group}
use Rattle.shorthand.specs.declared.begun.Group.TheVariants as group
use Rattle.shorthand.specs.declared.fault.ShortFault.{ShortFault}
use Rattle.shorthand.specs.declared.fault.ShortFault.TheVariants as fault
use Rattle.shorthand.specs.declared.fault.Stop.{Stop}
use Rattle.shorthand.specs.declared.fault.Stop.TheVariants.{Refused, RepeatedKey, OutOfMemory}
use Rattle.shorthand.specs.declared.places.Place.{Place}
use Rattle.shorthand.specs.declared.places.Place.TheVariants as place
use Rattle.shorthand.specs.declared.places.Reader.{Reader}
use Rattle.shorthand.specs.declared.places.Run.{Run}
use Rattle.shorthand.specs.declared.places.Run.TheVariants as run
use Rattle.shorthand.specs.declared.short.Short.{Short}
use Rattle.shorthand.specs.declared.short.Short.TheVariants.{Word, Items, Fields}
use Rattle.shorthand.specs.Grammar.{is_key_char, is_quote, ends_bare, value_of}

-- this fact of a reason; want of memory is left group
abbrev pub Stops : (Stop → Type 0) → Stop → Type 0
Stops P OutOfMemory = Unit {0}
Stops P Refused = P Refused
Stops P (RepeatedKey n) = P (RepeatedKey n)

abbrev pub has_key : List ℕ → List (Pair Short) → Bool
has_key k ps = is_some (value_at k ps)

abbrev pub with_pair : Begun → List (Pair Short)
with_pair b = put b.fields b.key (value_of b.values)

abbrev pub with_value : Group → Short → Group
with_value (group.Items vs) v = group.Items (vs ++ v ∷ [])
with_value (group.Pair b) v = group.Pair (record b { values = b.values ++ v ∷ [] })

abbrev pub Next : Type 0
Next = Result Reader Stop

abbrev pub at : List Group → Place → Next
at os p = Ok (record { outer = os; place = p })

abbrev pub begun : List Group → List (Pair Short) → List ℕ → Next
begun os ps k =
    if has_key k ps then Err (RepeatedKey (length (encode_utf8_all k)))
    else at os (place.First (group.Pair (record { fields = ps; key = k; values = [] })))

-- a character that no key has, behind this much of one
abbrev pub key_ends : List Group → List (Pair Short) → List ℕ → Bool → ℕ → Next
key_ends os ps [] spaced c = if spaced && (c == 32) then at os (place.Key ps [] spaced) else Err Refused
key_ends os ps (k ∷ ks) spaced c = if c == 61 then begun os ps (k ∷ ks) else Err Refused

abbrev pub in_key : List Group → List (Pair Short) → List ℕ → Bool → ℕ → Next
in_key os ps k spaced c = if is_key_char c then at os (place.Key ps (k ++ c ∷ []) spaced) else key_ends os ps k spaced c

abbrev pub closed : List Group → Short → Next
closed [] v = Err Refused
closed (o ∷ os) v = at os (place.Behind (with_value o v))

-- behind a comma in a text; where no value stands before it, a pair must follow
abbrev pub comma_behind : List Short → Begun → Place
comma_behind [] b = place.Key (with_pair b) [] true
comma_behind (v ∷ vs) b = place.Next (group.Pair b)

abbrev pub behind_comma : Begun → Place
behind_comma b = comma_behind b.values b

abbrev pub behind_in_pair : List Group → Begun → ℕ → Next
behind_in_pair os b c =
    if c == 44 then at os (behind_comma b) else
    (if c == 125 then closed os (Fields (with_pair b)) else Err Refused)

abbrev pub behind_item : List Group → List Short → ℕ → Next
behind_item os vs c =
    if c == 44 then at os (place.Next (group.Items vs)) else
    (if c == 93 then closed os (Items vs) else Err Refused)

abbrev pub behind : List Group → Group → ℕ → Next
behind os (group.Items vs) c = behind_item os vs c
behind os (group.Pair b) c = behind_in_pair os b c

abbrev pub plain : List Group → Group → List ℕ → ℕ → Next
plain os o w c = if c == 92 then at os (place.Bare o w run.Backslash) else at os (place.Bare o (w ++ c ∷ []) run.Plain)

abbrev pub bare : List Group → Group → List ℕ → ℕ → Next
bare os o w c = if ends_bare (length os) c then behind os (with_value o (Word w)) c else plain os o w c

abbrev pub behind_backslash : List Group → Group → List ℕ → ℕ → Next
behind_backslash os o w c = if c == 44 then at os (place.Bare o (w ++ c ∷ []) run.Plain) else bare os o (w ++ 92 ∷ []) c

abbrev pub next_pair : List Group → Group → List ℕ → Next
next_pair os (group.Items vs) k = Err Refused
next_pair os (group.Pair b) k = begun os (with_pair b) k

abbrev pub in_run : List Group → Group → List ℕ → ℕ → Next
in_run os o w c =
    if is_key_char c then at os (place.Bare o (w ++ c ∷ []) run.Key) else
    (if c == 61 then next_pair os o w else bare os o w c)

abbrev pub in_bare : List Group → Group → List ℕ → Run → ℕ → Next
in_bare os o w run.Plain c = bare os o w c
in_bare os o w run.Backslash c = behind_backslash os o w c
in_bare os o w run.Key c = in_run os o w c

abbrev pub escaped : List Group → Group → ℕ → List ℕ → ℕ → Next
escaped os o q w c = at os (place.Quoted o q (if (c == q) || (c == 92) then w ++ c ∷ [] else w ++ 92 ∷ c ∷ []) false)

abbrev pub in_quotes : List Group → Group → ℕ → List ℕ → Bool → ℕ → Next
in_quotes os o q w true c = escaped os o q w c
in_quotes os o q w false c =
    if c == q then at os (place.Behind (with_value o (Word w))) else
    (if c == 92 then at os (place.Quoted o q w true) else at os (place.Quoted o q (w ++ c ∷ []) false))

abbrev pub deeper : List Group → Group → Place → Next
deeper os o p = if nat_lt (length os) 100 then at (o ∷ os) p else Err Refused

-- the first character of a value
abbrev pub start : List Group → Group → ℕ → Next
start os o c =
    if is_quote c then at os (place.Quoted o c [] false) else
    (if c == 91 then deeper os o (place.First (group.Items [])) else
    (if c == 123 then deeper os o (place.Key [] [] true) else
    (if ends_bare (length os) c then Err Refused else plain os o [] c)))

abbrev pub first_item : List Group → List Short → ℕ → Next
first_item os vs c =
    if c == 32 then at os (place.First (group.Items vs)) else
    (if c == 93 then closed os (Items vs) else start os (group.Items vs) c)

abbrev pub first : List Group → Group → ℕ → Next
first os (group.Items vs) c = first_item os vs c
first os (group.Pair b) c = if ends_bare (length os) c then behind os (group.Pair b) c else start os (group.Pair b) c

abbrev pub next_in_pair : List Group → Begun → ℕ → Next
next_in_pair os b c = if is_key_char c then at os (place.Bare (group.Pair b) (c ∷ []) run.Key) else start os (group.Pair b) c

abbrev pub next_value : List Group → Group → ℕ → Next
next_value os (group.Items vs) c = start os (group.Items vs) c
next_value os (group.Pair b) c = next_in_pair os b c

abbrev pub next : List Group → Group → ℕ → Next
next os o c = if c == 32 then at os (place.Next o) else next_value os o c

abbrev pub step_at : List Group → Place → ℕ → Next
step_at os (place.Key ps k spaced) c = in_key os ps k spaced c
step_at os (place.First o) c = first os o c
step_at os (place.Next o) c = next os o c
step_at os (place.Bare o w r) c = in_bare os o w r c
step_at os (place.Quoted o q w e) c = in_quotes os o q w e c
step_at os (place.Behind o) c = behind os o c

-- one character more
abbrev pub step : Reader → ℕ → Next
step r c = step_at r.outer r.place c

-- no character yet
abbrev pub begins : Reader
begins = record { outer = []; place = place.Key [] [] false }

abbrev pub shown_word : List ℕ → Run → List ℕ
shown_word w run.Backslash = w ++ 92 ∷ []
shown_word w run.Key = w
shown_word w run.Plain = w

-- the tree of a text that ends behind these values
abbrev pub finished_with : List Group → Group → Option Short
finished_with [] (group.Pair b) = Some (Fields (with_pair b))
finished_with [] (group.Items vs) = None
finished_with (p ∷ os) o = None

abbrev pub finished_at : List Group → Place → Option Short
finished_at os (place.First o) = finished_with os o
finished_at os (place.Behind o) = finished_with os o
finished_at os (place.Bare o w r) = finished_with os (with_value o (Word (shown_word w r)))
finished_at os (place.Key ps k spaced) = None
finished_at os (place.Next o) = None
finished_at os (place.Quoted o q w e) = None

abbrev pub finished : Reader → Option Short
finished r = finished_at r.outer r.place

abbrev pub key_length : Stop → ℕ
key_length (RepeatedKey n) = n
key_length Refused = 0
key_length OutOfMemory = 0

-- the fault of a reason that is met at this offset
abbrev pub IsPlaced : ℕ → Stop → ShortFault → Type 0
IsPlaced met (RepeatedKey n) f = (start : ℕ) × (f ≡ fault.At start) × (start + n ≡ met)
IsPlaced met Refused f = f ≡ fault.At met
IsPlaced met OutOfMemory f = f ≡ fault.OutOfMemory
