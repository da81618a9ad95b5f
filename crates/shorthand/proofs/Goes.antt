-- What may stand behind a text that is read so far, and the tree of the whole: the rules of the grammar
-- that are still due. Characters whose meaning is open are put back in front.
use Rattle.std.proofs.Common.{◌≡◌, ℕ, Bool, true, false, List, [], ◌∷◌, ◌++◌, length}
use Rattle.std.specs.Prelude.{◌↔◌, Ok, Err}
use Rattle.texts.specs.declared.pairs.Pair.{Pair}
use Rattle.texts.specs.Keys.{keys, IsDistinct}
use Rattle.shorthand.specs.declared.begun.Group.{Group}
use Rattle.shorthand.specs.declared.begun.Group.TheVariants as group
use Rattle.shorthand.specs.declared.places.Place.{Place}
use Rattle.shorthand.specs.declared.places.Place.TheVariants as place
use Rattle.shorthand.specs.declared.places.Run.TheVariants as run
use Rattle.shorthand.specs.declared.short.Short.{Short}
use Rattle.shorthand.specs.declared.short.Short.TheVariants.{Word, Items, Fields}
use Rattle.shorthand.specs.Grammar.{without_spaces, pair_of, Bare, Quoted, Value, Inside, MoreItems, MorePairs, PairAt, Values, MoreValues}
use Rattle.shorthand.specs.Reading.{with_value, Next}

-- behind the pairs of a text: its end, or the brace that closes it
abbrev pub Ends : List Group → (Short → List ℕ → Type 0) → Short → List (Pair Short) → List ℕ → Type 0
Ends [] C t ps ts = (ts ≡ []) × (t ≡ Fields ps)
Ends (o ∷ os) C t ps ts = (rest : List ℕ) × (ts ≡ 125 ∷ rest) × C (Fields ps) rest

-- behind some pairs of a text
abbrev pub PairsGo : List Group → (Short → List ℕ → Type 0) → Short → List (Pair Short) → List ℕ → Type 0
PairsGo os C t ps ts = (qs : List (Pair Short)) × (rest : List ℕ) × MorePairs (length os) ts qs rest × IsDistinct (keys (ps ++ qs)) × Ends os C t (ps ++ qs) rest

-- behind a value of a group
abbrev pub GroupGoes : List Group → (Short → List ℕ → Type 0) → Short → Group → List ℕ → Type 0
GroupGoes os C t (group.Items vs) ts = (more : List Short) × (rest : List ℕ) × MoreItems (length os) ts more rest × C (Items (vs ++ more)) rest
GroupGoes os C t (group.Pair b) ts = (more : List Short) × (us : List ℕ) × MoreValues (length os) ts more us × PairsGo os C t (b.fields ++ pair_of b.key (b.values ++ more) ∷ []) us

-- behind the bracket that closes this value
abbrev pub Closes : List Group → Short → Short → List ℕ → Type 0
Closes [] t v ts = ⊥
Closes (o ∷ os) t v ts = GroupGoes os (Closes os t) t (with_value o v) ts

abbrev pub Behind : List Group → Group → Short → List ℕ → Type 0
Behind os o t ts = GroupGoes os (Closes os t) t o ts

-- a value of a group
abbrev pub ValueGoes : List Group → Group → Short → List ℕ → Type 0
ValueGoes os o t ts = (v : Short) × (rest : List ℕ) × Value (length os) ts v rest × Behind os (with_value o v) t rest

-- a pair behind these
abbrev pub PairGoes : List Group → List (Pair Short) → Short → List ℕ → Type 0
PairGoes os ps t ts = (p : Pair Short) × (us : List ℕ) × PairAt (length os) ts p us × PairsGo os (Closes os t) t (ps ++ p ∷ []) us

-- the rest of a value without quotes
abbrev pub BareGoes : List Group → Group → List ℕ → Short → List ℕ → Type 0
BareGoes os o w t ts = (v : List ℕ) × (rest : List ℕ) × Bare (length os) ts v rest × Behind os (with_value o (Word (w ++ v))) t rest

-- the rest of a value in quotes
abbrev pub QuotedGoes : List Group → Group → ℕ → List ℕ → Short → List ℕ → Type 0
QuotedGoes os o q w t ts = (v : List ℕ) × (rest : List ℕ) × Quoted q ts v rest × Behind os (with_value o (Word (w ++ v))) t rest

-- behind `=` or `[`
abbrev pub FirstGoes : List Group → Group → Short → List ℕ → Type 0
FirstGoes os (group.Items vs) t ts = (more : List Short) × (rest : List ℕ) × Inside (length os) (without_spaces ts) more rest × Closes os t (Items (vs ++ more)) rest
FirstGoes os (group.Pair b) t ts = (more : List Short) × (us : List ℕ) × Values (length os) ts more us × PairsGo os (Closes os t) t (b.fields ++ pair_of b.key (b.values ++ more) ∷ []) us

abbrev pub spaced : Bool → List ℕ → List ℕ
spaced true ts = without_spaces ts
spaced false ts = ts

abbrev pub Goes : List Group → Place → Short → List ℕ → Type 0
Goes os (place.Key ps k skips) t ts = PairGoes os ps t (spaced skips (k ++ ts))
Goes os (place.First o) t ts = FirstGoes os o t ts
Goes os (place.Next o) t ts = Behind os o t (44 ∷ ts)
Goes os (place.Bare o w run.Plain) t ts = BareGoes os o w t ts
Goes os (place.Bare o w run.Backslash) t ts = BareGoes os o w t (92 ∷ ts)
Goes os (place.Bare o w run.Key) t ts = Behind os o t (44 ∷ w ++ ts)
Goes os (place.Quoted o q w false) t ts = QuotedGoes os o q w t ts
Goes os (place.Quoted o q w true) t ts = QuotedGoes os o q w t (92 ∷ ts)
Goes os (place.Behind o) t ts = Behind os o t ts

-- a step to where just what may stand behind it goes on, or a refusal where nothing does
abbrev pub StepOf : (Short → List ℕ → Type 0) → Next → Type 0
StepOf G (Ok r) = (t : Short) (ts : List ℕ) → Goes r.outer r.place t ts ↔ G t ts
StepOf G (Err s) = (t : Short) (ts : List ℕ) → G t ts → ⊥
