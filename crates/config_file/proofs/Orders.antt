-- Where no key stands twice, the order of pairs and of sections is free.
use Rattle.std.proofs.Common.{◌≡◌, ℕ, zero, suc, ◌<◌, List, [], ◌∷◌, length, get_or, map, Option, None, Some, Bool, true, false, cond, inl, inr, ⊎_elim, refl, sym, ap, ◌∙◌, subst, arith}
use Rattle.std.specs.Prelude.{◌⊎◌, filter, flat_map, bytes_eq, Contains, IsPermutation}
use Rattle.std.specs.Bool.{Decides}
use Rattle.std.specs.Option.{option_or}
use Rattle.std.proofs.lemmas.List.Elements.{Contains-append_left, Contains-append_right, Contains-append_cases}
use Rattle.std.proofs.lemmas.List.Sorted.{IsPermutation-sym, Contains-permutation}
use Rattle.std.proofs.lemmas.Slice.Eq.{bytes_eq-Decides}
use Rattle.texts.specs.Keys.{IsNew, IsDistinct}
use Rattle.config_file.specs.declared.profiles.Section.{Section}
use Rattle.config_file.specs.Lookups.{last_value, is_of, profile_keys, value_in}

abbrev Pairs : Type 0
Pairs = List (List ℕ × List ℕ)

abbrev names : Pairs → List (List ℕ)
names pairs = map (λ pair. pair.0) pairs

abbrev own : List ℕ → List ℕ × List ℕ → Option (List ℕ)
own name pair = cond (bytes_eq pair.0 name) (Some pair.1) None

head_is : {X : Type 0} (x : X) (xs : List X) → Contains (x ∷ xs) x
head_is x xs = (0, omega arith, refl)

tail_has : {X : Type 0} (x y : X) (xs : List X) → Contains xs y → Contains (x ∷ xs) y
tail_has x y xs there = Contains-append_right (x ∷ []) xs y there

place_in : {X : Type 0} (x y : X) (xs : List X) (k : ℕ) → k < suc (length xs) → get_or (x ∷ xs) k y ≡ y → (x ≡ y) ⊎ Contains xs y
place_in x y xs zero within is = inl is
place_in x y xs (suc k) within is = inr (k, omega arith, is)

-- what stands in a list is its first element, or stands in the rest
cases_in : {X : Type 0} (x y : X) (xs : List X) → Contains (x ∷ xs) y → (x ≡ y) ⊎ Contains xs y
cases_in x y xs there = place_in x y xs there.0 there.1 there.2

-- what the pair before the others gives, where these give nothing or something
found_own : (name value : List ℕ) (p : List ℕ × List ℕ) (ps : Pairs) (b : Bool) → Decides b (p.0 ≡ name)
    → cond b (Some p.1) None ≡ Some value → Contains (p ∷ ps) (name, value)
found_own name value p ps true decides is =
    let key : p.0 ≡ name = decides.0 refl in
    let text : p.1 ≡ value = cc in
    let pair : p ≡ (name, value) = ap (λ k. (k, p.1)) key ∙ ap (λ v. (name, v)) text in
    (0, omega arith, pair)
found_own name value p ps false decides is = absurd (cc)

found_step : (name value : List ℕ) (p : List ℕ × List ℕ) (ps : Pairs) (o : Option (List ℕ))
    → ((w : List ℕ) → o ≡ Some w → Contains ps (name, w)) → option_or o (own name p) ≡ Some value → Contains (p ∷ ps) (name, value)
found_step name value p ps None rest is = found_own name value p ps (bytes_eq p.0 name) (bytes_eq-Decides p.0 name) is
found_step name value p ps (Some w) rest is =
    tail_has p (name, value) ps (rest value is)

-- a value that is found stands in the pairs
pub found : (name value : List ℕ) (ps : Pairs) → last_value name ps ≡ Some value → Contains ps (name, value)
found name value [] is = absurd (cc)
found name value (p ∷ ps) is = found_step name value p ps (last_value name ps) (λ w e. found name w ps e) is

other_own : (name : List ℕ) (p : List ℕ × List ℕ) (b : Bool) → Decides b (p.0 ≡ name) → (name ≡ p.0 → ⊥) → cond b (Some p.1) None ≡ None
other_own name p true decides other = absurd (other (sym (decides.0 refl)))
other_own name p false decides other = refl

new_none : (name : List ℕ) (ps : Pairs) → IsNew name (names ps) → last_value name ps ≡ None
new_none name [] new = refl
new_none name (p ∷ ps) new =
    ap (λ o. option_or o (own name p)) (new_none name ps new.1) ∙ other_own name p (bytes_eq p.0 name) (bytes_eq-Decides p.0 name) new.0

own_found : (name value : List ℕ) (p : List ℕ × List ℕ) (b : Bool) → Decides b (p.0 ≡ name) → p ≡ (name, value) → cond b (Some p.1) None ≡ Some value
own_found name value p true decides is = ap (λ q. Some q.1) is
own_found name value p false decides is = absurd (let e : false ≡ true = decides.1 (ap (λ q. q.0) is) in cc)

new_along : (a b : List ℕ) (ps : Pairs) → a ≡ b → IsNew a (names ps) → IsNew b (names ps)
new_along a b ps same new = subst (λ n. IsNew n (names ps)) same new

-- a pair that stands among distinct names is found
pub unique : (name value : List ℕ) (ps : Pairs) → IsDistinct (names ps) → Contains ps (name, value) → last_value name ps ≡ Some value
unique name value [] distinct there = absurd (omega (arith, there.1))
unique name value (p ∷ ps) distinct there = ⊎_elim
    (λ (is : p ≡ (name, value)).
    ap (λ o. option_or o (own name p)) (new_none name ps (new_along p.0 name ps (ap (λ q. q.0) is) distinct.0))
    ∙ own_found name value p (bytes_eq p.0 name) (bytes_eq-Decides p.0 name) is)
    (λ (rest : Contains ps (name, value)). ap (λ o. option_or o (own name p)) (unique name value ps distinct.1 rest))
    (cases_in p (name, value) ps there)

none_first : {A : Type 0} (a b : Option A) → option_or a b ≡ None → a ≡ None
none_first None b none = refl
none_first (Some x) b none = none

none_second : {A : Type 0} (a b : Option A) → option_or a b ≡ None → b ≡ None
none_second None b none = none
none_second (Some x) b none = absurd (cc)

-- where nothing is found, no pair of the name stands
pub not_found : (name value : List ℕ) (ps : Pairs) → last_value name ps ≡ None → Contains ps (name, value) → ⊥
not_found name value [] none there = absurd (omega (arith, there.1))
not_found name value (p ∷ ps) none there = ⊎_elim
    (λ (is : p ≡ (name, value)).
    let e : Some value ≡ None = sym (own_found name value p (bytes_eq p.0 name) (bytes_eq-Decides p.0 name) is) ∙ none_second (last_value name ps) (own name p) none in
    absurd (cc))
    (λ (rest : Contains ps (name, value)). not_found name value ps (none_first (last_value name ps) (own name p) none) rest)
    (cases_in p (name, value) ps there)

-- the section of the profile that a pair stands in
abbrev StandsIn : List ℕ → List Section → List ℕ × List ℕ → Type 0
StandsIn profile sections pair = (s : Section) × Contains sections s × (is_of profile s ≡ true) × Contains s.keys pair

abbrev keys_if : List ℕ → Bool → Section → List Section → Pairs
keys_if profile b s ss = flat_map (λ t. t.keys) (cond b (s ∷ filter (is_of profile) ss) (filter (is_of profile) ss))

stands_later : (profile : List ℕ) (s : Section) (ss : List Section) (pair : List ℕ × List ℕ) → StandsIn profile ss pair → StandsIn profile (s ∷ ss) pair
stands_later profile s ss pair there = (there.0, tail_has s there.0 ss there.1, there.2, there.3)

stands_step : (profile : List ℕ) (s : Section) (ss : List Section) (pair : List ℕ × List ℕ) (b : Bool) → is_of profile s ≡ b
    → (Contains (profile_keys profile ss) pair → StandsIn profile ss pair) → Contains (keys_if profile b s ss) pair → StandsIn profile (s ∷ ss) pair
stands_step profile s ss pair true of rest there = ⊎_elim
    (λ (here : Contains s.keys pair). (s, head_is s ss, of, here))
    (λ (later : Contains (profile_keys profile ss) pair). stands_later profile s ss pair (rest later))
    (Contains-append_cases s.keys (profile_keys profile ss) pair there)
stands_step profile s ss pair false of rest there = stands_later profile s ss pair (rest there)

stands_in : (profile : List ℕ) (sections : List Section) (pair : List ℕ × List ℕ) → Contains (profile_keys profile sections) pair → StandsIn profile sections pair
stands_in profile [] pair there = absurd (omega (arith, there.1))
stands_in profile (s ∷ ss) pair there =
    stands_step profile s ss pair (is_of profile s) refl (λ later. stands_in profile ss pair later) there

keys_here : (profile : List ℕ) (s : Section) (ss : List Section) (pair : List ℕ × List ℕ) (b : Bool) → b ≡ true → Contains s.keys pair → Contains (keys_if profile b s ss) pair
keys_here profile s ss pair true of here = Contains-append_left s.keys (profile_keys profile ss) pair here
keys_here profile s ss pair false of here = absurd (cc)

keys_later : (profile : List ℕ) (s : Section) (ss : List Section) (pair : List ℕ × List ℕ) (b : Bool) → Contains (profile_keys profile ss) pair → Contains (keys_if profile b s ss) pair
keys_later profile s ss pair true later = Contains-append_right s.keys (profile_keys profile ss) pair later
keys_later profile s ss pair false later = later

keys_have : (profile : List ℕ) (sections : List Section) (pair : List ℕ × List ℕ) (s : Section) → Contains sections s → is_of profile s ≡ true → Contains s.keys pair
    → Contains (profile_keys profile sections) pair
keys_have profile [] pair s there of here = absurd (omega (arith, there.1))
keys_have profile (t ∷ ts) pair s there of here = ⊎_elim
    (λ (is : t ≡ s). keys_here profile t ts pair (is_of profile t) (ap (is_of profile) is ∙ of) (subst (λ u. Contains u.keys pair) (sym is) here))
    (λ (later : Contains ts s). keys_later profile t ts pair (is_of profile t) (keys_have profile ts pair s later of here))
    (cases_in t s ts there)

-- sections in another order have the same pairs
same_pairs : (profile : List ℕ) (xs ys : List Section) (pair : List ℕ × List ℕ) → IsPermutation xs ys
    → Contains (profile_keys profile xs) pair → Contains (profile_keys profile ys) pair
same_pairs profile xs ys pair moved there =
    let at = stands_in profile xs pair there in
    keys_have profile ys pair at.0 (Contains-permutation xs ys at.0 moved at.1) at.2 at.3

same_option : (a b : Option (List ℕ)) → ((w : List ℕ) → b ≡ Some w → a ≡ Some w) → (b ≡ None → (v : List ℕ) → a ≡ Some v → ⊥) → a ≡ b
same_option None None back none = refl
same_option (Some v) None back none = absurd (none refl v refl)
same_option a (Some w) back none = back w refl

-- and the same values, where no name stands twice
pub same_value : (profile key : List ℕ) (xs ys : List Section) → IsPermutation xs ys → IsDistinct (names (profile_keys profile xs))
    → value_in profile key xs ≡ value_in profile key ys
same_value profile key xs ys moved distinct = same_option (value_in profile key xs) (value_in profile key ys)
    (λ w is. unique key w (profile_keys profile xs) distinct
    (same_pairs profile ys xs (key, w) (IsPermutation-sym xs ys moved) (found key w (profile_keys profile ys) is)))
    (λ none v is. not_found key v (profile_keys profile ys) none (same_pairs profile xs ys (key, v) moved (found key v (profile_keys profile xs) is)))
