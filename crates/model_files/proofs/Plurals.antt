-- Where the capitals at the end of a name begin, and what a plural at the end makes of it.
use Rattle.std.proofs.Common.{◌≡◌, ℕ, ◌+◌, ◌<◌, ◌≤◌, Bool, true, false, ◌&&◌, if◌then◌else◌, List, [], ◌∷◌, ◌++◌, length, map, take, drop, nat_eq, nat_lt, refl, sym, ap, ◌∙◌, arith, length-append, add-one, get_or}
use Rattle.std.proofs.lemmas.Bool.{lt-ltb, le-ltb, eqb-true}
use Rattle.std.proofs.lemmas.List.{take_more, length-take-le}
use Rattle.std.specs.List.{list_all}
use Rattle.std.specs.Char.{is_ascii_uppercase, to_ascii_lowercase}
use Rattle.model_files.specs.Names.{are_capitals_and_s, plural_apart, capitals_start}

and_true : (b : Bool) → (b && true) ≡ b
and_true true = refl
and_true false = refl

and_false : (b : Bool) → (b && false) ≡ false
and_false true = refl
and_false false = refl

capital_behind : (cs : List ℕ) (c : ℕ) → is_ascii_uppercase c ≡ true → list_all is_ascii_uppercase (cs ++ c ∷ []) ≡ list_all is_ascii_uppercase cs
capital_behind [] c h = rw h refl
capital_behind (x ∷ xs) c h = ap (λ b. is_ascii_uppercase x && b) (capital_behind xs c h)

other_behind : (cs : List ℕ) (c : ℕ) → is_ascii_uppercase c ≡ false → list_all is_ascii_uppercase (cs ++ c ∷ []) ≡ false
other_behind [] c h = rw h refl
other_behind (x ∷ xs) c h = ap (λ b. is_ascii_uppercase x && b) (other_behind xs c h) ∙ and_false (is_ascii_uppercase x)

pub start_capital : (cs : List ℕ) (c : ℕ) → is_ascii_uppercase c ≡ true → capitals_start (cs ++ c ∷ []) ≡ capitals_start cs
start_capital [] c h = rw h refl
start_capital (x ∷ xs) c h =
    ap (λ b. if is_ascii_uppercase x && b then 0 else capitals_start (xs ++ c ∷ []) + 1) (capital_behind xs c h)
    ∙ ap (λ n. if list_all is_ascii_uppercase (x ∷ xs) then 0 else n + 1) (start_capital xs c h)

pub start_other : (cs : List ℕ) (c : ℕ) → is_ascii_uppercase c ≡ false → capitals_start (cs ++ c ∷ []) ≡ length cs + 1
start_other [] c h = rw h refl
start_other (x ∷ xs) c h =
    ap (λ b. if b then 0 else capitals_start (xs ++ c ∷ []) + 1) (other_behind (x ∷ xs) c h)
    ∙ ap (λ n. n + 1) (start_other xs c h) ∙ omega arith

start_more : (b : Bool) (cs : List ℕ) (c : ℕ) → is_ascii_uppercase c ≡ b → capitals_start (cs ++ c ∷ []) ≡ (if b then capitals_start cs else length cs + 1)
start_more true cs c h = start_capital cs c h
start_more false cs c h = start_other cs c h

capitals_s : (front : List ℕ) → are_capitals_and_s (front ++ 115 ∷ []) ≡ list_all is_ascii_uppercase front
capitals_s [] = refl
capitals_s (x ∷ []) = refl
capitals_s (x ∷ y ∷ ys) = ap (λ b. is_ascii_uppercase x && b) (capitals_s (y ∷ ys))

no_capitals_s : (front : List ℕ) (c : ℕ) → nat_eq c 115 ≡ false → are_capitals_and_s (front ++ c ∷ []) ≡ false
no_capitals_s [] c h = h
no_capitals_s (x ∷ []) c h = ap (λ b. is_ascii_uppercase x && b) h ∙ and_false (is_ascii_uppercase x)
no_capitals_s (x ∷ y ∷ ys) c h = ap (λ b. is_ascii_uppercase x && b) (no_capitals_s (y ∷ ys) c h) ∙ and_false (is_ascii_uppercase x)

-- a name that doesn't end in `s` stays
pub stays_without_s : (front : List ℕ) (c : ℕ) → nat_eq c 115 ≡ false → plural_apart (front ++ c ∷ []) ≡ front ++ c ∷ []
stays_without_s [] c h =
    ap (λ b. if b && nat_lt 2 1 then 45 ∷ map to_ascii_lowercase (c ∷ []) else c ∷ []) h
stays_without_s (x ∷ xs) c h =
    ap (λ b. if b && nat_lt 2 (length (x ∷ (xs ++ c ∷ []))) then 45 ∷ map to_ascii_lowercase (x ∷ (xs ++ c ∷ [])) else x ∷ plural_apart (xs ++ c ∷ [])) (no_capitals_s (x ∷ xs) c h)
    ∙ ap (λ cs. x ∷ cs) (stays_without_s xs c h)

capitals_long : (front : List ℕ) (b : Bool) → list_all is_ascii_uppercase front ≡ b → are_capitals_and_s (front ++ 115 ∷ []) ≡ b
capitals_long front b all = capitals_s front ∙ all

long : (front : List ℕ) → 2 ≤ length front → nat_lt 2 (length (front ++ 115 ∷ [])) ≡ true
long front two = lt-ltb 2 (length (front ++ 115 ∷ [])) (rw length-append (omega (arith, two)))

short : (front : List ℕ) → length front < 2 → nat_lt 2 (length (front ++ 115 ∷ [])) ≡ false
short front one = le-ltb 2 (length (front ++ 115 ∷ [])) (rw length-append (omega (arith, one)))

-- the name with what stands at a place and behind it lowered, and a hyphen before it
abbrev pub lowered_from : ℕ → List ℕ → List ℕ
lowered_from start name = take start name ++ 45 ∷ map to_ascii_lowercase (drop start name)

lowered_more : (start x : ℕ) (name : List ℕ) → lowered_from (start + 1) (x ∷ name) ≡ x ∷ lowered_from start name
lowered_more start x name = rw add-one refl

only_s : (xs : List ℕ) → length xs < 1 → plural_apart (xs ++ 115 ∷ []) ≡ xs ++ 115 ∷ []
only_s [] none = refl
only_s (x ∷ xs) none = absurd (omega (arith, none))

-- two or more capitals before an `s` at the end are lowered with it, behind a hyphen
some_step : (b : Bool) (x : ℕ) (xs : List ℕ) → list_all is_ascii_uppercase (x ∷ xs) ≡ b
    → (capitals_start xs + 2 ≤ length xs → plural_apart (xs ++ 115 ∷ []) ≡ lowered_from (capitals_start xs) (xs ++ 115 ∷ []))
    → (if b then 0 else capitals_start xs + 1) + 2 ≤ length (x ∷ xs)
    → plural_apart (x ∷ (xs ++ 115 ∷ [])) ≡ lowered_from (if b then 0 else capitals_start xs + 1) (x ∷ (xs ++ 115 ∷ []))
some_step true x xs all rest two =
    ap (λ b. if b && nat_lt 2 (length (x ∷ (xs ++ 115 ∷ []))) then 45 ∷ map to_ascii_lowercase (x ∷ (xs ++ 115 ∷ [])) else x ∷ plural_apart (xs ++ 115 ∷ [])) (capitals_long (x ∷ xs) true all)
    ∙ ap (λ b. if b then 45 ∷ map to_ascii_lowercase (x ∷ (xs ++ 115 ∷ [])) else x ∷ plural_apart (xs ++ 115 ∷ [])) (long (x ∷ xs) (omega (arith, two)))
some_step false x xs all rest two =
    ap (λ b. if b && nat_lt 2 (length (x ∷ (xs ++ 115 ∷ []))) then 45 ∷ map to_ascii_lowercase (x ∷ (xs ++ 115 ∷ [])) else x ∷ plural_apart (xs ++ 115 ∷ [])) (capitals_long (x ∷ xs) false all)
    ∙ ap (λ cs. x ∷ cs) (rest (omega (arith, two)))
    ∙ sym (lowered_more (capitals_start xs) x (xs ++ 115 ∷ []))

pub plural_lowered : (front : List ℕ) → capitals_start front + 2 ≤ length front → plural_apart (front ++ 115 ∷ []) ≡ lowered_from (capitals_start front) (front ++ 115 ∷ [])
plural_lowered [] two = absurd (omega (arith, two))
plural_lowered (x ∷ xs) two = some_step (list_all is_ascii_uppercase (x ∷ xs)) x xs refl (plural_lowered xs) two

-- with fewer the name stays
none_step : (b : Bool) (x : ℕ) (xs : List ℕ) → list_all is_ascii_uppercase (x ∷ xs) ≡ b
    → (length xs < capitals_start xs + 2 → plural_apart (xs ++ 115 ∷ []) ≡ xs ++ 115 ∷ [])
    → length (x ∷ xs) < (if b then 0 else capitals_start xs + 1) + 2
    → plural_apart (x ∷ (xs ++ 115 ∷ [])) ≡ x ∷ (xs ++ 115 ∷ [])
none_step true x xs all rest one =
    ap (λ b. if b && nat_lt 2 (length (x ∷ (xs ++ 115 ∷ []))) then 45 ∷ map to_ascii_lowercase (x ∷ (xs ++ 115 ∷ [])) else x ∷ plural_apart (xs ++ 115 ∷ [])) (capitals_long (x ∷ xs) true all)
    ∙ ap (λ b. if b then 45 ∷ map to_ascii_lowercase (x ∷ (xs ++ 115 ∷ [])) else x ∷ plural_apart (xs ++ 115 ∷ [])) (short (x ∷ xs) (omega (arith, one)))
    ∙ ap (λ cs. x ∷ cs) (only_s xs (omega (arith, one)))
none_step false x xs all rest one =
    ap (λ b. if b && nat_lt 2 (length (x ∷ (xs ++ 115 ∷ []))) then 45 ∷ map to_ascii_lowercase (x ∷ (xs ++ 115 ∷ [])) else x ∷ plural_apart (xs ++ 115 ∷ [])) (capitals_long (x ∷ xs) false all)
    ∙ ap (λ cs. x ∷ cs) (rest (omega (arith, one)))

pub stays_when_short : (front : List ℕ) → length front < capitals_start front + 2 → plural_apart (front ++ 115 ∷ []) ≡ front ++ 115 ∷ []
stays_when_short [] one = refl
stays_when_short (x ∷ xs) one = none_step (list_all is_ascii_uppercase (x ∷ xs)) x xs refl (stays_when_short xs) one

-- one more character of a name is looked at
pub start_at : (xs : List ℕ) (i x start : ℕ) (b : Bool) → i < length xs → x ≡ get_or xs i x → is_ascii_uppercase x ≡ b
    → start ≡ capitals_start (take i xs) → (if b then start else i + 1) ≡ capitals_start (take (i + 1) xs)
start_at xs i x start true within is upper so_far =
    so_far ∙ sym (start_capital (take i xs) x upper) ∙ ap (λ y. capitals_start (take i xs ++ y ∷ [])) is ∙ ap capitals_start (sym (take_more xs i x within))
start_at xs i x start false within is upper so_far =
    let len : length (take i xs) ≡ i = length-take-le i xs (omega (arith, within)) in
    ap (λ n. n + 1) (sym len) ∙ sym (start_other (take i xs) x upper) ∙ ap (λ y. capitals_start (take i xs ++ y ∷ [])) is ∙ ap capitals_start (sym (take_more xs i x within))

pub none_of_none : (cs : List ℕ) → length cs ≡ 0 → plural_apart cs ≡ cs
none_of_none [] none = refl
none_of_none (c ∷ cs) none = absurd (omega (arith, none))

differs : (b : Bool) (m n : ℕ) → nat_eq m n ≡ b → (m ≡ n → ⊥) → nat_eq m n ≡ false
differs true m n is other = absurd (other (eqb-true m n is))
differs false m n is other = is

pub stays_other : (cs front : List ℕ) (last : ℕ) → cs ≡ front ++ last ∷ [] → (last ≡ 115 → ⊥) → plural_apart cs ≡ cs
stays_other cs front last is other = ap plural_apart is ∙ stays_without_s front last (differs (nat_eq last 115) last 115 refl other) ∙ sym is

pub stays_short : (cs front : List ℕ) (last start : ℕ) → cs ≡ front ++ last ∷ [] → last ≡ 115 → start ≡ capitals_start front → length front < start + 2 → plural_apart cs ≡ cs
stays_short cs front last start is s at one =
    let whole : cs ≡ front ++ 115 ∷ [] = is ∙ ap (λ c. front ++ c ∷ []) s in
    ap plural_apart whole ∙ stays_when_short front (omega (arith, one, at)) ∙ sym whole

pub lowered_long : (cs front : List ℕ) (last start : ℕ) → cs ≡ front ++ last ∷ [] → last ≡ 115 → start ≡ capitals_start front → start + 2 ≤ length front → plural_apart cs ≡ lowered_from start cs
lowered_long cs front last start is s at two =
    let whole : cs ≡ front ++ 115 ∷ [] = is ∙ ap (λ c. front ++ c ∷ []) s in
    ap plural_apart whole ∙ plural_lowered front (omega (arith, two, at)) ∙ ap (λ n. lowered_from n (front ++ 115 ∷ [])) (sym at) ∙ ap (lowered_from start) (sym whole)
