-- What a part that was read says of the bytes.
use Rattle.std.proofs.Common.{◌≡◌, ℕ, ◌<◌, ◌≤◌, Bool, true, false, cond, ◌⊎◌, inl, inr, List, [], ◌∷◌, Result, Ok, Err, refl, subst}
use Rattle.std.specs.Char.{digit_value}
use Rattle.std.specs.Int.{is_in_range, IsInRange}
use Rattle.std.proofs.lemmas.Bool.{and_parts, and_from, and_left, and_right, leb-true, le-leb, lt-leb}
use Rattle.json_doc.specs.declared.stop.Stop.{Stop}
use Rattle.json_doc.specs.declared.stop.Stop.TheVariants.{Syntax, TooDeep, NumberTooWide, OutOfMemory}
use Rattle.json_doc.specs.Reading.{Stops, byte_in}
use Rattle.texts.specs.Calls.{◌>>=◌}
use Rattle.json_doc.specs.TextToken.{hex_in}

-- which way a choice went
pub chosen : {A : Type 0} (b : Bool) (x y z : A) → cond b x y ≡ z → ((b ≡ true) × (x ≡ z)) ⊎ ((b ≡ false) × (y ≡ z))
chosen true x y z e = inl (refl, e)
chosen false x y z e = inr (refl, e)

-- what was read behind a test that may refuse
pub guard_ok : {A : Type 0} (b : Bool) (x y : A) (stop : Stop) → cond b (Ok x) (Err stop) ≡ Ok y → (b ≡ true) × (x ≡ y)
guard_ok true x y stop e = (refl, cc)
guard_ok false x y stop e = cc

pub ok_same : {A : Type 0} (x y : A) → ◌≡◌ {A = Result A Stop} (Ok x) (Ok y) → x ≡ y
ok_same x y e = cc

-- a part that was read behind another
pub bind_ok : {A B : Type 0} (read : Result A Stop) (f : A → Result B Stop) (y : B) → (read >>= f) ≡ Ok y → (x : A) × (read ≡ Ok x) × (f x ≡ Ok y)
bind_ok (Ok x) f y e = (x, refl, e)
bind_ok (Err stop) f y e = cc

-- the same for a proof that goes on with it
pub bind_then : {A B : Type 0} (G : Type 0) (read : Result A Stop) (f : A → Result B Stop) (y : B) → (read >>= f) ≡ Ok y → ((x : A) → read ≡ Ok x → f x ≡ Ok y → G) → G
bind_then G (Ok x) f y e go = go x refl e
bind_then G (Err stop) f y e go = cc

pub in_range : (low high b : ℕ) → is_in_range low high b ≡ true → IsInRange low high b
in_range low high b e = let both = and_parts _ _ e in (leb-true low b both.0, leb-true b high both.1)

pub within : (low high b : ℕ) → low ≤ b → b ≤ high → is_in_range low high b ≡ true
within low high b low_b high_b = and_from _ _ (le-leb low b low_b) (le-leb b high high_b)

pub above : (low high b : ℕ) → high < b → is_in_range low high b ≡ false
above low high b over = and_right _ _ (lt-leb b high over)

pub below : (low high b : ℕ) → b < low → is_in_range low high b ≡ false
below low high b under = and_left _ _ (lt-leb low b under)

pub byte_in_from : (low high b : ℕ) (bs : List ℕ) → low ≤ b → b ≤ high → byte_in low high (b ∷ bs) ≡ Ok (b, bs)
unfolding byte_in
byte_in_from low high b bs low_b high_b = rw (within low high b low_b high_b) refl

pub hex_in_from : (low high b : ℕ) (bs : List ℕ) → low ≤ digit_value b → digit_value b ≤ high → hex_in low high (b ∷ bs) ≡ Ok (digit_value b, bs)
unfolding hex_in
hex_in_from low high b bs low_b high_b = rw (within low high (digit_value b) low_b high_b) refl

-- the byte in front
abbrev pub IsByteIn : ℕ → ℕ → List ℕ → ℕ × List ℕ → Type 0
IsByteIn low high bs x = (bs ≡ x.0 ∷ x.1) × (low ≤ x.0) × (x.0 ≤ high)

pub byte_in_ok : (low high : ℕ) (bs : List ℕ) (x : ℕ × List ℕ) → byte_in low high bs ≡ Ok x → IsByteIn low high bs x
unfolding byte_in
byte_in_ok low high [] x e = cc
byte_in_ok low high (b ∷ bs) x e =
    let g = guard_ok (is_in_range low high b) (b, bs) x _ e in
    let r = in_range low high b g.0 in
    subst (IsByteIn low high (b ∷ bs)) g.1 (refl, r.0, r.1)

-- the digit in front, by its value
abbrev pub IsHexIn : ℕ → ℕ → List ℕ → ℕ × List ℕ → Type 0
IsHexIn low high bs x = (b : ℕ) × (bs ≡ b ∷ x.1) × (digit_value b ≡ x.0) × (low ≤ x.0) × (x.0 ≤ high)

pub hex_in_ok : (low high : ℕ) (bs : List ℕ) (x : ℕ × List ℕ) → hex_in low high bs ≡ Ok x → IsHexIn low high bs x
unfolding hex_in
hex_in_ok low high [] x e = cc
hex_in_ok low high (b ∷ bs) x e =
    let g = guard_ok (is_in_range low high (digit_value b)) (digit_value b, bs) x _ e in
    let r = in_range low high (digit_value b) g.0 in
    subst (IsHexIn low high (b ∷ bs)) g.1 (b, refl, refl, r.0, r.1)

-- Faults, but for want of memory.

pub Stops-from : (P : Stop → Type 0) (stop : Stop) → P stop → Stops P stop
Stops-from P (Syntax left) h = h
Stops-from P (TooDeep left) h = h
Stops-from P (NumberTooWide left) h = h
Stops-from P OutOfMemory h = tt

-- what can be read stops for want of memory alone
pub Stops-read : {A : Type 0} (read : Result A Stop) (x : A) (stop : Stop) → read ≡ Ok x → Stops (λ s. read ≡ Err s) stop → stop ≡ OutOfMemory
Stops-read read x (Syntax left) e h = cc
Stops-read read x (TooDeep left) e h = cc
Stops-read read x (NumberTooWide left) e h = cc
Stops-read read x OutOfMemory e h = refl
