-- What reading finds before a place depends on the bytes up to that place alone. Below, `rest` and
-- `more` are two ways to go on, with the same first byte.
use Rattle.std.proofs.Common.{◌≡◌, ℕ, ◌+◌, ◌-◌, ◌≤◌, Bool, true, false, if◌then◌else◌, List, ◌∷◌, ◌++◌, length, Ok, Err, refl, sym, ap, subst, ◌∙◌, arith, length-append}
use Rattle.json_doc.specs.declared.stop.Stop.{Stop}
use Rattle.json_doc.specs.declared.stop.Stop.TheVariants.{Syntax, TooDeep, NumberTooWide, OutOfMemory}
use Rattle.json_doc.specs.Reading.{Read}
use Rattle.texts.specs.Calls.{◌>>=◌}
use Rattle.json_doc.proofs.Within.{left_of, Within}

-- two ways to go on, whose first byte is the same
pub record Ways : Type 0 where
  pub first : ℕ
  pub others : List ℕ
  pub changed : List ℕ

abbrev pub rest : Ways → List ℕ
rest w = w.first ∷ w.others

abbrev pub more : Ways → List ℕ
more w = w.first ∷ w.changed

-- what is left, the other way
abbrev pub moved : Ways → ℕ → ℕ
moved w left = left - length (rest w) + length (more w)

abbrev pub moved_stop : Ways → Stop → Stop
moved_stop w (Syntax left) = Syntax (moved w left)
moved_stop w (TooDeep left) = TooDeep (moved w left)
moved_stop w (NumberTooWide left) = NumberTooWide (moved w left)
moved_stop w OutOfMemory = OutOfMemory

-- how many bytes are left where a fault was found; that a number is too wide is found behind its place
abbrev pub found_at : Stop → ℕ
found_at (Syntax left) = left
found_at (TooDeep left) = left
found_at (NumberTooWide left) = 0
found_at OutOfMemory = 0

-- reading ended where the ways begin, or before
abbrev pub Early : {A : Type 0} → Ways → Read A → Type 0
Early w (Ok x) = length (rest w) ≤ length x.1
Early w (Err stop) = length (rest w) ≤ found_at stop

-- the other way it gives the same
abbrev pub Moves : {A : Type 0} → Ways → Read A → Read A → Type 0
Moves w (Ok x) o = (front : List ℕ) × (x.1 ≡ front ++ rest w) × (o ≡ Ok (x.0, front ++ more w))
Moves w (Err stop) o = o ≡ Err (moved_stop w stop)

abbrev pub Local : {A : Type 0} → (List ℕ → Read A) → Type 0
Local f = (w : Ways) (front : List ℕ) → Early w (f (front ++ rest w)) → Moves w (f (front ++ rest w)) (f (front ++ more w))

pub moved-length : (w : Ways) (front : List ℕ) → moved w (length (front ++ rest w)) ≡ length (front ++ more w)
moved-length w front = omega (arith, length-append front (rest w), length-append front (more w))

pub moved-error : {A : Type 0} (w : Ways) (front : List ℕ) (reason : ℕ → Stop) → ((left : ℕ) → moved_stop w (reason left) ≡ reason (moved w left))
    → Moves {A = A} w (Err (reason (length (front ++ rest w)))) (Err (reason (length (front ++ more w))))
moved-error w front reason h = ap Err (sym (h (length (front ++ rest w)) ∙ ap reason (moved-length w front)))

-- a fault at the place itself
pub fault-moves : {A : Type 0} (w : Ways) (front : List ℕ) → Moves {A = A} w (Err (Syntax (length (front ++ rest w)))) (Err (Syntax (length (front ++ more w))))
fault-moves w front = moved-error w front Syntax (λ left. refl)

-- a choice that both ways make
pub choice-moves : {A : Type 0} (w : Ways) (b : Bool) (x y x' y' : Read A) → (Early w x → Moves w x x') → (Early w y → Moves w y y') → Early w (if b then x else y) → Moves w (if b then x else y) (if b then x' else y')
choice-moves w b x y x' y' p q early = elim b as (λ v. Early w (if v then x else y) → Moves w (if v then x else y) (if v then x' else y')) [ true ↦ p | false ↦ q ] early

found_at-le : (stop : Stop) → found_at stop ≤ left_of stop
found_at-le (Syntax left) = omega arith
found_at-le (TooDeep left) = omega arith
found_at-le (NumberTooWide left) = omega arith
found_at-le OutOfMemory = omega arith

pub early-before : {A : Type 0} (w : Ways) (bs : List ℕ) (o : Read A) → Early w o → Within bs o → length (rest w) ≤ length bs
early-before w bs (Ok x) early within = omega arith
early-before w bs (Err stop) early within = omega (arith, found_at-le stop)

-- goes on behind what was read
pub bind-moves : {A B : Type 0} (w : Ways) (o o' : Read A) (f : A × List ℕ → Read B) → (Early w o → Moves w o o') → ((x : A × List ℕ) → Within x.1 (f x))
    → ((x : A) → Local (λ bs. f (x, bs))) → Early w (o >>= f) → Moves w (o >>= f) (o' >>= f)
bind-moves w (Ok x) o' f first within next early =
    let m = first (early-before w x.1 (f x) early (within x)) in
    let again = next x.0 w m.0 (subst (λ bs. Early w (f (x.0, bs))) m.1 early) in
    let here = subst (λ bs. Moves w (f (x.0, bs)) (f (x.0, m.0 ++ more w))) (sym m.1) again in
    subst (λ o. Moves w (f x) (o >>= f)) (sym m.2) here
bind-moves w (Err stop) o' f first within next early = ap (λ o. o >>= f) (first early)

-- what begins behind the ways' first byte ends too late
pub too_late : {A : Type 0} (w : Ways) (o o' : Read A) → Within w.others o → Early w o → Moves w o o'
too_late w (Ok x) o' within early = absurd (omega arith)
too_late w (Err stop) o' within early = absurd (omega (arith, found_at-le stop))
