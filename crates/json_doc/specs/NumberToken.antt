-- Numbers of JSON (RFC 8259, section 6: number).
use Rattle.std.specs.Prelude.{◌≡◌, ℕ, ◌+◌, ◌<◌, ◌==◌, ◌||◌, Bool, true, false, ◌⊎◌, if◌then◌else◌, List, [], ◌∷◌, ◌++◌, length, take, drop, slice_index, MatchBool, Ok, Err}
use Rattle.std.specs.Char.{is_ascii_digit}
use Rattle.std.specs.List.{prefix_len}
use Rattle.std.specs.Str.Parse.{digits_value, AllDigits}
use Rattle.json_doc.specs.declared.decimal.Decimal.{Decimal}
use Rattle.json_doc.specs.declared.stop.Stop.{Stop}
use Rattle.json_doc.specs.declared.stop.Stop.TheVariants.{Syntax, NumberTooWide}
use Rattle.json_doc.specs.Exact.{Exact, exact, HasValue, HasNoDecimal}
use Rattle.json_doc.specs.Reading.{Read}
use Rattle.texts.specs.Calls.{◌>>=◌}

-- The parts of a number, each its digits alone. What isn't there has none.

pub record Exponent : Type 0 where
  pub is_negative : Bool
  pub digits : List ℕ

pub record Number : Type 0 where
  pub is_negative : Bool
  pub int : List ℕ
  pub frac : List ℕ
  pub exp : Exponent

-- the value: the digits before and behind the point, moved by the exponent
abbrev pub raised : Exponent → ℕ
raised e = if e.is_negative then 0 else digits_value 10 e.digits

abbrev pub lowered : Exponent → ℕ
lowered e = if e.is_negative then digits_value 10 e.digits else 0

abbrev pub value_of : Number → Exact
value_of n = exact n.is_negative (digits_value 10 (n.int ++ n.frac)) (raised n.exp) (length n.frac + lowered n.exp)

-- each of them is made of digits
pub record HasDigits (n : Number) : Type 0 where
  pub int : AllDigits 10 n.int
  pub frac : AllDigits 10 n.frac
  pub exp : AllDigits 10 n.exp.digits

-- How they are spelled.

-- one digit or more
abbrev pub IsDigits : List ℕ → Type 0
IsDigits ds = (0 < length ds) × AllDigits 10 ds

-- int: a zero alone, or digits of which the first is none
abbrev pub IsInt : List ℕ → Type 0
IsInt ds = IsDigits ds × (slice_index ds 0 ≡ 0x30 → ds ≡ 0x30 ∷ [])

-- minus
abbrev pub minus : Bool → List ℕ
minus is_negative = if is_negative then 0x2D ∷ [] else []

-- frac: a point and digits, or nothing
pub data SpellsFrac : List ℕ → List ℕ → Type 0 where
  no_frac : {ds bs : List ℕ} → ds ≡ [] → bs ≡ [] → SpellsFrac ds bs
  with_frac : {ds bs : List ℕ} → IsDigits ds → bs ≡ 0x2E ∷ ds → SpellsFrac ds bs

-- the sign of an exponent: `-`, or `+` or nothing
abbrev pub IsSign : Bool → List ℕ → Type 0
IsSign is_negative bs = MatchBool is_negative (bs ≡ 0x2D ∷ []) ((bs ≡ 0x2B ∷ []) ⊎ (bs ≡ []))

-- `e` or `E`
abbrev pub is_exp_mark : ℕ → Bool
is_exp_mark b = b == 0x65 || b == 0x45

-- exp: its mark, a sign and digits, or nothing
pub data SpellsExp : Exponent → List ℕ → Type 0 where
  no_exp : {e : Exponent} {bs : List ℕ} → e.is_negative ≡ false → e.digits ≡ [] → bs ≡ [] → SpellsExp e bs
  with_exp : {e : Exponent} {bs : List ℕ} (mark : ℕ) (sign : List ℕ) → is_exp_mark mark ≡ true → IsSign e.is_negative sign → IsDigits e.digits → bs ≡ mark ∷ sign ++ e.digits → SpellsExp e bs

-- number
pub record SpellsNumber (n : Number) (bs : List ℕ) : Type 0 where
  pub frac : List ℕ
  pub exp : List ℕ
  pub is_int : IsInt n.int
  pub is_frac : SpellsFrac n.frac frac
  pub is_exp : SpellsExp n.exp exp
  pub whole : bs ≡ minus n.is_negative ++ n.int ++ frac ++ exp

-- no number goes on behind this text as the rest does
abbrev pub IsWhole : List ℕ → List ℕ → Type 0
IsWhole text rest = (n : Number) (b : ℕ) (others more : List ℕ) → rest ≡ b ∷ others → SpellsNumber n (text ++ b ∷ more) → ⊥

-- the bytes begin with a number, as long as it can be, behind which is the rest
abbrev pub BeginsWithNumber : List ℕ → Number → List ℕ → Type 0
BeginsWithNumber bs n rest = (text : List ℕ) × SpellsNumber n text × (bs ≡ text ++ rest) × IsWhole text rest

-- Reading them from the left.

-- the longest front of digits, one at least
unfoldable pub digits_at : List ℕ → Read (List ℕ)
digits_at bs = let n = prefix_len is_ascii_digit bs in if n == 0 then Err (Syntax (length bs)) else Ok (take n bs, drop n bs)

unfoldable pub int_at : List ℕ → Read (List ℕ)
int_at bs = if slice_index bs 0 == 0x30 then Ok (0x30 ∷ [], drop 1 bs) else digits_at bs

unfoldable pub frac_at : List ℕ → Read (List ℕ)
frac_at bs = if slice_index bs 0 == 0x2E then digits_at (drop 1 bs) else Ok ([], bs)

-- the sign in front and what is behind it
abbrev pub sign_at : List ℕ → Bool × List ℕ
sign_at bs =
    if slice_index bs 0 == 0x2D then (true, drop 1 bs) else
    (if slice_index bs 0 == 0x2B then (false, drop 1 bs) else (false, bs))

abbrev pub no_exponent : Exponent
no_exponent = record { is_negative = false; digits = [] }

unfoldable pub exp_at : List ℕ → Read Exponent
exp_at bs = if is_exp_mark (slice_index bs 0)
    then (let signed = sign_at (drop 1 bs) in digits_at signed.1 >>= (λ ds. Ok (record { is_negative = signed.0; digits = ds.0 }, ds.1)))
    else Ok (no_exponent, bs)

abbrev pub minus_at : List ℕ → Bool × List ℕ
minus_at bs = if slice_index bs 0 == 0x2D then (true, drop 1 bs) else (false, bs)

unfoldable pub number_at : List ℕ → Read Number
number_at bs = do
  let signed = minus_at bs
  int ← int_at signed.1
  frac ← frac_at int.1
  exp ← exp_at frac.1
  Ok (record { is_negative = signed.0; int = int.0; frac = frac.0; exp = exp.0 }, exp.1)

-- what reading a number as a decimal gives, where the whole number goes first
pub data ReadsNumber : List ℕ → Read Decimal → Type 0 where
  read : {bs rest : List ℕ} {n : Number} {d : Decimal} → number_at bs ≡ Ok (n, rest) → HasValue d (value_of n) → ReadsNumber bs (Ok (d, rest))
  too_wide : {bs rest : List ℕ} {n : Number} → number_at bs ≡ Ok (n, rest) → HasNoDecimal (value_of n) → ReadsNumber bs (Err (NumberTooWide (length bs)))
  broken : {bs : List ℕ} {stop : Stop} → number_at bs ≡ Err stop → ReadsNumber bs (Err stop)
