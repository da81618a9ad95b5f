-- What is behind a number, or left at its fault, is no longer than the bytes.
use Rattle.std.proofs.Common.{◌≡◌, ◌==◌, ℕ, ◌≤◌, Bool, true, false, List, [], ◌∷◌, length, take, drop, Ok, Err, subst, arith, length-drop}
use Rattle.std.specs.Prelude.{slice_index}
use Rattle.std.specs.Char.{is_ascii_digit}
use Rattle.std.specs.List.{prefix_len}
use Rattle.json_doc.specs.declared.decimal.Decimal.{Decimal}
use Rattle.json_doc.specs.declared.stop.Stop.TheVariants.{Syntax}
use Rattle.json_doc.specs.Reading.{Read}
use Rattle.texts.specs.Calls.{◌>>=◌}
use Rattle.json_doc.specs.NumberToken.{Exponent, Number, digits_at, int_at, frac_at, sign_at, no_exponent, is_exp_mark, exp_at, number_at, ReadsNumber}
use Rattle.json_doc.proofs.Within.{Within, either, wider, bind-within}

pub digits_at-within : (bs : List ℕ) → Within bs (digits_at bs)
unfolding digits_at
digits_at-within bs =
    let n = prefix_len is_ascii_digit bs in
    either (Within bs) (n == 0) (Err (Syntax (length bs))) (Ok (take n bs, drop n bs)) (omega arith) (omega (arith, length-drop n bs))

-- behind the first byte
pub behind-within : {A : Type 0} (bs : List ℕ) (o : Read A) → Within (drop 1 bs) o → Within bs o
behind-within bs o h = wider (drop 1 bs) bs o (omega (arith, length-drop 1 bs)) h

pub int_at-within : (bs : List ℕ) → Within bs (int_at bs)
unfolding int_at
int_at-within bs = either (Within bs) _ (Ok (0x30 ∷ [], drop 1 bs)) (digits_at bs) (omega (arith, length-drop 1 bs)) (digits_at-within bs)

pub frac_at-within : (bs : List ℕ) → Within bs (frac_at bs)
unfolding frac_at
frac_at-within bs = either (Within bs) _ (digits_at (drop 1 bs)) (Ok ([], bs)) (behind-within bs _ (digits_at-within (drop 1 bs))) (omega arith)

-- an exponent behind its sign
abbrev pub unsigned : Bool → List ℕ → Read Exponent
unsigned is_negative bs = digits_at bs >>= (λ ds. Ok (record { is_negative = is_negative; digits = ds.0 }, ds.1))

pub unsigned-within : (is_negative : Bool) (bs : List ℕ) → Within bs (unsigned is_negative bs)
unsigned-within is_negative bs = bind-within bs (digits_at bs) _ (digits_at-within bs) (λ ds. omega arith)

abbrev pub signed : Bool × List ℕ → Read Exponent
signed x = unsigned x.0 x.1

pub signed-within : (bs : List ℕ) → Within bs (signed (sign_at bs))
signed-within bs =
    either (λ (x : Bool × List ℕ). Within bs (signed x)) (slice_index bs 0 == 0x2D) (true, drop 1 bs) _ (behind-within bs _ (unsigned-within true (drop 1 bs)))
    (either (λ (x : Bool × List ℕ). Within bs (signed x)) (slice_index bs 0 == 0x2B) (false, drop 1 bs) (false, bs) (behind-within bs _ (unsigned-within false (drop 1 bs))) (unsigned-within false bs))

pub exp_at-within : (bs : List ℕ) → Within bs (exp_at bs)
unfolding exp_at
exp_at-within bs =
    either (Within bs) (is_exp_mark (slice_index bs 0)) (signed (sign_at (drop 1 bs))) (Ok (no_exponent, bs)) (behind-within bs _ (signed-within (drop 1 bs))) (omega arith)

-- a number behind its minus
abbrev pub behind_minus : Bool → List ℕ → Read Number
behind_minus is_negative bs = int_at bs >>= (λ int. frac_at int.1 >>= (λ frac. exp_at frac.1 >>= (λ exp.
    Ok (record { is_negative = is_negative; int = int.0; frac = frac.0; exp = exp.0 }, exp.1))))

pub behind_minus-within : (is_negative : Bool) (bs : List ℕ) → Within bs (behind_minus is_negative bs)
behind_minus-within is_negative bs =
    bind-within bs (int_at bs) _ (int_at-within bs) (λ int. bind-within int.1 (frac_at int.1) _ (frac_at-within int.1) (λ frac.
    bind-within frac.1 (exp_at frac.1) _ (exp_at-within frac.1) (λ exp. omega arith)))

pub number_at-within : (bs : List ℕ) → Within bs (number_at bs)
unfolding number_at
number_at-within bs =
    either (λ (x : Bool × List ℕ). Within bs (behind_minus x.0 x.1)) (slice_index bs 0 == 0x2D) (true, drop 1 bs) (false, bs) (behind-within bs _ (behind_minus-within true (drop 1 bs))) (behind_minus-within false bs)

pub ReadsNumber-within : (bs : List ℕ) (o : Read Decimal) → ReadsNumber bs o → Within bs o
ReadsNumber-within bs o (ReadsNumber.read {rest = rest} {n = n} e value) = parsed (n, rest) (number_at bs) e (number_at-within bs)
  where
    parsed : (x : Number × List ℕ) (p : Read Number) → p ≡ Ok x → Within bs p → length x.1 ≤ length bs
    parsed x (Ok y) e h = let same : y ≡ x = cc in subst (λ z. length z.1 ≤ length bs) same h
    parsed x (Err stop) e h = absurd cc
ReadsNumber-within bs o (ReadsNumber.too_wide e none) = omega arith
ReadsNumber-within bs o (ReadsNumber.broken {stop = stop} e) = subst (Within {A = Number} bs) e (number_at-within bs)
