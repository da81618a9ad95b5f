-- The bytes of a character in UTF-8, from the bits that each of them holds.
use Rattle.std.proofs.Common.{◌≡◌, ℕ, ◌+◌, ◌*◌, ◌/◌, ◌%◌, ◌<◌, ◌≤◌, [], ◌∷◌, refl, arith}
use Rattle.std.proofs.Math.Utf8.{encode}
use Rattle.std.proofs.lemmas.Bool.{lt-ltb, le-ltb}

pub encode_two : (h l : ℕ) → 2 ≤ h → h < 32 → l < 64 → encode (h * 64 + l) ≡ (192 + h) ∷ (128 + l) ∷ []
unfolding encode
encode_two h l big small low =
    let quotient : (h * 64 + l) / 64 ≡ h = omega arith in
    let remainder : (h * 64 + l) % 64 ≡ l = omega arith in
    rw (le-ltb (h * 64 + l) 128 (omega arith), lt-ltb (h * 64 + l) 2048 (omega arith), quotient, remainder) refl

pub encode_three : (h m l : ℕ) → h < 16 → m < 64 → l < 64 → 2048 ≤ (h * 64 + m) * 64 + l → encode ((h * 64 + m) * 64 + l) ≡ (224 + h) ∷ (128 + m) ∷ (128 + l) ∷ []
unfolding encode
encode_three h m l high mid low big =
    let c : ℕ = (h * 64 + m) * 64 + l in
    let first : c / 4096 ≡ h = omega arith in
    let rest : c / 64 ≡ h * 64 + m = omega arith in
    let second : (h * 64 + m) % 64 ≡ m = omega arith in
    let third : c % 64 ≡ l = omega arith in
    rw (le-ltb c 128 (omega arith), le-ltb c 2048 (omega arith), lt-ltb c 65536 (omega arith), first, rest, second, third) refl

pub encode_four : (h m k l : ℕ) → h < 8 → m < 64 → k < 64 → l < 64 → 65536 ≤ ((h * 64 + m) * 64 + k) * 64 + l → encode (((h * 64 + m) * 64 + k) * 64 + l) ≡ (240 + h) ∷ (128 + m) ∷ (128 + k) ∷ (128 + l) ∷ []
unfolding encode
encode_four h m k l high mid near low big =
    let c : ℕ = ((h * 64 + m) * 64 + k) * 64 + l in
    let first : c / 262144 ≡ h = omega arith in
    let front : c / 4096 ≡ h * 64 + m = omega arith in
    let rest : c / 64 ≡ (h * 64 + m) * 64 + k = omega arith in
    let second : (h * 64 + m) % 64 ≡ m = omega arith in
    let third : ((h * 64 + m) * 64 + k) % 64 ≡ k = omega arith in
    let fourth : c % 64 ≡ l = omega arith in
    rw (le-ltb c 128 (omega arith), le-ltb c 2048 (omega arith), le-ltb c 65536 (omega arith), first, front, rest, second, third, fourth) refl
