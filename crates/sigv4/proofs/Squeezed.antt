-- Values with one space for each run of spaces.
use Rattle.std.proofs.Common.{◌≡◌, ℕ, ◌==◌, ◌&&◌, true, false, Bool, List, ◌∷◌, sym}
use Rattle.std.proofs.lemmas.Bool.{cond-true, cond-false}
use Rattle.sigv4.specs.Headers.{squeezed}

-- a space behind a space is dropped
pub drops : (behind : Bool) (c : ℕ) (cs : List ℕ) → (behind && (c == 32)) ≡ true → squeezed behind cs ≡ squeezed behind (c ∷ cs)
drops true c cs h = sym (cond-true (c == 32) (squeezed true cs) (c ∷ squeezed (c == 32) cs) h)
drops false c cs h = cc

-- another character stays
pub keeps : (behind : Bool) (c : ℕ) (cs : List ℕ) → (behind && (c == 32)) ≡ false → c ∷ squeezed (c == 32) cs ≡ squeezed behind (c ∷ cs)
keeps behind c cs h = sym (cond-false (behind && (c == 32)) (squeezed true cs) (c ∷ squeezed (c == 32) cs) h)
