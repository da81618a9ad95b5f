-- Each element so many further.
use Rattle.std.proofs.Common.{◌≡◌, ℕ, zero, suc, ◌-◌, List, [], ◌∷◌, ◌++◌, length, take, drop, refl, sym, ap, ◌∙◌, arith}
use Rattle.std.specs.Prelude.{reverse, min}
use Rattle.std.proofs.Math.Seq.{drop-nil, drop-append_seam}
use Rattle.std.proofs.lemmas.List.{drop_min, reverse-append, length-reverse, take-append-drop}
use Rattle.std.proofs.Common.{◌≤◌, length-drop, inl, inr}
use Rattle.std.proofs.lemmas.Bool.{cases_lt}
use Rattle.jmes_eval.specs.Slices.{every}

every-skips : {A : Type 0} (s k : ℕ) (xs : List A) → every s k xs ≡ every s 0 (drop k xs)
every-skips s k [] = ap (every s 0) (sym (drop-nil k))
every-skips s zero (x ∷ xs) = refl
every-skips s (suc k) (x ∷ xs) = every-skips s k xs

pub forward_step : {A : Type 0} (s k : ℕ) (rest others : List A) (x : A) → rest ≡ x ∷ others → k ≡ min (s - 1) (length others) → every s 0 rest ≡ x ∷ every s 0 (drop k others)
forward_step s k rest others x e f =
    ap (every s 0) e ∙ ap (λ t. x ∷ t) (every-skips s (s - 1) others ∙ ap (every s 0) (sym (drop_min (s - 1) others) ∙ ap (λ n. drop n others) (sym f)))

drop-past : {A : Type 0} (k : ℕ) (xs : List A) → length xs ≤ k → drop k xs ≡ []
drop-past k [] h = drop-nil k
drop-past zero (x ∷ xs) h = absurd (omega arith)
drop-past (suc k) (x ∷ xs) h = drop-past k xs (omega arith)

-- from the end: without the last ones
drop-reverse : {A : Type 0} (k : ℕ) (xs : List A) → drop k (reverse xs) ≡ reverse (take (length xs - k) xs)
drop-reverse k xs = elim (cases_lt k (length xs)) [
  | inl within ↦
      let n : ℕ = length xs - k in
      let split = ap reverse (sym (take-append-drop n xs)) ∙ reverse-append (take n xs) (drop n xs) in
      let size : length (reverse (drop n xs)) ≡ k = length-reverse (drop n xs) ∙ (let l = length-drop n xs in omega (arith, l)) in
      ap (drop k) split ∙ ap (λ i. drop i (reverse (drop n xs) ++ reverse (take n xs))) (sym size) ∙ drop-append_seam (reverse (drop n xs)) (reverse (take n xs))
  | inr past ↦
      let none : length xs - k ≡ 0 = omega arith in
      let size = length-reverse xs in
      drop-past k (reverse xs) (omega (arith, size)) ∙ sym (ap (λ i. reverse (take i xs)) none)
]

pub backward_step : {A : Type 0} (s k : ℕ) (rest others : List A) (x : A) → rest ≡ others ++ x ∷ [] → k ≡ length others - (s - 1) → every s 0 (reverse rest) ≡ x ∷ every s 0 (reverse (take k others))
backward_step s k rest others x e f =
    ap (λ xs. every s 0 (reverse xs)) e ∙ ap (every s 0) (reverse-append others (x ∷ []))
    ∙ ap (λ t. x ∷ t) (every-skips s (s - 1) (reverse others) ∙ ap (every s 0) (drop-reverse (s - 1) others ∙ ap (λ n. reverse (take n others)) (sym f)))
