-- The digits in front of some bytes.
use Rattle.std.proofs.Common.{◌≡◌, ℕ, suc, inl, inr, List, [], ◌∷◌, take, refl, sym, subst, arith}
use Rattle.std.specs.Char.{is_ascii_digit}
use Rattle.std.specs.List.{prefix_len}
use Rattle.std.specs.Str.Parse.{AllDigits}
use Rattle.std.proofs.lemmas.Bool.{cases_Bool}
use Rattle.json_doc.proofs.NumberScans.{is_digit}

pub digits_front : (bs : List ℕ) → AllDigits 10 (take (prefix_len is_ascii_digit bs) bs)
digits_front [] = tt
digits_front (b ∷ bs) = elim (cases_Bool (is_ascii_digit b)) [
  | inl digit ↦
      let more : prefix_len is_ascii_digit (b ∷ bs) ≡ suc (prefix_len is_ascii_digit bs) = rw digit (omega arith) in
      subst (λ n. AllDigits 10 (take n (b ∷ bs))) (sym more) (is_digit b digit, digits_front bs)
  | inr other ↦
      let none : prefix_len is_ascii_digit (b ∷ bs) ≡ 0 = rw other refl in
      subst (λ n. AllDigits 10 (take n (b ∷ bs))) (sym none) tt
]
