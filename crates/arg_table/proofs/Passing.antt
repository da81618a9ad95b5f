-- Whether one of the items passes a test, one item after another.
use Rattle.std.proofs.Common.{◌≡◌, ℕ, ◌+◌, ◌<◌, ◌≤◌, Bool, true, false, ◌||◌, List, length, get_or, take, sym, ap, ◌∙◌}
use Rattle.std.proofs.lemmas.List.{take_all}
use Rattle.std.proofs.lemmas.List.Folds.{list_any_more, list_any_at}
use Rattle.std.specs.List.{list_any}

module _ {X : Type 0} where
  pub none_more : (p : X → Bool) (xs : List X) (i : ℕ) (x : X) (b : Bool) → i < length xs → x ≡ get_or xs i x → b ≡ p x → b ≡ false
      → list_any p (take i xs) ≡ false → list_any p (take (i + 1) xs) ≡ false
  none_more p xs i x b within is tells fails so_far =
      list_any_more p xs i x within ∙ ap (λ y. list_any p (take i xs) || p y) (sym is) ∙ ap (λ c. c || p x) so_far ∙ sym tells ∙ fails

  pub one_here : (p : X → Bool) (xs all : List X) (i : ℕ) (x : X) (b : Bool) → xs ≡ all → i < length xs → x ≡ get_or xs i x → b ≡ p x → b ≡ true
      → true ≡ list_any p all
  one_here p xs all i x b same within is tells passes =
      sym (list_any_at p xs i x within (ap p (sym is) ∙ sym tells ∙ passes)) ∙ ap (list_any p) same

  pub none_at_all : (p : X → Bool) (xs all : List X) (i : ℕ) → xs ≡ all → length xs ≤ i → list_any p (take i xs) ≡ false → false ≡ list_any p all
  none_at_all p xs all i same past so_far = sym so_far ∙ ap (list_any p) (take_all i xs past ∙ same)

  -- one more item is looked at
  pub any_more : (p : X → Bool) (xs : List X) (i : ℕ) (x : X) (before after : Bool) → i < length xs → x ≡ get_or xs i x
      → before ≡ list_any p (take i xs) → after ≡ (before || p x) → after ≡ list_any p (take (i + 1) xs)
  any_more p xs i x before after within is so_far more =
      more ∙ ap (λ b. b || p x) so_far ∙ ap (λ y. list_any p (take i xs) || p y) is ∙ sym (list_any_more p xs i x within)
