-- Functions by their names.
use Rattle.std.proofs.Common.{◌≡◌, ℕ, zero, suc, ◌+◌, ◌<◌, true, false, if◌then◌else◌, List, [], ◌∷◌, length, drop, get_or, Some, refl, ap, subst, ◌∙◌, arith}
use Rattle.std.proofs.lemmas.Slice.Eq.{bytes_eq-Decides}
use Rattle.std.specs.Prelude.{bytes_eq}
use Rattle.jmes_syntax.specs.declared.function.Function.{Function}
use Rattle.jmes_syntax.specs.declared.function.Function.TheVariants as function
use Rattle.jmes_syntax.specs.declared.function.TheConstants.{FUNCTIONS}
use Rattle.jmes_syntax.specs.Functions.{name_of, first_named, function_named}

-- a function of another name is passed over
pub passed : (t : List ℕ) (fs : List Function) (i : ℕ) (d : Function) → i < length fs → bytes_eq t (name_of (get_or fs i d)) ≡ false → first_named t (drop (i + 1) fs) ≡ first_named t (drop i fs)
passed t [] i d within other = absurd (omega arith)
passed t (f ∷ fs) zero d within other = rw other refl
passed t (f ∷ fs) (suc i) d within other =
    let e : suc (i + 1) ≡ suc i + 1 = omega arith in
    subst (λ k. first_named t (drop k (f ∷ fs)) ≡ first_named t (drop i fs)) e (passed t fs i d (omega arith) other)

-- each function has a name of its own
pub found_by_name : (f : Function) → function_named (name_of f) ≡ Some f
found_by_name function.Abs = refl
found_by_name function.Ceil = refl
found_by_name function.Contains = refl
found_by_name function.EndsWith = refl
found_by_name function.Floor = refl
found_by_name function.Join = refl
found_by_name function.Keys = refl
found_by_name function.Length = refl
found_by_name function.Map = refl
found_by_name function.Max = refl
found_by_name function.MaxBy = refl
found_by_name function.Merge = refl
found_by_name function.Min = refl
found_by_name function.MinBy = refl
found_by_name function.NotNull = refl
found_by_name function.Reverse = refl
found_by_name function.Sort = refl
found_by_name function.SortBy = refl
found_by_name function.StartsWith = refl
found_by_name function.Sum = refl
found_by_name function.ToArray = refl
found_by_name function.ToNumber = refl
found_by_name function.ToString = refl
found_by_name function.Type = refl
found_by_name function.Values = refl

-- what is found by a name has it
first-name : (t : List ℕ) (fs : List Function) (f : Function) → first_named t fs ≡ Some f → t ≡ name_of f
first-name t [] f e = absurd cc
first-name t (d ∷ fs) f e =
    elim (bytes_eq t (name_of d)) as (λ v. bytes_eq t (name_of d) ≡ v → (if v then Some d else first_named t fs) ≡ Some f → t ≡ name_of f) [
      | true ↦ (λ equal h. let same : d ≡ f = cc in (bytes_eq-Decides t (name_of d)).0 equal ∙ ap name_of same)
      | false ↦ (λ other h. first-name t fs f h)
    ] refl e

pub name_found : (t : List ℕ) (f : Function) → function_named t ≡ Some f → t ≡ name_of f
name_found t f e = first-name t FUNCTIONS f e
