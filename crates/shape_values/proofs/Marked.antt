-- Texts that begin with a mark.
use Rattle.std.proofs.Common.{◌≡◌, ℕ, Bool, true, false, List, [], ◌∷◌, Option, None, Some, refl, sym, ap, ◌∙◌}
use Rattle.std.specs.Prelude.{is_some, ◌==◌, if◌then◌else◌}
use Rattle.shorthand.specs.Grammar.{begins_with}
use Rattle.texts.specs.Calls.{Finds}
use Rattle.texts.specs.Marks.{without_first}

chosen : {X : Type 0} (b : Bool) (x : X) → is_some (if b then Some x else None) ≡ b
chosen true x = refl
chosen false x = refl

first : (mark : ℕ) (text : List ℕ) → is_some (without_first mark text) ≡ begins_with mark text
first mark [] = refl
first mark (c ∷ cs) = chosen (c == mark) cs

-- a text that goes on behind a mark begins with it
pub begins : {X : Type 0} (view : X → List ℕ) (mark : ℕ) (text : List ℕ) (found : Option X) → Finds view found (without_first mark text) → is_some found ≡ begins_with mark text
begins view mark text None finds = ap is_some (sym finds) ∙ first mark text
begins view mark text (Some x) finds = ap is_some (sym finds) ∙ first mark text
