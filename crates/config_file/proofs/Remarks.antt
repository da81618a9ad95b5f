-- A line that says nothing adds nothing, and changes no number but those of faults.
use Rattle.std.proofs.Common.{◌≡◌, ℕ, ◌+◌, List, [], ◌∷◌, ◌++◌, Option, None, Some, inr, refl, sym, ap, ◌∙◌}
use Rattle.std.specs.Prelude.{◌⊎◌, ◌↔◌, Result, Ok, Err, ok_or, option_map}
use Rattle.std.specs.Str.{IsUtf8}
use Rattle.texts.specs.Calls.{◌>>=◌}
use Rattle.config_file.specs.declared.fault.ConfigFault.{ConfigFault}
use Rattle.config_file.specs.declared.fault.ConfigFault.TheVariants.{Syntax}
use Rattle.config_file.specs.declared.fault.FileKind.{FileKind}
use Rattle.config_file.specs.declared.line.Line.{Line}
use Rattle.config_file.specs.declared.line.Line.TheVariants.{Nothing}
use Rattle.config_file.specs.declared.line.Place.{Place}
use Rattle.config_file.specs.Files.{Part, with_line, part_of}
use Rattle.config_file.specs.Grammar.{IsEmptyLine, IsComment}
use Rattle.config_file.specs.Lines.{line_of, place_behind}
use Rattle.config_file.proofs.LineForms.{line_from}

-- the value, whatever a refusal tells
abbrev value_in_ok : {A : Type 0} → Result A ConfigFault → Option A
value_in_ok (Ok x) = Some x
value_in_ok (Err e) = None

ok_from_value : {A : Type 0} (r : Result A ConfigFault) (x : A) → value_in_ok r ≡ Some x → r ≡ Ok x
ok_from_value (Ok y) x e = cc
ok_from_value (Err f) x e = cc

value_then : {A B : Type 0} (r : Result A ConfigFault) (f : A → B) → value_in_ok (r >>= λ x. Ok (f x)) ≡ option_map f (value_in_ok r)
value_then (Ok x) f = refl
value_then (Err e) f = refl

read_step : (kind : FileKind) (place : Place) (o : Option Line) (m n : ℕ) (xs ys : List (List ℕ))
    → ((behind : Place) → value_in_ok (part_of kind behind (m + 1) xs) ≡ value_in_ok (part_of kind behind (n + 1) ys))
    → value_in_ok (ok_or o (Syntax kind m) >>= λ line. part_of kind (place_behind place line) (m + 1) xs >>= λ part. Ok (with_line line part))
    ≡ value_in_ok (ok_or o (Syntax kind n) >>= λ line. part_of kind (place_behind place line) (n + 1) ys >>= λ part. Ok (with_line line part))
read_step kind place None m n xs ys same = refl
read_step kind place (Some line) m n xs ys same =
    value_then (part_of kind (place_behind place line) (m + 1) xs) (with_line line)
    ∙ ap (option_map (with_line line)) (same (place_behind place line))
    ∙ sym (value_then (part_of kind (place_behind place line) (n + 1) ys) (with_line line))

number_free : (kind : FileKind) (place : Place) (m n : ℕ) (lines : List (List ℕ)) → value_in_ok (part_of kind place m lines) ≡ value_in_ok (part_of kind place n lines)
number_free kind place m n [] = refl
number_free kind place m n (bytes ∷ more) =
    read_step kind place (line_of kind place bytes) m n more more (λ behind. number_free kind behind (m + 1) (n + 1) more)

value_kept : {A : Type 0} (o : Option A) → option_map (λ x. x) o ≡ o
value_kept None = refl
value_kept (Some x) = refl

remark_free : (kind : FileKind) (place : Place) (number : ℕ) (before after : List (List ℕ)) (remark : List ℕ)
    → ((place : Place) → line_of kind place remark ≡ Some Nothing)
    → value_in_ok (part_of kind place number (before ++ remark ∷ after)) ≡ value_in_ok (part_of kind place number (before ++ after))
remark_free kind place number [] after remark nothing =
    ap (λ o. value_in_ok (ok_or o (Syntax kind number) >>= λ line. part_of kind (place_behind place line) (number + 1) after >>= λ part. Ok (with_line line part)))
    (nothing place)
    ∙ value_then (part_of kind place (number + 1) after) (λ part. part)
    ∙ value_kept (value_in_ok (part_of kind place (number + 1) after))
    ∙ number_free kind place (number + 1) number after
remark_free kind place number (bytes ∷ before) after remark nothing =
    read_step kind place (line_of kind place bytes) number number (before ++ remark ∷ after) (before ++ after)
    (λ behind. remark_free kind behind (number + 1) before after remark nothing)

pub remark_is_free : (kind : FileKind) (place : Place) (number : ℕ) (before after : List (List ℕ)) (remark : List ℕ) (part : Part)
    → IsUtf8 remark → IsEmptyLine remark ⊎ IsComment remark
    → (part_of kind place number (before ++ remark ∷ after) ≡ Ok part) ↔ (part_of kind place number (before ++ after) ≡ Ok part)
remark_is_free kind place number before after remark part utf8 says =
    let same = remark_free kind place number before after remark (λ at. line_from kind at remark Nothing (utf8, inr says)) in (
      λ ok. ok_from_value (part_of kind place number (before ++ after)) part (sym same ∙ ap value_in_ok ok),
      λ ok. ok_from_value (part_of kind place number (before ++ remark ∷ after)) part (same ∙ ap value_in_ok ok),
    )
