-- The characters of a label are its bytes.
use Rattle.std.proofs.Common.{◌≡◌, ◌<◌, ℕ, Bool, true, false, ◌&&◌, List, [], ◌∷◌, refl, sym, ap, ◌∙◌, arith}
use Rattle.std.specs.List.{list_all}
use Rattle.std.specs.Str.{chars, IsUtf8, IsAscii}
use Rattle.std.proofs.lemmas.Bool.Decides.{nat_tests}
use Rattle.std.proofs.lemmas.Str.{chars-IsAscii, encodes-chars, encodes-IsAscii}
use Rattle.std.proofs.lemmas.Str.Ascii.{IsAscii-nil, IsAscii-cons}
use Rattle.endpoint_rules.specs.HostLabels.{is_label_character, has_label_form, is_label}
use Rattle.endpoint_rules.proofs.Both.{first_holds, second_holds}

low : (c : ℕ) → is_label_character c ≡ true → c < 128
low c h = grind (arith, nat_tests)

ascii : (cs : List ℕ) → list_all is_label_character cs ≡ true → IsAscii cs
ascii [] h = IsAscii-nil
ascii (c ∷ cs) h = IsAscii-cons c cs (low c (first_holds _ _ h)) (ascii cs (second_holds (is_label_character c) _ h))

-- a text is a label by its bytes where it is one by its characters
same_label : (bs : List ℕ) → IsUtf8 bs → (r : Bool) → r ≡ list_all is_label_character bs → (s : Bool)
    → s ≡ list_all is_label_character (chars bs) → is_label bs ≡ is_label (chars bs)
same_label bs u true e s f = ap is_label (sym (chars-IsAscii bs (ascii bs (sym e))))
same_label bs u false e true f =
    let same : chars bs ≡ bs = sym (encodes-IsAscii (chars bs) (ascii (chars bs) (sym f))) ∙ encodes-chars bs u in
    ap is_label (sym same)
same_label bs u false e false f = cc

-- with such bytes the form decides
pub form_decides : (bs : List ℕ) → IsUtf8 bs → list_all is_label_character bs ≡ true → has_label_form bs ≡ is_label (chars bs)
form_decides bs u e = ap (λ b. b && has_label_form bs) (sym e) ∙ same_label bs u _ refl _ refl

-- with another byte it is none
pub no_label : (bs : List ℕ) → IsUtf8 bs → list_all is_label_character bs ≡ false → false ≡ is_label (chars bs)
no_label bs u e = ap (λ b. b && has_label_form bs) (sym e) ∙ same_label bs u _ refl _ refl
