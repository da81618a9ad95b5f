use Rattle.std.proofs.Common.{◌≡◌, ℕ, List, [], ◌∷◌, true, None, length, get_or, refl, sym, ap, ◌∙◌, arith}
use Rattle.std.specs.Prelude.{◌&&◌, codes, Result}
use Rattle.std.specs.Str.{bytes_eq}
use Rattle.std.proofs.lemmas.Bool.{and_from, cond-true}
use Rattle.aws_main.specs.declared.asking.Asked.{Asked}
use Rattle.aws_main.specs.declared.causes.Unbuilt.{Unbuilt}
use Rattle.aws_main.specs.Words.{call_of, asked_of, Gives}
use Rattle.aws_main.proofs.asking.read_words.Goals as goal

-- a list of five is its five elements
five : (words : List (List ℕ)) (a b c d e : List ℕ) → length words ≡ 5 → a ≡ get_or words 0 a → b ≡ get_or words 1 b
    → c ≡ get_or words 2 c → d ≡ get_or words 3 d → e ≡ get_or words 4 e → words ≡ a ∷ b ∷ c ∷ d ∷ e ∷ []
five (v ∷ w ∷ x ∷ y ∷ z ∷ []) a b c d e n p q r s t = cc
five (v ∷ w ∷ x ∷ y ∷ z ∷ more ∷ rest) a b c d e n p q r s t = absurd (omega arith)
five (v ∷ w ∷ x ∷ y ∷ []) a b c d e n p q r s t = absurd (omega arith)
five (v ∷ w ∷ x ∷ []) a b c d e n p q r s t = absurd (omega arith)
five (v ∷ w ∷ []) a b c d e n p q r s t = absurd (omega arith)
five (v ∷ []) a b c d e n p q r s t = absurd (omega arith)
five [] a b c d e n p q r s t = absurd (omega arith)

gives_call : (words : List (List ℕ)) (service command unsigned endpoint url : List ℕ) (result : Result Asked Unbuilt)
    → words ≡ service ∷ command ∷ unsigned ∷ endpoint ∷ url ∷ [] → bytes_eq unsigned (codes "--no-sign-request") ≡ true
    → bytes_eq endpoint (codes "--endpoint-url") ≡ true → Gives (call_of service command url) result → Gives (asked_of words) result
gives_call words service command unsigned endpoint url result shape first second given =
    let due : asked_of words ≡ call_of service command url =
    ap asked_of shape ∙ cond-true (bytes_eq unsigned (codes "--no-sign-request") && bytes_eq endpoint (codes "--endpoint-url"))
    (call_of service command url) None (and_from _ _ first second) in
    rw due given

pub returns : goal.returns
returns c =
    let n : length c.args.words.now ≡ 5 = omega arith in
    gives_call c.args.words.now c.service-item.result c.command-item.result c.unsigned-item.result c.endpoint-item.result c.url-item.result c.read_call.result
    (five c.args.words.now c.service-item.result c.command-item.result c.unsigned-item.result c.endpoint-item.result c.url-item.result n
    c.service-item.is c.command-item.is c.unsigned-item.is c.endpoint-item.is c.url-item.is)
    (sym (c.is.ensures.ascii refl) ∙ c.if-not-is.false) (sym (c.is-else-not-is.ensures.ascii refl) ∙ c.if-not-is-2.false) c.read_call.ensures
