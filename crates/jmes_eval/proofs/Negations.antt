-- So many `!`.
use Rattle.std.proofs.Common.{◌≡◌, ℕ, zero, suc, ◌%◌, ◌==◌, Bool, true, false, not, refl, sym, ap, ◌∙◌, arith}
use Rattle.std.specs.Prelude.{if◌then◌else◌}
use Rattle.std.proofs.lemmas.Bool.Decides.{nat_tests}
use Rattle.json_doc.specs.declared.doc.Doc as doc
use Rattle.json_doc.specs.declared.doc.Doc.{Doc, the_lemmas}
use Rattle.jmes_eval.specs.Kinds.{truth_of}
use Rattle.jmes_eval.specs.Meaning.{negated}

truth-Flag : (b : Bool) → truth_of (doc.Flag b) ≡ b
truth-Flag b = search (the_lemmas)

abbrev turned : ℕ → Bool → Bool
turned n b = if n % 2 == 0 then b else not b

turned-suc : (n : ℕ) (b : Bool) → not (turned n b) ≡ turned (suc n) b
turned-suc n true = grind (arith, nat_tests)
turned-suc n false = grind (arith, nat_tests)

truth-negated : (n : ℕ) (x : Doc) → truth_of (negated n x) ≡ turned n (truth_of x)
truth-negated zero x = refl
truth-negated (suc n) x = truth-Flag (not (truth_of (negated n x))) ∙ ap not (truth-negated n x) ∙ turned-suc n (truth_of x)

pub negated-suc : (n : ℕ) (x : Doc) → negated (suc n) x ≡ doc.Flag (turned (suc n) (truth_of x))
negated-suc n x = ap (λ b. doc.Flag (not b)) (truth-negated n x) ∙ ap doc.Flag (turned-suc n (truth_of x))

turned-even : (n : ℕ) (b : Bool) → n % 2 ≡ 0 → turned n b ≡ b
turned-even n true even = grind (arith, nat_tests, even)
turned-even n false even = grind (arith, nat_tests, even)

turned-odd : (n : ℕ) (b : Bool) → (n % 2 ≡ 0 → ⊥) → turned n b ≡ not b
turned-odd n true odd = grind (arith, nat_tests, odd)
turned-odd n false odd = grind (arith, nat_tests, odd)

negated-some : (n : ℕ) (x : Doc) → (n ≡ 0 → ⊥) → negated n x ≡ doc.Flag (turned n (truth_of x))
negated-some zero x some = absurd (some refl)
negated-some (suc n) x some = negated-suc n x

-- an even number of `!`, and an odd one
pub negated-even : (n : ℕ) (x : Doc) (b : Bool) → (n ≡ 0 → ⊥) → n % 2 ≡ 0 → b ≡ truth_of x → doc.Flag b ≡ negated n x
negated-even n x b some even is = ap doc.Flag (is ∙ sym (turned-even n (truth_of x) even)) ∙ sym (negated-some n x some)

pub negated-odd : (n : ℕ) (x : Doc) (b : Bool) → (n ≡ 0 → ⊥) → (n % 2 ≡ 0 → ⊥) → b ≡ truth_of x → doc.Flag (not b) ≡ negated n x
negated-odd n x b some odd is = ap doc.Flag (ap not is ∙ sym (turned-odd n (truth_of x) odd)) ∙ sym (negated-some n x some)
