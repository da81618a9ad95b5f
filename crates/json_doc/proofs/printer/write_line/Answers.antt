use Rattle.std.proofs.Common.{◌≡◌, ℕ, ◌+◌, ◌*◌, List, [], ◌∷◌, ◌++◌, replicate, ap, ◌∙◌, arith}
use Rattle.std.proofs.lemmas.List.{append_assoc, replicate-append-replicate}
use Rattle.json_doc.proofs.Literals.{chars-blanks}
use Rattle.json_doc.proofs.printer.write_line.Goals as goal

abbrev blanks : List ℕ
blanks = 32 ∷ 32 ∷ 32 ∷ 32 ∷ []

-- four more blanks
more_blanks : (out : List ℕ) (k : ℕ) → out ++ 10 ∷ replicate (4 * k) 32 ++ blanks ≡ out ++ 10 ∷ replicate (4 * (k + 1)) 32
more_blanks out k =
    let e : 4 * k + 4 ≡ 4 * (k + 1) = omega arith in
    append_assoc out (10 ∷ replicate (4 * k) 32) blanks ∙ ap (λ bs. out ++ 10 ∷ bs) (replicate-append-replicate (4 * k) 4 32 ∙ ap (λ n. replicate n 32) e)

pub loop-step-preserved : goal.loop-step-preserved
loop-step-preserved c =
    c.in_ok-push_str.ensures.ok ∙ ap (λ bs. c.loop-step.out ++ bs) chars-blanks ∙ ap (λ out. out ++ blanks) c.loop-step.invariant ∙ more_blanks c.args.out.now c.loop-step._step
