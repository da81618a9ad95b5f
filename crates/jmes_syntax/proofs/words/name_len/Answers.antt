use Rattle.std.proofs.Common.{◌≡◌, true, get_or, ⊎_elim, sym, subst, arith}
use Rattle.std.proofs.lemmas.Bool.{cases_lt}
use Rattle.std.proofs.lemmas.List.Sums.{prefix_len_is}
use Rattle.jmes_syntax.specs.Words.{is_name_byte}
use Rattle.jmes_syntax.proofs.words.name_len.Goals as goal

pub returns-then-not-is_name_byte-clause-value : goal.returns-then-not-is_name_byte-clause-value
returns-then-not-is_name_byte-clause-value c =
    sym (prefix_len_is is_name_byte c.args.bytes.now c.loop-at.at 0 (omega arith) c.loop-at.invariant (λ within. sym c.if-not-is_name_byte.ensures))

pub returns-clause-value : goal.returns-clause-value
returns-clause-value c = sym (prefix_len_is is_name_byte c.args.bytes.now _ 0 (omega arith) (λ k h. c.loop-at.invariant k (omega arith)) (λ within. absurd (omega arith)))

pub loop-at-preserved : goal.loop-at-preserved
loop-at-preserved c = λ k h.
    ⊎_elim (λ before. c.loop-at.invariant k before)
    (λ behind. let same : k ≡ c.loop-at.at = omega (arith, h, behind) in subst (λ j. is_name_byte (get_or c.args.bytes.now j 0) ≡ true) (sym same) (sym c.if-not-is_name_byte.ensures))
    (cases_lt k c.loop-at.at)
