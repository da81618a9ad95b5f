use Rattle.std.proofs.Common.{inl, refl, sym, ap, ◌∙◌, subst, drop, take, ◌++◌}
use Rattle.http_reply.specs.declared.outcome.Outcome.TheVariants.{Whole}
use Rattle.http_reply.specs.Outcome.{HasVerdict}
use Rattle.http_reply.proofs.ReadLemmas.{whole_after, whole_with_after, malformed_after, too_large_after, waits_after}
use Rattle.http_reply.proofs.reader.ReplyReader.read_within.Goals as goal

pub returns-in-Waits-clause-gives : goal.returns-in-Waits-clause-gives
returns-in-Waits-clause-gives c = λ head_only received waits.
    waits_after head_only received c.args.piece.now c.args.self.now c.deref.result.now waits c.requires.few (c.deref.ensures.value ∙ c.in_ok-extend_from_slice.ensures.items)
    c.advance.new.reply c.in_ok-due.field-0 c.in-Waits.due c.in-Waits.at _ c.in_ok-due.ensures c.in-Waits.is refl refl refl refl
    (c.cut_front.ensures ∙ ap (drop c.in-Waits.at) (sym c.deref.ensures.value))

pub returns-in-Whole-clause-gives : goal.returns-in-Whole-clause-gives
returns-in-Whole-clause-gives c = λ head_only received waits.
    inl (subst (λ r. HasVerdict head_only (received ++ c.args.piece.now) (Whole r)) (sym c.take_reply.ensures)
    (whole_after head_only received c.args.piece.now c.args.self.now c.deref.result.now waits c.requires.few (c.deref.ensures.value ∙ c.in_ok-extend_from_slice.ensures.items)
    c.advance.new.reply c.in_ok-due.field-0 c.in_ok-due.ensures c.in-Whole.is))

pub returns-in-WholeWith-clause-gives : goal.returns-in-WholeWith-clause-gives
returns-in-WholeWith-clause-gives c = λ head_only received waits.
    inl (subst (λ r. HasVerdict head_only (received ++ c.args.piece.now) (Whole r))
    (ap (λ b. record c.advance.new.reply { body = take c.in-WholeWith.size (drop c.in-WholeWith.at b) }) c.deref.ensures.value ∙ sym c.take_with_body.ensures)
    (whole_with_after head_only received c.args.piece.now c.args.self.now c.deref.result.now waits c.requires.few (c.deref.ensures.value ∙ c.in_ok-extend_from_slice.ensures.items)
    c.advance.new.reply c.in_ok-due.field-0 c.in-WholeWith.at c.in-WholeWith.size c.in_ok-due.ensures c.in-WholeWith.is))

pub returns-in-Malformed-clause-gives : goal.returns-in-Malformed-clause-gives
returns-in-Malformed-clause-gives c = λ head_only received waits.
    malformed_after head_only received c.args.piece.now c.args.self.now c.deref.result.now waits c.requires.few (c.deref.ensures.value ∙ c.in_ok-extend_from_slice.ensures.items)
    c.advance.new.reply c.in_ok-due.field-0 c.in_ok-due.ensures c.in-Malformed.is

pub returns-in-TooLarge-clause-gives : goal.returns-in-TooLarge-clause-gives
returns-in-TooLarge-clause-gives c = λ head_only received waits.
    inl (too_large_after head_only received c.args.piece.now c.args.self.now c.deref.result.now waits c.requires.few (c.deref.ensures.value ∙ c.in_ok-extend_from_slice.ensures.items)
    c.advance.new.reply c.in_ok-due.field-0 c.in_ok-due.ensures c.in-TooLarge.is)
