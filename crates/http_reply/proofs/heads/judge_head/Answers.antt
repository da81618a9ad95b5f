use Rattle.std.proofs.Common.{refl, arith, sym, ap, ◌∙◌}
use Rattle.httparse.specs.Spans.{IsResponseWithin, IsResponseOf}
use Rattle.aws_world.specs.declared.message.Reply.{Reply}
use Rattle.http_reply.specs.Fields.{fields_in}
use Rattle.http_reply.specs.Kinds.{kind_of}
use Rattle.http_reply.proofs.HeadLemmas.{judged_by, judged_interim, small_head}
use Rattle.http_reply.proofs.heads.judge_head.Goals as goal

pub returns-in-Interim-clause-judged : goal.returns-in-Interim-clause-judged
returns-in-Interim-clause-judged c =
    let head = c.args.head.now in
    let spans = c.parse_response.new.headers in
    let found = c.in-Ok-Complete.found in
    let of : IsResponseOf head spans found = rw c.in-Ok-Complete.field-0-is at c.in-Ok-Complete.ensures.complete in
    let within : IsResponseWithin head spans found = rw c.in-Ok-Complete.field-0-is at c.in-Ok-Complete.ensures.within in
    let fits = within.section.count_fits in
    judged_interim c.args.head_only head spans found of c.if-found-head.false (omega arith)
    (sym c.in-Interim.is ∙ c.kind_of-kind.ensures.kind ∙ ap (λ f. kind_of c.args.head_only found.code (fields_in head f)) c.split_at.ensures.front)

pub returns : goal.returns
returns c =
    let head = c.args.head.now in
    let spans = c.parse_response.new.headers in
    let found = c.in-Ok-Complete.found in
    let of : IsResponseOf head spans found = rw c.in-Ok-Complete.field-0-is at c.in-Ok-Complete.ensures.complete in
    let within : IsResponseWithin head spans found = rw c.in-Ok-Complete.field-0-is at c.in-Ok-Complete.ensures.within in
    let fits = within.section.count_fits in
    let headers = c.in_ok-texts.ensures ∙ ap (fields_in head) c.split_at.ensures.front in
    let made : Reply = record { status = found.code; headers = c.in_ok-texts.field-0; body = c.new.result } in
    record {
      judged = judged_by c.args.head_only head spans found made c.kind_of-kind.result of c.if-found-head.false (omega arith) refl headers c.new.ensures
          (c.kind_of-kind.ensures.kind ∙ ap (λ f. kind_of c.args.head_only found.code (fields_in head f)) c.split_at.ensures.front);
      within = c.kind_of-kind.ensures.within;
      small = small_head head spans found made of c.requires.few headers;
      no_body = c.new.ensures;
    }
