use Rattle.httparse.specs.Grammar.{ChunkLine}
use Rattle.httparse.specs.Spans.{IsChunkLineAt}
use Rattle.http_reply.proofs.LineLemmas.{no_shorter_line}
use Rattle.http_reply.proofs.steps.judge_line.Goals as goal

pub returns-else-used-line : goal.returns-else-used-line
returns-else-used-line c =
    let read : (l : ChunkLine) × IsChunkLineAt c.args.line.now c.in-Ok-Complete.used c.in-Ok-Complete.size l =
    rw c.in-Ok-Complete.field-0-is at c.in-Ok-Complete.ensures.complete in
    no_shorter_line c.args.line.now c.in-Ok-Complete.used c.in-Ok-Complete.size read.0 read.1 c.if-used-line.false
