use Rattle.http_reply.specs.Waiting.{IsReading}
use Rattle.http_reply.proofs.tests.outcome.Given as goal

-- the reader still waits
abbrev pub invariant-loop-piece : goal.invariant-loop-piece
invariant-loop-piece l =
    (goal.iterator-loop-piece).can_next l.piece-iterator
    × (goal.iterator-loop-piece).is_finite l.piece-iterator
    × IsReading l.reader
