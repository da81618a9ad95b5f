use Rattle.std.proofs.Common.{◌≡◌, ◌*◌, ◌^◌, ◌<◌}
use Rattle.json_doc.proofs.decimal_parts.trimmed.Given as goal

-- the digits so far and the zeros behind them are all
abbrev pub invariant-loop-front : goal.invariant-loop-front
invariant-loop-front l = (l.digits ≡ l.front * 10 ^ l.zeros) × (0 < l.front) × (l.zeros < 39)

abbrev pub decreases-loop-front : goal.decreases-loop-front
decreases-loop-front l = l.front
