use Rattle.std.proofs.Common.{arith}
use Rattle.std.proofs.lemmas.Grind.{common_steps, flat_map-append}
use Rattle.http_exchange.specs.Wire.{line, header}
use Rattle.http_exchange.proofs.writing.push_both.Goals as goal

pub returns : goal.returns
returns c = grind (arith, common_steps, flat_map-append (λ h. line (header h)) c.args.headers.now c.args.more.now)
