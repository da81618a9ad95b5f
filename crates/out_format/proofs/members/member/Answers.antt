use Rattle.std.proofs.Common.{◌∙◌, ap}
use Rattle.std.specs.Option.{option_map}
use Rattle.out_format.proofs.Placing.{found}
use Rattle.out_format.proofs.members.member.Goals as goal

pub returns-in-Some : goal.returns-in-Some
returns-in-Some c =
    ap (option_map (λ p. p.now.value)) c.in-Some.ensures.value ∙ found c.args.members.now.entries c.as_str.result c.args.key.now c.as_str.ensures.bytes c.requires

pub returns-in-None : goal.returns-in-None
returns-in-None c =
    ap (option_map (λ p. p.now.value)) c.in-None.ensures.value ∙ found c.args.members.now.entries c.as_str.result c.args.key.now c.as_str.ensures.bytes c.requires
