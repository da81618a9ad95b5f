use Rattle.std.proofs.Common.{◌≡◌, ◌++◌, ap, subst}
use Rattle.std.specs.Prelude.{OnOk}
use Rattle.value_texts.specs.Quoted.{quoted}
use Rattle.value_texts.proofs.json_parts.push_quoted.Goals as goal

pub returns : goal.returns
returns c = subst (λ s. OnOk c.push_quoted.result (c.push_quoted.new.out ≡ c.args.out.now ++ s)) (ap quoted c.as_str.ensures.value) c.push_quoted.ensures
