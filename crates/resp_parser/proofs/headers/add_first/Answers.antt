use Rattle.std.proofs.Common.{sym, ap, subst, ◌∙◌}
use Rattle.std.specs.Option.{option_copied}
use Rattle.std.specs.Str.{chars}
use Rattle.texts.specs.Keys.{keys, IsNew}
use Rattle.resp_parser.proofs.Firsts.{new-key}
use Rattle.resp_parser.proofs.headers.add_first.Goals as goal

pub push_new-requires : goal.push_new-requires
push_new-requires c =
    let none = sym c.get.ensures.value ∙ ap option_copied c.in-None.is in
    subst (λ k. IsNew k (keys c.args.made.now)) (sym c.in_ok-from_str-in-None.ensures) (new-key (chars c.args.key.now) c.args.made.now none)
