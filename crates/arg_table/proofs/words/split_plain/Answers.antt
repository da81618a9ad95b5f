use Rattle.std.proofs.Common.{ap, ◌∙◌, drop, take, arith}
use Rattle.arg_table.specs.Words.{cut}
use Rattle.arg_table.proofs.Cutting.{plain_front, groups_behind, plain_within}
use Rattle.arg_table.proofs.words.split_plain.Goals as goal

pub split_at-requires : goal.split_at-requires
split_at-requires c = omega (arith, plain_within c.args.words.now, c.count_plain.ensures)

pub returns : goal.returns
returns c =
    let ws = c.args.words.now in
    record {
      plain = c.split_at.ensures.front ∙ ap (λ n. take n ws) c.count_plain.ensures ∙ plain_front ws;
      others = ap cut (c.split_at.ensures.back ∙ ap (λ n. drop n ws) c.count_plain.ensures) ∙ groups_behind ws;
      shorter = omega (arith, c.split_at.ensures.back_len);
    }
