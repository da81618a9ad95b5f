use Rattle.std.proofs.Common.{◌<◌, length, get_or, ◌∙◌, arith}
use Rattle.std.specs.Prelude.{bit_xor}
use Rattle.std.proofs.lemmas.List.{get_or_default}
use Rattle.std.proofs.Math.ListN.{length-set}
use Rattle.std.proofs.lemmas.List.Edits.{map_over_more}
use Rattle.sigv4.proofs.keyed_hash.masked.Goals as goal

pub loop-at-preserved : goal.loop-at-preserved
loop-at-preserved c =
    let mask = c.args.mask in
    let block = c.loop-at.block in
    let at = c.loop-at.at in
    let sized = c.loop-at.invariant.sized in
    let wide = c.loop-at.invariant.wide in
    let within : at < length c.args.key = omega arith in
    let inside : at < length block = omega arith in
    record {
      sized = sized;
      wide = length-set block at (bit_xor (get_or block at 0) mask) ∙ wide;
      so_far = map_over_more (λ b. bit_xor b mask) c.args.key block at (get_or block at 0) within c.loop-at.invariant.so_far
          (get_or_default block at 0 (get_or block at 0) inside);
    }
