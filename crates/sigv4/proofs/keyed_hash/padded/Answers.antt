use Rattle.std.proofs.Common.{◌≡◌, ◌+◌, ◌++◌, length, drop, replicate, ap, ◌∙◌, arith}
use Rattle.std.proofs.lemmas.List.{drop-replicate}
use Rattle.std.proofs.lemmas.List.Edits.{paste_all}
use Rattle.sigv4.proofs.keyed_hash.padded.Goals as goal

pub returns : goal.returns
returns c =
    let key = c.args.key.now in
    let all : c.loop-at.at ≡ length key = omega arith in
    let end : 0 + c.loop-at.at ≡ length key = omega arith in
    c.loop-at.invariant ∙ paste_all (replicate 64 0) 0 key c.loop-at.at all
    ∙ ap (λ n. key ++ drop n (replicate 64 0)) end ∙ ap (λ zeros. key ++ zeros) (drop-replicate (length key) 64 0)
