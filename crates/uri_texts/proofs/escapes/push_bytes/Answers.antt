use Rattle.std.proofs.Common.{◌<◌, arith}
use Rattle.std.proofs.lemmas.List.Elements.{All-from_get_or, recursion_from_All}
use Rattle.uri_texts.proofs.Escaping.{escapes_all, escapes_in_paths}
use Rattle.uri_texts.proofs.escapes.push_bytes.Goals as goal

pub returns-in-Escaped : goal.returns-in-Escaped
returns-in-Escaped c =
    let bytes = c.args.bytes.now in
    let small = recursion_from_All (λ b. b < 256) bytes (All-from_get_or (λ b. b < 256) bytes 0 (λ i within. omega (arith, c.type_inv.bytes i))) in
    rw c.in-Escaped.is (rw (escapes_all bytes small) at c.push_by.ensures)

pub returns-in-Kept : goal.returns-in-Kept
returns-in-Kept c =
    let bytes = c.args.bytes.now in
    let small = recursion_from_All (λ b. b < 256) bytes (All-from_get_or (λ b. b < 256) bytes 0 (λ i within. omega (arith, c.type_inv.bytes i))) in
    rw c.in-Kept.is (rw (escapes_in_paths bytes small) at c.push_by-in-Kept.ensures)
