-- A line before a chunk that isn't read to its end is none.
use Rattle.std.proofs.Common.{◌≡◌, ◌≢◌, ℕ, List, [], length, drop, ap, arith, length-append, length-drop}
use Rattle.httparse.specs.Grammar.{ChunkLine, print_chunk_line, ReadsChunkLine}
use Rattle.httparse.specs.Spans.{IsChunkLineAt}
use Rattle.httparse.proofs.ChunkLemmas.{chunk_line_unique}

pub no_shorter_line : (line : List ℕ) (used size : ℕ) (l : ChunkLine) → IsChunkLineAt line used size l → used ≢ length line
    → (k : ChunkLine) → ReadsChunkLine line k [] → ⊥
no_shorter_line line used size l at other k reads =
    let rest : drop used line ≡ [] = (chunk_line_unique line l k (drop used line) [] at.reads reads).1 in
    let left = ap length rest in
    let whole = length-append (print_chunk_line l) (drop used line) in
    let printed = ap length at.reads.1 in
    let count = at.len_is in
    other (omega (arith, length-drop used line))
