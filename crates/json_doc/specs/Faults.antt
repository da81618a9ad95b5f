-- The fault of a text that is no document within the limits.
use Rattle.std.specs.Prelude.{◌≡◌, ℕ, ◌+◌, ◌<◌, List, ◌++◌, length, take, Err}
use Rattle.json_doc.specs.declared.doc.Doc.{Doc}
use Rattle.json_doc.specs.declared.read_fault.ReadFault.{ReadFault}
use Rattle.json_doc.specs.declared.read_fault.ReadFault.TheVariants.{Syntax, TooDeep, NumberTooWide, OutOfMemory}
use Rattle.json_doc.specs.declared.stop.Stop.{Stop}
use Rattle.json_doc.specs.declared.stop.Stop.TheVariants as stop
use Rattle.json_doc.specs.Grammar.{Reads}
use Rattle.json_doc.specs.Scan.{Scans}

-- reading from the left stops for this reason, behind this many bytes
abbrev pub StopsAt : List ℕ → (ℕ → Stop) → ℕ → Type 0
StopsAt bs reason at = (left : ℕ) × Scans bs (Err (reason left)) × (at + left ≡ length bs)

-- the first fault of the text, at its offset; want of memory is none
abbrev pub HasFault : List ℕ → ReadFault → Type 0
HasFault bs (Syntax at) = StopsAt bs stop.Syntax at
HasFault bs (TooDeep at) = StopsAt bs stop.TooDeep at
HasFault bs (NumberTooWide at) = StopsAt bs stop.NumberTooWide at
HasFault bs OutOfMemory = ⊥

-- whatever follows these bytes, they don't make a document
abbrev pub BeginsNoDocument : List ℕ → Type 0
BeginsNoDocument bs = (more : List ℕ) (d : Doc) → Reads (bs ++ more) d → ⊥

-- No document begins with the bytes up to this fault and the byte at it, where there is one. A
-- number may become another where its text goes on.
abbrev pub IsDeadEnd : List ℕ → ReadFault → Type 0
IsDeadEnd bs (Syntax at) = at < length bs → BeginsNoDocument (take (at + 1) bs)
IsDeadEnd bs (TooDeep at) = at < length bs → BeginsNoDocument (take (at + 1) bs)
IsDeadEnd bs (NumberTooWide at) = Unit {0}
IsDeadEnd bs OutOfMemory = Unit {0}
