-- A text is a document or has one fault.
use Rattle.std.proofs.Common.{◌≡◌, ℕ, ◌+◌, List, length, Ok, ap, arith}
use Rattle.json_doc.specs.declared.doc.Doc.{Doc}
use Rattle.json_doc.specs.declared.read_fault.ReadFault.{ReadFault}
use Rattle.json_doc.specs.declared.read_fault.ReadFault.TheVariants.{Syntax, TooDeep, NumberTooWide, OutOfMemory}
use Rattle.json_doc.specs.Scan.{Scans}
use Rattle.json_doc.specs.Faults.{HasFault}
use Rattle.json_doc.proofs.Once.{text_once}

pub no_fault : (bs : List ℕ) (d : Doc) (f : ReadFault) → Scans bs (Ok d) → HasFault bs f → ⊥
no_fault bs d (Syntax at) ok h = let e = text_once bs _ _ ok h.1 in cc
no_fault bs d (TooDeep at) ok h = let e = text_once bs _ _ ok h.1 in cc
no_fault bs d (NumberTooWide at) ok h = let e = text_once bs _ _ ok h.1 in cc
no_fault bs d OutOfMemory ok h = h

same_place : (bs : List ℕ) (a b left right : ℕ) → left ≡ right → a + left ≡ length bs → b + right ≡ length bs → a ≡ b
same_place bs a b left right e f g = omega arith

pub one_fault : (bs : List ℕ) (e f : ReadFault) → HasFault bs e → HasFault bs f → e ≡ f
one_fault bs (Syntax a) (Syntax b) h k = let e = text_once bs _ _ h.1 k.1 in ap Syntax (same_place bs a b h.0 k.0 (cc) h.2 k.2)
one_fault bs (TooDeep a) (TooDeep b) h k = let e = text_once bs _ _ h.1 k.1 in ap TooDeep (same_place bs a b h.0 k.0 (cc) h.2 k.2)
one_fault bs (NumberTooWide a) (NumberTooWide b) h k = let e = text_once bs _ _ h.1 k.1 in ap NumberTooWide (same_place bs a b h.0 k.0 (cc) h.2 k.2)
one_fault bs (Syntax a) (TooDeep b) h k = let e = text_once bs _ _ h.1 k.1 in absurd cc
one_fault bs (Syntax a) (NumberTooWide b) h k = let e = text_once bs _ _ h.1 k.1 in absurd cc
one_fault bs (TooDeep a) (Syntax b) h k = let e = text_once bs _ _ h.1 k.1 in absurd cc
one_fault bs (TooDeep a) (NumberTooWide b) h k = let e = text_once bs _ _ h.1 k.1 in absurd cc
one_fault bs (NumberTooWide a) (Syntax b) h k = let e = text_once bs _ _ h.1 k.1 in absurd cc
one_fault bs (NumberTooWide a) (TooDeep b) h k = let e = text_once bs _ _ h.1 k.1 in absurd cc
one_fault bs OutOfMemory f h k = absurd h
one_fault bs e OutOfMemory h k = absurd k
