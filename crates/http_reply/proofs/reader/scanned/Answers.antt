use Rattle.std.proofs.Common.{◌-◌, ◌++◌, ap, ◌∙◌, sym, subst}
use Rattle.http_reply.specs.declared.steps.Due.TheVariants as due
use Rattle.http_reply.specs.Reading.{IsScanned}
use Rattle.http_reply.proofs.ScanLemmas.{scanned_head, scanned_line, scanned_trailer}
use Rattle.http_reply.proofs.reader.scanned.Goals as goal

pub returns-in-Heads : goal.returns-in-Heads
returns-in-Heads c = rw c.in-Heads.is (λ head_only reply bytes more size waits.
    subst (IsScanned (due.Heads c.in-Heads.field-0) (bytes ++ more)) (ap (λ n. n - 2) size ∙ sym c.saturating_sub.ensures)
    (scanned_head head_only c.in-Heads.field-0 bytes more waits))

pub returns-in-Lines : goal.returns-in-Lines
returns-in-Lines c = rw c.in-Lines.is (λ head_only reply bytes more size waits.
    subst (IsScanned (due.Lines c.in-Lines.field-0) (bytes ++ more)) size (scanned_line reply c.in-Lines.field-0 bytes more waits))

pub returns-in-Trailers : goal.returns-in-Trailers
returns-in-Trailers c = rw c.in-Trailers.is (λ head_only reply bytes more size waits.
    subst (IsScanned (due.Trailers c.in-Trailers.field-0) (bytes ++ more)) size (scanned_trailer reply c.in-Trailers.field-0 bytes more waits))
