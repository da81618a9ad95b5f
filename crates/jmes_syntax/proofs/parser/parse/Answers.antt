use Rattle.std.proofs.Common.{◌≡◌, ◌==◌, Ok, Err, encode_utf8_all, sym, subst, ◌∙◌, ⊎_elim, inl, inr, arith}
use Rattle.jmes_syntax.specs.Reading.{Stops}
use Rattle.jmes_syntax.specs.Scans.{Scans, Whole}
use Rattle.jmes_syntax.proofs.GrammarOfTexts.{text_sound, text_complete}
use Rattle.jmes_syntax.proofs.LexLengths.{lefts-length}
use Rattle.jmes_syntax.proofs.Texts.{scans_once, one_fault, no_fault, scans_of, stop-left, stop-bytes, stopped}
use Rattle.jmes_syntax.proofs.parser.parse.Goals as goal

pub returns-in-Ok-read_whole-clause-found : goal.returns-in-Ok-read_whole-clause-found
returns-in-Ok-read_whole-clause-found c =
    let l = c.in-Ok.lexed in
    let bytes : c.as_bytes-bytes.result.now ≡ encode_utf8_all c.args.text.now = c.as_bytes-bytes.ensures.value ∙ c.as_str.ensures.bytes in
    let whole = subst (λ ts. Whole ts (l.left == 0) (Ok c.in-Ok-read_whole.expr)) c.as_slice.ensures c.in-Ok-read_whole.ensures.read in
    let scans = subst (λ bs. Scans bs (Ok c.in-Ok-read_whole.expr)) bytes (scans_of _ l.tokens l.lefts l.left _ c.in-Ok.ensures whole) in
    text_sound c.args.text.now c.in-Ok-read_whole.expr scans

pub returns-in-Ok-read_whole-clause-only : goal.returns-in-Ok-read_whole-clause-only
returns-in-Ok-read_whole-clause-only c = λ e other.
    let l = c.in-Ok.lexed in
    let bytes : c.as_bytes-bytes.result.now ≡ encode_utf8_all c.args.text.now = c.as_bytes-bytes.ensures.value ∙ c.as_str.ensures.bytes in
    let whole = subst (λ ts. Whole ts (l.left == 0) (Ok c.in-Ok-read_whole.expr)) c.as_slice.ensures c.in-Ok-read_whole.ensures.read in
    let scans = subst (λ bs. Scans bs (Ok c.in-Ok-read_whole.expr)) bytes (scans_of _ l.tokens l.lefts l.left _ c.in-Ok.ensures whole) in
    let same = scans_once _ _ _ scans (text_complete c.args.text.now e other) in cc

pub returns-in-Ok-read_whole-clause-refused : goal.returns-in-Ok-read_whole-clause-refused
returns-in-Ok-read_whole-clause-refused c = λ f has.
    let l = c.in-Ok.lexed in
    let bytes : c.as_bytes-bytes.result.now ≡ encode_utf8_all c.args.text.now = c.as_bytes-bytes.ensures.value ∙ c.as_str.ensures.bytes in
    let whole = subst (λ ts. Whole ts (l.left == 0) (Ok c.in-Ok-read_whole.expr)) c.as_slice.ensures c.in-Ok-read_whole.ensures.read in
    let scans = subst (λ bs. Scans bs (Ok c.in-Ok-read_whole.expr)) bytes (scans_of _ l.tokens l.lefts l.left _ c.in-Ok.ensures whole) in
    no_fault _ _ f scans has

pub fault_of-requires-clause-tokens : goal.fault_of-requires-clause-tokens
fault_of-requires-clause-tokens c =
    let l = c.in-Ok.lexed in
    let stops = subst (λ ts. Stops (λ s. Whole ts (l.left == 0) (Err s)) c.in-Err-read_whole.stop) c.as_slice.ensures c.in-Err-read_whole.ensures.fault in
    omega (arith, stop-left l.tokens (l.left == 0) c.in-Err-read_whole.stop stops, lefts-length c.in-Ok.ensures)

pub fault_of-requires-clause-bytes : goal.fault_of-requires-clause-bytes
fault_of-requires-clause-bytes c = let l = c.in-Ok.lexed in stop-bytes c.as_bytes-bytes.result.now l.tokens l.lefts l.left _ c.in-Ok.ensures

pub returns-clause-fault : goal.returns-clause-fault
returns-clause-fault c =
    let l = c.in-Ok.lexed in
    let bytes : c.as_bytes-bytes.result.now ≡ encode_utf8_all c.args.text.now = c.as_bytes-bytes.ensures.value ∙ c.as_str.ensures.bytes in
    let stops = subst (λ ts. Stops (λ s. Whole ts (l.left == 0) (Err s)) c.in-Err-read_whole.stop) c.as_slice.ensures c.in-Err-read_whole.ensures.fault in
    rw bytes at (stopped c.as_bytes-bytes.result.now l.tokens l.lefts l.left c.in-Err-read_whole.stop c.fault_of.result c.in-Ok.ensures stops c.fault_of.ensures)

pub returns-clause-only : goal.returns-clause-only
returns-clause-only c = λ e other.
    let l = c.in-Ok.lexed in
    let bytes : c.as_bytes-bytes.result.now ≡ encode_utf8_all c.args.text.now = c.as_bytes-bytes.ensures.value ∙ c.as_str.ensures.bytes in
    let stops = subst (λ ts. Stops (λ s. Whole ts (l.left == 0) (Err s)) c.in-Err-read_whole.stop) c.as_slice.ensures c.in-Err-read_whole.ensures.fault in
    ⊎_elim (λ none. none) (λ has. absurd (no_fault _ e _ (subst (λ bs. Scans bs (Ok e)) (sym bytes) (text_complete c.args.text.now e other)) has))
    (stopped c.as_bytes-bytes.result.now l.tokens l.lefts l.left c.in-Err-read_whole.stop c.fault_of.result c.in-Ok.ensures stops c.fault_of.ensures)

pub returns-clause-refused : goal.returns-clause-refused
returns-clause-refused c = λ f has.
    let l = c.in-Ok.lexed in
    let bytes : c.as_bytes-bytes.result.now ≡ encode_utf8_all c.args.text.now = c.as_bytes-bytes.ensures.value ∙ c.as_str.ensures.bytes in
    let stops = subst (λ ts. Stops (λ s. Whole ts (l.left == 0) (Err s)) c.in-Err-read_whole.stop) c.as_slice.ensures c.in-Err-read_whole.ensures.fault in
    ⊎_elim (λ none. inr none) (λ first. inl (one_fault _ c.fault_of.result f (rw bytes at first) has))
    (stopped c.as_bytes-bytes.result.now l.tokens l.lefts l.left c.in-Err-read_whole.stop c.fault_of.result c.in-Ok.ensures stops c.fault_of.ensures)
