use Rattle.std.proofs.Common.{◌≡◌, ◌||◌, not, Bool, true, false, None, Some, refl, sym, ap, ◌∙◌}
use Rattle.std.specs.Prelude.{codes, bytes_eq}
use Rattle.std.specs.Str.{str_eq_ignore_ascii_case}
use Rattle.aws_world.specs.Headers.{header_of}
use Rattle.aws_world.proofs.Case.{same_but_case}
use Rattle.texts.proofs.Texts.{chars_ascii}
use Rattle.resp_parser.specs.Parsed.{is_plain_coding}
use Rattle.resp_parser.proofs.parsing.is_coded.Goals as goal

pub returns-in-None : goal.returns-in-None
returns-in-None c =
    let found = c.in-None.ensures ∙ ap (λ k. header_of k c.args.reply.now.headers) (chars_ascii (codes "content-encoding") refl) in
    ap (λ o. not (is_plain_coding o)) found

pub returns-then-not-is : goal.returns-then-not-is
unfolding lib.Utf8.encode
returns-then-not-is c =
    let coding = c.in-Some.coding.now in
    let found = c.in-Some.ensures ∙ ap (λ k. header_of k c.args.reply.now.headers) (chars_ascii (codes "content-encoding") refl) in
    let same = same_but_case c.eq_ignore_ascii_case.result coding c.as_str.result.now (codes "identity") c.as_str.ensures.bytes (codes "identity", (refl, refl)) c.eq_ignore_ascii_case.ensures.test in
    let named = same ∙ ap (str_eq_ignore_ascii_case coding) (chars_ascii (codes "identity") refl) in
    let some = sym (c.is.ensures.ascii refl) ∙ c.if-not-is.true in
    ap not (named ∙ sym (ap (λ b. b || str_eq_ignore_ascii_case coding (codes "identity")) some)) ∙ ap (λ o. not (is_plain_coding o)) found

pub returns-else-not-is : goal.returns-else-not-is
returns-else-not-is c =
    let coding = c.in-Some.coding.now in
    let found = c.in-Some.ensures ∙ ap (λ k. header_of k c.args.reply.now.headers) (chars_ascii (codes "content-encoding") refl) in
    let none = sym (c.is.ensures.ascii refl) ∙ c.if-not-is.false in
    ap not (c.if-not-is.false ∙ sym (ap (λ b. b || str_eq_ignore_ascii_case coding (codes "identity")) none)) ∙ ap (λ o. not (is_plain_coding o)) found
