use Rattle.std.proofs.Common.{◌≡◌, ◌<◌, ◌^◌, ◌∙◌, sym, true, length, rules, arith}
use Rattle.std.specs.Char.{is_ascii_digit}
use Rattle.std.specs.List.{list_all}
use Rattle.std.specs.Str.Parse.{digits_value}
use Rattle.std.proofs.lemmas.Iterator.Adapters.{YieldsList-from_bytes}
use Rattle.std.proofs.lemmas.Iterator.Search.{all_from_yields_List}
use Rattle.std.proofs.lemmas.Str.Parse.{parse_digits}
use borrow.Author.Tests.{tests}
use Rattle.arg_table.proofs.Counting.{numerals, count_of-some, count_of-unread}
use Rattle.arg_table.proofs.counts.count_of.Goals as goal

pub returns-in-Ok : goal.returns-in-Ok
returns-in-Ok c =
    let all : list_all is_ascii_digit c.args.text.now ≡ true =
    sym (all_from_yields_List is_ascii_digit _ _ c.all.result c.all.ensures.ran
    (YieldsList-from_bytes c.args.text.now c.bytes.ensures.rest) (λ x b q k. search (rules, tests))) ∙ c.if-not-all.false in
    let read : ((0 < length c.args.text.now) × (digits_value 10 c.args.text.now < 2 ^ 64)) × (c.in-Ok.count ≡ digits_value 10 c.args.text.now) =
    rw c.in-Ok.is at (parse_digits numerals 64 c.args.text.now c.parse.result c.parse.ensures.value.0 all) in
    count_of-some c.args.least c.args.most c.args.text.now c.in-Ok.count all read.0.0 read.1 c.if-least-count.true c.if-count-most.true

pub returns-in_default-3 : goal.returns-in_default-3
returns-in_default-3 c =
    let all : list_all is_ascii_digit c.args.text.now ≡ true =
    sym (all_from_yields_List is_ascii_digit _ _ c.all.result c.all.ensures.ran
    (YieldsList-from_bytes c.args.text.now c.bytes.ensures.rest) (λ x b q k. search (rules, tests))) ∙ c.if-not-all.false in
    let unread : (0 < length c.args.text.now) × (digits_value 10 c.args.text.now < 2 ^ 64) → ⊥ =
    rw c.in_default.is at (parse_digits numerals 64 c.args.text.now c.parse.result c.parse.ensures.value.0 all) in
    count_of-unread c.args.least c.args.most c.args.text.now (omega arith) unread
