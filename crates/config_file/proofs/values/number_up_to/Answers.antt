use Rattle.std.proofs.Common.{◌≡◌, ℕ, ◌<◌, ◌^◌, ◌∙◌, sym, lit<, Bool, true, false, length, rules}
use Rattle.std.specs.Prelude.{◌≢◌}
use Rattle.std.specs.Char.{is_ascii_digit}
use Rattle.std.specs.List.{list_all}
use Rattle.std.specs.Bool.{Decides}
use Rattle.std.specs.Str.Parse.{digits_value}
use Rattle.std.proofs.lemmas.Bool.{false≢true}
use Rattle.std.proofs.lemmas.Iterator.Adapters.{YieldsList-from_bytes}
use Rattle.std.proofs.lemmas.Iterator.Search.{all_from_yields_List}
use Rattle.std.proofs.lemmas.Str.Parse.{parse_digits}
use Rattle.std.proofs.lemmas.Str.Pattern.{starts_char}
use borrow.Author.Tests.{tests}
use Rattle.config_file.proofs.Numbers.{numerals, number-some, number-unread, plain-from}
use Rattle.config_file.proofs.values.number_up_to.Goals as goal

differs : (b : Bool) (m n : ℕ) → Decides b (m ≡ n) → b ≡ false → m ≢ n
differs b m n decides is_false same = false≢true (sym is_false ∙ decides.1 same)

pub returns-in-Ok : goal.returns-in-Ok
returns-in-Ok c =
    let all : list_all is_ascii_digit c.args.digits.now ≡ true =
    sym (all_from_yields_List is_ascii_digit _ _ c.all.result c.all.ensures.ran
    (YieldsList-from_bytes c.args.digits.now c.bytes.ensures.rest) (λ x b q k. search (rules, tests))) ∙ c.if-not-all.false in
    let read : ((0 < length c.args.digits.now) × (digits_value 10 c.args.digits.now < 2 ^ 16)) × (c.in-Ok.number ≡ digits_value 10 c.args.digits.now) =
    rw c.in-Ok.is at (parse_digits numerals 16 c.args.digits.now c.parse.result c.parse.ensures.value.0 all) in
    number-some c.args.most c.args.digits.now c.in-Ok.number
    (plain-from c.args.digits.now
    (differs c.starts_with.result _ 48 (starts_char 48 c.args.digits.now c.starts_with.result c.starts_with.ensures.cases (lit< tt) (lit< tt)) c.if-starts_with.false)
    all read.0.0)
    read.1 c.if-number-most.true

pub returns-in_default-2 : goal.returns-in_default-2
returns-in_default-2 c =
    let all : list_all is_ascii_digit c.args.digits.now ≡ true =
    sym (all_from_yields_List is_ascii_digit _ _ c.all.result c.all.ensures.ran
    (YieldsList-from_bytes c.args.digits.now c.bytes.ensures.rest) (λ x b q k. search (rules, tests))) ∙ c.if-not-all.false in
    let unread : (0 < length c.args.digits.now) × (digits_value 10 c.args.digits.now < 2 ^ 16) → ⊥ =
    rw c.in_default.is at (parse_digits numerals 16 c.args.digits.now c.parse.result c.parse.ensures.value.0 all) in
    number-unread c.args.most c.args.digits.now c.ranges.most.fits unread
