use Rattle.std.proofs.Common.{◌≡◌, ◌+◌, ◌-◌, ◌%◌, ◌^◌, ◌++◌, ◌∷◌, [], arith}
use Rattle.std.specs.Fmt.{decimal}
use Rattle.json_doc.specs.DecimalText.{zero_filled}
use Rattle.json_doc.proofs.Places.{zero_filled-first, zero_filled-pred, appended}
use Rattle.json_doc.proofs.decimal_text.+write_places.Goals as goal

pub returns-then-count-eq1 : goal.returns-then-count-eq1
returns-then-count-eq1 t c =
    rw (c.if-count-eq1.true, zero_filled-first c.args.n, ← c.split_last-front.ensures.last) c.write_digit.ensures

pub returns : goal.returns
returns t c =
    let n = c.args.n in
    let count = c.args.count in
    let front = c.split_last-front.result.0 in
    let digit = (48 + c.split_last-front.result.1) ∷ [] in
    let places = zero_filled (count - 1) (decimal (front % 10 ^ (count - 1))) in
    let split : zero_filled count (decimal (n % 10 ^ count)) ≡ places ++ digit =
    rw (c.split_last-front.ensures.front, c.split_last-front.ensures.last) (zero_filled-pred count n (omega arith) (omega arith)) in
    let whole = appended c.args.out.now c.write_places.new.out places digit (zero_filled count (decimal (n % 10 ^ count))) c.in_ok-write_places.ensures split in
    rw whole at c.write_digit-2.ensures
