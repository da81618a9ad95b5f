use Rattle.std.proofs.Common.{◌≡◌, ◌<◌, ◌+◌, ◌++◌, ◌∷◌, [], arith}
use Rattle.std.specs.Fmt.{decimal}
use Rattle.std.proofs.lemmas.Fmt.{decimal_step_wide}
use Rattle.json_doc.proofs.Places.{decimal-last, appended}
use Rattle.json_doc.proofs.decimal_text.+write_whole.Goals as goal

pub returns-then-front-eq0 : goal.returns-then-front-eq0
returns-then-front-eq0 t c =
    let small : c.args.n < 10 = omega arith in
    rw (decimal-last c.args.n small, ← c.split_last-front.ensures.last) c.write_digit.ensures

pub returns : goal.returns
returns t c =
    let front = c.split_last-front.result.0 in
    let digit = (48 + c.split_last-front.result.1) ∷ [] in
    let split : decimal c.args.n ≡ decimal front ++ digit =
    rw (c.split_last-front.ensures.front, c.split_last-front.ensures.last) (decimal_step_wide c.args.n (omega arith) (omega arith)) in
    let whole = appended c.args.out.now c.write_whole.new.out (decimal front) digit (decimal c.args.n) c.in_ok-write_whole.ensures split in
    rw whole at c.write_digit-2.ensures
