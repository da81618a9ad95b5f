use Rattle.std.proofs.lemmas.Result.{err_from_is_err_and}
use Rattle.json_doc.specs.NumberToken.{read, too_wide, broken}
use Rattle.json_doc.proofs.NumberLaws.{number_spelled, number_only}
use Rattle.json_doc.proofs.NumberScans.{number_at-digits, number_at-shorter}
use Rattle.json_doc.proofs.number_token.read_number.Goals as goal

pub decimal_of-requires : goal.decimal_of-requires
decimal_of-requires c = number_at-digits _ _ c.in_ok-number.ensures

pub returns-in_err-number-clause-fault : goal.returns-in_err-number-clause-fault
returns-in_err-number-clause-fault c =
    let p = err_from_is_err_and c.from_residual.result c.from_residual.ensures.1 in
    rw (p.1, p.2) (broken c.in_err-number.ensures)

pub returns-in-Some-clause-read : goal.returns-in-Some-clause-read
returns-in-Some-clause-read c = read c.in_ok-number.ensures c.in-Some.ensures.some

pub returns-in-Some-clause-shorter : goal.returns-in-Some-clause-shorter
returns-in-Some-clause-shorter c = number_at-shorter _ _ c.in_ok-number.ensures

pub returns-in-None-clause-fault : goal.returns-in-None-clause-fault
returns-in-None-clause-fault c = too_wide c.in_ok-number.ensures c.in-None.ensures.none

pub returns-in_err-number-clause-only : goal.returns-in_err-number-clause-only
returns-in_err-number-clause-only c = λ n rest begins.
    let p = err_from_is_err_and c.from_residual.result c.from_residual.ensures.1 in
    rw (p.1, p.2) (number_only _ n rest _ begins (broken c.in_err-number.ensures))

pub returns-in-Some-clause-spelled : goal.returns-in-Some-clause-spelled
returns-in-Some-clause-spelled c = number_spelled _ _ _ (read c.in_ok-number.ensures c.in-Some.ensures.some)

pub returns-in-Some-clause-only : goal.returns-in-Some-clause-only
returns-in-Some-clause-only c = λ n rest begins. number_only _ n rest _ begins (read c.in_ok-number.ensures c.in-Some.ensures.some)

pub returns-in-None-clause-only : goal.returns-in-None-clause-only
returns-in-None-clause-only c = λ n rest begins. number_only _ n rest _ begins (too_wide c.in_ok-number.ensures c.in-None.ensures.none)
