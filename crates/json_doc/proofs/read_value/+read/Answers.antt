use Rattle.std.proofs.Common.{◌<◌, ◌+◌, arith, Ok, Err, sym}
use Rattle.std.proofs.lemmas.Result.{err_from_is_err_and}
use Rattle.json_doc.specs.Scan.{Value, Array, Object, Elements, Members}
use Rattle.json_doc.proofs.Shorter.{behind-lt, skipped-le, value-within, key_at-within}
use Rattle.json_doc.proofs.TokenParts.{Stops-from}
use Rattle.json_doc.proofs.Stopping.{Stops-weaker, IfOk-stops, IfErr-stops}
use Rattle.json_doc.proofs.read_value.+read.Goals as goal

pub read_array-returns-in-Some-clause-read : goal.read_array-returns-in-Some-clause-read
read_array-returns-in-Some-clause-read t c = rw c.new-items.ensures (Array.empty_array c.in-Some.ensures)

pub read_array-returns-in_err-item-clause-fault : goal.read_array-returns-in_err-item-clause-fault
read_array-returns-in_err-item-clause-fault t c =
    let p = err_from_is_err_and c.from_residual.result c.from_residual.ensures.1 in
    rw (p.1, p.2) (Stops-weaker _ (λ s. Array c.args.depth c.args.bytes.now (Err s)) _ (λ s h. Array.full_array c.in_default.ensures (c.loop-items.invariant _ (Elements.bad_element h))) c.in_err-item.ensures.fault)

pub read_array-returns-in-Some-strip-clause-read :
    goal.read_array-returns-in-Some-strip-clause-read
read_array-returns-in-Some-strip-clause-read t c =
    rw c.in_ok-push.ensures.ok (Array.full_array c.in_default.ensures
    (c.loop-items.invariant _ (Elements.last_element c.in_ok-item.ensures.read (rw c.skip_blanks-after.ensures.value at c.in-Some-strip.ensures))))

pub read_array-returns-in_default-strip-2-clause-fault :
    goal.read_array-returns-in_default-strip-2-clause-fault
read_array-returns-in_default-strip-2-clause-fault t c =
    rw c.skip_blanks-after.ensures.value (Array.full_array c.in_default.ensures
    (c.loop-items.invariant _ (Elements.open_array c.in_ok-item.ensures.read (rw c.skip_blanks-after.ensures.value at c.in_default-strip.ensures)
    (rw c.skip_blanks-after.ensures.value at c.in_default-strip-2.ensures))))

pub read_array-loop-items-smaller : goal.read_array-loop-items-smaller
read_array-loop-items-smaller t c =
    let value = value-within c.in_ok-item.ensures.read in
    let comma = behind-lt 44 c.skip_blanks-after.result.now c.in-Some-strip-2.more.now c.in-Some-strip-2.ensures in
    omega (arith, value, c.skip_blanks-after.ensures.within, c.skip_blanks-rest.ensures.within, comma, skipped-le c.in_ok-item.after.now)

pub read_array-loop-items-preserved : goal.read_array-loop-items-preserved
read_array-loop-items-preserved t c = λ o rest.
    c.loop-items.invariant o (Elements.more_elements c.in_ok-item.ensures.read (rw c.skip_blanks-after.ensures.value at c.in_default-strip.ensures)
    (rw c.skip_blanks-after.ensures.value at c.in-Some-strip-2.ensures) (rw (c.in_ok-push.ensures.ok, c.skip_blanks-rest.ensures.value) at rest))

pub read_object-returns-in-Some-clause-read : goal.read_object-returns-in-Some-clause-read
read_object-returns-in-Some-clause-read t c = rw c.new.ensures (Object.empty_object c.in-Some.ensures)

pub read_object-returns-in_err-key-clause-fault : goal.read_object-returns-in_err-key-clause-fault
read_object-returns-in_err-key-clause-fault t c =
    let p = err_from_is_err_and c.from_residual.result c.from_residual.ensures.1 in
    rw (p.1, p.2) (Stops-weaker _ (λ s. Object c.args.depth c.args.bytes.now (Err s)) _ (λ s h. Object.full_object c.in_default.ensures (c.loop-fields.invariant _ (Members.bad_key h))) c.in_err-key.ensures.fault)

pub read_object-returns-in_err-value-clause-fault :
    goal.read_object-returns-in_err-value-clause-fault
read_object-returns-in_err-value-clause-fault t c =
    let p = err_from_is_err_and c.from_residual-in_err-value.result c.from_residual-in_err-value.ensures.1 in
    rw (p.1, p.2) (Stops-weaker _ (λ s. Object c.args.depth c.args.bytes.now (Err s)) _ (λ s h. Object.full_object c.in_default.ensures (c.loop-fields.invariant _ (Members.bad_member c.in_ok-key.ensures.read h))) c.in_err-value.ensures.fault)

pub read_object-returns-in-Some-strip-clause-read :
    goal.read_object-returns-in-Some-strip-clause-read
read_object-returns-in-Some-strip-clause-read t c =
    rw (c.in_ok-into_pairs.ensures, c.in_ok-fields.ensures) (Object.full_object c.in_default.ensures
    (c.loop-fields.invariant _ (Members.last_member c.in_ok-key.ensures.read c.in_ok-value.ensures.read (rw c.skip_blanks-after.ensures.value at c.in-Some-strip.ensures))))

pub read_object-returns-in_default-strip-2-clause-fault :
    goal.read_object-returns-in_default-strip-2-clause-fault
read_object-returns-in_default-strip-2-clause-fault t c =
    rw c.skip_blanks-after.ensures.value (Object.full_object c.in_default.ensures
    (c.loop-fields.invariant _ (Members.open_object c.in_ok-key.ensures.read c.in_ok-value.ensures.read (rw c.skip_blanks-after.ensures.value at c.in_default-strip.ensures)
    (rw c.skip_blanks-after.ensures.value at c.in_default-strip-2.ensures))))

pub read_object-loop-fields-smaller : goal.read_object-loop-fields-smaller
read_object-loop-fields-smaller t c =
    let key = key_at-within c.loop-fields.rest.now _ c.in_ok-key.ensures.read in
    let value = value-within c.in_ok-value.ensures.read in
    let comma = behind-lt 44 c.skip_blanks-after.result.now c.in-Some-strip-2.more.now c.in-Some-strip-2.ensures in
    omega (arith, key, value, c.skip_blanks-after.ensures.within, c.skip_blanks-rest.ensures.within, comma)

pub read_object-loop-fields-preserved : goal.read_object-loop-fields-preserved
read_object-loop-fields-preserved t c = λ o rest.
    c.loop-fields.invariant o (Members.more_members c.in_ok-key.ensures.read c.in_ok-value.ensures.read (rw c.skip_blanks-after.ensures.value at c.in_default-strip.ensures)
    (rw c.skip_blanks-after.ensures.value at c.in-Some-strip-2.ensures) (rw (c.in_ok-fields.ensures, c.skip_blanks-rest.ensures.value) at rest))

pub read_value-returns-then-depth-ge-MOST_DEEP-clause-fault :
    goal.read_value-returns-then-depth-ge-MOST_DEEP-clause-fault
read_value-returns-then-depth-ge-MOST_DEEP-clause-fault t c = Value.deep_array c.in-Some.ensures (omega arith)

pub read_value-returns-in_err-items-clause-fault :
    goal.read_value-returns-in_err-items-clause-fault
read_value-returns-in_err-items-clause-fault t c =
    let p = err_from_is_err_and c.from_residual.result c.from_residual.ensures.1 in
    let less : c.args.depth < 100 = omega arith in
    rw (p.1, p.2) (Stops-weaker (λ s. Array (c.args.depth + 1) c.skip_blanks.result.now (Err s)) (λ s. Value c.args.depth c.args.bytes.now (Err s)) _ (λ s h. Value.array c.in-Some.ensures less (rw c.skip_blanks.ensures.value at h)) c.in_err-items.ensures.fault)

pub read_value-returns-in-Some-clause-read : goal.read_value-returns-in-Some-clause-read
read_value-returns-in-Some-clause-read t c = Value.array c.in-Some.ensures (omega arith) (rw c.skip_blanks.ensures.value at c.in_ok-items.ensures.read)

pub read_value-returns-then-depth-ge-MOST_DEEP-2-clause-fault :
    goal.read_value-returns-then-depth-ge-MOST_DEEP-2-clause-fault
read_value-returns-then-depth-ge-MOST_DEEP-2-clause-fault t c = Value.deep_object c.in-Some-strip.ensures (omega arith)

pub read_value-returns-in_err-fields-clause-fault :
    goal.read_value-returns-in_err-fields-clause-fault
read_value-returns-in_err-fields-clause-fault t c =
    let p = err_from_is_err_and c.from_residual-in_err-fields.result c.from_residual-in_err-fields.ensures.1 in
    let less : c.args.depth < 100 = omega arith in
    rw (p.1, p.2) (Stops-weaker (λ s. Object (c.args.depth + 1) c.skip_blanks-in-Some-strip.result.now (Err s)) (λ s. Value c.args.depth c.args.bytes.now (Err s)) _ (λ s h. Value.object c.in-Some-strip.ensures less (rw c.skip_blanks-in-Some-strip.ensures.value at h)) c.in_err-fields.ensures.fault)

pub read_value-returns-in-Some-strip-clause-read : goal.read_value-returns-in-Some-strip-clause-read
read_value-returns-in-Some-strip-clause-read t c = Value.object c.in-Some-strip.ensures (omega arith) (rw c.skip_blanks-in-Some-strip.ensures.value at c.in_ok-fields.ensures.read)

pub read_value-returns-clause-read : goal.read_value-returns-clause-read
read_value-returns-clause-read t c =
    IfOk-stops _ _ (λ x. Value c.args.depth c.args.bytes.now (Ok (x.0, x.1.now))) (λ x e. Value.scalar c.in_default.ensures c.in_default-strip.ensures (sym c.if-begins_number.ensures) e) c.read_scalar.ensures.read

pub read_value-returns-clause-fault : goal.read_value-returns-clause-fault
read_value-returns-clause-fault t c =
    IfErr-stops _ _ (λ s. Value c.args.depth c.args.bytes.now (Err s)) (λ s e. Value.scalar c.in_default.ensures c.in_default-strip.ensures (sym c.if-begins_number.ensures) e) c.read_scalar.ensures.fault

pub read_value-returns-in_err-number-clause-fault :
    goal.read_value-returns-in_err-number-clause-fault
read_value-returns-in_err-number-clause-fault t c =
    let p = err_from_is_err_and c.from_residual-in_err-number.result c.from_residual-in_err-number.ensures.1 in
    rw (p.1, p.2) (Stops-from (λ s. Value c.args.depth c.args.bytes.now (Err s)) _ (Value.number (sym c.if-begins_number.ensures) c.in_err-number.ensures.fault))

pub read_value-returns-then-begins_number-clause-read :
    goal.read_value-returns-then-begins_number-clause-read
read_value-returns-then-begins_number-clause-read t c = Value.number (sym c.if-begins_number.ensures) c.in_ok-number.ensures.read
