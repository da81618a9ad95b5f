use Rattle.std.proofs.Common.{◌≡◌, ◌+◌, ◌++◌, length, take, drop, Some, sym, ap, subst, ◌∙◌}
use Rattle.std.specs.Prelude.{slice_get, IfSome, IfNone}
use Rattle.std.proofs.lemmas.List.{take-append-drop}
use Rattle.texts.specs.Keys.{IsNew}
use Rattle.resp_parser.specs.Inside.{wires_in}
use Rattle.resp_parser.proofs.Wires.{behind-at, found-before, new-in-both}
use Rattle.resp_parser.proofs.values.find_member.Goals as goal

pub returns-in-Some-clause-found : goal.returns-in-Some-clause-found
returns-in-Some-clause-found c =
    let ms = c.args.members.now in
    let front = c.split_at.result.0.now in
    let back = c.split_at.result.1.now in
    let whole : front ++ back ≡ ms = ap (λ xs. xs ++ back) c.split_at.ensures.front ∙ ap (λ xs. take c.cut_at.result ms ++ xs) c.split_at.ensures.back ∙ take-append-drop c.cut_at.result ms in
    ap (λ xs. slice_get (wires_in xs) (length front + c.in-Some.at)) (sym whole) ∙ behind-at front back c.in-Some.at ∙ c.in-Some.ensures.found

pub returns-in-None-clause-found : goal.returns-in-None-clause-found
returns-in-None-clause-found c =
    let ms = c.args.members.now in
    let front = c.split_at.result.0.now in
    let back = c.split_at.result.1.now in
    let whole : front ++ back ≡ ms = ap (λ xs. xs ++ back) c.split_at.ensures.front ∙ ap (λ xs. take c.cut_at.result ms ++ xs) c.split_at.ensures.back ∙ take-append-drop c.cut_at.result ms in
    subst (λ xs. IfSome c.first_member-in-None.result (λ at. slice_get (wires_in xs) at ≡ Some c.args.wire.now)) whole
    (found-before c.args.wire.now front back c.first_member-in-None.result c.first_member-in-None.ensures.found)

pub returns-in-None-clause-none : goal.returns-in-None-clause-none
returns-in-None-clause-none c =
    let ms = c.args.members.now in
    let front = c.split_at.result.0.now in
    let back = c.split_at.result.1.now in
    let whole : front ++ back ≡ ms = ap (λ xs. xs ++ back) c.split_at.ensures.front ∙ ap (λ xs. take c.cut_at.result ms ++ xs) c.split_at.ensures.back ∙ take-append-drop c.cut_at.result ms in
    subst (λ xs. IfNone c.first_member-in-None.result (IsNew c.args.wire.now (wires_in xs))) whole
    (new-in-both c.args.wire.now front back c.first_member-in-None.result c.first_member-in-None.ensures.none c.in-None.ensures.none)
