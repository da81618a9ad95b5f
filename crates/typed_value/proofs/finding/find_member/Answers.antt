use Rattle.std.proofs.Common.{◌≡◌, None, Some, take, drop, sym, ap, subst, ◌∙◌}
use Rattle.std.proofs.lemmas.List.{take-append-drop}
use Rattle.service_model.specs.Shapes.{names_in}
use Rattle.texts.specs.Keys.{IsDistinct}
use Rattle.typed_value.specs.Places.{member_named}
use Rattle.typed_value.proofs.Named.{named-behind, named-before}
use Rattle.typed_value.proofs.finding.find_member.Goals as goal

pub returns-in-Some : goal.returns-in-Some
returns-in-Some c =
    let ms = c.args.members.now in
    let name = c.args.name.now in
    let cut = c.cut_at.result in
    let m = c.in-Some.member.now in
    let whole = take-append-drop cut ms in
    let distinct = subst (λ xs. IsDistinct (names_in xs)) (sym whole) c.requires in
    let found = subst (λ xs. member_named name xs ≡ Some m) c.split_at.ensures.back c.in-Some.ensures.first in
    subst (λ xs. member_named name xs ≡ Some m) whole (named-behind name (take cut ms) (drop cut ms) m distinct found)

pub returns-in-None : goal.returns-in-None
returns-in-None c =
    let ms = c.args.members.now in
    let name = c.args.name.now in
    let cut = c.cut_at.result in
    let none = subst (λ xs. member_named name xs ≡ None) c.split_at.ensures.back c.in-None.ensures.first in
    let same = ap (member_named name) (sym (take-append-drop cut ms)) ∙ named-before name (take cut ms) (drop cut ms) none ∙ ap (member_named name) (sym c.split_at.ensures.front) in
    rw same c.first_member-in-None.ensures.first
