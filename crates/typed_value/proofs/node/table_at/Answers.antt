use Rattle.std.proofs.Common.{◌≡◌, ◌-◌, ◌∷◌, List, length, take, drop, sym, subst, ◌∙◌, arith}
use Rattle.std.proofs.lemmas.List.{take_rest}
use Rattle.typed_value.specs.declared.typed.Typed.{Typed}
use Rattle.typed_value.specs.Tables.{AreNodes, count_of}
use Rattle.typed_value.proofs.Tables.{head-count, no-head, table-within, part-own, part-others}
use Rattle.typed_value.proofs.node.table_at.Goals as goal
use Rattle.typed_value.proofs.node.table_at.Goals.{Joined-first, in-Some, in_default-2, in_default}

-- the part is as long as the value has nodes
own_size : (c : Joined-first) (v : Typed) (vs : List Typed) → AreNodes (drop c.args.start c.args.nodes.now) (v ∷ vs) → c.match-first.size ≡ count_of v
own_size c v vs h =
    let nodes = c.args.nodes.now in
    let start = c.args.start in
    let rest = take (length nodes - start) (drop start nodes) in
    let k : AreNodes rest (v ∷ vs) = subst (λ ns. AreNodes ns (v ∷ vs)) (sym (take_rest nodes start)) h in
    elim c.match-first.branch [
      | in-Some w ↦ w.size-is ∙ head-count rest w.in-Some.node.now v vs w.in-Some.ensures.value k
      | in_default-2 w ↦ absurd (omega (arith, head-count rest w.in-Some.node.now v vs w.in-Some.ensures.value k, table-within rest v vs k))
      | in_default w ↦ absurd (no-head rest v vs (rw w.in_default.is at c.first.ensures.value) k)
    ]

pub returns-clause-own : goal.returns-clause-own
returns-clause-own c = λ v vs h. part-own c.args.nodes.now c.args.start c.match-first.size v vs h (own_size c v vs h)

pub returns-clause-others : goal.returns-clause-others
returns-clause-others c = λ v vs h. part-others c.args.nodes.now c.args.start c.match-first.size v vs h (own_size c v vs h)
