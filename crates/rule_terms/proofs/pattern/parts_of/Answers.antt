use Rattle.std.proofs.Common.{◌++◌, List, sym, ap, ◌∙◌, ◌+◌, nat_eq, length, drop}
use Rattle.std.specs.Prelude.{option_map}
use Rattle.std.specs.Str.{chars}
use Rattle.rule_terms.specs.declared.pattern.Part.{Part}
use Rattle.rule_terms.specs.Patterns.{before_hyphen, parts_of}
use Rattle.rule_terms.proofs.Fitting.{part_goes}
use Rattle.rule_terms.proofs.pattern.parts_of.Goals as goal

pub loop-at-preserved : goal.loop-at-preserved
loop-at-preserved c =
    ap (λ ps. option_map (λ (others : List Part). ps ++ others) (parts_of (drop (c.loop-at.at + 1) c.args.pieces.now))) c.in_ok-push.ensures.ok
    ∙ part_goes c.args.pieces.now c.loop-at.at c.index-pieces-at.result (chars c.in-Some.text.now) c.in-Some-2.part c.loop-at.parts (parts_of c.args.pieces.now)
    c.loop-at-test.true c.index-pieces-at.is
    (ap (before_hyphen (nat_eq (c.loop-at.at + 1) (length c.args.pieces.now))) (sym c.as_str.ensures.value) ∙ c.in-Some.ensures)
    (sym c.in_ok-part.ensures ∙ c.in-Some-2.is) c.loop-at.invariant
