use Rattle.std.proofs.Common.{◌≡◌, ℕ, List, [], ◌∷◌, ◌++◌, map, sym, ap, ◌∙◌, lit<}
use Rattle.std.specs.Prelude.{flat_map}
use Rattle.std.proofs.lemmas.Iterator.Consumers.{YieldsList-at, YieldsList-end}
use Rattle.std.proofs.lemmas.Iterator.Splits.{YieldsList-from_str_split}
use Rattle.std.proofs.lemmas.List.{map_push, append-nil}
use Rattle.std.proofs.lemmas.List.Concat.{flat_map-append}
use Rattle.model_store.specs.Folders.{part_of}
use Rattle.model_store.proofs.folders.parts.Goals as goal

one_more : (parts more : List (List ℕ)) (part : List ℕ) (before after : List (List ℕ)) → more ≡ parts ++ part ∷ [] → before ≡ flat_map part_of parts
    → after ≡ before ++ part_of part → after ≡ flat_map part_of more
one_more parts more part before after grown made put =
    put ∙ ap (λ n. n ++ part_of part) made ∙ ap (λ n. flat_map part_of parts ++ n) (sym (append-nil (part_of part)))
    ∙ sym (flat_map-append part_of parts (part ∷ [])) ∙ ap (flat_map part_of) (sym grown)

pub loop-part-preserved : goal.loop-part-preserved
loop-part-preserved c =
    one_more (map (λ part. part.now) c.loop-part.yielded) _ c.in-Some.part.now c.loop-part.made c.push_part.new.made
    (map_push (λ part. part.now) c.loop-part.yielded c.in-Some.part) c.loop-part.invariant c.in_ok-push_part.ensures

pub returns : goal.returns
returns c =
    let end = YieldsList-end
    (YieldsList-at c.into_iter-part-iterator.ensures.into_iter_gives
    (YieldsList-from_str_split 58 c.args.text.now (lit< tt) c.split-part-items.ensures.text c.split-part-items.ensures.has_more c.split-part-items.ensures.pattern))
    c.loop-part.yielded _ c.loop-part.yielded_by _ _ c.in-None.is c.next.ensures.steps in
    c.loop-part.invariant ∙ ap (flat_map part_of) end.0
