-- Elements of a list by their places ("Index Expressions", "Slices", which count as Python does).
use Rattle.std.specs.Prelude.{ℕ, zero, suc, ◌+◌, ◌-◌, nat_le, min, if◌then◌else◌, List, [], ◌∷◌, length, take, drop, reverse, slice_get, Option, None}
use Rattle.std.specs.Option.{option_map_or}
use Rattle.json_doc.specs.declared.doc.Doc.{Doc}
use Rattle.jmes_syntax.specs.declared.expr.Slice.{Slice}
use Rattle.jmes_syntax.specs.declared.whole.Whole.{Whole}

-- the element at a place; a negative one counts from the end
abbrev pub element_at : Whole → List Doc → Option Doc
element_at n ds = if n.is_negative
    then (if nat_le n.magnitude (length ds) then slice_get ds (length ds - n.magnitude) else None)
    else slice_get ds n.magnitude

-- a place in a list of this length, cut to its bounds
abbrev pub place_of : ℕ → Whole → ℕ
place_of len n = if n.is_negative then len - n.magnitude else min n.magnitude len

-- how many elements stand up to a place and at it, cut to the bounds
abbrev pub places_to : ℕ → Whole → ℕ
places_to len n = if n.is_negative then len - (n.magnitude - 1) else min (n.magnitude + 1) len

-- the first element behind so many, and then each one so many further
abbrev pub every : {A : Type 0} → ℕ → ℕ → List A → List A
every step skipped [] = []
every step zero (x ∷ xs) = x ∷ every step (step - 1) xs
every step (suc skipped) (x ∷ xs) = every step skipped xs

abbrev pub between : {A : Type 0} → ℕ → ℕ → List A → List A
between from to xs = drop from (take to xs)

-- from `start` to before `stop`; backwards where the step is negative
abbrev pub sliced : {A : Type 0} → Slice → List A → List A
sliced s xs = if s.step.is_negative
    then every s.step.magnitude 0 (reverse (between
    (option_map_or (places_to (length xs)) s.stop 0)
    (option_map_or (places_to (length xs)) s.start (length xs)) xs))
    else every s.step.magnitude 0 (between
    (option_map_or (place_of (length xs)) s.start 0)
    (option_map_or (place_of (length xs)) s.stop (length xs)) xs)
