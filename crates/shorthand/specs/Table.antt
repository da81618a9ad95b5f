-- A table of pairs, as the pairs in their order.
use Rattle.std.specs.Prelude.{ℕ, List, map}
use Rattle.texts.specs.declared.pairs.Pair.{Pair}
use Rattle.shorthand.specs.declared.short.Short.{Short}

abbrev pub pairs_of : List (List ℕ × Short) → List (Pair Short)
pairs_of entries = map (λ e. record { key = e.0; value = e.1 }) entries
