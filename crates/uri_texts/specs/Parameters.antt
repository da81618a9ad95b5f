-- The parameters of a query.
use Rattle.std.specs.Prelude.{ℕ, List, ◌++◌, codes}

-- a parameter, whose name and value are already escaped
abbrev pub parameter : List ℕ × List ℕ → List ℕ
parameter p = p.0 ++ codes "=" ++ p.1
