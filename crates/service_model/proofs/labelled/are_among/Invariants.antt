use Rattle.std.proofs.Common.{◌≡◌, drop}
use Rattle.std.specs.List.{list_any, list_all}
use Rattle.std.specs.Str.{bytes_eq}
use Rattle.service_model.proofs.labelled.are_among.Given as goal

abbrev pub invariant-loop-text : goal.invariant-loop-text
invariant-loop-text l =
    list_all (λ text. list_any (bytes_eq text) l.names.keys) (drop l.text-index l.texts) ≡ list_all (λ text. list_any (bytes_eq text) l.names.keys) l.fn.texts
