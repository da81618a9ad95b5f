-- What stands in a parameter of the query stays in its place.
use Rattle.std.proofs.Common.{◌≡◌, ℕ, true, false, List, subst}
use Rattle.std.specs.Prelude.{Ok, encode_utf8_all}
use Rattle.std.specs.List.{list_all}
use Rattle.aws_world.specs.declared.message.Message.{Message}
use Rattle.endpoint_rules.specs.declared.endpoint.Endpoint.{Endpoint}
use Rattle.service_model.specs.declared.model.Table.{Table}
use Rattle.service_model.specs.declared.operation.Operation.{Operation}
use Rattle.typed_value.specs.declared.typed.Typed.{Typed}
use Rattle.uri_texts.specs.declared.escapes.Slashes.TheVariants.{Escaped}
use Rattle.uri_texts.specs.Escapes.{escaped}
use Rattle.serializer.specs.Laws.{stays_in_place, stay_in_place}
use Rattle.serializer.specs.Messages.{asked_of, host_of, headers_due, message_with, encoded}
use Rattle.serializer.proofs.CleanHeaders.{then_ok, ok_same}
use Rattle.serializer.proofs.PathLabels.{bytes_stay}
use Rattle.serializer.proofs.QueryTexts.{query_stays}

escaped_stays : (text : List ℕ) → list_all (stays_in_place false) (escaped Escaped text) ≡ true
escaped_stays text = bytes_stay false (encode_utf8_all text)

pub parameters_stay : (table : Table) (op : Operation) (value : Typed) (e : Endpoint) (m : Message) → encoded table op value e ≡ Ok m
    → stay_in_place m.query ≡ true
parameters_stay table op value e m is =
    let asked = asked_of table op value in
    let made = then_ok (headers_due asked (host_of asked e)) (λ hs. Ok (message_with asked e hs)) m is in
    subst (λ (n : Message). stay_in_place n.query ≡ true) (ok_same (message_with asked e made.0) m made.1.1) (query_stays (stays_in_place false) escaped_stays asked)
