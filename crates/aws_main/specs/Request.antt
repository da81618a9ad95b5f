-- The request of an operation without input, by the protocol `json`.
use Rattle.std.specs.Prelude.{ℕ, codes, List, [], ◌∷◌, ◌++◌}
use Rattle.aws_world.specs.declared.message.Message.{Message}
use Rattle.aws_main.specs.declared.asking.Asked.{Asked}
use Rattle.aws_main.specs.declared.plain_operations.PlainOperation.{PlainOperation}

-- the operation as the service names it
abbrev pub target_of : PlainOperation → List ℕ
target_of operation = operation.target_prefix ++ codes "." ++ operation.name

abbrev pub content_type_of : PlainOperation → List ℕ
content_type_of operation = codes "application/x-amz-json-" ++ operation.json_version

abbrev pub headers_of : Asked → PlainOperation → List (List ℕ × List ℕ)
headers_of asked operation =
    (codes "Host", asked.host) ∷ (codes "X-Amz-Target", target_of operation) ∷ (codes "Content-Type", content_type_of operation) ∷ []

abbrev pub message_of : Asked → PlainOperation → Message
message_of asked operation = record {
  method = codes "POST";
  host = asked.host;
  path = codes "/";
  query = [];
  headers = headers_of asked operation;
  body = codes "{}";
}
