-- The messages of endings, as they go to standard error.
use Rattle.std.specs.Prelude.{◌≡◌, ◌⊎◌, ℕ, codes, List, [], ◌∷◌, ◌++◌, Option, None, Some, encode_utf8_all}
use Rattle.std.specs.List.{slice_get}
use Rattle.aws_world.specs.declared.link.LinkFault.{LinkFault}
use Rattle.aws_world.specs.declared.link.LinkFault.TheVariants.{Connect, Timeout, Broken}
use Rattle.aws_main.specs.declared.causes.Cause.{Cause}
use Rattle.aws_main.specs.declared.causes.Cause.TheVariants.{Done, NotBuilt, Usage, BadModel, NotAdmitted, FileFault, Lost, OutFault, OutOfMemory}
use Rattle.aws_main.specs.declared.causes.UsageFault.{UsageFault}
use Rattle.aws_main.specs.declared.causes.UsageFault.TheVariants.{UnknownService, UnknownOperation}
use Rattle.service_model.specs.declared.operation.Refusal.{Refusal}
use Rattle.service_model.specs.declared.operation.Refusal.TheVariants.{Protocol, Events, Signature, Checksum, Discovery, JsonValue, BlobOutput, SameArgument}
use Rattle.aws_main.specs.Causes.{GainsFront}

-- an empty line, the text and a line end
abbrev pub message : List ℕ → List ℕ
message text = 10 ∷ text ++ 10 ∷ []

-- the name that is in no model file
abbrev pub unknown_name : UsageFault → List ℕ
unknown_name (UnknownService service) = service
unknown_name (UnknownOperation command) = command

-- what stands before that name: how the program is used, and what is wrong
abbrev pub usage_start : List ℕ
usage_start = codes "usage: aws [settings] SERVICE OPERATION [arguments]" ++ 10 ∷ codes "aws: error: Invalid choice: '"

-- and behind it: an apostrophe and a line end
abbrev pub usage_end : List ℕ
usage_end = 39 ∷ 10 ∷ []

-- the message of a fault at a place of a model file, of which both are given in bytes
abbrev pub bad_model_around : List ℕ → List ℕ → List ℕ
bad_model_around file place = (10 ∷ codes "Invalid model ") ++ (file ++ (codes ": " ++ (place ++ 10 ∷ [])))

-- the reason for which an operation can't be called
abbrev pub refusal_name : Refusal → List ℕ
refusal_name Protocol = codes "Protocol"
refusal_name Events = codes "Events"
refusal_name Signature = codes "Signature"
refusal_name Checksum = codes "Checksum"
refusal_name Discovery = codes "Discovery"
refusal_name JsonValue = codes "JsonValue"
refusal_name BlobOutput = codes "BlobOutput"
refusal_name (SameArgument name) = codes "SameArgument"

abbrev pub lost_text : LinkFault → List ℕ
lost_text Connect = codes "Could not connect to the endpoint URL: "
lost_text Timeout = codes "Read timeout on endpoint URL: "
lost_text Broken = codes "Connection was closed before we received a valid response from endpoint URL: "

-- what stands before the URL in the message of a lost exchange: the text and a quotation mark
abbrev pub lost_start : LinkFault → List ℕ
lost_start fault = 10 ∷ lost_text fault ++ 34 ∷ []

-- and behind it: the path of the request, a quotation mark and a line end
abbrev pub lost_end : List ℕ
lost_end = 47 ∷ 34 ∷ 10 ∷ []

-- the message of a cause, in characters, where the line's endpoint is this URL
abbrev pub message_text : List ℕ → Cause → List ℕ
message_text url Done = []
message_text url NotBuilt = message (codes "Operation not supported: NotBuilt")
message_text url (Usage fault) = usage_start ++ (unknown_name fault ++ usage_end)
message_text url (BadModel file place) = message (codes "Invalid model " ++ (file ++ (codes ": " ++ place)))
message_text url (NotAdmitted refusal) = message (codes "Operation not supported: " ++ refusal_name refusal)
message_text url (FileFault path) = message (codes "Error reading " ++ path)
message_text url (Lost fault) = lost_start fault ++ (url ++ lost_end)
message_text url OutFault = message (codes "Error writing output")
message_text url OutOfMemory = message (codes "Out of memory")

-- a text that is there, or else the empty one
abbrev pub text_or_empty : Option (List ℕ) → List ℕ
text_or_empty None = []
text_or_empty (Some text) = text

-- the URL of a line's endpoint, which is its fifth word
abbrev pub url_of : List (List ℕ) → List ℕ
url_of words = text_or_empty (slice_get words 4)

-- the message of a line's ending, in bytes
abbrev pub message_bytes : List (List ℕ) → Cause → List ℕ
message_bytes words cause = encode_utf8_all (message_text (url_of words) cause)

-- the message was put at the end, or a front of it where the sink failed
abbrev pub Says : Type 0 → List ℕ → List ℕ → List ℕ → Type 0
Says has_failed bytes before after = (after ≡ before ++ bytes) ⊎ (has_failed × GainsFront bytes before after)
