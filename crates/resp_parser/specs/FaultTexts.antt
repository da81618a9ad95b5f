-- What is told of a reply that gives no document.
use Rattle.std.specs.Prelude.{ℕ, List, [], ◌++◌, Option, None, Some, codes}
use Rattle.std.specs.Fmt.{decimal}
use Rattle.resp_parser.specs.declared.fault.ReplyFault.{ReplyFault}
use Rattle.resp_parser.specs.declared.fault.ReplyFault.TheVariants.{Service, BadBody, Compressed, OutOfMemory}
use Rattle.resp_parser.specs.declared.fault.ServiceError.{ServiceError}

-- that all attempts were made, where they were
abbrev pub retries_text : Option ℕ → List ℕ
retries_text None = []
retries_text (Some n) = codes " (reached max retries: " ++ decimal n ++ codes ")"

-- in botocore's words (`ClientError`)
abbrev pub service_text : List ℕ → ServiceError → List ℕ
service_text operation error =
    codes "An error occurred (" ++ error.code ++ codes ") when calling the " ++ operation
    ++ codes " operation" ++ retries_text error.retries ++ codes ": " ++ error.message

abbrev pub fault_text : List ℕ → ReplyFault → List ℕ
fault_text operation (Service error) = service_text operation error
fault_text operation (BadBody path) = codes "Unable to parse response: BadReply"
fault_text operation Compressed = codes "Unable to parse response: Compressed"
fault_text operation OutOfMemory = codes "Out of memory"
