-- The signature: AWS's "Create a signed AWS API request", steps 2 to 5.
use Rattle.std.specs.Prelude.{◌≡◌, ℕ, ℤ, unsigned_abs, List, [], ◌∷◌, ◌++◌, Option, Some, None, codes, encode_utf8_all}
use Rattle.sha2.specs.Sha256.{sha256}
use Rattle.hex.specs.Hex.{encode_lower}
use Rattle.aws_world.specs.declared.message.Message.{Message}
use Rattle.sigv4.specs.declared.signer.Signer.{Signer}
use Rattle.sigv4.specs.Hmac.{hmac_of}
use Rattle.sigv4.specs.Line.{line}
use Rattle.time_texts.specs.Texts.{basic_date, basic_text}
use Rattle.sigv4.specs.Parameters.{IsSortedQuery}
use Rattle.sigv4.specs.Headers.{canonical_headers, AreSignedNames, signed_headers}
use Rattle.sigv4.specs.Canonical.{canonical_request}

-- a message with more headers behind its own
abbrev pub with_headers : Message → List (List ℕ × List ℕ) → Message
with_headers m more = record m { headers = m.headers ++ more }

abbrev pub token_header : Option (List ℕ) → List (List ℕ × List ℕ)
token_header None = []
token_header (Some token) = (codes "X-Amz-Security-Token", token) ∷ []

-- the moment, and the session's token where there is a session
abbrev pub stamp : Signer → ℕ → List (List ℕ × List ℕ)
stamp signer seconds = (codes "X-Amz-Date", basic_text seconds) ∷ token_header signer.session

-- the message with its moment and the session's token
abbrev pub stamped : Message → Signer → ℕ → Message
stamped m signer seconds = with_headers m (stamp signer seconds)

-- the credential scope: date, region, service and a fixed end
abbrev pub scope_of : Signer → ℕ → List ℕ
scope_of signer seconds =
    basic_date seconds ++ codes "/" ++ signer.region ++ codes "/" ++ signer.service ++ codes "/aws4_request"

-- step 3
abbrev pub string_to_sign : Signer → ℕ → List ℕ → List ℕ
string_to_sign signer seconds request =
    line (codes "AWS4-HMAC-SHA256") ++ line (basic_text seconds) ++ line (scope_of signer seconds)
    ++ encode_lower (sha256 (encode_utf8_all request))

-- the keyed hash of a text, by its bytes in UTF-8
abbrev pub keyed : List ℕ → List ℕ → List ℕ
keyed key text = hmac_of key (encode_utf8_all text)

-- step 4, from the secret over date, region and service
abbrev pub signing_key : Signer → ℕ → List ℕ
signing_key signer seconds =
    let dated = keyed (encode_utf8_all (codes "AWS4" ++ signer.secret)) (basic_date seconds) in
    let regional = keyed dated signer.region in
    let serving = keyed regional signer.service in
    hmac_of serving (codes "aws4_request")

-- the signature of a canonical request
abbrev pub signature_of : Signer → ℕ → List ℕ → List ℕ
signature_of signer seconds request =
    encode_lower (keyed (signing_key signer seconds) (string_to_sign signer seconds request))

-- the value of `Authorization`
abbrev pub authorization_of : Signer → ℕ → List (List ℕ) → List ℕ → List ℕ
authorization_of signer seconds names signature =
    codes "AWS4-HMAC-SHA256 Credential=" ++ signer.access ++ codes "/" ++ scope_of signer seconds
    ++ codes ", SignedHeaders=" ++ signed_headers names ++ codes ", Signature=" ++ signature

-- a message with its signature in `Authorization`, over a sorted query and names
abbrev pub authorized : Signer → ℕ → Message → List (List ℕ × List ℕ) → List (List ℕ) → Message
authorized signer seconds m query names =
    with_headers m
    ((codes "Authorization", authorization_of signer seconds names (signature_of signer seconds (canonical_request m query names)))
    ∷ [])

-- the message as it is signed so many seconds after 1970 begins
pub record IsSignedAt (message : Message) (signer : Signer) (seconds : ℕ) (signed : Message) : Type 0 where
  pub query : List (List ℕ × List ℕ)
  pub names : List (List ℕ)
  pub query_is : IsSortedQuery message.query query
  pub names_are : AreSignedNames (canonical_headers (stamped message signer seconds).headers) names
  pub signed_is : signed ≡ authorized signer seconds (stamped message signer seconds) query names

-- the same, of a number that may be negative elsewhere
abbrev pub IsSigned : Message → Signer → ℤ → Message → Type 0
IsSigned message signer now signed = IsSignedAt message signer (unsigned_abs now) signed
