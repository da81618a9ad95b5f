-- URLs by the URL Standard: those of endpoints, and the object that rules see of one.
use Rattle.std.specs.Prelude.{ℕ, ◌&&◌, Bool, true, false, not, nat_eq, if◌then◌else◌, List, [], ◌∷◌, ◌++◌, Option, None, Some, is_some, option_map, option_and_then, unwrap_or, Result, Ok, Err, codes, bytes_eq, encode_utf8_all}
use Rattle.std.specs.List.{ends_with}
use Rattle.std.specs.Str.{chars}
use Rattle.json_doc.specs.declared.doc.Doc.{Doc}
use Rattle.json_doc.specs.declared.doc.Doc.TheVariants as doc
use Rattle.url.specs.declared.host.Host.{Host}
use Rattle.url.specs.declared.host.Host.TheVariants.{Domain, Ipv4, Ipv6}
use Rattle.url.specs.declared.slicing.Position.TheVariants.{BeforeUsername, AfterPort}
use Rattle.url.specs.Host.{host_text}
use Rattle.url.specs.Input.{is_empty}
use Rattle.url.specs.Parser.{parse_url}
use Rattle.url.specs.Parts.{Parts, nonempty_host, text_between}
use Rattle.endpoint_rules.specs.declared.endpoint.Endpoint.{Endpoint}
use Rattle.endpoint_rules.specs.declared.endpoint.Scheme.{Scheme}
use Rattle.endpoint_rules.specs.declared.endpoint.Scheme.TheVariants.{Http, Https}
use Rattle.endpoint_rules.specs.declared.fault.EndpointFault.{EndpointFault}
use Rattle.endpoint_rules.specs.declared.fault.EndpointFault.TheVariants.{BadUrl}
use Rattle.endpoint_rules.specs.Arns.{pair_of}

abbrev pub scheme_of : Parts → Option Scheme
scheme_of url =
    if bytes_eq url.scheme (codes "http") then Some Http else
    if bytes_eq url.scheme (codes "https") then Some Https else None

abbrev pub usual_port : Scheme → ℕ
usual_port Http = 80
usual_port Https = 443

abbrev pub has_no_user : Parts → Bool
has_no_user url = is_empty url.username && is_empty url.password

-- neither a query nor a fragment stands there, not even an empty one
abbrev pub has_no_tail : Parts → Bool
has_no_tail url = not (is_some url.query) && not (is_some url.fragment)

abbrev pub parsed_url : List ℕ → Option Parts
parsed_url bytes = elim (parse_url None bytes) [ Ok url ↦ Some url | Err fault ↦ None ]

abbrev pub web_only : Parts → Option Parts
web_only url = if is_some (scheme_of url) && has_no_tail url then Some url else None

-- the http or https URL without a query and a fragment that bytes are, if they are one
abbrev pub web_url : List ℕ → Option Parts
web_url bytes = option_and_then web_only (parsed_url bytes)

abbrev pub endpoint_at : Scheme → Parts → Endpoint
endpoint_at scheme url = record {
  scheme = scheme;
  host = chars (unwrap_or (option_map host_text (nonempty_host url)) []);
  port = unwrap_or url.port (usual_port scheme);
  path = chars url.path;
  signing_name = None;
  signing_region = None;
}

abbrev pub endpoint_in : Parts → Option Endpoint
endpoint_in url = if has_no_user url then option_map (λ scheme. endpoint_at scheme url) (scheme_of url) else None

abbrev pub or_bad_url : Option Endpoint → Result Endpoint EndpointFault
or_bad_url None = Err BadUrl
or_bad_url (Some endpoint) = Ok endpoint

-- the endpoint at a URL, which has no user, no query and no fragment
abbrev pub endpoint_of : List ℕ → Result Endpoint EndpointFault
endpoint_of text = or_bad_url (option_and_then endpoint_in (web_url (encode_utf8_all text)))

-- a path with a slash at its end
abbrev pub slashed : List ℕ → List ℕ
slashed path = if ends_with nat_eq path (codes "/") then path else path ++ codes "/"

abbrev pub is_ip : Option (Host (List ℕ)) → Bool
is_ip None = false
is_ip (Some (Domain domain)) = false
is_ip (Some (Ipv4 address)) = true
is_ip (Some (Ipv6 address)) = true

-- the host is an IP address
abbrev pub is_address : Parts → Bool
is_address url = is_ip (nonempty_host url)

abbrev pub object_of : Parts → Doc
object_of url = doc.Fields
    (pair_of (codes "scheme") (doc.Str (chars url.scheme))
    ∷ pair_of (codes "authority") (doc.Str (chars (text_between url BeforeUsername AfterPort)))
    ∷ pair_of (codes "path") (doc.Str (chars url.path))
    ∷ pair_of (codes "normalizedPath") (doc.Str (chars (slashed url.path)))
    ∷ pair_of (codes "isIp") (doc.Flag (is_address url)) ∷ [])

-- `parseURL`: "Computes a URL object given an input string. [..] If the URL given contains a query portion, the
-- URL must be rejected".
abbrev pub url_value : List ℕ → Doc
url_value bytes = unwrap_or (option_map object_of (web_url bytes)) doc.Null
