-- What the words of a line ask for. A word is judged by its bytes in UTF-8.
use Rattle.std.specs.Prelude.{◌≡◌, ℕ, Bool, not, ◌&&◌, ◌||◌, List, [], ◌∷◌, length, drop, nat_eq, nat_lt, ◌==◌, if◌then◌else◌, slice_index, codes, encode_utf8_all, Option, Some, None, option_map, option_and_then, Result, Ok, Err}
use Rattle.std.specs.Char.{is_ascii_digit}
use Rattle.std.specs.Int.{is_in_range}
use Rattle.std.specs.List.{list_all, starts_with, before_first, after_first}
use Rattle.std.specs.Str.{bytes_eq, chars}
use Rattle.std.specs.Str.Parse.{digits_value}
use Rattle.aws_world.specs.declared.message.Target.{Target}
use Rattle.aws_main.specs.declared.asking.Asked.{Asked}
use Rattle.aws_main.specs.declared.causes.Unbuilt.{Unbuilt}
use Rattle.aws_main.specs.declared.causes.Unbuilt.TheVariants.{NotBuilt, OutOfMemory}

-- a word is an option: `--` and more
abbrev pub is_option_word : List ℕ → Bool
is_option_word word = starts_with nat_eq word (codes "--") && nat_lt 2 (length word)

-- digits of which the first is not 0
abbrev pub is_plain_number : List ℕ → Bool
is_plain_number digits = is_in_range 49 57 (slice_index digits 0) && list_all is_ascii_digit digits

-- a number of at most 65535 that is not 80
abbrev pub is_allowed_port : ℕ → Bool
is_allowed_port port = nat_lt port 65536 && not (port == 80)

abbrev pub is_port : List ℕ → Bool
is_port digits = is_plain_number digits && is_allowed_port (digits_value 10 digits)

abbrev pub port_of : List ℕ → Option ℕ
port_of digits = if is_port digits then Some (digits_value 10 digits) else None

-- what comes after a front, where the bytes begin with it
abbrev pub after_front : List ℕ → List ℕ → Option (List ℕ)
after_front front bytes = if starts_with nat_eq bytes front then Some (drop (length front) bytes) else None

abbrev pub is_this_machine : List ℕ → Bool
is_this_machine host = bytes_eq host (codes "127.0.0.1") || bytes_eq host (codes "localhost")

abbrev pub is_colon : ℕ → Bool
is_colon b = b == 58

-- the text HOST:P, and the host and the port in it
abbrev pub named : List ℕ → List ℕ → ℕ → List ℕ × Target
named authority host port = (chars authority, record { host = chars host; port = port })

-- what HOST:P names, where HOST is this machine and P a port
abbrev pub named_by : List ℕ → Option (List ℕ × Target)
named_by authority =
    if is_this_machine (before_first is_colon authority)
    then option_map (named authority (before_first is_colon authority)) (port_of (after_first is_colon authority))
    else None

-- what http://HOST:P names
abbrev pub address_of : List ℕ → Option (List ℕ × Target)
address_of url = option_and_then named_by (after_front (codes "http://") url)

abbrev pub asked_at : List ℕ → List ℕ → List ℕ × Target → Asked
asked_at service command address = record { service = service; command = command; target = address.1; host = address.0 }

-- what SERVICE OPERATION and URL ask for, of which the first two are no options
abbrev pub call_of : List ℕ → List ℕ → List ℕ → Option Asked
call_of service command url =
    if is_option_word (encode_utf8_all service) || is_option_word (encode_utf8_all command)
    then None
    else option_map (asked_at service command) (address_of (encode_utf8_all url))

-- SERVICE OPERATION --no-sign-request --endpoint-url URL, and nothing else
abbrev pub asked_of : List (List ℕ) → Option Asked
asked_of (service ∷ command ∷ unsigned ∷ endpoint ∷ url ∷ []) =
    if bytes_eq unsigned (codes "--no-sign-request") && bytes_eq endpoint (codes "--endpoint-url")
    then call_of service command url
    else None
asked_of words = None

-- an answer gives the value that is due, and is NotBuilt only where none is
abbrev pub Gives : {T : Type 0} → Option T → Result T Unbuilt → Type 0
Gives due (Ok value) = due ≡ Some value
Gives due (Err NotBuilt) = due ≡ None
Gives due (Err OutOfMemory) = Unit {0}
