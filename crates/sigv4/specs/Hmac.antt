-- HMAC with SHA-256: RFC 2104, section 2, over the function of FIPS 180-4, whose blocks have 64 bytes.
use Rattle.std.specs.Prelude.{ℕ, ◌-◌, List, ◌++◌, length, map, replicate, nat_lt, if◌then◌else◌, bit_xor}
use Rattle.sha2.specs.Sha256.{sha256}

-- the key with zeros behind it, up to a block
abbrev pub padded : List ℕ → List ℕ
padded key = key ++ replicate (64 - length key) 0

-- the key as a block, where a key that is longer is hashed first
abbrev pub key_block : List ℕ → List ℕ
key_block key = padded (if nat_lt 64 (length key) then sha256 key else key)

-- each byte with the bits of the mask turned over
abbrev pub masked : ℕ → List ℕ → List ℕ
masked mask block = map (λ b. bit_xor b mask) block

-- the keyed hash of a text of bytes
abbrev pub hmac_of : List ℕ → List ℕ → List ℕ
hmac_of key text = sha256 (masked 0x5c (key_block key) ++ sha256 (masked 0x36 (key_block key) ++ text))
