-- Where the heads and the lines of a reply end (RFC 9112, sections 2.1, 2.2 and 7.1).
use Rattle.std.specs.Prelude.{ℕ, ◌+◌, ◌&&◌, List, [], ◌∷◌, Option, None, Some, option_map, if◌then◌else◌, ◌==◌, slice_index}
use Rattle.std.specs.Option.{option_or}
use Rattle.httparse.specs.Ascii.{line_feed, carriage_return}

-- the length of the empty line that the bytes begin with, LF or CR LF
abbrev pub empty_line : List ℕ → Option ℕ
empty_line bytes =
    if slice_index bytes 0 == line_feed then Some 1
    else (if slice_index bytes 0 == carriage_return && slice_index bytes 1 == line_feed then Some 2 else None)

-- where the first head ends: after the first line feed that an empty line follows, and that line
abbrev pub head_end : List ℕ → Option ℕ
head_end [] = None
head_end (b ∷ bytes) =
    option_map (λ n. n + 1) (option_or (if b == line_feed then empty_line bytes else None) (head_end bytes))

-- where the first line ends: after its line feed
abbrev pub line_end : List ℕ → Option ℕ
line_end [] = None
line_end (b ∷ bytes) = option_map (λ n. n + 1) (if b == line_feed then Some 0 else line_end bytes)
