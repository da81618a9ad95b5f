-- Marks, as they are spelled.
use Rattle.std.specs.Prelude.{ℕ, ◌==◌, ◌&&◌, if◌then◌else◌, Option, None, Some}
use Rattle.jmes_syntax.specs.declared.token.Mark.{Mark}
use Rattle.jmes_syntax.specs.declared.token.Mark.TheVariants as mark

-- && || [] [? == != <= >=
abbrev pub double_mark : ℕ → ℕ → Option Mark
double_mark b c =
    if b == 0x26 && c == 0x26 then Some mark.And else
    (if b == 0x7C && c == 0x7C then Some mark.Or else
    (if b == 0x5B && c == 0x5D then Some mark.Flatten else
    (if b == 0x5B && c == 0x3F then Some mark.OpenFilter else
    (if b == 0x3D && c == 0x3D then Some mark.Equal else
    (if b == 0x21 && c == 0x3D then Some mark.NotEqual else
    (if b == 0x3C && c == 0x3D then Some mark.LessOrEqual else
    (if b == 0x3E && c == 0x3D then Some mark.GreaterOrEqual else None)))))))

-- . , : * @ & ! | ( ) [ ] { } < >
abbrev pub single_mark : ℕ → Option Mark
single_mark b =
    if b == 0x2E then Some mark.Dot else
    (if b == 0x2C then Some mark.Comma else
    (if b == 0x3A then Some mark.Colon else
    (if b == 0x2A then Some mark.Star else
    (if b == 0x40 then Some mark.Current else
    (if b == 0x26 then Some mark.Expref else
    (if b == 0x21 then Some mark.Not else
    (if b == 0x7C then Some mark.Pipe else
    (if b == 0x28 then Some mark.OpenGroup else
    (if b == 0x29 then Some mark.CloseGroup else
    (if b == 0x5B then Some mark.OpenBracket else
    (if b == 0x5D then Some mark.CloseBracket else
    (if b == 0x7B then Some mark.OpenBrace else
    (if b == 0x7D then Some mark.CloseBrace else
    (if b == 0x3C then Some mark.Less else
    (if b == 0x3E then Some mark.Greater else None)))))))))))))))
