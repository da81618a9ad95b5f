-- What is behind a token is shorter, and where the tokens of a text stand.
use Rattle.std.proofs.Common.{◌≡◌, ℕ, zero, suc, ◌-◌, ◌==◌, ◌||◌, ◌<◌, ◌≤◌, Bool, true, false, if◌then◌else◌, List, [], ◌∷◌, length, take, drop, slice_index, Option, Some, None, refl, subst, arith, length-drop}
use Rattle.std.specs.Char.{is_ascii_digit}
use Rattle.std.specs.Int.{is_in_range}
use Rattle.std.specs.List.{prefix_len}
use Rattle.std.specs.Str.Parse.{digits_value}
use Rattle.std.proofs.lemmas.List.Sums.{prefix_len-le-length}
use Rattle.json_doc.proofs.Shorter.{skipped-le}
use Rattle.json_doc.specs.Scan.{skipped}
use Rattle.jmes_syntax.specs.declared.delimited.Quote.{Quote}
use Rattle.jmes_syntax.specs.declared.delimited.Quote.TheVariants as quote
use Rattle.jmes_syntax.specs.declared.lexer.Kind.TheVariants as kind
use Rattle.jmes_syntax.specs.declared.token.Token.{Token}
use Rattle.jmes_syntax.specs.declared.token.Token.TheVariants as token
use Rattle.jmes_syntax.specs.Delimited.{quote_byte, pair_of, fronted, delimited}
use Rattle.jmes_syntax.specs.Lexing.{kind_of, kind_at, double_at, mark_at, tokened, DelimitedAt, TokenAt, Lexes}
use Rattle.jmes_syntax.specs.Marks.{single_mark, double_mark}
use Rattle.jmes_syntax.specs.Numbers.{whole_of, signed_at, digits_at, number_at}
use Rattle.jmes_syntax.specs.Reading.{followed, or_else}
use Rattle.jmes_syntax.specs.Scans.{left_at}
use Rattle.jmes_syntax.specs.Words.{begins_name, is_name_byte, name_len}

-- what is behind it is shorter than n bytes
abbrev pub Below : {A : Type 0} → ℕ → Option (A × List ℕ) → Type 0
Below n None = Unit {0}
Below n (Some x) = length x.1 < n

pub below-at : {A : Type 0} (n : ℕ) (o : Option (A × List ℕ)) (x : A) (rest : List ℕ) → Below n o → o ≡ Some (x, rest) → length rest < n
below-at n None x rest h e = absurd cc
below-at n (Some y) x rest h e = let same : y.1 ≡ rest = cc in subst (λ bs. length bs < n) same h

more-below : {A : Type 0} (n m : ℕ) (o : Option (A × List ℕ)) → n ≤ m → Below n o → Below m o
more-below n m None le h = tt
more-below n m (Some x) le h = omega arith

fronted-below : (n : ℕ) (front : List ℕ) (o : Option (List ℕ × List ℕ)) → Below n o → Below n (fronted front o)
fronted-below n front None h = tt
fronted-below n front (Some x) h = h

pub delimited-below : (q : Quote) (in_pair : Bool) (bs : List ℕ) → Below (length bs) (delimited q in_pair bs)
delimited-below q in_pair [] = tt
delimited-below q true (b ∷ bs) = more-below (length bs) (length (b ∷ bs)) _ (omega arith) (fronted-below (length bs) (pair_of q b) (delimited q false bs) (delimited-below q false bs))
delimited-below q false (b ∷ bs) =
    elim (b == quote_byte q) as (λ v. Below (length (b ∷ bs)) (if v then Some ([], bs) else (if b == 0x5C then delimited q true bs else fronted (b ∷ []) (delimited q false bs)))) [
      | true ↦ omega arith
      | false ↦ elim (b == 0x5C) as (λ v. Below (length (b ∷ bs)) (if v then delimited q true bs else fronted (b ∷ []) (delimited q false bs))) [
        | true ↦ more-below (length bs) (length (b ∷ bs)) _ (omega arith) (delimited-below q true bs)
        | false ↦ more-below (length bs) (length (b ∷ bs)) _ (omega arith) (fronted-below (length bs) (b ∷ []) (delimited q false bs) (delimited-below q false bs))
      ]
    ]

signed_at-le : (bs : List ℕ) → length (signed_at bs).1 ≤ length bs
signed_at-le bs =
    elim (slice_index bs 0 == 0x2D) as (λ v. let x : Bool × List ℕ = (if v then (true, drop 1 bs) else (false, bs)) in length x.1 ≤ length bs)
    [ true ↦ omega (arith, length-drop 1 bs) | false ↦ omega arith ]

followed-below : {A : Type 0} (n : ℕ) (o : Option A) (rest : List ℕ) → length rest < n → Below n (followed o rest)
followed-below n None rest h = tt
followed-below n (Some x) rest h = h

digits_at-below : (is_negative : Bool) (bs : List ℕ) → Below (length bs) (digits_at is_negative bs)
digits_at-below is_negative bs =
    let n = prefix_len is_ascii_digit bs in
    elim (n == 0) as (λ v. n == 0 ≡ v → Below (length bs) (if v then None else followed (whole_of is_negative (digits_value 10 (take n bs))) (drop n bs))) [
      | true ↦ (λ e. tt)
      | false ↦ (λ e. followed-below (length bs) (whole_of is_negative (digits_value 10 (take n bs))) (drop n bs) (grind (arith, length-drop n bs, prefix_len-le-length is_ascii_digit bs, e)))
    ] refl

number_at-below : (bs : List ℕ) → Below (length bs) (number_at bs)
number_at-below bs = more-below (length (signed_at bs).1) (length bs) (number_at bs) (signed_at-le bs) (digits_at-below (signed_at bs).0 (signed_at bs).1)

or_else-below : {A : Type 0} (n : ℕ) (o p : Option (A × List ℕ)) → Below n o → Below n p → Below n (or_else o p)
or_else-below n None p h k = k
or_else-below n (Some x) p h k = h

double_at-below : (b : ℕ) (bs : List ℕ) → Below (length (b ∷ bs)) (double_at b bs)
double_at-below b [] = tt
double_at-below b (c ∷ cs) = followed-below (length (b ∷ c ∷ cs)) (double_mark b c) cs (omega arith)

mark_at-below : (bs : List ℕ) → Below (length bs) (mark_at bs)
mark_at-below [] = tt
mark_at-below (b ∷ bs) = or_else-below (length (b ∷ bs)) (double_at b bs) (followed (single_mark b) bs) (double_at-below b bs) (followed-below (length (b ∷ bs)) (single_mark b) bs (omega arith))

tokened-below : {A : Type 0} (n : ℕ) (f : A → Token) (o : Option (A × List ℕ)) → Below n o → Below n (tokened f o)
tokened-below n f None h = tt
tokened-below n f (Some x) h = h

-- a name has a byte at least
wider_or : (p q r u : Bool) → ((q || r) || u) ≡ true → (((p || q) || r) || u) ≡ true
wider_or true q r u e = refl
wider_or false q r u e = e

name_byte : (b : ℕ) → begins_name b ≡ true → is_name_byte b ≡ true
name_byte b e = wider_or (is_in_range 48 57 b) (is_in_range 65 90 b) (is_in_range 97 122 b) (b == 0x5F) e

only_name : (name number quoted literal raw : Bool)
    → (if name then kind.Name else (if number then kind.Number else (if quoted then kind.Delimited quote.Name else (if literal then kind.Delimited quote.Literal else (if raw then kind.Delimited quote.Raw else kind.Mark))))) ≡ kind.Name
    → name ≡ true
only_name true b c d e h = refl
only_name false true c d e h = absurd cc
only_name false false true d e h = absurd cc
only_name false false false true e h = absurd cc
only_name false false false false true h = absurd cc
only_name false false false false false h = absurd cc

kind-name : (b : ℕ) → kind_of b ≡ kind.Name → begins_name b ≡ true
kind-name b e = only_name (begins_name b) (b == 0x2D || is_ascii_digit b) (b == 0x22) (b == 0x60) (b == 0x27) e

name-below : (bs : List ℕ) → kind_at bs ≡ kind.Name → length (drop (name_len bs) bs) < length bs
name-below [] e = absurd cc
name-below (b ∷ bs) e =
    let starts = name_byte b (kind-name b e) in
    let some : name_len (b ∷ bs) ≡ suc (name_len bs) = rw starts (omega arith) in
    omega (arith, length-drop (name_len (b ∷ bs)) (b ∷ bs), some)

delimited_at-below : {q : Quote} {bs : List ℕ} {o : Option (Token × List ℕ)} → DelimitedAt q bs o → Below (length bs) o
delimited_at-below (DelimitedAt.unclosed e) = tt
delimited_at-below (DelimitedAt.closed {q = q} {bs = bs} {v = v} {rest = rest} {o = o} e value) = followed-below (length bs) o rest (below-at (length bs) (delimited q false bs) v rest (delimited-below q false bs) e)

pub token-below : {bs : List ℕ} {o : Option (Token × List ℕ)} → TokenAt bs o → Below (length bs) o
token-below (TokenAt.name {bs = bs} e) = name-below bs e
token-below (TokenAt.number {bs = bs} e) = tokened-below (length bs) token.Number (number_at bs) (number_at-below bs)
token-below (TokenAt.between {bs = bs} {o = o} e d) = more-below (length (drop 1 bs)) (length bs) o (omega (arith, length-drop 1 bs)) (delimited_at-below d)
token-below (TokenAt.mark {bs = bs} e) = tokened-below (length bs) token.Mark (mark_at bs) (mark_at-below bs)

pub lefts-length : {bs : List ℕ} {ts : List Token} {lefts : List ℕ} {left : ℕ} → Lexes bs ts lefts left → length lefts ≡ length ts
lefts-length (Lexes.no_more t) = refl
lefts-length (Lexes.more t more) = let same = lefts-length more in omega arith

rest-le : (bs rest : List ℕ) (t : Token) → TokenAt bs (Some (t, rest)) → length (skipped rest) ≤ length bs
rest-le bs rest t at = omega (arith, token-below at, skipped-le rest)

last-le : {bs : List ℕ} {ts : List Token} {lefts : List ℕ} {left : ℕ} → Lexes bs ts lefts left → left ≤ length bs
last-le (Lexes.no_more t) = omega arith
last-le (Lexes.more {bs = bs} {rest = rest} {t = t} at more) = omega (arith, last-le more, rest-le bs rest t at)

each-le : {bs : List ℕ} {ts : List Token} {lefts : List ℕ} {left : ℕ} → Lexes bs ts lefts left → (i : ℕ) → slice_index lefts i ≤ length bs
each-le (Lexes.no_more t) i = omega arith
each-le (Lexes.more at more) zero = omega arith
each-le (Lexes.more {bs = bs} {rest = rest} {t = t} at more) (suc i) = omega (arith, each-le more i, rest-le bs rest t at)

pub left_at-le : {bs : List ℕ} {ts : List Token} {lefts : List ℕ} {left : ℕ} → Lexes bs ts lefts left → (n : ℕ) → left_at lefts left n ≤ length bs
left_at-le {bs = bs} {lefts = lefts} {left = left} lexes n =
    elim (n == 0) as (λ v. (if v then left else slice_index lefts (length lefts - n)) ≤ length bs) [ true ↦ last-le lexes | false ↦ each-le lexes (length lefts - n) ]
