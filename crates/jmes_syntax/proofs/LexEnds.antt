-- Any bytes have tokens in front, up to the end or to where none stands.
use Rattle.std.proofs.Common.{◌≡◌, ℕ, zero, suc, ◌+◌, ◌<◌, false, inl, inr, List, [], ◌∷◌, length, take, drop, Option, None, Some, refl, arith}
use Rattle.std.proofs.lemmas.Str.{IsUtf8-from_is_utf8, is_utf8-from_IsUtf8}
use Rattle.std.specs.Str.{chars, is_utf8}
use Rattle.json_doc.proofs.Shorter.{skipped-le}
use Rattle.json_doc.specs.declared.doc.Doc as doc
use Rattle.json_doc.specs.declared.doc.Doc.{Doc}
use Rattle.json_doc.specs.Scan.{skipped}
use Rattle.jmes_syntax.specs.declared.delimited.Quote.{Quote}
use Rattle.jmes_syntax.specs.declared.delimited.Quote.TheVariants as quote
use Rattle.jmes_syntax.specs.declared.lexer.Kind.{Kind}
use Rattle.jmes_syntax.specs.declared.lexer.Kind.TheVariants as kind
use Rattle.jmes_syntax.specs.declared.token.Token.{Token}
use Rattle.jmes_syntax.specs.declared.token.Token.TheVariants as token
use Rattle.jmes_syntax.specs.Delimited.{delimited}
use Rattle.jmes_syntax.specs.Lexing.{kind_at, mark_at, tokened, DelimitedAt, TokenAt, Lexes}
use Rattle.jmes_syntax.specs.Literals.{mapped, BareOf, LiteralOf, TextOf, ValueOf}
use Rattle.jmes_syntax.specs.Numbers.{number_at}
use Rattle.jmes_syntax.specs.Reading.{followed}
use Rattle.jmes_syntax.specs.Words.{name_len}
use Rattle.jmes_syntax.proofs.Choices.{of_bool, of_option}
use Rattle.jmes_syntax.proofs.DocumentOrNot.{document_or_not, string_or_not, json_text_or_not}
use Rattle.jmes_syntax.proofs.LexLengths.{token-below}

bare_ends : (bs : List ℕ) → (o : Option (List ℕ)) × BareOf bs o
bare_ends bs = elim (json_text_or_not bs) [
  | inl is ↦ (None, BareOf.beyond_limits is)
  | inr not ↦ (let s = string_or_not (skipped bs) in (s.0, BareOf.unquoted not s.1))
]

literal_ends : (bs : List ℕ) → (o : Option Doc) × LiteralOf bs o
literal_ends bs = elim (document_or_not bs) [
  | inl is ↦ (Some is.0, LiteralOf.json is.1)
  | inr not ↦ (let s = bare_ends bs in (mapped doc.Str s.0, LiteralOf.bare not s.1))
]

text_ends : (bs : List ℕ) → (o : Option (List ℕ)) × TextOf bs o
text_ends bs = of_bool (is_utf8 bs)
    (λ e. (Some (chars bs), TextOf.text (IsUtf8-from_is_utf8 bs e)))
    (λ e. (None, TextOf.no_text (λ is. let same = is_utf8-from_IsUtf8 bs is in absurd cc)))

value_ends : (q : Quote) (bs : List ℕ) → (o : Option Token) × ValueOf q bs o
value_ends quote.Name bs = let s = string_or_not bs in (mapped token.Quoted s.0, ValueOf.name s.1)
value_ends quote.Literal bs = let s = literal_ends bs in (mapped token.Literal s.0, ValueOf.literal s.1)
value_ends quote.Raw bs = let s = text_ends bs in (mapped (λ t. token.Literal (doc.Str t)) s.0, ValueOf.raw s.1)

delimited_ends : (q : Quote) (bs : List ℕ) → (o : Option (Token × List ℕ)) × DelimitedAt q bs o
delimited_ends q bs = of_option (delimited q false bs)
    (λ e. (None, DelimitedAt.unclosed e))
    (λ x e. let v = value_ends q x.0 in (followed v.0 x.1, DelimitedAt.closed e v.1))

token_of : (bs : List ℕ) (k : Kind) → kind_at bs ≡ k → (o : Option (Token × List ℕ)) × TokenAt bs o
token_of bs kind.Name e = (Some (token.Name (take (name_len bs) bs), drop (name_len bs) bs), TokenAt.name e)
token_of bs kind.Number e = (tokened token.Number (number_at bs), TokenAt.number e)
token_of bs (kind.Delimited q) e = let d = delimited_ends q (drop 1 bs) in (d.0, TokenAt.between e d.1)
token_of bs kind.Mark e = (tokened token.Mark (mark_at bs), TokenAt.mark e)

-- the tokens of these bytes
pub record LexEnd (bs : List ℕ) : Type 0 where
  pub tokens : List Token
  pub lefts : List ℕ
  pub left : ℕ
  pub lexed : Lexes bs tokens lefts left

more_tokens : (bs : List ℕ) (o : Option (Token × List ℕ)) → TokenAt bs o → ((cs : List ℕ) → length cs < length bs → LexEnd cs) → LexEnd bs
more_tokens bs None t shorter = record { tokens = []; lefts = []; left = length bs; lexed = Lexes.no_more t }
more_tokens bs (Some x) t shorter =
    let r = shorter (skipped x.1) (omega (arith, token-below t, skipped-le x.1)) in
    record { tokens = x.0 ∷ r.tokens; lefts = length bs ∷ r.lefts; left = r.left; lexed = Lexes.more t r.lexed }

lex_within : (k : ℕ) (bs : List ℕ) → length bs < k → LexEnd bs
lex_within zero bs less = absurd (omega arith)
lex_within (suc k) bs less = let t = token_of bs (kind_at bs) refl in more_tokens bs t.0 t.1 (λ cs lt. lex_within k cs (omega arith))

pub lex_ends : (bs : List ℕ) → LexEnd bs
lex_ends bs = lex_within (length bs + 1) bs (omega arith)
