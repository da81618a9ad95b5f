-- A text has one list of tokens.
use Rattle.std.proofs.Common.{◌≡◌, ℕ, false, List, [], ◌∷◌, length, take, drop, Option, Some, None, refl, ap, subst, ◌∙◌}
use Rattle.std.specs.Prelude.{MatchOption}
use Rattle.json_doc.specs.declared.doc.Doc as doc
use Rattle.json_doc.specs.declared.doc.Doc.{Doc}
use Rattle.json_doc.specs.declared.doc.Doc.TheViews.{out-Doc}
use Rattle.json_doc.specs.Scan.{skipped}
use Rattle.jmes_syntax.specs.declared.delimited.Quote.{Quote}
use Rattle.jmes_syntax.specs.declared.delimited.Quote.TheVariants as quote
use Rattle.jmes_syntax.specs.declared.lexer.Kind.{Kind}
use Rattle.jmes_syntax.specs.declared.lexer.Kind.TheVariants as kind
use Rattle.jmes_syntax.specs.declared.token.Token.{Token}
use Rattle.jmes_syntax.specs.declared.token.Token.TheVariants as token
use Rattle.jmes_syntax.specs.Delimited.{delimited}
use Rattle.jmes_syntax.specs.Lexing.{kind_at, mark_at, tokened, DelimitedAt, TokenAt, Lexes}
use Rattle.jmes_syntax.specs.Literals.{in_quotes, mapped, StringOf, BareOf, LiteralOf, TextOf, ValueOf}
use Rattle.jmes_syntax.specs.Numbers.{number_at}
use Rattle.jmes_syntax.specs.Reading.{followed}
use Rattle.jmes_syntax.specs.Words.{name_len}
use Rattle.jmes_syntax.proofs.LiteralValues.{one_document}

same_text : (t u : List ℕ) → doc.Str t ≡ doc.Str u → t ≡ u
same_text t u e = let inner = ap out-Doc e in cc

string_once : {bs : List ℕ} {o : Option (List ℕ)} → StringOf bs o → (p : Option (List ℕ)) → StringOf bs p → p ≡ o
string_once (StringOf.string {bs = bs} {t = t} r) p (StringOf.string {t = u} s) = ap Some (same_text u t (one_document (in_quotes bs) (doc.Str u) (doc.Str t) s r))
string_once (StringOf.string {t = t} r) p (StringOf.no_string none) = absurd (none t r)
string_once (StringOf.no_string none) p (StringOf.string {t = t} r) = absurd (none t r)
string_once (StringOf.no_string none) p (StringOf.no_string other) = refl

bare_once : {bs : List ℕ} {o : Option (List ℕ)} → BareOf bs o → (p : Option (List ℕ)) → BareOf bs p → p ≡ o
bare_once (BareOf.unquoted other s) p (BareOf.unquoted {o = q} others t) = string_once s q t
bare_once (BareOf.unquoted other s) p (BareOf.beyond_limits is) = absurd (other is)
bare_once (BareOf.beyond_limits is) p (BareOf.unquoted other t) = absurd (other is)
bare_once (BareOf.beyond_limits is) p (BareOf.beyond_limits also) = refl

literal_once : {bs : List ℕ} {o : Option Doc} → LiteralOf bs o → (p : Option Doc) → LiteralOf bs p → p ≡ o
literal_once (LiteralOf.json {bs = bs} {d = d} r) p (LiteralOf.json {d = e} s) = ap Some (one_document bs e d s r)
literal_once (LiteralOf.json {d = d} r) p (LiteralOf.bare none s) = absurd (none d r)
literal_once (LiteralOf.bare none s) p (LiteralOf.json {d = d} r) = absurd (none d r)
literal_once (LiteralOf.bare none s) p (LiteralOf.bare {o = q} other t) = ap (mapped doc.Str) (bare_once s q t)

utf8_once : {bs : List ℕ} {o : Option (List ℕ)} → TextOf bs o → (p : Option (List ℕ)) → TextOf bs p → p ≡ o
utf8_once (TextOf.text u) p (TextOf.text v) = refl
utf8_once (TextOf.text u) p (TextOf.no_text none) = absurd (none u)
utf8_once (TextOf.no_text none) p (TextOf.text v) = absurd (none v)
utf8_once (TextOf.no_text none) p (TextOf.no_text other) = refl

abbrev ValueStep : Quote → List ℕ → Option Token → Type 0
ValueStep quote.Name bs o = (q : Option (List ℕ)) × StringOf bs q × (o ≡ mapped token.Quoted q)
ValueStep quote.Literal bs o = (q : Option Doc) × LiteralOf bs q × (o ≡ mapped token.Literal q)
ValueStep quote.Raw bs o = (q : Option (List ℕ)) × TextOf bs q × (o ≡ mapped (λ t. token.Literal (doc.Str t)) q)

value_step : {q : Quote} {bs : List ℕ} {o : Option Token} → ValueOf q bs o → ValueStep q bs o
value_step (ValueOf.name {o = o} s) = (o, s, refl)
value_step (ValueOf.literal {o = o} s) = (o, s, refl)
value_step (ValueOf.raw {o = o} s) = (o, s, refl)

value_once : {q : Quote} {bs : List ℕ} {o : Option Token} → ValueOf q bs o → (p : Option Token) → ValueOf q bs p → p ≡ o
value_once (ValueOf.name s) p v = let t = value_step v in t.2 ∙ ap (mapped token.Quoted) (string_once s t.0 t.1)
value_once (ValueOf.literal s) p v = let t = value_step v in t.2 ∙ ap (mapped token.Literal) (literal_once s t.0 t.1)
value_once (ValueOf.raw s) p v = let t = value_step v in t.2 ∙ ap (mapped (λ t. token.Literal (doc.Str t))) (utf8_once s t.0 t.1)

abbrev DelimitedStep : Quote → List ℕ → Option (Token × List ℕ) → Type 0
DelimitedStep q bs o = MatchOption (delimited q false bs) (o ≡ None) (λ x. (r : Option Token) × ValueOf q x.0 r × (o ≡ followed r x.1))

delimited_step : {q : Quote} {bs : List ℕ} {o : Option (Token × List ℕ)} → DelimitedAt q bs o → DelimitedStep q bs o
delimited_step (DelimitedAt.unclosed e) = rw e refl
delimited_step (DelimitedAt.closed {o = o} e v) = rw e (o, v, refl)

delimited_once : {q : Quote} {bs : List ℕ} {o : Option (Token × List ℕ)} → DelimitedAt q bs o → (p : Option (Token × List ℕ)) → DelimitedAt q bs p → p ≡ o
delimited_once (DelimitedAt.unclosed e) p d = rw e at (delimited_step d)
delimited_once (DelimitedAt.closed {rest = rest} e v) p d = let s = rw e at (delimited_step d) in s.2 ∙ ap (λ r. followed r rest) (value_once v s.0 s.1)

abbrev TokenStep : Kind → List ℕ → Option (Token × List ℕ) → Type 0
TokenStep kind.Name bs o = o ≡ Some (token.Name (take (name_len bs) bs), drop (name_len bs) bs)
TokenStep kind.Number bs o = o ≡ tokened token.Number (number_at bs)
TokenStep (kind.Delimited q) bs o = DelimitedAt q (drop 1 bs) o
TokenStep kind.Mark bs o = o ≡ tokened token.Mark (mark_at bs)

token_step : {bs : List ℕ} {o : Option (Token × List ℕ)} → TokenAt bs o → TokenStep (kind_at bs) bs o
token_step (TokenAt.name e) = rw e refl
token_step (TokenAt.number e) = rw e refl
token_step (TokenAt.between e d) = rw e d
token_step (TokenAt.mark e) = rw e refl

pub token_once : {bs : List ℕ} {o : Option (Token × List ℕ)} → TokenAt bs o → (p : Option (Token × List ℕ)) → TokenAt bs p → p ≡ o
token_once (TokenAt.name {bs = bs} e) p t = subst (λ k. TokenStep k bs p) e (token_step t)
token_once (TokenAt.number {bs = bs} e) p t = subst (λ k. TokenStep k bs p) e (token_step t)
token_once (TokenAt.between {bs = bs} e d) p t = delimited_once d p (subst (λ k. TokenStep k bs p) e (token_step t))
token_once (TokenAt.mark {bs = bs} e) p t = subst (λ k. TokenStep k bs p) e (token_step t)

-- these tokens and places are those
pub record AreSame (ts : List Token) (ls : List ℕ) (l : ℕ) (us : List Token) (ms : List ℕ) (m : ℕ) : Type 0 where
  pub tokens : us ≡ ts
  pub lefts : ms ≡ ls
  pub left : m ≡ l

abbrev LexesEnd : List ℕ → Option (Token × List ℕ) → List Token → List ℕ → ℕ → Type 0
LexesEnd bs None ts ls l = (ts ≡ []) × (ls ≡ []) × (l ≡ length bs)
LexesEnd bs (Some x) ts ls l = (us : List Token) × (ms : List ℕ) × Lexes (skipped x.1) us ms l × (ts ≡ x.0 ∷ us) × (ls ≡ length bs ∷ ms)

lexes_step : {bs : List ℕ} {ts : List Token} {ls : List ℕ} {l : ℕ} → Lexes bs ts ls l → (o : Option (Token × List ℕ)) × TokenAt bs o × LexesEnd bs o ts ls l
lexes_step (Lexes.no_more t) = (None, t, (refl, refl, refl))
lexes_step (Lexes.more {rest = rest} {t = t} {ts = ts} {lefts = ls} at more) = (Some (t, rest), at, (ts, ls, more, refl, refl))

pub lexes_once : {bs : List ℕ} {ts : List Token} {ls : List ℕ} {l : ℕ} → Lexes bs ts ls l → (us : List Token) (ms : List ℕ) (m : ℕ) → Lexes bs us ms m → AreSame ts ls l us ms m
lexes_once (Lexes.no_more {bs = bs} t) us ms m other =
    let s = lexes_step other in
    let e : LexesEnd bs None us ms m = subst (λ o. LexesEnd bs o us ms m) (token_once t s.0 s.1) s.2 in
    record { tokens = e.0; lefts = e.1; left = e.2 }
lexes_once (Lexes.more {bs = bs} {rest = rest} {t = t} at more) us ms m other =
    let s = lexes_step other in
    let e : LexesEnd bs (Some (t, rest)) us ms m = subst (λ o. LexesEnd bs o us ms m) (token_once at s.0 s.1) s.2 in
    let r = lexes_once more e.0 e.1 m e.2 in
    record { tokens = e.3 ∙ ap (λ v. t ∷ v) r.tokens; lefts = e.4 ∙ ap (λ v. length bs ∷ v) r.lefts; left = r.left }
