-- What begins with one token doesn't begin with another.
use Rattle.std.proofs.Common.{◌≡◌, ℕ, rules, true, false, if◌then◌else◌, List, [], ◌∷◌, Option, None, Some, refl, sym, ap, subst}
use denote.Enum.Bare.{same_true}
use Rattle.json_doc.specs.declared.doc.Doc.{Doc}
use Rattle.jmes_syntax.specs.contracts.token.Mark.{the_type}
use Rattle.jmes_syntax.specs.declared.token.Mark.{Mark}
use Rattle.jmes_syntax.specs.declared.token.Mark.TheVariants as mark
use Rattle.jmes_syntax.specs.declared.token.Token.{Token}
use Rattle.jmes_syntax.specs.declared.token.Token.TheVariants as token
use Rattle.jmes_syntax.specs.Brackets.{begins_index, where_index, behind_index}
use Rattle.jmes_syntax.specs.Tokens.{same_mark, is_mark, behind, name_at, quoted_at, literal_at}

pub same-mark : (k c : Mark) → same_mark k c ≡ true → k ≡ c
same-mark k c e = same_true the_type (search rules) k c e

other-is_mark : (c d : Mark) (t : Token) → same_mark c d ≡ false → is_mark c t ≡ true → is_mark d t ≡ false
other-is_mark c d (token.Mark k) ne e = subst (λ m. same_mark m d ≡ false) (sym (same-mark k c e)) ne
other-is_mark c d (token.Name t) ne e = absurd cc
other-is_mark c d (token.Quoted t) ne e = absurd cc
other-is_mark c d (token.Number n) ne e = absurd cc
other-is_mark c d (token.Literal x) ne e = absurd cc

front-is_mark : (c : Mark) (t : Token) (ts us : List Token) → behind c (t ∷ ts) ≡ Some us → is_mark c t ≡ true
front-is_mark c t ts us e =
    elim (is_mark c t) as (λ v. (if v then Some ts else None) ≡ Some us → v ≡ true) [ true ↦ (λ f. refl) | false ↦ (λ f. absurd cc) ] e

pub other-behind : (c d : Mark) (ts us : List Token) → same_mark c d ≡ false → behind c ts ≡ Some us → behind d ts ≡ None
other-behind c d [] us ne e = refl
other-behind c d (t ∷ ts) us ne e = ap (λ v. if v then Some ts else None) (other-is_mark c d t ne (front-is_mark c t ts us e))

index-bracket : (o : Option (List Token)) (us : List Token) → where_index o ≡ Some us → o ≡ Some us
index-bracket None us e = absurd cc
index-bracket (Some vs) us e = elim (begins_index vs) as (λ v. (if v then Some vs else None) ≡ Some us → Some vs ≡ Some us) [ true ↦ (λ f. f) | false ↦ (λ f. absurd cc) ] e

pub behind_index-bracket : (ts us : List Token) → behind_index ts ≡ Some us → behind mark.OpenBracket ts ≡ Some us
behind_index-bracket ts us e = index-bracket (behind mark.OpenBracket ts) us e

pub no_index : (ts : List Token) → behind mark.OpenBracket ts ≡ None → behind_index ts ≡ None
no_index ts e = ap where_index e

pub index-other : (d : Mark) (ts us : List Token) → same_mark mark.OpenBracket d ≡ false → behind_index ts ≡ Some us → behind d ts ≡ None
index-other d ts us ne e = other-behind mark.OpenBracket d ts us ne (behind_index-bracket ts us e)

pub other-index : (c : Mark) (ts us : List Token) → same_mark c mark.OpenBracket ≡ false → behind c ts ≡ Some us → behind_index ts ≡ None
other-index c ts us ne e = no_index ts (other-behind c mark.OpenBracket ts us ne e)

pub literal-behind : (m : Mark) (ts : List Token) (x : Doc × List Token) → literal_at ts ≡ Some x → behind m ts ≡ None
literal-behind m [] x e = refl
literal-behind m (token.Literal d ∷ ts) x e = refl
literal-behind m (token.Mark k ∷ ts) x e = absurd cc
literal-behind m (token.Name t ∷ ts) x e = refl
literal-behind m (token.Quoted t ∷ ts) x e = refl
literal-behind m (token.Number n ∷ ts) x e = refl

pub name-behind : (m : Mark) (ts : List Token) (x : List ℕ × List Token) → name_at ts ≡ Some x → behind m ts ≡ None
name-behind m [] x e = refl
name-behind m (token.Name t ∷ ts) x e = refl
name-behind m (token.Mark k ∷ ts) x e = absurd cc
name-behind m (token.Literal d ∷ ts) x e = refl
name-behind m (token.Quoted t ∷ ts) x e = refl
name-behind m (token.Number n ∷ ts) x e = refl

pub quoted-behind : (m : Mark) (ts : List Token) (x : List ℕ × List Token) → quoted_at ts ≡ Some x → behind m ts ≡ None
quoted-behind m [] x e = refl
quoted-behind m (token.Quoted t ∷ ts) x e = refl
quoted-behind m (token.Mark k ∷ ts) x e = absurd cc
quoted-behind m (token.Literal d ∷ ts) x e = refl
quoted-behind m (token.Name t ∷ ts) x e = refl
quoted-behind m (token.Number n ∷ ts) x e = refl

pub quoted-name : (ts : List Token) (x : List ℕ × List Token) → quoted_at ts ≡ Some x → name_at ts ≡ None
quoted-name [] x e = refl
quoted-name (token.Quoted t ∷ ts) x e = refl
quoted-name (token.Mark k ∷ ts) x e = refl
quoted-name (token.Literal d ∷ ts) x e = refl
quoted-name (token.Name t ∷ ts) x e = absurd cc
quoted-name (token.Number n ∷ ts) x e = refl
