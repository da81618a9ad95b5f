-- The outermost layer of each variant of a value.
use Rattle.std.proofs.Common.{◌≡◌, ℕ, Bool, List, rules}
use Rattle.std.specs.Prelude.{ℤ}
use Rattle.json_doc.specs.declared.decimal.Decimal.{Decimal}
use Rattle.texts.specs.declared.pairs.Pair.{Pair}
use Rattle.typed_value.specs.declared.typed.Typed.{Typed, out-Typed, the_lemmas}
use Rattle.typed_value.specs.declared.typed.Typed.TheVariants.{Text, Int, Number, Flag, Items, Fields}
use Rattle.typed_value.specs.declared.typed.Typed.TheOpen.{Typed-F}

pub out-Text : (t : List ℕ) → out-Typed (Text t) ≡ Typed-F.Text t
out-Text t = search (rules, the_lemmas)

pub out-Int : (n : ℤ) → out-Typed (Int n) ≡ Typed-F.Int n
out-Int n = search (rules, the_lemmas)

pub out-Number : (n : Decimal) → out-Typed (Number n) ≡ Typed-F.Number n
out-Number n = search (rules, the_lemmas)

pub out-Flag : (flag : Bool) → out-Typed (Flag flag) ≡ Typed-F.Flag flag
out-Flag flag = search (rules, the_lemmas)

pub out-Items : (vs : List Typed) → out-Typed (Items vs) ≡ Typed-F.Items vs
out-Items vs = search (rules, the_lemmas)

pub out-Fields : (ps : List (Pair Typed)) → out-Typed (Fields ps) ≡ Typed-F.Fields ps
out-Fields ps = search (rules, the_lemmas)
