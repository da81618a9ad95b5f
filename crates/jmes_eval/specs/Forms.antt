-- What the functions are called with (JMESPath specification, "Built-in Functions": their signatures).
use Rattle.jmes_syntax.specs.declared.function.Function.{Function}
use Rattle.jmes_syntax.specs.declared.function.Function.TheVariants as function
use Rattle.jmes_eval.specs.declared.signature.Form.{Form}
use Rattle.jmes_eval.specs.declared.signature.Form.TheVariants.{One, Two, Many, ExprefFirst, ExprefLast}

abbrev pub form_of : Function → Form
form_of function.Contains = Two
form_of function.EndsWith = Two
form_of function.Join = Two
form_of function.StartsWith = Two
form_of function.Merge = Many
form_of function.NotNull = Many
form_of function.Map = ExprefFirst
form_of function.MaxBy = ExprefLast
form_of function.MinBy = ExprefLast
form_of function.SortBy = ExprefLast
form_of others = One
