-- The values of parameters.
use Rattle.std.specs.Prelude.{ℕ, if◌then◌else◌, List, [], ◌∷◌, ◌++◌, Option, None, Some, option_map, option_and_then, Result, Ok, Err, codes, bytes_eq}
use Rattle.std.specs.Option.{option_or}
use Rattle.json_doc.specs.declared.doc.Doc.{Doc}
use Rattle.json_doc.specs.declared.doc.Doc.TheVariants as doc
use Rattle.texts.specs.declared.pairs.Pair.{Pair}
use Rattle.texts.specs.Calls.{◌>>=◌}
use Rattle.texts.specs.Keys.{put}
use Rattle.endpoint_rules.specs.declared.endpoint.Param.{Param}
use Rattle.endpoint_rules.specs.declared.endpoint.Param.TheVariants.{Str, Flag}
use Rattle.endpoint_rules.specs.declared.fault.EndpointFault.{EndpointFault}
use Rattle.endpoint_rules.specs.declared.fault.EndpointFault.TheVariants.{RuleError}
use Rattle.rule_sets.specs.declared.rule_set.Parameter.{Parameter}

abbrev pub Params : Type 0
Params = List (List ℕ × Param)

abbrev pub param_value : Param → Doc
param_value (Str text) = doc.Str text
param_value (Flag flag) = doc.Flag flag

-- the first value under a name
abbrev pub param_named : List ℕ → Params → Option Param
param_named name [] = None
param_named name (p ∷ ps) = if bytes_eq p.0 name then Some p.1 else param_named name ps

-- under the parameter's own name, else under that of its built-in
abbrev pub param_for : Params → Parameter → Option Param
param_for params parameter =
    option_or (param_named parameter.name params) (option_and_then (λ name. param_named name params) parameter.built_in)

-- the value of a parameter, else its default; a list of texts is always unset
abbrev pub value_for : Params → Parameter → Option Doc
value_for params parameter =
    if parameter.is_list then None else option_or (option_map param_value (param_for params parameter)) parameter.default

abbrev pub missing_text : List ℕ → List ℕ
missing_text name = codes "Missing required parameter: " ++ name

abbrev pub given_step : Parameter → Option Doc → List (Pair Doc) → Result (List (Pair Doc)) EndpointFault
given_step parameter (Some value) given = Ok (put given parameter.name value)
given_step parameter None given = if parameter.required then Err (RuleError (missing_text parameter.name)) else Ok given

-- these, and the parameters behind them that have a value, or the fault of the first that needs one
abbrev pub given_after : Params → List (Pair Doc) → List Parameter → Result (List (Pair Doc)) EndpointFault
given_after params given [] = Ok given
given_after params given (p ∷ ps) = do
  more ← given_step p (value_for params p) given
  given_after params more ps

abbrev pub given_of : Params → List Parameter → Result (List (Pair Doc)) EndpointFault
given_of params parameters = given_after params [] parameters
