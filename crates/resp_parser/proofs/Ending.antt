-- What the code gives, given what its parts gave.
use Rattle.std.proofs.Common.{◌≡◌, ◌++◌, List, Option, None, Some, Result, Ok, Err, refl, sym, ap, subst, ◌∙◌}
use Rattle.resp_parser.specs.declared.body_fault.BodyFault.{BodyFault}
use Rattle.resp_parser.specs.declared.body_fault.BodyFault.TheVariants.{At, OutOfMemory}
use Rattle.resp_parser.specs.Inside.{Ends, EndsBy, IsBelow}
use Rattle.resp_parser.specs.Paths.{Path, unless}
use Rattle.resp_parser.specs.Steps.{Step}

pub ok-none : {A : Type 0} (o : Option Path) (x y : A) → unless o x ≡ Ok y → o ≡ None
ok-none None x y e = refl
ok-none (Some path) x y e = absurd (cc)

pub ok-value : {A : Type 0} (o : Option Path) (x y : A) → unless o x ≡ Ok y → x ≡ y
ok-value None x y e = cc
ok-value (Some path) x y e = absurd (cc)

pub err-path : {A : Type 0} (o : Option Path) (x : A) (path : Path) → unless o x ≡ Err path → o ≡ Some path
err-path None x path e = absurd (cc)
err-path (Some p) x path e = cc

pub ok-through : {A B : Type 0} (f : A → B) (o : Option Path) (x y : A) → unless o x ≡ Ok y → unless o (f x) ≡ Ok (f y)
ok-through f None x y e = ap Ok (ap f (ok-value None x y e))
ok-through f (Some path) x y e = absurd (cc)

pub err-through : {A B : Type 0} (o : Option Path) (x : A) (y : B) (path : Path) → unless o x ≡ Err path → unless o y ≡ Err path
err-through o x y path e = ap (λ p. unless p y) (err-path o x path e)

-- the fault of a part is that of the whole
pub ends-err : {X Y A B : Type 0} (v : X → A) (w : Y → B) (fault : BodyFault) (r : Result A Path) (s : Result B Path)
    → ((path : Path) → r ≡ Err path → s ≡ Err path) → Ends v (Err fault) r → Ends w (Err fault) s
ends-err v w (At path) r s h e = h path e
ends-err v w OutOfMemory r s h e = tt

pub ends-unless : {X Y A B : Type 0} (v : X → A) (w : Y → B) (fault : BodyFault) (o : Option Path) (x : A) (y : B)
    → Ends v (Err fault) (unless o x) → Ends w (Err fault) (unless o y)
ends-unless v w fault o x y = ends-err v w fault (unless o x) (unless o y) (λ path. err-through o x y path)

-- the fault of a part stands below it in the whole
pub ends-below : {X Y A B : Type 0} (v : X → A) (w : Y → B) (step : Path) (fault made : BodyFault) (r : Result A Path) (s : Result B Path)
    → IsBelow step fault made → ((path : Path) → r ≡ Err path → s ≡ Err (step ++ path)) → Ends v (Err fault) r → Ends w (Err made) s
ends-below v w step fault OutOfMemory r s b h e = tt
ends-below v w step (At path) (At made) r s b h e = h path e ∙ ap Err (sym b)
ends-below v w step OutOfMemory (At made) r s b h e = absurd b

pub may-err : {X Y A B : Type 0} (v : X → A) (w : Y → B) (fault : BodyFault) (May : Step A Path) (Due : Step B Path)
    → ((path : Path) → May (Err path) → Due (Err path)) → EndsBy v (Err fault) May → EndsBy w (Err fault) Due
may-err v w (At path) May Due h e = h path e
may-err v w OutOfMemory May Due h e = tt

pub may-below : {X Y A B : Type 0} (v : X → A) (w : Y → B) (step : Path) (fault made : BodyFault) (May : Step A Path) (Due : Step B Path)
    → IsBelow step fault made → ((path : Path) → May (Err path) → Due (Err (step ++ path))) → EndsBy v (Err fault) May → EndsBy w (Err made) Due
may-below v w step fault OutOfMemory May Due b h e = tt
may-below v w step (At path) (At made) May Due b h e = subst (λ p. Due (Err p)) (sym b) (h path e)
may-below v w step OutOfMemory (At made) May Due b h e = absurd b
