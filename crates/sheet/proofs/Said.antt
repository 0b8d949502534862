-- An answer says the number and the task of its equal.
use mathlib.Core.Path.{◌≡◌, ap}
use Rattle.std.specs.Prelude.{Result}
use Rattle.sheet.specs.declared.refusal.Refusal.{Refusal}
use Rattle.sheet.specs.Refusal.{number_of, task_of, Says}

pub said : {A : Type 0} {a b : Result A Refusal} → a ≡ b → Says a (number_of b) (task_of b)
said e = record { number_is = ap number_of e; task_is = ap task_of e }
