-- What a call with questions answers, and what it does. Assumes nothing.
use Rattle.std.specs.Prelude.{◌≡◌, true, false, is_ok, Some, None, Ok, Err, Option, Result}
use Rattle.std.specs.Result.{result_err}
use Rattle.terms.specs.declared.fault.Fault.{Fault}

-- Accepted, where no question is answered no: then `Holds` of the value and of what the call leaves. Refused: this is the fault, and
-- everything is as it was.
abbrev pub Outcome : {V : Type 0} → Option Fault → (V → Type 0) → Type 0 → Result V Fault → Type 0
Outcome fault Holds Unchanged (Ok value) = (fault ≡ None) × Holds value
Outcome fault Holds Unchanged (Err f) = (fault ≡ Some f) × Unchanged

-- the same of a call that changes nothing
abbrev pub Answers : {V : Type 0} → Option Fault → (V → Type 0) → Result V Fault → Type 0
Answers fault Holds = Outcome fault Holds (Unit {0})

-- What a call does to a value with a meaning: it is refused with this fault, if there is one, and then nothing changes; else the value
-- means `next`.
pub record Step {S M : Type 0} (meaning : S → M) (fault : Option Fault) (next : M) (before : S) (result : Result (Unit {0}) Fault) (after : S) : Type 0 where
  pub decided : result_err result ≡ fault
  pub refused : is_ok result ≡ false → after ≡ before
  pub moved : is_ok result ≡ true → meaning after ≡ next
