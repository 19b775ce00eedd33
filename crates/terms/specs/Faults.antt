-- What a fault and a number that nothing has are told as. Assumes nothing.
use Rattle.std.specs.Prelude.{ℕ, List as Sequence, ◌++◌, codes, decimal}
use Rattle.terms.specs.declared.fault.Fault.{Fault}
use Rattle.terms.specs.declared.unknown.NoSuchNumber.{NoSuchNumber}
use Rattle.terms.specs.Numbers.{layer_words}
use Rattle.terms.specs.Refusals.{refusal_number, refusal_words}

-- as: no booking is left (refusal 3, book, place 7)
abbrev pub fault_words : Fault → Sequence ℕ
fault_words fault =
    refusal_words fault.refusal ++ codes " (refusal " ++ decimal (refusal_number fault.refusal) ++ codes ", "
    ++ layer_words fault.layer ++ codes ", place " ++ decimal fault.place ++ codes ")"

-- as: nothing has the number 9
abbrev pub unknown_words : NoSuchNumber → Sequence ℕ
unknown_words unknown = codes "nothing has the number " ++ decimal unknown.0
