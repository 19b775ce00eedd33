-- What is said of a fault of a text, as: Refusal 3: no booking is left (layer 3, book; line 7, place 12). Assumes nothing.
use Rattle.terms.specs.Texts.{◌⧺◌}
use Rattle.std.specs.Prelude.{ℕ, List, codes, decimal}
use Rattle.terms.specs.Numbers.{layer_number, layer_words}
use Rattle.terms.specs.Refusals.{refusal_number, refusal_words}
use Rattle.entries.specs.declared.line_fault.LineFault.{LineFault}

abbrev pub line_fault_words : LineFault → List ℕ
line_fault_words refused =
    codes "Refusal " ⧺ decimal (refusal_number refused.fault.refusal) ⧺ codes ": " ⧺ refusal_words refused.fault.refusal
    ⧺ codes " (layer " ⧺ decimal (layer_number refused.fault.layer) ⧺ codes ", " ⧺ layer_words refused.fault.layer
    ⧺ codes "; line " ⧺ decimal refused.line ⧺ codes ", place " ⧺ decimal refused.fault.place ⧺ codes ")"
