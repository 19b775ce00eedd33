-- A table of no additions. Assumes nothing.
use Rattle.std.proofs.Common.{◌≡◌, ℕ, zero, suc, get_or, replicate, refl}
use Rattle.surcharges.specs.Additions.{nothing}

pub zeros : (n c : ℕ) → get_or (replicate n nothing) c nothing ≡ nothing
zeros zero c = refl
zeros (suc n) zero = refl
zeros (suc n) (suc c) = zeros n c
