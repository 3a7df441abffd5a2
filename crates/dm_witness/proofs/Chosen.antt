-- The value of a witness fits.
use Rattle.std.proofs.Common.{◌≡◌, true, Option, None, Some, is_some, IsSomeAnd}
use Rattle.dm_witness.specs.Chosen.{value_there}

pub there_fits : {T : Type 0} (P : T → Type 0) (o : Option T) (there : is_some o ≡ true) → IsSomeAnd o P → P (value_there o there)
there_fits P None there fits = absurd fits
there_fits P (Some x) there fits = fits
