-- The value that a witness stands for.
use Rattle.std.specs.Prelude.{◌≡◌, true, Option, None, Some, is_some}
use Rattle.std.proofs.Common.{sym, true≢false}
use Rattle.dm_witness.specs.declared.Witness.{Witness}

module _ {T : Type 0} where
  abbrev pub value_there : (o : Option T) → is_some o ≡ true → T
  value_there (Some x) is = x
  value_there None is = absurd (true≢false (sym is))

  abbrev pub value_of : Witness T → T
  value_of w = value_there w.seat.me.0 w.there
