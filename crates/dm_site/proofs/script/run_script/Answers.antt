use Rattle.std.proofs.Common.{inl, inr, refl}
use Rattle.dm_site.proofs.Scripts.{script_none}
use Rattle.dm_site.proofs.script.run_script.Goals as goal

pub returns-then-not-are_run-clause-script : goal.returns-then-not-are_run-clause-script
returns-then-not-are_run-clause-script g c = script_none _ _ _ _ _ _ _ (inl c.number.ensures) (inl refl)

pub returns-in-Err-clause-script : goal.returns-in-Err-clause-script
returns-in-Err-clause-script g c = script_none _ _ _ _ _ _ _ (inr c.number-in-Err.ensures) (inr (c.number-in-Err.ensures, c.in-Err.ensures.cause.rose))
