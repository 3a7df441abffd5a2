-- What a call that sends a text promises, whatever becomes of it.
use Rattle.std.specs.Prelude.{◌≡◌, ℕ, ◌≤◌, List, ◌++◌, Option, Result, Err, OnOk, OnErr}
use Rattle.dm_host.specs.Count.{Rose}
use Rattle.dm_reply.specs.Took.{Took, TookPart}
use Rattle.dm_reply.specs.declared.send.SayError.{SayError}
use Rattle.dm_reply.specs.declared.send.SayError.TheVariants.{Failed, NothingTaken}

-- from what a sink took and counted, and whether it may end, to the same after the call: the whole text went out, or a part
-- of it and the cause is known
pub record Sends {T : Type 0} (text : List ℕ) (old : Option (List ℕ)) (new : Option (List ℕ)) (low high : ℕ) (may may' : Type 0) (result : Result T SayError) : Type 0 where
  pub said : OnOk result (Took old new text)
  pub part : OnErr result (TookPart old new text)
  pub failed : result ≡ Err Failed → Rose low high
  pub none : (result ≡ Err Failed → ⊥) → high ≡ low
  pub nothing : result ≡ Err NothingTaken → may
  pub count : low ≤ high
  pub ends : may' → may

-- of a text a front went out, and the rest is held back
pub record GoesOut (old new : Option (List ℕ)) (text held : List ℕ) : Type 0 where
  pub front : List ℕ
  pub took : Took old new front
  pub split : text ≡ front ++ held

-- what a call promises that sends a text in pieces and may hold its end back
pub record Holds {T : Type 0} (text held : List ℕ) (old : Option (List ℕ)) (new : Option (List ℕ)) (low high : ℕ) (may may' : Type 0) (result : Result T SayError) : Type 0 where
  pub said : OnOk result (GoesOut old new text held)
  pub part : OnErr result (TookPart old new text)
  pub failed : result ≡ Err Failed → Rose low high
  pub none : (result ≡ Err Failed → ⊥) → high ≡ low
  pub nothing : result ≡ Err NothingTaken → may
  pub count : low ≤ high
  pub ends : may' → may
