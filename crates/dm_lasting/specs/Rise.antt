-- Numbers of requests rise.
use Rattle.std.specs.Prelude.{◌≡◌, ◌≤◌, ◌<◌, None}
use Rattle.std.specs.FinMap as map
use Rattle.dm_tables.specs.Rows.{EachRow}
use Rattle.dm_model.specs.declared.state.Daemon.{Daemon}

-- the next number is none that was before it; and a request that wasn't open has a number that is the next one before it or a later
-- one, and is before the next one after it
pub record RequestsRise (before after : Daemon) : Type 0 where
  pub next : before.next_request ≤ after.next_request
  pub made : EachRow after.requests
      (λ n r. map.get before.requests n ≡ None → (before.next_request ≤ n) × (n < after.next_request))
