use Rattle.std.proofs.Common.{arith}
use Rattle.dm_site.proofs.Agreement.{bfid_is, zone_as}
use Rattle.dm_site.proofs.archive.Archive.put_release.Goals as goal

pub returns-in-Ok-zone_of-clause-step : goal.returns-in-Ok-zone_of-clause-step
returns-in-Ok-zone_of-clause-step g c =
    let found = c.in-Ok.ensures.ok in
    c.store.ensures.step c.in-Ok.bytes.now found.0 (record { regular = found.1; unused = c.if-self-gt-NUMBER_LIMIT.false })
    (record {
      is_zone = zone_as _ _ _ _ c.as_slice-in-Ok-zone_of.ensures.value c.as_slice.ensures c.in-Ok-zone_of.ensures;
      len_is = c.len-need.ensures;
      bfid_is = bfid_is _ _ c.of-bfid.ensures;
      fits = omega (arith, c.if-have-need.false, c.room-have.ensures.rule, c.len-need.ensures);
    })
