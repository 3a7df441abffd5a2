use Rattle.std.proofs.Common.{◌≡◌, ℕ, [], drop, refl, subst, arith}
use Rattle.dm_zone.specs.Reading.{Read}
use Rattle.dm_zone.proofs.Chunks.{read_none, read_next}
use Rattle.dm_zone.proofs.decode.chunks_end.Goals as goal

pub loop-init : goal.loop-init
loop-init c = record { read = ([], read_none c.args.version _ _ [] refl c.split_at.ensures.back); left = c.split_at.ensures.back_len }

pub loop-preserved : goal.loop-preserved
loop-preserved c = record {
  read = read_next c.args.version c.chunk_header-header.result c.in-Ok.text c.args.bytes.now _ c.loop.rest.now _ c.loop.counter c.loop.place c.chunk_header-header.ensures refl (λ i. omega (arith, c.type_inv.bytes i)) c.in-Ok.ensures.0 c.in-Ok.ensures.1 c.split_at-in-loop.ensures.back c.loop.invariant.read;
  left = omega arith;
}

pub returns : goal.returns
returns c =
    let read = c.loop.invariant.read in
    let all : c.loop.counter ≡ c.args.count = omega arith in
    record {
      told = read.0;
      rest = c.loop.rest.now;
      left = c.loop.invariant.left;
      read = subst (λ (n : ℕ). Read c.args.version (drop 32 c.args.bytes.now) n read.0 c.loop.place c.loop.rest.now) all read.1;
    }
