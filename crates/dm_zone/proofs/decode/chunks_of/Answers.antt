use Rattle.std.proofs.Common.{arith}
use Rattle.dm_zone.proofs.Listing.{listing_none, listing_next, listing_all, listing_fits, next_right, spelled_long}
use Rattle.dm_zone.proofs.decode.chunks_of.Goals as goal

pub split_at-requires : goal.split_at-requires
split_at-requires c = spelled_long c.args.version c.args.bytes.now c.args.count c.requires

pub loop-init : goal.loop-init
loop-init c = record {
  listing = listing_none c.args.version c.args.bytes.now _ c.args.count _ c.requires c.in_ok-chunks.ensures.items c.split_at.ensures.back;
  left = c.split_at.ensures.back_len;
}

pub chunk_of-chunk-requires-clause-right : goal.chunk_of-chunk-requires-clause-right
chunk_of-chunk-requires-clause-right c =
    next_right c.args.version c.args.bytes.now c.loop.rest.now c.args.count c.loop.counter c.loop.place c.loop.chunks.items c.loop-test.true c.loop.invariant.listing

pub overflow_add-len : goal.overflow_add-len
overflow_add-len c =
    let fits = listing_fits c.args.version c.chunk_header-header.result c.args.bytes.now c.loop.rest.now c.args.count c.loop.counter c.loop.place c.loop.chunks.items c.chunk_of-chunk.result
    c.chunk_header-header.ensures c.loop-test.true c.chunk_of-chunk.ensures c.loop.invariant.listing in
    omega (arith, fits)

pub split_at-requires-in-loop : goal.split_at-requires-in-loop
split_at-requires-in-loop c =
    listing_fits c.args.version c.chunk_header-header.result c.args.bytes.now c.loop.rest.now c.args.count c.loop.counter c.loop.place c.loop.chunks.items c.chunk_of-chunk.result
    c.chunk_header-header.ensures c.loop-test.true c.chunk_of-chunk.ensures c.loop.invariant.listing

pub loop-preserved : goal.loop-preserved
loop-preserved c = record {
  listing = listing_next c.args.version c.chunk_header-header.result c.args.bytes.now c.loop.rest.now _ c.args.count c.loop.counter c.loop.place c.loop.chunks.items _ c.chunk_of-chunk.result
      c.chunk_header-header.ensures c.loop-test.true c.chunk_of-chunk.ensures c.in_ok-push.ensures.items c.split_at-in-loop.ensures.back c.loop.invariant.listing;
  left = omega arith;
}

pub returns : goal.returns
returns c = listing_all c.args.version c.args.bytes.now c.loop.rest.now c.args.count c.loop.counter c.loop.place c.loop.chunks.items (omega arith) c.loop.invariant.listing
