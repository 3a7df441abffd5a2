use Rattle.std.proofs.Common.{◌≡◌, ℕ, arith, ◌+◌, ◌*◌, ◌++◌, ◌∙◌, ap, drop, length}
use Rattle.std.specs.List.{flat_map}
use Rattle.dm_rules.specs.Version.{chunk_header}
use Rattle.dm_rules.specs.Zone.{chunk_count, chunk_text, chunk_split, chunk_split_into, zone_front, zone_length}
use Rattle.dm_rules.proofs.Sizes.{one_chunk, zone_alone}
use Rattle.dm_zone.proofs.Cuts.{behind_headers, cut_zone, length-zone, zone_is}
use Rattle.dm_zone.proofs.encode.encode_zone.Goals as goal

-- what was written
written : (c : goal.In_ok-put_chunks) → c.put_chunks.new.out.items
    ≡ zone_front c.args.epoch (chunk_count c.args.chunk (length c.args.bytes.now)) (zone_length c.args.version c.args.chunk (length c.args.bytes.now))
    ++ flat_map chunk_text (chunk_split c.args.version c.args.bfid.0 c.args.total c.args.offset c.args.bytes.now c.args.chunk)
written c =
    let bytes = c.args.bytes.now in
    let chunks = λ (n : ℕ). flat_map chunk_text (chunk_split_into c.args.version n c.args.bfid.0 c.args.total c.args.offset bytes c.args.chunk) in
    let front = λ (h n : ℕ). zone_front c.args.epoch n (32 + h * n + length bytes) in
    let count = c.div_ceil-count.result in
    c.in_ok-put_chunks.ensures
    ∙ ap (λ xs. xs ++ chunks count) (
    c.in_ok-put_front.ensures ∙ ap (λ n. c.in_ok-out.out.items ++ zone_front c.args.epoch count n) c.in-Some.ensures.1
    ∙ ap (λ xs. xs ++ front c.chunk_header.result count) c.in_ok-out.ensures.items
    ∙ ap (λ h. front h count) c.chunk_header.ensures
    )
    ∙ ap (λ n. front (chunk_header c.args.version) n ++ chunks n) c.div_ceil-count.ensures

pub returns-clause-spelled : goal.returns-clause-spelled
returns-clause-spelled c = written c ∙ zone_is c.args.version c.args.epoch c.args.bfid.0 c.args.total c.args.offset c.args.bytes.now c.args.chunk c.requires.chunk

pub returns-clause-long : goal.returns-clause-long
returns-clause-long c = ap length (written c) ∙ length-zone c.args.version c.args.epoch c.args.bfid.0 c.args.total c.args.offset c.args.bytes.now c.args.chunk _ _ c.requires.chunk

pub returns-clause-one : goal.returns-clause-one
returns-clause-one c = λ fits. (
  returns-clause-long c ∙ zone_alone c.args.version c.args.chunk (length c.args.bytes.now) c.requires.some fits,
  ap (drop (32 + chunk_header c.args.version)) (written c)
      ∙ behind_headers c.args.version c.args.epoch _ _ c.args.bfid.0 c.args.total c.args.offset c.args.bytes.now c.args.chunk _ (one_chunk (length c.args.bytes.now) c.args.chunk c.requires.some fits) fits,
)

pub returns-clause-grammar : goal.returns-clause-grammar
returns-clause-grammar c =
    let bytes = c.args.bytes.now in
    let whole : 32 + c.chunk_header.result * c.div_ceil-count.result + length bytes ≡ zone_length c.args.version c.args.chunk (length bytes) =
    ap (λ h. 32 + h * c.div_ceil-count.result + length bytes) c.chunk_header.ensures
    ∙ ap (λ n. 32 + chunk_header c.args.version * n + length bytes) c.div_ceil-count.ensures in
    cut_zone c.args.version c.args.epoch c.args.bfid.0 c.args.total c.args.offset bytes c.args.chunk (omega arith) (omega arith) (omega arith)
    c.requires.chunk c.requires.some c.requires.within c.requires.count (omega (arith, c.in-Some.ensures.0, whole))
