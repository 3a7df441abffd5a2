use Rattle.std.proofs.Common.{append_assoc}
use Rattle.dm_rules.specs.Zone.{chunk_front}
use Rattle.dm_group_plans.proofs.zones.put_chunk_front.Goals as goal

pub returns : goal.returns
unfolding chunk_front
returns c =
    let a = c.in_ok-extend_from_slice.ensures.items in
    let b = c.in_ok-extend_from_slice-2.ensures.items in
    let d = c.in_ok-extend_from_slice-3.ensures.items in
    let e = c.in_ok-extend_from_slice-4.ensures.items in
    let f = c.in_ok-extend_from_slice-5.ensures.items in
    rw (f, e, d, b, a, c.sixteen_bytes.ensures, c.eight_bytes.ensures, c.eight_bytes-2.ensures, c.eight_bytes-3.ensures) (simp append_assoc)
