use Rattle.std.proofs.Common.{◌-◌, ◌≡◌, sym, ◌∙◌, ap, arith}
use Rattle.dm_rules.specs.Room.{most_bytes}
use Rattle.dm_rules.specs.Version.{chunk_header}
use Rattle.dm_zone.proofs.RoomLemmas.{room_none, room_some, room_fits, room_longest}
use Rattle.dm_zone.proofs.rooms.room.Goals as goal

most_is : (c : goal.After-most_bytes) → c.most_bytes.result ≡ most_bytes (chunk_header c.args.version) (c.args.size - c.args.tip - 32) c.args.chunk
most_is c =
    c.most_bytes.ensures
    ∙ ap (λ h. most_bytes h (c.saturating_sub-left.result - 32) c.args.chunk) c.chunk_header.ensures
    ∙ ap (λ left. most_bytes (chunk_header c.args.version) (left - 32) c.args.chunk) c.saturating_sub-left.ensures

pub returns-then-left-lt-ZONE_HEADER-clause-rule :
    goal.returns-then-left-lt-ZONE_HEADER-clause-rule
returns-then-left-lt-ZONE_HEADER-clause-rule c = sym (room_none c.args.version c.args.size c.args.tip c.args.chunk (omega arith))

pub returns-else-left-lt-ZONE_HEADER-clause-rule :
    goal.returns-else-left-lt-ZONE_HEADER-clause-rule
returns-else-left-lt-ZONE_HEADER-clause-rule c = most_is c ∙ sym (room_some c.args.version c.args.size c.args.tip c.args.chunk (omega arith))

pub returns-else-left-lt-ZONE_HEADER-clause-fits :
    goal.returns-else-left-lt-ZONE_HEADER-clause-fits
returns-else-left-lt-ZONE_HEADER-clause-fits c = λ some more.
    room_fits c.args.version c.args.size c.args.tip c.args.chunk c.most_bytes.result (omega arith) (most_is c) some

pub returns-else-left-lt-ZONE_HEADER-clause-longest :
    goal.returns-else-left-lt-ZONE_HEADER-clause-longest
returns-else-left-lt-ZONE_HEADER-clause-longest c = λ n some more.
    room_longest c.args.version c.args.size c.args.tip c.args.chunk n c.most_bytes.result (omega arith) (most_is c) some more
