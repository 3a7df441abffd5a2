use Rattle.std.proofs.Common.{length}
use Rattle.dm_group_tokens.proofs.tests_of_rows.+has_piece_on.Given as goal

abbrev pub decreases-has_piece_on : goal.decreases-has_piece_on
decreases-has_piece_on l = length l.pieces.now
