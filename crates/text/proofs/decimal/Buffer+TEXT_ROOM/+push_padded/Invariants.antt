use Rattle.text.proofs.decimal.Buffer+TEXT_ROOM.+push_padded.Given as goal

abbrev pub decreases-push_padded : goal.decreases-push_padded
decreases-push_padded l = l.count
