use Rattle.std.proofs.Common.{◌≡◌, length}
use Rattle.text.proofs.Reading.{Reading}
use Rattle.text.proofs.line.fill.Given as goal

abbrev pub invariant-loop-word : goal.invariant-loop-word
invariant-loop-word l =
    (goal.iterator-loop-word).can_next l.word-iterator
    × (goal.iterator-loop-word).is_finite l.word-iterator
    × (l.found ≡ length l.yielded)
    × (length l.values ≡ length l.initial.values)
    × Reading l.line l.most l.found l.values
