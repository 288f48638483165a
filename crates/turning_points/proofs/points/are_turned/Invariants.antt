use Rattle.std.proofs.Common.{◌≡◌, ℕ, ◌-◌, ◌<◌, ◌≤◌, drop, false, length}
use Rattle.std.specs.Slice.Iter.{windows_rest, windows_size}
use Rattle.turning_points.specs.Points.{opposite_next}
use Rattle.turning_points.proofs.points.are_turned.Given as goal

abbrev pub invariant-loop-pair : goal.invariant-loop-pair
invariant-loop-pair l =
    let rest = windows_rest l.pair-iterator in
    let passed = length l.azimuths - length rest in
    (windows_size l.pair-iterator ≡ 2) × (length rest ≤ length l.azimuths) × (rest ≡ drop passed l.azimuths) × ((i : ℕ) → i < passed → opposite_next l.azimuths i ≡ false)
