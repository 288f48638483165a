use mathlib.Core.Path.{◌≡◌}
use Prim.Native.Nat.{◌+◌, ◌-◌, ◌/◌, ◌^◌, ◌≤◌}
use lib.Seq.{sets}
use Rattle.octets.specs.Octets.{big_endian}
use Rattle.octets.proofs.number.put_number.Given as goal

abbrev pub invariant-loop-place : goal.invariant-loop-place
invariant-loop-place l =
    let stored = l.at + l.width - l.place in
    (l.at ≤ l.place) × (l.out ≡ sets l.initial.out l.place (big_endian stored l.number)) × (l.rest ≡ l.number / 256 ^ stored)
