use mathlib.Core.Path.{◌≡◌}
use Prim.Native.Nat.{◌<◌, ◌^◌}
use lib.ListN.{take}
use Rattle.octets.specs.Octets.{number}
use Rattle.octets.proofs.number.number_at.Given as goal

abbrev pub invariant-loop-octet : goal.invariant-loop-octet
invariant-loop-octet l = (l.value ≡ number (take l.octet-index l.octet-items)) × (l.value < 256 ^ l.octet-index)
