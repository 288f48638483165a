use mathlib.Core.Path.{◌≡◌}
use lib.ListN.{length, take}
use Rattle.octets.specs.Octets.{parted, total}
use Rattle.octets.proofs.fields.read_fields.Given as goal

abbrev pub invariant-loop-field : goal.invariant-loop-field
invariant-loop-field l =
    (length l.numbers ≡ length l.widths) × (l.at ≡ total (take l.field l.widths)) × (take l.field l.numbers ≡ parted (take l.field l.widths) l.octets)
