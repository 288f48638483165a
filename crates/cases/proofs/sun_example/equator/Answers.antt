-- `cases::sun_example::equator`: what a direction gives is in turns.
use Rattle.std.proofs.Math.Path.{subst⁻¹}
use Rattle.sky_vectors.proofs.PlaceLaws.{place_towards_in_turns}
use Rattle.sky_vectors.specs.Place.{InTurns}
use Rattle.cases.proofs.sun_example.equator.Goals as goal

pub angle_or-requires : goal.angle_or-requires
angle_or-requires g c = (subst⁻¹ InTurns c.from_south_pole-fixed.ensures (place_towards_in_turns _ _)).azimuth_reduced

pub angle_or-requires-2 : goal.angle_or-requires-2
angle_or-requires-2 g c = (subst⁻¹ InTurns c.from_south_pole-turned.ensures (place_towards_in_turns _ _)).azimuth_reduced
