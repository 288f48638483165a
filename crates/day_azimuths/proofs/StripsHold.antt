-- A day that is worked is a strip that can be written: what its request passes is what the strip's checks ask, and an azimuth below a full turn stays so when it is floored.
use mathlib.Core.Bool.{Bool, ◌&&◌, true}
use mathlib.Core.List.{List, [], ◌++◌, ◌∷◌}
use mathlib.Core.Path.{◌∙◌, ◌≡◌, ap₂, refl, sym}
use Prim.Native.Nat.{◌*◌, ◌/◌, suc, zero, ℕ}
use native.Mathlib.Omega.{arith}
use lib.IntN.{nat_abs, pos, ℤ}
use lib.ListN.{drop, length}
use borrow.Author.Tests.{eq-eqb, lt-ltb}
use Rattle.arctangent.specs.Direction.{Direction, Reduced}
use Rattle.std.specs.Prelude.{None, Some}
use Rattle.calendar.proofs.RefusalLaws.{none, none_append, passed_first, passes}
use Rattle.calendar.specs.Refusal.{◌unless◌, first}
use Rattle.day.proofs.CurveLaws.{below_length}
use Rattle.day.specs.Curve.{azimuth_on, each_below, minute_of}
use Rattle.day.specs.Date.{count, days}
use Rattle.day.specs.declared.date.Date.{Date}
use Rattle.numbers.specs.Whole.{between}
use Rattle.request.specs.Request.{date_refusals, point_refusals, scale_refusals}
use Rattle.sky_vectors.proofs.PlaceLaws.{place_at_in_turns}
use Rattle.sky_vectors.specs.SkyRange.{latitude_limit, longitude_limit}
use Rattle.sky_vectors.specs.declared.geocentric.Body.{Body}
use Rattle.sky_vectors.specs.declared.station.Point.{Point}
use Rattle.strip.specs.Checks.{are_azimuths, full_turn, header_refusals, is_azimuth, is_date, is_point, steps}
use Rattle.strip.specs.Format.{Strip}
use Rattle.strip_writer.specs.Writing.{own_refusals, strip_refusals}
use Rattle.sum_rules.specs.Instant.{minus}
use Rattle.text.proofs.WordLaws.{all_append}
use Rattle.text.specs.Line.{all}
use Rattle.day_azimuths.specs.Answer.{azimuths_refusals}
use Rattle.day_azimuths.specs.Azimuths.{SameTurn, coarser, strip_azimuth, worked}
use Rattle.day_azimuths.specs.Strips.{EveryDayWritable, day_strip}
use Rattle.day_azimuths.proofs.AnswerLaws.{day_passes, refusal_is, step_passes}

-- ---- azimuths
pub same_turn : SameTurn
same_turn = refl

floored : (d : Direction) → Reduced d → is_azimuth (strip_azimuth d) ≡ true
floored (Some angle) h = simp (lt-ltb (angle.units / coarser) full_turn (omega arith))
floored None h = refl

module _ (f : ℕ → ℕ) (good : (i : ℕ) → is_azimuth (f i) ≡ true) where
  all_below : (n : ℕ) → all is_azimuth (each_below f n) ≡ true
  unfolding all each_below
  all_below zero = refl
  all_below (suc n) = all_append is_azimuth (each_below f n) (f n ∷ []) ∙ ap₂ (λ (p q : Bool). p && (q && true)) (all_below n) (good n)

module _ (date : Date) (body : Body) (point : Point) (step : ℤ) where
  at_step : (i : ℕ) → is_azimuth (strip_azimuth (azimuth_on date body point (i * nat_abs step))) ≡ true
  at_step i = floored (azimuth_on date body point (i * nat_abs step)) (place_at_in_turns body point (minute_of date (days date) (i * nat_abs step))).azimuth_reduced

  worked_good : are_azimuths (worked date body point step) ≡ true
  unfolding worked are_azimuths
  worked_good = all_below (λ i. strip_azimuth (azimuth_on date body point (i * nat_abs step))) at_step (steps step)

  worked_count : length (worked date body point step) ≡ steps step
  unfolding worked
  worked_count = below_length (λ i. strip_azimuth (azimuth_on date body point (i * nat_abs step))) (steps step)

-- ---- the header
module _ (date : Date) (body : Body) (point : Point) (step : ℤ) (room : ℕ) (e : first (azimuths_refusals date point step room) ≡ 0) where
  abbrev strip : Strip
  strip = day_strip date body point step

  abbrev scales : List ℕ
  scales = scale_refusals date.ut1 date.delta_t

  by_date : (first (date_refusals (count date)) ≡ 0) × (first (scales ++ point_refusals point) ≡ 0)
  by_date = none_append (date_refusals (count date)) (scales ++ point_refusals point) (day_passes date point step room e)

  by_point : first (point_refusals point) ≡ 0
  by_point = (none_append scales (point_refusals point) by_date.1).1

  abbrev east_west : Bool
  east_west = between (minus longitude_limit) point.longitude (pos longitude_limit)

  abbrev north_south : Bool
  north_south = between (minus latitude_limit) point.latitude (pos latitude_limit)

  by_longitude : (7 unless east_west ≡ 0) × (first (drop 1 (point_refusals point)) ≡ 0)
  by_longitude = none (7 unless east_west) (drop 1 (point_refusals point)) by_point

  by_latitude : (8 unless north_south ≡ 0) × (first (drop 2 (point_refusals point)) ≡ 0)
  by_latitude = none (8 unless north_south) (drop 2 (point_refusals point)) by_longitude.1

  date_good : is_date strip.header ≡ true
  unfolding is_date
  date_good = eq-eqb (count date).refusal 0 (none (count date).refusal [] by_date.0).0

  point_good : is_point strip.header ≡ true
  unfolding is_point
  point_good = ap₂ ◌&&◌ (passes 6 east_west by_longitude.0) (passes 7 north_south by_latitude.0)

  header_good : first (header_refusals strip.header) ≡ 0
  header_good = unfold first in simp (date_good, point_good, step_passes date point step room e)

  own_good : first (own_refusals strip) ≡ 0
  own_good = unfold first in simp (eq-eqb (length strip.azimuths) (steps step) (worked_count date body point step), worked_good date body point step)

  writable : first (strip_refusals strip) ≡ 0
  writable = passed_first (header_refusals strip.header) (own_refusals strip) header_good ∙ own_good

pub every_day_writable : EveryDayWritable
every_day_writable date body point step room e = writable date body point step room (sym (refusal_is date point step room) ∙ e)
