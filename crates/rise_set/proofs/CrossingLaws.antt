-- The first minute of an event: that its numbers tell it from any other; the two claims on what is given, for any test; that the entries of the curve decide the event; that no minute is both a rise and a set, and that a day without either stays on one side.
use mathlib.Core.Bool.{Bool, ◌&&◌, cond, false, true}
use mathlib.Core.Path.{◌∙◌, ◌≡◌, ap, refl, subst}
use Prim.Native.Nat.{◌<◌, suc, zero, ℕ}
use native.Mathlib.Decide.{dec_lt}
use native.Mathlib.Nat.{le_of_lt, le_refl}
use native.Mathlib.Omega.{arith}
use lib.Dec.{ltb}
use lib.IntN.{◌-ℤ◌, pos, ℤ}
use lib.Signed.{lt_z}
use borrow.Author.Tests.{le-ltb, lt-ltb}
use Rattle.std.specs.Prelude.{None, Option, Some}
use Rattle.calendar.proofs.RefusalLaws.{one_answer}
use Rattle.calendar.specs.Refusal.{OneAnswer}
use Rattle.day.proofs.CurveLaws.{below_entry}
use Rattle.day.proofs.SearchLaws.{before, clash, is_first, same_first, there}
use Rattle.day.specs.Curve.{curve, elevation_on, last_minute, minutes}
use Rattle.day.specs.Date.{days}
use Rattle.day.specs.Search.{first_where}
use Rattle.day.specs.declared.date.Date.{Date}
use Rattle.sum_rules.specs.Instant.{first_day}
use Rattle.sky_vectors.specs.declared.geocentric.Body.{Body}
use Rattle.sky_vectors.specs.declared.station.Point.{Point}
use Rattle.rise_set.specs.Claims.{First, FirstOrNone, NeverTogether, Nowhere, OneSide}
use Rattle.rise_set.specs.Crossing.{CrossingNumbers, at_minute, at_none, crosses, crossing_numbers, first_minute, has_before, is_at, is_up, up_at, up_before}
use Rattle.rise_set.specs.Worked.{crosses_in, entry}
use Rattle.rise_set.specs.declared.crossing.Event.{Event}
use Rattle.rise_set.specs.declared.crossing.Event.TheVariants.{Rise, Set}

-- ---- one answer and no other
pub crossing_tells : (x y : Option ℕ) → crossing_numbers x ≡ crossing_numbers y → x ≡ y
crossing_tells (Some m) (Some n) same = ap (λ (c : CrossingNumbers). Some c.minute) same
crossing_tells (Some m) None same = let never : ◌≡◌ {A = ℕ} 1 0 = ap (λ (c : CrossingNumbers). c.has) same in absurd (omega (arith, never))
crossing_tells None (Some n) same = let never : ◌≡◌ {A = ℕ} 0 1 = ap (λ (c : CrossingNumbers). c.has) same in absurd (omega (arith, never))
crossing_tells None None same = refl

pub one_crossing : {found : Option ℕ} {rule : CrossingNumbers} → crossing_numbers found ≡ rule → OneAnswer crossing_numbers rule found
one_crossing = one_answer crossing_tells

-- ---- what is given, for any test
module _ (test : ℕ → Bool) where
  pub first_given : (m : ℕ) → First test m → first_minute test ≡ at_minute m
  unfolding first_minute
  first_given m f =
      let is = is_first test minutes m (le_of_lt f.in_day) f.none_before (λ h. f.holds) in
      rw (is, lt-ltb m minutes f.in_day) refl

  pub nowhere_given : Nowhere test → first_minute test ≡ at_none
  unfolding first_minute
  nowhere_given none =
      let is = is_first test minutes minutes (le_refl minutes) none (λ h. absurd (omega (arith, h))) in
      rw is refl

  abbrev found : ℕ
  found = first_where test minutes

  found_first : found < minutes → First test found
  found_first h = record { in_day = h; holds = there test minutes h; none_before = before test minutes }

  given_first : (m : ℕ) → first_minute test ≡ at_minute m → First test m
  unfolding first_minute
  given_first m e = go (dec_lt found minutes)
    where
      go : Dec (found < minutes) → First test m
      go (yes h) =
          let same : at_minute found ≡ at_minute m = rw (lt-ltb found minutes h) at e in
          subst (First test) (ap (λ (c : CrossingNumbers). c.minute) same) (found_first h)
      go (no h) =
          let same : at_none ≡ at_minute m = rw (le-ltb found minutes (omega arith)) at e in
          let never : ◌≡◌ {A = ℕ} 0 1 = ap (λ (c : CrossingNumbers). c.has) same in
          absurd (omega (arith, never))

  given_nowhere : first_minute test ≡ at_none → Nowhere test
  unfolding first_minute
  given_nowhere e m h = go (dec_lt found minutes)
    where
      go : Dec (found < minutes) → test m ≡ false
      go (yes l) =
          let same : at_minute found ≡ at_none = rw (lt-ltb found minutes l) at e in
          let never : ◌≡◌ {A = ℕ} 1 0 = ap (λ (c : CrossingNumbers). c.has) same in
          absurd (omega (arith, never))
      go (no l) = before test minutes m (omega arith)

  pub first_or_none : FirstOrNone test
  first_or_none = record { given = given_first; first = first_given; none_given = given_nowhere; nowhere = nowhere_given }

-- tests that agree in the day give the same
same_minute : (f g : ℕ → Bool) → ((m : ℕ) → m < minutes → f m ≡ g m) → first_minute f ≡ first_minute g
unfolding first_minute
same_minute f g same = ap (λ (k : ℕ). cond (ltb k minutes) (at_minute k) at_none) (same_first f g minutes same)

-- ---- the entries of the curve decide the event
same_side : (event : Event) (side : Bool) → crosses event side side ≡ false
same_side Rise true = refl
same_side Rise false = refl
same_side Set true = refl
same_side Set false = refl

module _ (date : Date) (body : Body) (point : Point) where
  abbrev at : ℕ → ℤ
  at = elevation_on date body point (days date)

  pub entry_is : (m : ℕ) → m < minutes → entry (curve date body point) m ≡ at m
  unfolding curve
  entry_is m h = below_entry at (pos 0) minutes m h

  -- on which side the body is before minute 0; before the first day that of minute 0
  abbrev pub side_before : Bool
  side_before = cond (lt_z first_day (days date)) (is_up (elevation_on date body point (days date -ℤ pos 1) last_minute)) (is_up (at 0))

  module _ (event : Event) where
    same_test : (m : ℕ) → m < minutes → crosses_in event side_before (curve date body point) m ≡ is_at event date body point m
    unfolding is_at
    same_test zero h = rw (entry_is 0 h) (go (lt_z first_day (days date)))
      where
        go : (b : Bool) → crosses event (cond b (is_up (elevation_on date body point (days date -ℤ pos 1) last_minute)) (is_up (at 0))) (is_up (at 0))
            ≡ b && crosses event (is_up (elevation_on date body point (days date -ℤ pos 1) last_minute)) (is_up (at 0))
        go true = refl
        go false = same_side event (is_up (at 0))
    same_test (suc m) h = rw (entry_is m (omega arith), entry_is (suc m) h) refl

    pub curve_decides : first_minute (crosses_in event side_before (curve date body point)) ≡ first_minute (is_at event date body point)
    curve_decides = same_minute (crosses_in event side_before (curve date body point)) (is_at event date body point) same_test

-- ---- no minute is both, and without either every minute is on the side of the first
unchanged : (was is : Bool) → crosses Rise was is ≡ false → crosses Set was is ≡ false → is ≡ was
unchanged true true rise set = refl
unchanged true false rise set = absurd (clash refl set)
unchanged false true rise set = absurd (clash refl rise)
unchanged false false rise set = refl

module _ (date : Date) (body : Body) (point : Point) where
  pub never_together : NeverTogether date body point
  unfolding is_at
  never_together m rise set = go (has_before date m) (up_before date body point m) (up_at date body point m) rise set
    where
      go : (has was is : Bool) → has && crosses Rise was is ≡ true → has && crosses Set was is ≡ true → ⊥
      go true true is rise set = clash rise refl
      go true false is rise set = clash set refl
      go false was is rise set = clash rise refl

  pub one_side : OneSide date body point
  unfolding is_at
  one_side no_rise no_set zero h = refl
  one_side no_rise no_set (suc m) h =
      unchanged (up_at date body point m) (up_at date body point (suc m)) (no_rise (suc m) h) (no_set (suc m) h)
      ∙ one_side no_rise no_set m (omega arith)
