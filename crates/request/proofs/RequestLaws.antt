-- What a call of `is_between` told, and what checks that pass say: their numbers lie within bounds, and the start is accepted.
use mathlib.Core.Bool.{Bool, ◌&&◌, false, true}
use mathlib.Core.List.{List, [], ◌++◌}
use mathlib.Core.Path.{◌∙◌, ◌≡◌, ap, refl, subst⁻¹, sym}
use Prim.Native.Nat.{◌≤◌, ℕ}
use native.Mathlib.Nat.{le_refl}
use native.Mathlib.Omega.{arith}
use lib.Dec.{T, lit≤}
use lib.IntN.{◌*ℤ◌, ◌+ℤ◌, nat_abs, negsuc, pos, ℤ}
use lib.ListN.{drop}
use lib.Signed.{◌<ℤ◌, ◌≤ℤ◌, le_z, le_z_yes}
use mir.Facts.{and_yes}
use mir.Syntax.{w64}
use mir.Val.{SFits, of_z, to_z}
use mir.ValLaws.{to_z-of_z}
use Rattle.arithmetic.proofs.Difference.{#◌, ◌⊞◌, ◌⊠◌, by_le, by_lt, to_le, to_lt, ⊟◌, ⟨◌⟩}
use Rattle.number_rules.proofs.CalendarLaws.{accepted_days, day_after_last_is, first_day_is}
use Rattle.calendar.proofs.RefusalLaws.{first_append, none, none_append, passes}
use Rattle.calendar.specs.Refusal.{◌else◌, ◌unless◌, first}
use Rattle.numbers.specs.Whole.{between}
use Rattle.request.specs.Request.{date, delta_limit, elapsed, fraction_limit, instant, is_clock, point_refusals, start_refusals, ut1_limit}
use Rattle.sky_vectors.specs.SkyRange.{OnEarth, Reachable, highest_height, latitude_limit, longitude_limit, lowest_height}
use Rattle.sky_vectors.specs.declared.station.Point.{Point}
use Rattle.request.specs.declared.start.Start.{Start}
use Rattle.sum_rules.proofs.AcceptedInstants.{terrestrial_near, universal_near}
use Rattle.sum_rules.specs.Instant.{Accepted, day, minus}
use Rattle.sum_rules.specs.Instant as Unit

-- a test of a number that a callee was handed
pub tested : (lo x hi : ℤ) {r : Bool} → SFits w64 x → r ≡ between lo (to_z w64 (of_z w64 x)) hi → between lo x hi ≡ r
tested lo x hi f e = sym (e ∙ ap (λ (z : ℤ). between lo z hi) (to_z-of_z w64 x f))

-- the verdict on a number that must lie between two
pub judged_between : (n : ℕ) (lo x hi : ℤ) {v : ℕ} {passes : Bool} → SFits w64 x → v ≡ n unless passes → passes ≡ between lo (to_z w64 (of_z w64 x)) hi
    → v ≡ n unless between lo x hi
judged_between n lo x hi f e b = e ∙ ap (λ (p : Bool). n unless p) (sym (tested lo x hi f b))

-- ---- a check that passes
pub between_le : (lo x hi : ℤ) → between lo x hi ≡ true → (lo ≤ℤ x) × (x ≤ℤ hi)
unfolding between
between_le lo x hi e = let both = and_yes (le_z lo x) (le_z x hi) (subst⁻¹ T e tt) in (le_z_yes both.0, le_z_yes both.1)

pub between_size : (a m : ℕ) (x : ℤ) → a ≤ m → between (minus a) x (pos m) ≡ true → nat_abs x ≤ m
between_size a m (pos n) h e = omega (arith, to_le (# n) (# m) (between_le (minus a) (pos n) (pos m) e).1)
between_size a m (negsuc n) h e = omega (arith, to_le (⊟ (# a)) ⟨ negsuc n ⟩ (between_le (minus a) (negsuc n) (pos m) e).0)

-- ---- the clock
pub record Clock (s : Start) : Type 0 where
  pub hour : between (pos 0) s.hour (pos 23) ≡ true
  pub minute : between (pos 0) s.minute (pos 59) ≡ true
  pub second : between (pos 0) s.second (pos 59) ≡ true
  pub fraction : between (pos 0) s.fraction (pos fraction_limit) ≡ true

both : (a b : Bool) → a && b ≡ true → (a ≡ true) × (b ≡ true)
both true b e = (refl, e)
both false b e = absurd (subst⁻¹ T e tt)

pub clock : (s : Start) → is_clock s ≡ true → Clock s
unfolding is_clock
clock s e =
    let h = between (pos 0) s.hour (pos 23) in
    let m = between (pos 0) s.minute (pos 59) in
    let t = between (pos 0) s.second (pos 59) in
    let last = both (h && m && t) (between (pos 0) s.fraction (pos fraction_limit)) e in
    let third = both (h && m) t last.0 in
    let two = both h m third.0 in
    record { hour = two.0; minute = two.1; second = third.1; fraction = last.1 }

elapsed_in_day : (s : Start) → Clock s → (pos 0 ≤ℤ elapsed s) × (elapsed s <ℤ pos day)
unfolding elapsed
elapsed_in_day s c =
    let h = between_le (pos 0) s.hour (pos 23) c.hour in
    let m = between_le (pos 0) s.minute (pos 59) c.minute in
    let t = between_le (pos 0) s.second (pos 59) c.second in
    let f = between_le (pos 0) s.fraction (pos fraction_limit) c.fraction in
    let h₀ = to_le (# 0) ⟨ s.hour ⟩ h.0 in
    let h₁ = to_le ⟨ s.hour ⟩ (# 23) h.1 in
    let m₀ = to_le (# 0) ⟨ s.minute ⟩ m.0 in
    let m₁ = to_le ⟨ s.minute ⟩ (# 59) m.1 in
    let t₀ = to_le (# 0) ⟨ s.second ⟩ t.0 in
    let t₁ = to_le ⟨ s.second ⟩ (# 59) t.1 in
    let f₀ = to_le (# 0) ⟨ s.fraction ⟩ f.0 in
    let f₁ = to_le ⟨ s.fraction ⟩ (# fraction_limit) f.1 in
    let is = ((⟨ s.hour ⟩ ⊠ # 60 ⊞ ⟨ s.minute ⟩) ⊠ # 60 ⊞ ⟨ s.second ⟩) ⊠ # Unit.second ⊞ ⟨ s.fraction ⟩ in
    (by_le (# 0) is (omega arith), by_lt is (# day) (omega arith))

-- ---- an accepted start
module _ (s : Start) (e : first (start_refusals s) ≡ 0) where
  abbrev by_date : ((date s).refusal ≡ 0) × (first (drop 1 (start_refusals s)) ≡ 0)
  by_date = none (date s).refusal (drop 1 (start_refusals s)) e

  abbrev by_clock : (4 unless is_clock s ≡ 0) × (first (drop 2 (start_refusals s)) ≡ 0)
  by_clock = none (4 unless is_clock s) (drop 2 (start_refusals s)) by_date.1

  abbrev by_ut1 : (5 unless between (minus ut1_limit) s.ut1 (pos ut1_limit) ≡ 0) × (first (drop 3 (start_refusals s)) ≡ 0)
  by_ut1 = none (5 unless between (minus ut1_limit) s.ut1 (pos ut1_limit)) (drop 3 (start_refusals s)) by_clock.1

  abbrev by_delta : (6 unless between (minus delta_limit) s.delta_t (pos delta_limit) ≡ 0) × (first [] ≡ 0)
  by_delta = none (6 unless between (minus delta_limit) s.delta_t (pos delta_limit)) [] by_ut1.1

  pub clock_passes : is_clock s ≡ true
  clock_passes = passes 3 (is_clock s) by_clock.0

  pub accepted : Accepted (date s).days (elapsed s) s.ut1 s.delta_t
  accepted =
      let days = accepted_days s.year s.month s.day by_date.0 in
      let within = elapsed_in_day s (clock s clock_passes) in
      let last = to_le ⟨ (date s).days ⟩ (# 36_889) days.1 in
      let before = to_lt ⟨ elapsed s ⟩ (# day) within.1 in
      record {
        not_early = subst⁻¹ (λ (z : ℤ). z ≤ℤ (date s).days) first_day_is days.0;
        from_midnight = within.0;
        not_late =
            subst⁻¹ (λ (z : ℤ). (pos day *ℤ (date s).days +ℤ elapsed s) <ℤ (pos day *ℤ z)) day_after_last_is
            (by_lt (# day ⊠ ⟨ (date s).days ⟩ ⊞ ⟨ elapsed s ⟩) (# day ⊠ # 36_890) (omega (arith, last, before)));
        ut1_small =
            let size = between_size ut1_limit ut1_limit s.ut1 (le_refl ut1_limit) (passes 4 (between (minus ut1_limit) s.ut1 (pos ut1_limit)) by_ut1.0) in
            omega arith;
        delta_small = between_size delta_limit delta_limit s.delta_t (le_refl delta_limit) (passes 5 (between (minus delta_limit) s.delta_t (pos delta_limit)) by_delta.0);
      }

pub start_reachable : (s : Start) → first (start_refusals s) ≡ 0 → Reachable (instant s)
unfolding instant
start_reachable s e = record { ut_near = universal_near (accepted s e); tt_near = terrestrial_near (accepted s e) }

-- ---- an accepted point
pub on_earth : (p : Point) → first (point_refusals p) ≡ 0 → OnEarth p
on_earth p e =
    let by_longitude = between (minus longitude_limit) p.longitude (pos longitude_limit) in
    let by_latitude = between (minus latitude_limit) p.latitude (pos latitude_limit) in
    let by_height = between lowest_height p.height (pos highest_height) in
    let longitude = none (7 unless by_longitude) (drop 1 (point_refusals p)) e in
    let latitude = none (8 unless by_latitude) (drop 2 (point_refusals p)) longitude.1 in
    let height = none (9 unless by_height) [] latitude.1 in
    record {
      longitude_size = between_size longitude_limit longitude_limit p.longitude (lit≤ tt) (passes 6 by_longitude longitude.0);
      latitude_size = between_size latitude_limit latitude_limit p.latitude (lit≤ tt) (passes 7 by_latitude latitude.0);
      height_size = between_size 500 highest_height p.height (lit≤ tt) (passes 8 by_height height.0);
    }

-- ---- a start, a point, and further checks
module _ (s : Start) (p : Point) (rest : List ℕ) where
  pub first_of : first (start_refusals s ++ (point_refusals p ++ rest)) ≡ first (start_refusals s) else (first (point_refusals p) else first rest)
  first_of =
      first_append (start_refusals s) (point_refusals p ++ rest) ∙ ap (λ (n : ℕ). first (start_refusals s) else n) (first_append (point_refusals p) rest)

  module _ (e : first (start_refusals s ++ (point_refusals p ++ rest)) ≡ 0) where
    pub start_passes : first (start_refusals s) ≡ 0
    start_passes = (none_append (start_refusals s) (point_refusals p ++ rest) e).0

    abbrev further : first (point_refusals p ++ rest) ≡ 0
    further = (none_append (start_refusals s) (point_refusals p ++ rest) e).1

    pub point_passes : first (point_refusals p) ≡ 0
    point_passes = (none_append (point_refusals p) rest further).0

    pub rest_passes : first rest ≡ 0
    rest_passes = (none_append (point_refusals p) rest further).1
