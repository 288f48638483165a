-- `moon_sums::moon::moon_at` meets its contract. The arguments, E and A1 to A3 are worked out first; the rows of both tables, and what is added to
-- them, then go by these, and the floors of the sums are the place.
use mathlib.Core.List.{List, []}
use mathlib.Core.Path.{◌∙◌, ◌≡◌, ap, subst⁻¹}
use Prim.Native.Nat.{◌<◌, ◌^◌, ◌≤◌, ℕ}
use lib.Dec.{lit<}
use lib.IntN.{nat_abs, pos, ℤ}
use lib.ListN.{get_or, length}
use Rattle.number_rules.specs.Angle.{reduced}
use Rattle.numbers.proofs.Machine.{Mirror, ◌⊕◌, asked, fits, floor_gave, gave, kept, lit, some_gave, told}
use Rattle.sum_rules.specs.Instant.{furthest}
use Rattle.sum_rules.specs.Moon.{arguments, by_cosine, by_sine, cosine_term, eccentricity, latitude, latitude_added, latitude_sum, longitude, longitude_added, longitude_sum, metres, sine_term}
use Rattle.moon_sums.specs.MoonRange.{Slight, SmallRow, Summable}
use Rattle.sum_terms.specs.TermRange.{Summing, Turns}
use Rattle.sum_rules.specs.MoonTerms.{A1, A2, A3, L', latitude_terms, longitude_distance_terms}
use Rattle.sum_rules.specs.Table.{column, total}
use Rattle.sum_rules.specs.declared.moon.Eccentricity.{Eccentricity}
use Rattle.sum_rules.proofs.Accurate.{moon_near}
use Rattle.sum_terms.proofs.InstantLaws.{value_small}
use Rattle.moon_sums.proofs.MoonLaws.{arguments_turn, cosine_summing, eccentricity_slight, latitude_fits, longitude_distance_fits, sine_summing}
use Rattle.sum_terms.proofs.SumLoop.{all_small}
use Rattle.moon_sums.proofs.moon.moon_at.Goals as goal
use Rattle.moon_sums.proofs.moon.moon_at.Goals.{After-arguments-arguments, After-eccentricity_at-e, After-floor_div, After-floor_div-3, After-latitude_added-latitude_sum, After-longitude_added-longitude_sum, After-term_sums-first, After-term_sums-second, After-value_at-a1, After-value_at-a3, Start}

-- what was worked out first
module _ (v : After-value_at-a3) where
  abbrev at_a1 : After-value_at-a1
  at_a1 = (goal.at.After-value_at-a3 v).After-value_at-a1

  abbrev at_e : After-eccentricity_at-e
  at_e = (goal.at.After-value_at-a1 at_a1).After-eccentricity_at-e

  abbrev at_arguments : After-arguments-arguments
  at_arguments = (goal.at.After-eccentricity_at-e at_e).After-arguments-arguments

  abbrev begun : Start
  begun = (goal.at.After-arguments-arguments at_arguments).Start

  abbrev n : ℤ
  n = begun.args.t.n

  abbrev near : nat_abs n ≤ furthest
  near = begun.requires.near

  turns : Turns at_arguments.arguments-arguments.result
  turns = subst⁻¹ Turns at_arguments.arguments-arguments.ensures (arguments_turn n)

  slight : Slight at_e.eccentricity_at-e.result
  slight = subst⁻¹ Slight at_e.eccentricity_at-e.ensures (eccentricity_slight n near)

  abbrev a1 : Mirror
  a1 = gave at_a1.value_at-a1.type_inv at_a1.value_at-a1.ensures (value_small A1 n)

  abbrev a2 : Mirror
  a2 = gave v.value_at-a2.type_inv v.value_at-a2.ensures (value_small A2 n)

  abbrev a3 : Mirror
  a3 = gave v.value_at-a3.type_inv v.value_at-a3.ensures (value_small A3 n)

  abbrev args : List ℤ
  args = at_arguments.arguments-arguments.result

  abbrev e : Eccentricity
  e = at_e.eccentricity_at-e.result

  -- what the rows of a table ask
  asked_of : (terms : List (List ℤ)) → Summable terms
      → (24 < 2 ^ 63) × (((i : ℕ) → i < length terms → Turns args × (Slight e × SmallRow (get_or terms i []))) × (Summing (sine_term args e) terms (2 ^ 62) × Summing (cosine_term args e) terms (2 ^ 62)))
  asked_of terms fit = (
    lit< tt,
    (
      λ i h. (turns, (slight, fit.each i h)),
      (
        sine_summing args e slight terms fit,
        cosine_summing args e slight terms fit,
      ),
    ),
  )

-- that state, from each later one
abbrev values : After-term_sums-first → After-value_at-a3
values c = (goal.at.After-term_sums-first c).After-value_at-a3

abbrev values2 : After-term_sums-second → After-value_at-a3
values2 c = values (goal.at.After-term_sums-second c).After-term_sums-first

abbrev values3 : After-longitude_added-longitude_sum → After-value_at-a3
values3 c = values2 (goal.at.After-longitude_added-longitude_sum c).After-term_sums-second

abbrev values4 : After-latitude_added-latitude_sum → After-value_at-a3
values4 c = values3 (goal.at.After-latitude_added-latitude_sum c).After-longitude_added-longitude_sum

-- the rows
module _ (c : After-term_sums-first) where
  abbrev v₁ : After-value_at-a3
  v₁ = values c

  first_sine : c.term_sums-first.result.sine ≡ by_sine (n v₁) longitude_distance_terms
  unfolding longitude_distance_terms
  first_sine = c.term_sums-first.ensures.0 ∙ (λ i. total (sine_term ((at_arguments v₁).arguments-arguments.ensures i) ((at_e v₁).eccentricity_at-e.ensures i)) longitude_distance_terms)

  first_cosine : c.term_sums-first.result.cosine ≡ by_cosine (n v₁) longitude_distance_terms
  unfolding longitude_distance_terms
  first_cosine = c.term_sums-first.ensures.1 ∙ (λ i. total (cosine_term ((at_arguments v₁).arguments-arguments.ensures i) ((at_e v₁).eccentricity_at-e.ensures i)) longitude_distance_terms)

  abbrev longitude_rows : Mirror
  longitude_rows =
      told first_sine (all_small (sine_summing (arguments (n v₁)) (eccentricity (n v₁)) (eccentricity_slight (n v₁) (near v₁)) longitude_distance_terms longitude_distance_fits)) tt

  abbrev distance_rows : Mirror
  distance_rows =
      told first_cosine (all_small (cosine_summing (arguments (n v₁)) (eccentricity (n v₁)) (eccentricity_slight (n v₁) (near v₁)) longitude_distance_terms longitude_distance_fits)) tt

module _ (c : After-term_sums-second) where
  abbrev v₂ : After-value_at-a3
  v₂ = values2 c

  second_sine : c.term_sums-second.result.sine ≡ by_sine (n v₂) latitude_terms
  unfolding latitude_terms
  second_sine = c.term_sums-second.ensures.0 ∙ (λ i. total (sine_term ((at_arguments v₂).arguments-arguments.ensures i) ((at_e v₂).eccentricity_at-e.ensures i)) latitude_terms)

  abbrev latitude_rows : Mirror
  latitude_rows =
      told second_sine (all_small (sine_summing (arguments (n v₂)) (eccentricity (n v₂)) (eccentricity_slight (n v₂) (near v₂)) latitude_terms latitude_fits)) tt

-- the sums with what is added
longitude_is : (c : After-longitude_added-longitude_sum) → c.longitude_added-longitude_sum.result ≡ longitude_sum (n (values3 c))
longitude_is c =
    let v = values3 c in
    c.longitude_added-longitude_sum.ensures
    ∙ (λ i. longitude_added ((longitude_rows (goal.at.After-longitude_added-longitude_sum c).After-term_sums-first).same i) ((at_arguments v).arguments-arguments.ensures i) ((a1 v).same i) ((a2 v).same i))

latitude_is : (c : After-latitude_added-latitude_sum) → c.latitude_added-latitude_sum.result ≡ latitude_sum (n (values4 c))
latitude_is c =
    let v = values4 c in
    c.latitude_added-latitude_sum.ensures
    ∙ (λ i. latitude_added ((latitude_rows (goal.at.After-latitude_added-latitude_sum c).After-term_sums-second).same i) ((at_arguments v).arguments-arguments.ensures i) ((a1 v).same i) ((a3 v).same i))

abbrev longitude_total : After-floor_div → Mirror
longitude_total c =
    let a = (at_arguments (values3 (goal.at.After-floor_div c).After-longitude_added-longitude_sum)).arguments-arguments in
    told {r = column a.result 0} (λ i. column (a.ensures i) 0) (value_small L' (n (values3 (goal.at.After-floor_div c).After-longitude_added-longitude_sum))) tt
    ⊕ floor_gave (some_gave c.longitude_added-longitude_sum.type_inv (longitude_is (goal.at.After-floor_div c).After-longitude_added-longitude_sum)) 1_000_000_000 c.floor_div.type_inv c.floor_div.ensures

-- the sums are all there before the first floor
abbrev summed : After-floor_div-3 → After-latitude_added-latitude_sum
summed c = (goal.at.After-floor_div-3 c).After-latitude_added-latitude_sum

abbrev metres_total : After-floor_div-3 → Mirror
metres_total c =
    let rows = (goal.at.After-latitude_added-latitude_sum (summed c)).After-term_sums-first in
    lit (pos 385_000_560) ⊕ floor_gave (distance_rows rows) 100_000_000_000 c.floor_div-3.type_inv c.floor_div-3.ensures

pub term_sums-first-requires : goal.term_sums-first-requires
unfolding longitude_distance_terms
term_sums-first-requires c =
    let v = (goal.at.term_sums-first-requires c).After-value_at-a3 in
    asked_of v longitude_distance_terms longitude_distance_fits

pub term_sums-second-requires : goal.term_sums-second-requires
unfolding latitude_terms
term_sums-second-requires c =
    let v = values (goal.at.term_sums-second-requires c).After-term_sums-first in
    asked_of v latitude_terms latitude_fits

pub longitude_added-longitude_sum-requires : goal.longitude_added-longitude_sum-requires
longitude_added-longitude_sum-requires c =
    let v = values2 (goal.at.longitude_added-longitude_sum-requires c).After-term_sums-second in
    (asked (longitude_rows (goal.at.longitude_added-longitude_sum-requires c).After-term_sums-first) tt, turns v)

pub latitude_added-latitude_sum-requires : goal.latitude_added-latitude_sum-requires
latitude_added-latitude_sum-requires c =
    let v = values3 (goal.at.latitude_added-latitude_sum-requires c).After-longitude_added-longitude_sum in
    (asked (latitude_rows (goal.at.latitude_added-latitude_sum-requires c).After-term_sums-second) tt, (turns v, asked (a1 v) tt))

pub returns : goal.returns
unfolding longitude latitude metres
returns c =
    let l = summed (goal.at.returns c).After-floor_div-3 in
    let v = values4 l in (
      c.new.ensures ∙ ap reduced (kept (longitude_total (goal.at.returns c).After-floor_div) tt).same,
      (
        (floor_gave (some_gave l.latitude_added-latitude_sum.type_inv (latitude_is l)) 1_000_000_000 c.floor_div-2.type_inv c.floor_div-2.ensures).same,
        ((kept (metres_total (goal.at.returns c).After-floor_div-3) tt).same, moon_near (n v) (near v)),
      ),
    )

pub overflow_add-arguments : goal.overflow_add-arguments
overflow_add-arguments c = fits (longitude_total (goal.at.overflow_add-arguments c).After-floor_div) tt

pub overflow_add-result : goal.overflow_add-result
overflow_add-result c = fits (metres_total (goal.at.overflow_add-result c).After-floor_div-3) tt
