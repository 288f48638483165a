-- `earth::nutation::nutation_at` meets its contract.
use mathlib.Core.Path.{◌∙◌, ◌≡◌, subst⁻¹}
use Prim.Native.Nat.{◌^◌}
use lib.Dec.{lit<}
use lib.IntN.{pos, ℤ}
use Rattle.numbers.proofs.Machine.{Mirror, ◌⊗◌, asked, fits, floor_gave, kept, lit, told}
use Rattle.sum_rules.specs.Instant.{u}
use Rattle.sum_terms.specs.TermRange.{Summing, Turns}
use Rattle.sum_rules.specs.Nutation.{arguments, cosine_term, sine_term, Δε, Δψ}
use Rattle.sum_rules.specs.NutationTerms.{nutation_terms}
use Rattle.sum_rules.specs.Table.{total}
use Rattle.sum_terms.proofs.InstantLaws.{u_told}
use Rattle.earth.proofs.NutationLaws.{arguments_turn, cosine_summing, nutation_fits, sine_summing, u_small}
use Rattle.sum_terms.proofs.SumLoop.{all_small, no_more}
use Rattle.earth.proofs.nutation.nutation_at.Goals as goal
use Rattle.earth.proofs.nutation.nutation_at.Goals.{After-term_sums-sums, Start}

module _ (s : Start) where
  abbrev n : ℤ
  n = s.args.t.n

  sine_sums : Summing (sine_term (arguments n) (u n)) nutation_terms (2 ^ 57)
  sine_sums = sine_summing (arguments n) (u n) (u_small n s.requires.near) nutation_terms nutation_fits

  cosine_sums : Summing (cosine_term (arguments n) (u n)) nutation_terms (2 ^ 57)
  cosine_sums = cosine_summing (arguments n) (u n) (u_small n s.requires.near) nutation_terms nutation_fits

module _ (c : After-term_sums-sums) where
  abbrev begun : Start
  begun = (goal.at.After-term_sums-sums c).Start

  sine_is : c.term_sums-sums.result.sine ≡ total (sine_term (arguments (n begun)) (u (n begun))) nutation_terms
  unfolding nutation_terms
  sine_is =
      c.term_sums-sums.ensures.0 ∙ (λ i. total (sine_term (c.arguments.ensures i) ((u_told begun.requires).same i)) nutation_terms)

  cosine_is : c.term_sums-sums.result.cosine ≡ total (cosine_term (arguments (n begun)) (u (n begun))) nutation_terms
  unfolding nutation_terms
  cosine_is =
      c.term_sums-sums.ensures.1 ∙ (λ i. total (cosine_term (c.arguments.ensures i) ((u_told begun.requires).same i)) nutation_terms)

  abbrev sine_scaled : Mirror
  sine_scaled = lit (pos 25) ⊗ told sine_is (all_small (sine_sums begun)) tt

  abbrev cosine_scaled : Mirror
  cosine_scaled = lit (pos 25) ⊗ told cosine_is (all_small (cosine_sums begun)) tt

pub term_sums-sums-requires : goal.term_sums-sums-requires
unfolding nutation_terms
term_sums-sums-requires c =
    let s = (goal.at.term_sums-sums-requires c).Start in
    let h = asked (u_told s.requires) tt in (
      lit< tt,
      (
        λ i k. (subst⁻¹ Turns c.arguments.ensures (arguments_turn (n s)), (h, nutation_fits.each i k)),
        (
          no_more (sine_summing c.arguments.result _ h nutation_terms nutation_fits) tt,
          no_more (cosine_summing c.arguments.result _ h nutation_terms nutation_fits) tt,
        ),
      ),
    )

pub overflow_mul-sums-2 : goal.overflow_mul-sums-2
overflow_mul-sums-2 c = fits (cosine_scaled (goal.at.overflow_mul-sums-2 c).After-term_sums-sums) tt

pub returns : goal.returns
unfolding Δψ Δε
returns c =
    let sums = (goal.at.returns c).After-term_sums-sums in (
      (floor_gave (kept (sine_scaled sums) tt) 90_000_000_000 c.floor_div.type_inv c.floor_div.ensures).same,
      (floor_gave (kept (cosine_scaled sums) tt) 90_000_000_000 c.floor_div-2.type_inv c.floor_div-2.ensures).same,
    )

pub overflow_mul-sums : goal.overflow_mul-sums
overflow_mul-sums c = fits (sine_scaled (goal.at.overflow_mul-sums c).After-term_sums-sums) tt
