-- `eclipse::separation::Direction::separation` meets its contract.
use mathlib.Core.Path.{◌∙◌, ◌≡◌, ap, ap₂, subst⁻¹}
use Prim.Native.Nat.{◌≤◌, ℕ}
use lib.IntN.{pos}
use Rattle.numbers.proofs.Machine.{from_nat, nat_fits, passed}
use Rattle.overlap.specs.ShortArctangent.{short_arctangent}
use Rattle.sky_vectors.specs.SkyRange.{SmallVector}
use Rattle.eclipse.specs.EclipseRange.{cross_limit}
use Rattle.eclipse.specs.Separation.{cross, length, separation}
use Rattle.eclipse.proofs.CrossLaws.{cross_small, length_most}
use Rattle.eclipse.proofs.separation.Direction.separation.Goals as goal
use Rattle.eclipse.proofs.separation.Direction.separation.Goals.{After-length-across, Start}

module _ (c : After-length-across) where
  abbrev s : Start
  s = (goal.at.After-length-across c).Start

  across_is : c.length-across.result ≡ length (cross s.args.self.vector s.args.other.vector)
  across_is = c.length-across.ensures ∙ ap length c.cross.ensures

  across_most : c.length-across.result ≤ 4_294_967_295
  across_most = subst⁻¹ (λ (n : ℕ). n ≤ 4_294_967_295) across_is (length_most (cross_small s.args.self.short s.args.other.short))

pub length-across-requires : goal.length-across-requires
length-across-requires c = subst⁻¹ (SmallVector cross_limit) c.cross.ensures (cross_small c.args.self.short c.args.other.short)

pub overflow_cast-across : goal.overflow_cast-across
overflow_cast-across c = nat_fits (across_most (goal.at.overflow_cast-across c).After-length-across) tt

pub returns : goal.returns
unfolding separation
returns c =
    let k = (goal.at.returns c).After-length-across in
    c.short_arctangent.ensures
    ∙ ap₂ short_arctangent ((from_nat (across_most k) tt).same ∙ ap pos (across_is k)) (passed c.dot-along.type_inv c.dot-along.ensures)
