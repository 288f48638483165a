-- `sun_sums::sun::series` meets its contract. The invariant: v is of the groups that the loop has taken from the end of those above.
use mathlib.Core.Path.{◌∙◌, ap, subst}
use Prim.Native.Nat.{◌≤◌, ℕ}
use native.Mathlib.Nat.{zero-lt-suc}
use lib.IntN.{◌*ℤ◌, ◌+ℤ◌, nat_abs}
use mir.Syntax.{w64}
use mir.Val.{to_z}
use Rattle.arithmetic.specs.Floor.{⌊◌÷◌⌋}
use Rattle.numbers.proofs.Machine.{asked, passed}
use Rattle.sum_rules.specs.Instant.{millennium}
use Rattle.sum_rules.specs.Sun.{group, series}
use Rattle.sum_terms.proofs.InstantLaws.{instant_told}
use Rattle.sun_sums.specs.SunRange.{top}
use Rattle.sun_sums.proofs.SunLaws.{upto_all, upto_begun, upto_fits, upto_most, upto_next, upto_small}
use Rattle.sun_sums.proofs.sun.series.Goals as goal

pub loop-rows-init : goal.loop-rows-init
loop-rows-init c = (tt, (tt, upto_begun (ap (λ r. r.iter.rest.now) c.into_iter-rows-iterator.ensures.into_iter_gives ∙ ap (λ r. r.rest.now) c.rev-rows-items.ensures.source ∙ c.iter.ensures.rest)))

pub onto-v-requires : goal.onto-v-requires
onto-v-requires c =
    let so = c.loop-rows.invariant.1.1 in
    let e = c.in-Some.ensures.steps in
    (c.requires.0, (upto_fits c.requires.1 c.requires.0.near so _ _ e, upto_small c.requires.1 c.requires.0.near so _ _ e))

pub loop-rows-preserved : goal.loop-rows-preserved
loop-rows-preserved c = (tt, (tt, upto_next _ _ c.loop-rows.invariant.1.1 c.in-Some.ensures.steps (passed c.onto-v.type_inv c.onto-v.ensures)))

pub into_first-requires : goal.into_first-requires
into_first-requires c =
    let most = upto_most c.requires.1 c.requires.0.near c.loop-rows.invariant.1.1 in
    (asked (instant_told c.requires.0) tt, (c.requires.1.each 0 (zero-lt-suc _), subst (λ (k : ℕ). nat_abs (to_z w64 c.loop-rows.v-bits) ≤ top k) c.in-None.ensures.steps.0 most))

pub returns : goal.returns
unfolding series
returns c =
    let n = (instant_told c.requires.0).same in
    let v = upto_all c.loop-rows.invariant.1.1 c.in-None.ensures.steps.0 in
    passed c.into_first.type_inv (c.into_first.ensures ∙ (λ i. group (n i) c.args.first.now +ℤ ⌊ v i *ℤ n i ÷ millennium ⌋))
